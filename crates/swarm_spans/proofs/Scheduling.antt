-- Where a task is to go depends on the nodes, their sessions, the clock and the placed tasks alone.
use Rattle.std.proofs.Common.{◌≡◌, ℕ, Bool, true, false, cond, List, [], ◌∷◌, Option, Some, None, refl, sym, ap, ◌∙◌, filter, map}
use Rattle.std.specs.Cmp.Lexicographic.{slice_cmp}
use Rattle.std.specs.List.{list_any}
use Rattle.std.specs.Option.{option_eq}
use Rattle.std.specs.Ordering.{is_lt, nat_cmp, ordering_then}
use Rattle.std.specs.Prelude.{◌==◌, ◌&&◌, ◌||◌, ◌+◌, ◌++◌, count_by, if◌then◌else◌, is_none, is_some, nat_le, nat_lt, not, sum_by}
use Rattle.std.specs.declared.cmp.Ordering.{Ordering}
use Rattle.swarm_objects.proofs.Filters.{filter_again, filter_same}
use Rattle.swarm_objects.proofs.PlaceLemmas.{count_again}
use Rattle.swarm_objects.proofs.RowLemmas.{sum_by-same}
use Rattle.swarm_objects.proofs.Tests.{both_are}
use Rattle.swarm_objects.specs.Loops.Allocator.{same_note}
use Rattle.swarm_objects.specs.Loops.Scheduler.{is_to_drop, is_to_place, place_duty, placing, schedule}
use Rattle.swarm_objects.specs.Loops.Words.{when}
use Rattle.swarm_objects.specs.Nodes.BestNode.{agrees, best_node, branch_load, load, node_cmp, spread_cmp}
use Rattle.swarm_objects.specs.Nodes.Filters.{admits, admitting_nodes, filter_numbers, has_free_host_ports, has_resources, here, is_below_most, is_refused_by, is_supported, passes, refusal_counts, refused_by, takes_tasks, tested_nodes}
use Rattle.swarm_objects.specs.Nodes.Holdings.{is_host_port_used, is_placed_on, task_cpu, task_mem, tasks_placed_on}
use Rattle.swarm_objects.specs.Nodes.Words.{meets_all}
use Rattle.swarm_objects.specs.Nodes.Constraints.{key_value}
use Rattle.swarm_objects.specs.Rows.{first_of, keep_least, least_by}
use Rattle.swarm_objects.specs.Same.{same_number}
use Rattle.swarm_objects.specs.Tasks.Words.{is_live, is_of, is_on, is_placed}
use Rattle.swarm_objects.specs.World.{empty_tables, Tables}
use Rattle.swarm_objects.specs.declared.duties.Duty.TheVariants as duty
use Rattle.swarm_objects.specs.declared.nodes.Node.{Node}
use Rattle.swarm_objects.specs.declared.tasks.Note.TheVariants as note
use Rattle.swarm_objects.specs.declared.sessions.NodeSession.{NodeSession}
use Rattle.swarm_objects.specs.declared.tasks.Task.{Task}
use Rattle.swarm_objects.specs.declared.templates.Key.{Key}
use Rattle.swarm_spans.proofs.Waiting.{find-same}
use Rattle.swarm_spans.specs.Lines.{ScheduledLaw}

-- what the scheduler reads of tables
abbrev bare : ℕ → List Node → List NodeSession → List Task → Tables
bare clock nodes sessions tasks =
    record empty_tables { clock = clock; nodes = nodes; sessions = sessions; tasks = tasks }

abbrev bare-of : Tables → Tables
bare-of t = bare t.clock t.nodes t.sessions (filter is_placed t.tasks)

-- What tasks hold of a node.

on-placed : (t : Tables) (n : ℕ) → tasks_placed_on (bare-of t) n ≡ tasks_placed_on t n
on-placed t n = filter_again (is_placed_on n) is_placed t.tasks (λ x e. (both_are (is_placed x) (is_on n x) e).0)

here-same : (t : Tables) (n s : ℕ) → here (bare-of t) n s ≡ here t n s
here-same t n s =
    count_again (λ x. is_of s x && is_live x && is_placed_on n x) is_placed t.tasks
    (λ x e. (both_are (is_placed x) (is_on n x) (both_are (is_of s x && is_live x) (is_placed_on n x) e).1).0)

load-same : (t : Tables) (n : ℕ) → load (bare-of t) n ≡ load t n
load-same t n =
    count_again (λ x. is_live x && is_placed_on n x) is_placed t.tasks
    (λ x e. (both_are (is_placed x) (is_on n x) (both_are (is_live x) (is_placed_on n x) e).1).0)

-- The filters.

passes-same : (t : Tables) (x : Task) (n : Node) (k : ℕ) → passes (bare-of t) x n k ≡ passes t x n k
passes-same t x n k =
    ap (λ ts. if k == 0 then takes_tasks t n
    else if k == 1
    then nat_le (sum_by task_cpu ts + x.template.cpu) n.cpu && nat_le (sum_by task_mem ts + x.template.mem) n.mem
    else if k == 2 then meets_all x.template.constraints n
    else if k == 3 then is_supported x.template.platforms n
    else if k == 4 then not (list_any (is_host_port_used ts) x.template.host_ports)
    else is_below_most (bare-of t) x n) (on-placed t n.id)
    ∙ ap (λ h. if k == 0 then takes_tasks t n
    else if k == 1 then has_resources t x n
    else if k == 2 then meets_all x.template.constraints n
    else if k == 3 then is_supported x.template.platforms n
    else if k == 4 then has_free_host_ports t x n
    else x.template.max_replicas == 0 || nat_lt h x.template.max_replicas) (here-same t n.id x.service)

refused-same : (t : Tables) (x : Task) (n : Node) → refused_by (bare-of t) x n ≡ refused_by t x n
refused-same t x n =
    find-same (λ k. not (passes (bare-of t) x n k)) (λ k. not (passes t x n k)) filter_numbers
    (λ k. ap not (passes-same t x n k))

map-each : {X Y : Type 0} (f g : X → Y) (xs : List X) → ((x : X) → f x ≡ g x) → map f xs ≡ map g xs
map-each f g [] same = refl
map-each f g (x ∷ xs) same = ap (λ y. y ∷ map f xs) (same x) ∙ ap (λ ys. g x ∷ ys) (map-each f g xs same)

counts-same : (t : Tables) (x : Task) → refusal_counts (bare-of t) x ≡ refusal_counts t x
counts-same t x =
    map-each (λ k. count_by (is_refused_by (bare-of t) x k) (tested_nodes t x))
    (λ k. count_by (is_refused_by t x k) (tested_nodes t x)) filter_numbers
    (λ k. sum_by-same (λ n. cond (is_refused_by (bare-of t) x k n) 1 0) (λ n. cond (is_refused_by t x k n) 1 0)
    (tested_nodes t x) (λ n. ap (λ o. cond (is-number k o) 1 0) (refused-same t x n)))
  where
    is-number : ℕ → Option ℕ → Bool
    is-number k o = option_eq same_number o (Some k)

admitting-same : (t : Tables) (x : Task) → admitting_nodes (bare-of t) x ≡ admitting_nodes t x
admitting-same t x =
    filter_same (admits (bare-of t) x) (admits t x) (tested_nodes t x) (λ n. ap is_none (refused-same t x n))

-- The order of nodes.

branch-same : (t : Tables) (s : ℕ) (keys : List Key) (n : Node) → branch_load (bare-of t) s keys n ≡ branch_load t s keys n
branch-same t s keys n =
    sum_by-same (λ m. here (bare-of t) m.id s) (λ m. here t m.id s) (filter (agrees keys n) t.nodes)
    (λ m. here-same t m.id s)

spread-same : (t : Tables) (s : ℕ) (earlier keys : List Key) (a b : Node)
    → spread_cmp (bare-of t) s earlier keys a b ≡ spread_cmp t s earlier keys a b
spread-same t s earlier [] a b = refl
spread-same t s earlier (k ∷ ks) a b =
    ap (λ l. ordering_then (nat_cmp l (branch_load (bare-of t) s (earlier ++ k ∷ []) b))
    (ordering_then (slice_cmp nat_cmp (key_value a k) (key_value b k))
    (spread_cmp (bare-of t) s (earlier ++ k ∷ []) ks a b))) (branch-same t s (earlier ++ k ∷ []) a)
    ∙ ap (λ l. ordering_then (nat_cmp (branch_load t s (earlier ++ k ∷ []) a) l)
    (ordering_then (slice_cmp nat_cmp (key_value a k) (key_value b k))
    (spread_cmp (bare-of t) s (earlier ++ k ∷ []) ks a b))) (branch-same t s (earlier ++ k ∷ []) b)
    ∙ ap (λ r. ordering_then
    (nat_cmp (branch_load t s (earlier ++ k ∷ []) a) (branch_load t s (earlier ++ k ∷ []) b))
    (ordering_then (slice_cmp nat_cmp (key_value a k) (key_value b k)) r)) (spread-same t s (earlier ++ k ∷ []) ks a b)

cmp-same : (t : Tables) (x : Task) (a b : Node) → node_cmp (bare-of t) x a b ≡ node_cmp t x a b
cmp-same t x a b =
    ap (λ r. ordering_then r
    (ordering_then (nat_cmp (here (bare-of t) a.id x.service) (here (bare-of t) b.id x.service))
    (ordering_then (nat_cmp (load (bare-of t) a.id) (load (bare-of t) b.id)) (nat_cmp a.id b.id))))
    (spread-same t x.service [] x.template.spread a b)
    ∙ ap (λ h. ordering_then (spread_cmp t x.service [] x.template.spread a b)
    (ordering_then (nat_cmp h (here (bare-of t) b.id x.service))
    (ordering_then (nat_cmp (load (bare-of t) a.id) (load (bare-of t) b.id)) (nat_cmp a.id b.id))))
    (here-same t a.id x.service)
    ∙ ap (λ h. ordering_then (spread_cmp t x.service [] x.template.spread a b)
    (ordering_then (nat_cmp (here t a.id x.service) h)
    (ordering_then (nat_cmp (load (bare-of t) a.id) (load (bare-of t) b.id)) (nat_cmp a.id b.id))))
    (here-same t b.id x.service)
    ∙ ap (λ l. ordering_then (spread_cmp t x.service [] x.template.spread a b)
    (ordering_then (nat_cmp (here t a.id x.service) (here t b.id x.service))
    (ordering_then (nat_cmp l (load (bare-of t) b.id)) (nat_cmp a.id b.id)))) (load-same t a.id)
    ∙ ap (λ l. ordering_then (spread_cmp t x.service [] x.template.spread a b)
    (ordering_then (nat_cmp (here t a.id x.service) (here t b.id x.service))
    (ordering_then (nat_cmp (load t a.id) l) (nat_cmp a.id b.id)))) (load-same t b.id)

keep-same : {X : Type 0} (f g : X → X → Ordering) → ((a b : X) → f a b ≡ g a b) → (best : Option X) (x : X)
    → keep_least f best x ≡ keep_least g best x
keep-same f g same None x = refl
keep-same f g same (Some best) x = ap (λ o. if is_lt o then Some x else Some best) (same x best)

least-same : {X : Type 0} (f g : X → X → Ordering) → ((a b : X) → f a b ≡ g a b) → (best : Option X) (xs : List X)
    → least_by f best xs ≡ least_by g best xs
least-same f g same best [] = refl
least-same f g same best (x ∷ xs) =
    ap (λ k. least_by f k xs) (keep-same f g same best x) ∙ least-same f g same (keep_least g best x) xs

best-same : (t : Tables) (x : Task) → best_node (bare-of t) x ≡ best_node t x
best-same t x =
    least-same (node_cmp (bare-of t) x) (node_cmp t x) (cmp-same t x) None (admitting_nodes (bare-of t) x)
    ∙ ap (least_by (node_cmp t x) None) (admitting-same t x)

-- The duty.

schedule-bare : (t : Tables) (x : Task) → schedule (bare-of t) x ≡ schedule t x
schedule-bare t x = ap (λ ds. when (is_to_drop x) (duty.Drop x.id) ++ ds) (place (is_to_place x))
  where
    placing-same : (o : Option Node) → placing (bare-of t) x o ≡ placing t x o
    placing-same (Some n) = refl
    placing-same None =
        ap (λ counts. if same_note (note.Filters counts) x.note then [] else duty.Explain x.id ∷ []) (counts-same t x)

    place : (b : Bool) → place_duty (bare-of t) x b ≡ place_duty t x b
    place true = placing-same (best_node (bare-of t) x) ∙ ap (placing t x) (best-same t x)
    place false = refl

pub scheduled_as_before : ScheduledLaw
scheduled_as_before t u clock nodes sessions tasks x = record {
  same =
      let all : bare-of u ≡ bare-of t =
      ap (λ c. bare c u.nodes u.sessions (filter is_placed u.tasks)) clock
      ∙ ap (λ ns. bare t.clock ns u.sessions (filter is_placed u.tasks)) nodes
      ∙ ap (λ ss. bare t.clock t.nodes ss (filter is_placed u.tasks)) sessions
      ∙ ap (bare t.clock t.nodes t.sessions) tasks in
      ap (λ ds. is_some (first_of ds)) (sym (schedule-bare u x) ∙ ap (λ v. schedule v x) all ∙ schedule-bare t x);
}
