-- Counting a service's tasks one after the other.
use Rattle.std.proofs.Common.{◌≡◌, ◌∙◌, ◌+◌, Bool, List, None, Option, Some, [], ◌∷◌, ap, arith, cond, eqb, false, length, refl, replicate, suc, true, zero, ℕ}
use Rattle.std.proofs.lemmas.Bool.Decides.{nat_tests}
use Rattle.std.proofs.lemmas.List.Sums.{sum_by-cons}
use Rattle.std.specs.Option.{option_eq}
use Rattle.std.specs.Prelude.{count_by, filter, map, sum_by, ◌&&◌, ◌==◌}
use Rattle.swarm_objects.specs.Nodes.Holdings.{is_placed_on}
use Rattle.swarm_objects.specs.Rows.{itself, node_id, on_row}
use Rattle.swarm_objects.specs.Same.{same_number}
use Rattle.swarm_objects.specs.Tasks.Words.{is_live, is_of, is_on, is_placed}
use Rattle.swarm_objects.specs.World.{Tables}
use Rattle.swarm_objects.specs.declared.nodes.Node.{Node}
use Rattle.swarm_objects.specs.declared.tasks.Task.{Task}
use Rattle.swarm_objects.specs.declared.templates.Key.{Key}
use Rattle.swarm_spread.specs.Counts.{Counts, changed_at, counts_of, empty_counts, here_on, is_counted, one_more, path_of, with_change, with_task, with_tasks}

-- the task is counted on this node
abbrev counts_on : ℕ → Task → Bool
counts_on id x = is_counted x && is_on id x

pub sum_of_none : (n : ℕ) → sum_by itself (replicate n 0) ≡ 0
sum_of_none zero = refl
sum_of_none (suc n) = omega (arith, sum_by-cons itself 0 (replicate n 0), sum_of_none n)

same_map : {X Y : Type 0} (f g : X → Y) (xs : List X) → ((x : X) → f x ≡ g x) → map f xs ≡ map g xs
same_map f g [] each = refl
same_map f g (x ∷ xs) each = rw (each x, same_map f g xs each) refl

changed_map : (node : ℕ) (f : Node → ℕ) (ns : List Node) →
    changed_at one_more node (map node_id ns) (map f ns) ≡ map (λ n. cond (n.id == node) (f n + 1) (f n)) ns
changed_map node f [] = refl
changed_map node f (n ∷ ns) = ap (λ (hs : List ℕ). cond (n.id == node) (f n + 1) (f n) ∷ hs) (changed_map node f ns)

-- so many tasks on each of these nodes
abbrev with_here : ℕ → List Key → List (List (List ℕ)) → List Node → List ℕ → Counts
with_here service keys paths ns hs =
    record { service = service; keys = keys; nodes = map node_id ns; paths = paths; here = hs }

-- the counts of these nodes
abbrev of_nodes : ℕ → List Key → List (List (List ℕ)) → List Node → (Node → ℕ) → Counts
of_nodes service keys paths ns f = with_here service keys paths ns (map f ns)

same_counts : (service : ℕ) (keys : List Key) (paths : List (List (List ℕ))) (ns : List Node) (f g : Node → ℕ) →
    ((n : Node) → f n ≡ g n) → of_nodes service keys paths ns f ≡ of_nodes service keys paths ns g
same_counts service keys paths ns f g each = ap (with_here service keys paths ns) (same_map f g ns each)

one_more_where : (f k id : ℕ) → cond (id == k) (f + 1) f ≡ f + cond (k == id) 1 0
one_more_where f k id = go (eqb id k) refl (eqb k id) refl
  where
    go : (a : Bool) → eqb id k ≡ a → (b : Bool) → eqb k id ≡ b → cond a (f + 1) f ≡ f + cond b 1 0
    go true e true g = refl
    go true e false g = absurd (grind (arith, nat_tests))
    go false e true g = absurd (grind (arith, nat_tests))
    go false e false g = omega arith

-- one task more
counted_one : (service : ℕ) (keys : List Key) (paths : List (List (List ℕ))) (ns : List Node) (f : Node → ℕ) (x : Task) →
    with_task (of_nodes service keys paths ns f) x ≡ of_nodes service keys paths ns (λ n. f n + cond (counts_on n.id x) 1 0)
counted_one service keys paths ns f x = go (is_counted x) x.node
  where
    go : (b : Bool) (o : Option ℕ) →
        on_row (of_nodes service keys paths ns f) (with_change one_more (of_nodes service keys paths ns f)) (cond b o None)
        ≡ of_nodes service keys paths ns (λ n. f n + cond (b && option_eq same_number o (Some n.id)) 1 0)
    go false o = same_counts service keys paths ns f (λ n. f n + 0) (λ n. omega arith)
    go true None = same_counts service keys paths ns f (λ n. f n + 0) (λ n. omega arith)
    go true (Some k) =
        ap (with_here service keys paths ns)
        (changed_map k f ns ∙ same_map (λ n. cond (n.id == k) (f n + 1) (f n)) (λ n. f n + cond (k == n.id) 1 0) ns
        (λ n. one_more_where (f n) k n.id))

count_cons : (p : Task → Bool) (x : Task) (xs : List Task) → count_by p (x ∷ xs) ≡ cond (p x) 1 0 + count_by p xs
count_cons p x xs = sum_by-cons (λ y. cond (p y) 1 0) x xs

counted : (service : ℕ) (keys : List Key) (paths : List (List (List ℕ))) (ns : List Node) (f : Node → ℕ) (xs : List Task) →
    with_tasks (of_nodes service keys paths ns f) xs ≡ of_nodes service keys paths ns (λ n. f n + count_by (counts_on n.id) xs)
counted service keys paths ns f [] = same_counts service keys paths ns f (λ n. f n + 0) (λ n. omega arith)
counted service keys paths ns f (x ∷ xs) =
    ap (λ (c : Counts). with_tasks c xs) (counted_one service keys paths ns f x)
    ∙ (counted service keys paths ns (λ n. f n + cond (counts_on n.id x) 1 0) xs
    ∙ same_counts service keys paths ns (λ n. f n + cond (counts_on n.id x) 1 0 + count_by (counts_on n.id) xs)
    (λ n. f n + count_by (counts_on n.id) (x ∷ xs)) (λ n. omega (arith, count_cons (counts_on n.id) x xs)))

count_filter : (p q r : Task → Bool) (xs : List Task) → ((x : Task) → (q x && p x) ≡ r x) →
    count_by p (filter q xs) ≡ count_by r xs
count_filter p q r [] each = refl
count_filter p q r (x ∷ xs) each = go (q x) (each x) (count_filter p q r xs each)
  where
    go : (b : Bool) → (b && p x) ≡ r x → count_by p (filter q xs) ≡ count_by r xs →
        count_by p (cond b (x ∷ filter q xs) (filter q xs)) ≡ count_by r (x ∷ xs)
    go true e rest =
        omega (arith, count_cons p x (filter q xs), count_cons r x xs, rest, ap {B = ℕ} (λ (c : Bool). cond c 1 0) e)
    go false e rest = omega (arith, count_cons r x xs, rest, ap {B = ℕ} (λ (c : Bool). cond c 1 0) e)

regrouped : (a b c d : Bool) → (a && ((b && c) && d)) ≡ ((a && b) && (c && d))
regrouped true true c d = refl
regrouped true false c d = refl
regrouped false b c d = refl

here_is : (t : Tables) (service : ℕ) (n : Node) →
    count_by (counts_on n.id) (filter (is_of service) t.tasks) ≡ here_on t service n
here_is t service n =
    count_filter (counts_on n.id) (is_of service) (λ x. is_of service x && is_live x && is_placed_on n.id x) t.tasks
    (λ x. regrouped (is_of service x) (is_live x) (is_placed x) (is_on n.id x))

zeros_map : (ns : List Node) → replicate {A = ℕ} (length ns) 0 ≡ map (λ n. 0) ns
zeros_map [] = refl
zeros_map (n ∷ ns) = ap (λ (hs : List ℕ). 0 ∷ hs) (zeros_map ns)

-- counting all tasks of the service counts what a scan counts
pub counted_all : (t : Tables) (service : ℕ) (keys : List Key) (c : Counts) (xs : List Task) →
    c ≡ empty_counts t service keys → xs ≡ filter (is_of service) t.tasks → with_tasks c xs ≡ counts_of t service keys
counted_all t service keys c xs empty all =
    let paths : List (List (List ℕ)) = map (path_of keys) t.nodes in
    let begin : c ≡ of_nodes service keys paths t.nodes (λ n. 0) =
    empty ∙ ap (with_here service keys paths t.nodes) (zeros_map t.nodes) in
    ap (λ (d : Counts). with_tasks d xs) begin
    ∙ (ap (with_tasks (of_nodes service keys paths t.nodes (λ n. 0))) all
    ∙ (counted service keys paths t.nodes (λ n. 0) (filter (is_of service) t.tasks)
    ∙ same_counts service keys paths t.nodes (λ n. 0 + count_by (counts_on n.id) (filter (is_of service) t.tasks))
    (here_on t service)
    (λ n. omega (arith, here_is t service n))))

pub none_counted : (t : Tables) (service : ℕ) (keys : List Key) (c : Counts) →
    c ≡ empty_counts t service keys → sum_by itself c.here ≡ 0
none_counted t service keys c empty = ap (λ (d : Counts). sum_by itself d.here) empty ∙ sum_of_none (length t.nodes)
