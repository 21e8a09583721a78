-- Where tasks change but for their notes nothing, each task has the same nodes that admit it and the same things that
-- it lacks.
use Rattle.std.proofs.Common.{Bool, List, None, Option, Some, [], ap, cond, eqb, false, map, refl, true, ℕ, ◌+◌, ◌++◌, ◌∙◌, ◌∷◌, ◌≡◌}
use Rattle.std.specs.Cmp.Lexicographic.{slice_cmp}
use Rattle.std.specs.List.{list_any}
use Rattle.std.specs.Option.{option_eq}
use Rattle.std.specs.Ordering.{is_lt, nat_cmp, ordering_then}
use Rattle.std.specs.Prelude.{count_by, filter, find, flat_map, if◌then◌else◌, is_none, is_some, nat_le, nat_lt, not, sum_by, ◌&&◌, ◌==◌, ◌||◌}
use Rattle.std.specs.declared.cmp.Ordering.{Ordering}
use Rattle.swarm_settle.proofs.Bound.Sums.{sum-map, sum-same}
use Rattle.swarm_settle.specs.Bound.Measure.{is_unplaced, wants_reason}
use Rattle.swarm_objects.proofs.Filters.{filter_map, filter_same}
use Rattle.swarm_objects.proofs.RowLemmas.{sum_by-map_same}
use Rattle.swarm_objects.proofs.Tests.{any_map, any_same}
use Rattle.swarm_objects.specs.Changes.{change_task, noted}
use Rattle.swarm_objects.specs.Loops.Allocator.{exhausted, exhausted_for, exhausted_network, exhausted_port, first_note, has_free_address, is_fresh, same_note, wants_note}
use Rattle.swarm_objects.specs.Loops.Scheduler.{is_to_place}
use Rattle.swarm_objects.specs.Nodes.BestNode.{agrees, best_node, branch_load, load, node_cmp, spread_cmp}
use Rattle.swarm_objects.specs.Nodes.Constraints.{key_value}
use Rattle.swarm_objects.specs.Nodes.Filters.{admits, admitting_nodes, filter_numbers, has_free_host_ports, has_resources, here, is_below_most, is_refused_by, is_supported, passes, refusal_counts, refused_by, takes_tasks, tested_nodes}
use Rattle.swarm_objects.specs.Nodes.Holdings.{is_host_port_used, is_placed_on, reserved_cpu, reserved_mem, task_cpu, task_mem, tasks_placed_on}
use Rattle.swarm_objects.specs.Nodes.Words.{meets_all}
use Rattle.swarm_objects.specs.Rules.Services.{is_host_clash}
use Rattle.swarm_objects.specs.Rows.{is_some_and, keep_least, least_by, network_id, on_row, row_at, service_id, task_id}
use Rattle.swarm_objects.specs.Same.{same_number}
use Rattle.swarm_objects.specs.Tasks.Addresses.{addresses_in, free_address, free_in}
use Rattle.swarm_objects.specs.Tasks.Words.{is_live, is_not_over, is_of}
use Rattle.swarm_objects.specs.World.{Tables}
use Rattle.swarm_objects.specs.declared.nodes.Node.{Node}
use Rattle.swarm_objects.specs.declared.services.Service.{Service}
use Rattle.swarm_objects.specs.declared.tasks.Note.TheVariants as note
use Rattle.swarm_objects.specs.declared.tasks.Note.{Note}
use Rattle.swarm_objects.specs.declared.tasks.Task.{Task}
use Rattle.swarm_objects.specs.declared.templates.Key.{Key}
use Rattle.swarm_objects.specs.declared.templates.Port.{Port}
use Rattle.swarm_settle.proofs.ShapeDuties.{map-same}

-- one task gets a note
abbrev pub renoted : ℕ → ℕ → (Task → Note) → Task → Task
renoted id version text x = cond (eqb (task_id x) id) (noted version (text x) x) x

abbrev pub with_note : ℕ → ℕ → (Task → Note) → Tables → Tables
with_note id version text t = change_task id (λ x. noted version (text x) x) t

pub kept : {A : Type 0} (id version : ℕ) (text : Task → Note) (p : Task → A) →
    ((x : Task) → p (noted version (text x) x) ≡ p x) → (x : Task) → p (renoted id version text x) ≡ p x
kept {A = A} id version text p same x = go (eqb (task_id x) id)
  where
    go : (b : Bool) → p (cond b (noted version (text x) x) x) ≡ p x
    go true = same x
    go false = refl

-- Lists.

find-same : {X : Type 0} (p q : X → Bool) (xs : List X) → ((x : X) → p x ≡ q x) → find p xs ≡ find q xs
find-same p q [] same = refl
find-same p q (x ∷ xs) same =
    ap (λ (b : Bool). cond b (Some x) (find p xs)) (same x)
    ∙ ap (λ (o : Option _). cond (q x) (Some x) o) (find-same p q xs same)

flat-mapped : {X Y : Type 0} (f : X → List Y) (g : X → X) (xs : List X) → ((x : X) → f (g x) ≡ f x) →
    flat_map f (map g xs) ≡ flat_map f xs
flat-mapped f g [] same = refl
flat-mapped f g (x ∷ xs) same =
    ap (λ ys. ys ++ flat_map f (map g xs)) (same x) ∙ ap (λ ys. f x ++ ys) (flat-mapped f g xs same)

count-same : {X : Type 0} (p q : X → Bool) (xs : List X) → ((x : X) → p x ≡ q x) → count_by p xs ≡ count_by q xs
count-same p q xs same =
    sum-same (λ x. cond {A = ℕ} (p x) 1 0) (λ x. cond {A = ℕ} (q x) 1 0) xs
    (λ x h. ap (λ (b : Bool). cond {A = ℕ} b 1 0) (same x))

least-same : {X : Type 0} (c d : X → X → Ordering) (o : Option X) (xs : List X) → ((a b : X) → c a b ≡ d a b) →
    least_by c o xs ≡ least_by d o xs
least-same c d o [] same = refl
least-same {X = X} c d o (x ∷ xs) same =
    ap (λ (p : Option X). least_by c p xs) (keeps o) ∙ least-same c d (keep_least d o x) xs same
  where
    keeps : (p : Option X) → keep_least c p x ≡ keep_least d p x
    keeps None = refl
    keeps (Some best) = ap (λ (r : Ordering). if is_lt r then Some x else Some best) (same x best)

-- What tasks hold of nodes.

counts : (id version : ℕ) (text : Task → Note) (p : Task → Bool) (xs : List Task) →
    ((x : Task) → p (noted version (text x) x) ≡ p x) → count_by p (map (renoted id version text) xs) ≡ count_by p xs
counts id version text p xs same =
    sum-map (λ x. cond {A = ℕ} (p x) 1 0) (renoted id version text) xs
    ∙ sum-same (λ x. cond {A = ℕ} (p (renoted id version text x)) 1 0) (λ x. cond {A = ℕ} (p x) 1 0) xs
    (λ x h. ap (λ (b : Bool). cond {A = ℕ} b 1 0) (kept id version text p same x))

here-same : (id version : ℕ) (text : Task → Note) (t : Tables) (node service : ℕ) →
    here (with_note id version text t) node service ≡ here t node service
here-same id version text t node service =
    counts id version text (λ x. is_of service x && is_live x && is_placed_on node x) t.tasks (λ x. refl)

load-same : (id version : ℕ) (text : Task → Note) (t : Tables) (node : ℕ) →
    load (with_note id version text t) node ≡ load t node
load-same id version text t node =
    counts id version text (λ x. is_live x && is_placed_on node x) t.tasks (λ x. refl)

placed-same : (id version : ℕ) (text : Task → Note) (t : Tables) (node : ℕ) →
    tasks_placed_on (with_note id version text t) node ≡ map (renoted id version text) (tasks_placed_on t node)
placed-same id version text t node =
    filter_map (is_placed_on node) (renoted id version text) t.tasks
    (kept id version text (is_placed_on node) (λ x. refl))

cpu-same : (id version : ℕ) (text : Task → Note) (t : Tables) (node : ℕ) →
    reserved_cpu (with_note id version text t) node ≡ reserved_cpu t node
cpu-same id version text t node =
    ap (λ (ys : List Task). sum_by task_cpu ys) (placed-same id version text t node)
    ∙ sum_by-map_same task_cpu (renoted id version text) (tasks_placed_on t node)
    (λ x h. kept id version text task_cpu (λ y. refl) x)

mem-same : (id version : ℕ) (text : Task → Note) (t : Tables) (node : ℕ) →
    reserved_mem (with_note id version text t) node ≡ reserved_mem t node
mem-same id version text t node =
    ap (λ (ys : List Task). sum_by task_mem ys) (placed-same id version text t node)
    ∙ sum_by-map_same task_mem (renoted id version text) (tasks_placed_on t node)
    (λ x h. kept id version text task_mem (λ y. refl) x)

used-same : (id version : ℕ) (text : Task → Note) (t : Tables) (node : ℕ) (p : Port) →
    is_host_port_used (tasks_placed_on (with_note id version text t) node) p
    ≡ is_host_port_used (tasks_placed_on t node) p
used-same id version text t node p =
    ap (λ (ys : List Task). is_host_port_used ys p) (placed-same id version text t node)
    ∙ any_map (λ x. list_any (is_host_clash p) x.template.host_ports) (renoted id version text) (tasks_placed_on t node)
    ∙ any_same (λ x. list_any (is_host_clash p) (renoted id version text x).template.host_ports)
    (λ x. list_any (is_host_clash p) x.template.host_ports) (tasks_placed_on t node)
    (kept id version text (λ x. list_any (is_host_clash p) x.template.host_ports) (λ x. refl))

-- Nodes that admit the task.

resources-same : (id version : ℕ) (text : Task → Note) (t : Tables) (x : Task) (n : Node) →
    has_resources (with_note id version text t) x n ≡ has_resources t x n
resources-same id version text t x n =
    ap (λ (k : ℕ). nat_le (k + x.template.cpu) n.cpu
    && nat_le (reserved_mem (with_note id version text t) n.id + x.template.mem) n.mem)
    (cpu-same id version text t n.id)
    ∙ ap (λ (k : ℕ). nat_le (reserved_cpu t n.id + x.template.cpu) n.cpu && nat_le (k + x.template.mem) n.mem)
    (mem-same id version text t n.id)

free-same : (id version : ℕ) (text : Task → Note) (t : Tables) (x : Task) (n : Node) →
    has_free_host_ports (with_note id version text t) x n ≡ has_free_host_ports t x n
free-same id version text t x n =
    ap not
    (any_same (is_host_port_used (tasks_placed_on (with_note id version text t) n.id))
    (is_host_port_used (tasks_placed_on t n.id)) x.template.host_ports (used-same id version text t n.id))

most-same : (id version : ℕ) (text : Task → Note) (t : Tables) (x : Task) (n : Node) →
    is_below_most (with_note id version text t) x n ≡ is_below_most t x n
most-same id version text t x n =
    ap (λ (k : ℕ). x.template.max_replicas == 0 || nat_lt k x.template.max_replicas)
    (here-same id version text t n.id x.service)

-- the filters with these in the place of those that look at tasks
abbrev filtered : Tables → Task → Node → ℕ → Bool → Bool → Bool → Bool
filtered t x n k resources ports below =
    if k == 0 then takes_tasks t n
    else if k == 1 then resources
    else if k == 2 then meets_all x.template.constraints n
    else if k == 3 then is_supported x.template.platforms n
    else if k == 4 then ports
    else below

passes-same : (id version : ℕ) (text : Task → Note) (t : Tables) (x : Task) (n : Node) (k : ℕ) →
    passes (with_note id version text t) x n k ≡ passes t x n k
passes-same id version text t x n k =
    ap (λ (b : Bool). filtered t x n k b (has_free_host_ports (with_note id version text t) x n)
    (is_below_most (with_note id version text t) x n)) (resources-same id version text t x n)
    ∙ ap (λ (b : Bool). filtered t x n k (has_resources t x n) b (is_below_most (with_note id version text t) x n))
    (free-same id version text t x n)
    ∙ ap (λ (b : Bool). filtered t x n k (has_resources t x n) (has_free_host_ports t x n) b)
    (most-same id version text t x n)

refused-same : (id version : ℕ) (text : Task → Note) (t : Tables) (x : Task) (n : Node) →
    refused_by (with_note id version text t) x n ≡ refused_by t x n
refused-same id version text t x n =
    find-same (λ k. not (passes (with_note id version text t) x n k)) (λ k. not (passes t x n k)) filter_numbers
    (λ k. ap not (passes-same id version text t x n k))

pub refusals-same : (id version : ℕ) (text : Task → Note) (t : Tables) (x : Task) →
    refusal_counts (with_note id version text t) x ≡ refusal_counts t x
refusals-same id version text t x =
    map-same (λ k. count_by (is_refused_by (with_note id version text t) x k) (tested_nodes t x))
    (λ k. count_by (is_refused_by t x k) (tested_nodes t x)) filter_numbers
    (λ k h. count-same (is_refused_by (with_note id version text t) x k) (is_refused_by t x k) (tested_nodes t x)
    (λ n. ap (λ (o : Option ℕ). option_eq same_number o (Some k)) (refused-same id version text t x n)))

admitting-same : (id version : ℕ) (text : Task → Note) (t : Tables) (x : Task) →
    admitting_nodes (with_note id version text t) x ≡ admitting_nodes t x
admitting-same id version text t x =
    filter_same (admits (with_note id version text t) x) (admits t x) (tested_nodes t x)
    (λ n. ap (λ (o : Option ℕ). is_none o) (refused-same id version text t x n))

-- The best of them.

branch-same : (id version : ℕ) (text : Task → Note) (t : Tables) (service : ℕ) (keys : List Key) (n : Node) →
    branch_load (with_note id version text t) service keys n ≡ branch_load t service keys n
branch-same id version text t service keys n =
    sum-same (λ (m : Node). here (with_note id version text t) m.id service) (λ (m : Node). here t m.id service)
    (filter (agrees keys n) t.nodes) (λ m h. here-same id version text t m.id service)

spread-same : (id version : ℕ) (text : Task → Note) (t : Tables) (service : ℕ) (earlier keys : List Key) (a b : Node) →
    spread_cmp (with_note id version text t) service earlier keys a b ≡ spread_cmp t service earlier keys a b
spread-same id version text t service earlier [] a b = refl
spread-same id version text t service earlier (k ∷ ks) a b =
    let u = with_note id version text t in
    let at = earlier ++ k ∷ [] in
    ap (λ (l : ℕ). ordering_then (nat_cmp l (branch_load u service at b))
    (ordering_then (slice_cmp nat_cmp (key_value a k) (key_value b k)) (spread_cmp u service at ks a b)))
    (branch-same id version text t service at a)
    ∙ ap (λ (l : ℕ). ordering_then (nat_cmp (branch_load t service at a) l)
    (ordering_then (slice_cmp nat_cmp (key_value a k) (key_value b k)) (spread_cmp u service at ks a b)))
    (branch-same id version text t service at b)
    ∙ ap (λ (r : Ordering). ordering_then (nat_cmp (branch_load t service at a) (branch_load t service at b))
    (ordering_then (slice_cmp nat_cmp (key_value a k) (key_value b k)) r))
    (spread-same id version text t service at ks a b)

-- the order of two nodes by these
abbrev ordered : Node → Node → Ordering → ℕ → ℕ → ℕ → ℕ → Ordering
ordered a b spread here_a here_b load_a load_b =
    ordering_then spread
    (ordering_then (nat_cmp here_a here_b) (ordering_then (nat_cmp load_a load_b) (nat_cmp a.id b.id)))

order-same : (id version : ℕ) (text : Task → Note) (t : Tables) (x : Task) (a b : Node) →
    node_cmp (with_note id version text t) x a b ≡ node_cmp t x a b
order-same id version text t x a b =
    let u = with_note id version text t in
    let s = x.service in
    ap (λ (r : Ordering). ordered a b r (here u a.id s) (here u b.id s) (load u a.id) (load u b.id))
    (spread-same id version text t s [] x.template.spread a b)
    ∙ ap (λ (k : ℕ). ordered a b (spread_cmp t s [] x.template.spread a b) k (here u b.id s) (load u a.id) (load u b.id))
    (here-same id version text t a.id s)
    ∙ ap (λ (k : ℕ). ordered a b (spread_cmp t s [] x.template.spread a b) (here t a.id s) k (load u a.id) (load u b.id))
    (here-same id version text t b.id s)
    ∙ ap (λ (k : ℕ). ordered a b (spread_cmp t s [] x.template.spread a b) (here t a.id s) (here t b.id s) k (load u b.id))
    (load-same id version text t a.id)
    ∙ ap (λ (k : ℕ). ordered a b (spread_cmp t s [] x.template.spread a b) (here t a.id s) (here t b.id s) (load t a.id) k)
    (load-same id version text t b.id)

pub best-same : (id version : ℕ) (text : Task → Note) (t : Tables) (x : Task) →
    best_node (with_note id version text t) x ≡ best_node t x
best-same id version text t x =
    least-same (node_cmp (with_note id version text t) x) (node_cmp t x) None
    (admitting_nodes (with_note id version text t) x) (order-same id version text t x)
    ∙ ap (λ (ns : List Node). least_by (node_cmp t x) None ns) (admitting-same id version text t x)

-- What is exhausted.

address-same : (id version : ℕ) (text : Task → Note) (t : Tables) (network : ℕ) →
    free_address (with_note id version text t) network ≡ free_address t network
address-same id version text t network =
    ap (λ (held : List ℕ). on_row None (free_in held) (row_at network_id network t.networks))
    (ap (λ (ys : List Task). flat_map (addresses_in network) ys)
    (filter_map is_not_over (renoted id version text) t.tasks (kept id version text is_not_over (λ x. refl)))
    ∙ flat-mapped (addresses_in network) (renoted id version text) (filter is_not_over t.tasks)
    (kept id version text (addresses_in network) (λ x. refl)))

pub exhausted-same : (id version : ℕ) (text : Task → Note) (t : Tables) (x : Task) →
    exhausted_for (with_note id version text t) x ≡ exhausted_for t x
exhausted-same id version text t x = go (row_at service_id x.service t.services)
  where
    network : exhausted_network (with_note id version text t) x ≡ exhausted_network t x
    network =
        find-same (λ n. not (has_free_address (with_note id version text t) n)) (λ n. not (has_free_address t n))
        x.template.networks
        (λ n. ap (λ (o : Option ℕ). not (is_some o)) (address-same id version text t n))

    go : (o : Option Service) →
        on_row None (exhausted (with_note id version text t) x) o ≡ on_row None (exhausted t x) o
    go None = refl
    go (Some s) = ap (λ (o : Option ℕ). first_note (exhausted_port t s) o) network

-- Notes.

pub wants-same : (id version : ℕ) (text : Task → Note) (t : Tables) (x : Task) →
    (wants_note (with_note id version text t) x || wants_reason (with_note id version text t) x)
    ≡ (wants_note t x || wants_reason t x)
wants-same id version text t x =
    let u = with_note id version text t in
    ap (λ (o : Option Note). (is_fresh t x && is_some_and (λ n. not (same_note n x.note)) o) || wants_reason u x)
    (exhausted-same id version text t x)
    ∙ ap (λ (o : Option Node). wants_note t x || (is_to_place x && is_unplaced u x o)) (best-same id version text t x)
    ∙ go (best_node t x)
  where
    go : (o : Option Node) →
        (wants_note t x || (is_to_place x && is_unplaced (with_note id version text t) x o))
        ≡ (wants_note t x || (is_to_place x && is_unplaced t x o))
    go None =
        ap (λ (ks : List ℕ). wants_note t x || (is_to_place x && not (same_note (note.Filters ks) x.note)))
        (refusals-same id version text t x)
    go (Some n) = refl
