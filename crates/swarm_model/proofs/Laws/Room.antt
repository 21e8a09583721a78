-- What is reserved on a node is at most what it has, in every world of a legal history.
use Rattle.std.proofs.Common.{Bool, List, None, Option, Some, [], ap, arith, cond, eqb, false, inl, inr, refl, subst, sym, true, ℕ, ◌++◌, ◌+◌, ◌∙◌, ◌∷◌, ◌≡◌, ◌≤◌}
use Rattle.std.proofs.lemmas.Bool.Decides.{nat_tests}
use Rattle.std.proofs.lemmas.List.Sums.{sum_by-cons, sum_by_push}
use Rattle.std.specs.Option.{option_eq}
use Rattle.std.specs.Prelude.{filter, is_none, map, nat_le, not, sum_by, ◌&&◌, ◌==◌, ◌≡◌}
use Rattle.swarm_model.proofs.Laws.GivesOut.{kept-node, on-is}
use Rattle.swarm_model.proofs.Laws.Kept.{InOrder, IsNewOf, Keeps, Lightens, SameRoom}
use Rattle.swarm_model.proofs.Laws.Sound.{rises-between}
use Rattle.swarm_model.proofs.Laws.Timely.{each-becomes, each-changed, each-pushed, first-none}
use Rattle.swarm_model.proofs.Laws.Weights.{cpu_of, held, mem_of, weight, weight-all, weight-none}
use Rattle.swarm_model.proofs.Laws.Within.{within-cpu, within-lightens, within-mem}
use Rattle.swarm_model.proofs.Moves.Duties.{placed-most}
use Rattle.swarm_model.proofs.Moves.Placing.{best-is}
use Rattle.swarm_model.proofs.Moves.Rows.{Becomes, becomes-change_any, becomes-where, between-has, between-one}
use Rattle.swarm_model.specs.Calls.Nodes.{is_left_behind, tables_without_node}
use Rattle.swarm_model.specs.Calls.Remote.{begun_tables}
use Rattle.swarm_objects.specs.Nodes.Opening.{tasks_within, with_resources}
use Rattle.swarm_model.specs.Laws.Fits.{has_room_for}
use Rattle.swarm_objects.proofs.RowLemmas.{Has-append_left, Has-filter, Has-filter_cases, Has-map, Has-map_cases, sum_by-change_row, sum_by-filter}
use Rattle.swarm_objects.proofs.Tests.{first_so, never-both, second_so}
use Rattle.swarm_objects.specs.Changes.{change_task, id_taken, in_state, placed}
use Rattle.swarm_objects.specs.Loops.Allocator.{with_addresses}
use Rattle.swarm_objects.specs.Loops.Scheduler.{is_to_place}
use Rattle.swarm_objects.specs.Nodes.BestNode.{best_node}
use Rattle.swarm_objects.specs.Nodes.Filters.{admits, filter_numbers, has_resources, passes, refused_by}
use Rattle.swarm_objects.specs.Nodes.Holdings.{is_placed_on, reserved_cpu, reserved_mem}
use Rattle.swarm_objects.specs.Nodes.Sessions.{ready_node, registered}
use Rattle.swarm_objects.specs.Rows.{Has, change_row, drop_row, node_id, task_id}
use Rattle.swarm_objects.specs.Same.{same_number}
use Rattle.swarm_objects.specs.Tasks.New.{with_task}
use Rattle.swarm_objects.specs.Tasks.Words.{is_not_over, is_on, is_pending, is_placed, is_wanted}
use Rattle.swarm_objects.specs.Values.Ranks.{rank}
use Rattle.swarm_objects.specs.World.{Tables, empty_tables}
use Rattle.swarm_objects.specs.declared.nodes.Node.{Node}
use Rattle.swarm_objects.specs.declared.services.Service.{Service}
use Rattle.swarm_objects.specs.declared.tasks.Task.{Task}
use Rattle.swarm_objects.specs.declared.tasks.TaskState.TheVariants as state
use Rattle.swarm_objects.specs.declared.tasks.TaskState.{TaskState}
use Rattle.swarm_objects.specs.declared.templates.Template.{Template}

-- Homes.

-- a task from ASSIGNED to RUNNING has a node that is there
abbrev pub HasHome : List Node → Task → Type 0
HasHome nodes x = is_placed x ≡ true → (n : Node) × Has nodes n × (x.node ≡ Some n.id)

abbrev pub AreHomed : Tables → Type 0
AreHomed t = (x : Task) → Has t.tasks x → HasHome t.nodes x

pub is-on-same : (held : Option ℕ) (node : ℕ) → held ≡ Some node → option_eq same_number held (Some node) ≡ true
is-on-same None node e = absurd cc
is-on-same (Some n) node e = let same : n ≡ node = cc in grind (arith, nat_tests, same)

pub on-node : (x : Task) (node : ℕ) → is_placed_on node x ≡ true → (is_placed x ≡ true) × (x.node ≡ Some node)
on-node x node e =
    (first_so (is_placed x) (is_on node x) e, on-is x.node node (second_so (is_placed x) (is_on node x) e))

pub on-node-by : (x : Task) (node : ℕ) → is_placed x ≡ true → x.node ≡ Some node → is_placed_on node x ≡ true
on-node-by x node placed on =
    ap (λ (b : Bool). b && is_on node x) placed ∙ is-on-same x.node node on

-- Weights.

-- the task is on no further node than before
pub record IsLighter (x y : Task) : Type 0 where
  pub template : y.template ≡ x.template
  pub on : (node : ℕ) → is_placed_on node y ≡ true → is_placed_on node x ≡ true

pub lighter-by : (clock : ℕ) (nodes : List Node) (x y : Task) → HasHome nodes x → Lightens clock x y → IsLighter x y
lighter-by clock nodes x y home l = record {
  template = l.moves.rises.making.template;
  on = λ node e.
      let is = on-node y node e in
      let before = l.placed is.0 in
      let at = home before in
      let kept = kept-node x.node y.node at.0.id l.moves.rises.node at.2 in
      let same : ◌≡◌ {A = Option ℕ} (Some at.0.id) (Some node) = sym kept ∙ is.1 in
      on-node-by x node before (at.2 ∙ same);
}

lighter-weight : (f : Template → ℕ) (node : ℕ) (x y : Task) → IsLighter x y → weight f node y ≤ weight f node x
lighter-weight f node x y l = go (is_placed_on node y) refl
  where
    go : (b : Bool) → is_placed_on node y ≡ b → weight f node y ≤ weight f node x
    go true e =
        omega (arith, weight-all f node y e, weight-all f node x (l.on node e), ap f l.template)
    go false e = omega (arith, weight-none f node y e)

sum-becomes : {X : Type 0} (g : X → ℕ) (R : X → X → Type 0) (old new : List X) →
    ((x y : X) → Has old x → R x y → g y ≤ g x) →
    Becomes R [] old new → sum_by g new ≤ sum_by g old
sum-becomes g R [] new each e = subst (λ xs. sum_by g xs ≤ sum_by g []) (sym e) (omega arith)
sum-becomes g R (x ∷ xs) [] each rows = omega (arith, sum_by-cons g x xs)
sum-becomes g R (x ∷ xs) (y ∷ ys) each (inl rows) =
    let rest = sum-becomes g R xs (y ∷ ys) (λ a b h r. each a b (inr h) r) rows in
    omega (arith, rest, sum_by-cons g x xs)
sum-becomes g R (x ∷ xs) (y ∷ ys) each (inr both) =
    let rest = sum-becomes g R xs ys (λ a b h r. each a b (inr h) r) both.1 in
    let here = each x y (inl refl) both.0 in
    omega (arith, rest, here, sum_by-cons g x xs, sum_by-cons g y ys)

held-lighter : (f : Template → ℕ) (node : ℕ) (R : Task → Task → Type 0) (old new : List Task) →
    ((x y : Task) → Has old x → R x y → IsLighter x y) → Becomes R [] old new → held f node new ≤ held f node old
held-lighter f node R old new each rows =
    sum-becomes (weight f node) R old new (λ x y h r. lighter-weight f node x y (each x y h r)) rows

-- no task on the node, nothing is reserved there
held-none : (f : Template → ℕ) (node : ℕ) (tasks : List Task) → ((x : Task) → Has tasks x →
    is_placed_on node x ≡ false) →
    held f node tasks ≡ 0
held-none f node [] none = refl
held-none f node (x ∷ xs) none =
    let rest = held-none f node xs (λ y h. none y (inr h)) in
    omega (arith, sum_by-cons (weight f node) x xs, weight-none f node x (none x (inl refl)), rest)

-- The invariant.

pub record HasRoom (tasks : List Task) (n : Node) : Type 0 where
  pub cpu : held cpu_of n.id tasks ≤ n.cpu
  pub mem : held mem_of n.id tasks ≤ n.mem

pub record Roomy (t : Tables) : Type 0 where
  pub homes : (x : Task) → Has t.tasks x → HasHome t.nodes x
  pub room : (n : Node) → Has t.nodes n → HasRoom t.tasks n

room-lighter : (R : Task → Task → Type 0) (old new : List Task) → ((x y : Task) → Has old x → R x y → IsLighter x y) →
    Becomes R [] old new → (n : Node) → HasRoom old n → HasRoom new n
room-lighter R old new each rows n is = record {
  cpu = omega (arith, held-lighter cpu_of n.id R old new each rows, is.cpu);
  mem = omega (arith, held-lighter mem_of n.id R old new each rows, is.mem);
}

-- the same tasks and nodes
same-room : (t u : Tables) → u.tasks ≡ t.tasks → u.nodes ≡ t.nodes → Roomy t → Roomy u
same-room t u tasks nodes is = record {
  homes = λ x h.
      subst (λ xs. HasHome xs x) (sym nodes) (is.homes x (subst (λ xs. Has xs x) tasks h));
  room = λ n h. subst (λ xs. HasRoom xs n) (sym tasks) (is.room n (subst (λ xs. Has xs n) nodes h));
}

home-lightens : (clock : ℕ) (nodes : List Node) (x y : Task) → HasHome nodes x → Lightens clock x y → HasHome nodes y
home-lightens clock nodes x y home l = λ placed.
    let at = home (l.placed placed) in (at.0, at.1, kept-node x.node y.node at.0.id l.moves.rises.node at.2)

tasks-lighten : (t : Tables) (new : List Task) → Becomes (Lightens t.clock) [] t.tasks new → Roomy t → Roomy
    (record t { tasks = new })
tasks-lighten t new rows is = record {
  homes =
      each-becomes (HasHome t.nodes) (Lightens t.clock) t.tasks new rows
      (λ x y h l. home-lightens t.clock t.nodes x y (is.homes x h) l);
  room = λ n h.
      room-lighter (Lightens t.clock) t.tasks new (λ x y k l. lighter-by t.clock t.nodes x y (is.homes x k) l) rows n
      (is.room n h);
}

-- Tasks that aren't placed.

pub address-lighter : (version : ℕ) (t : Tables) (x : Task) → IsLighter x (with_addresses version t x)
address-lighter version t x = record { template = refl; on = λ node e. absurd cc }

pub lighter-same : (x : Task) → IsLighter x x
lighter-same x = record { template = refl; on = λ node e. e }

address-room : (version : ℕ) (t : Tables) (x : Task) → Roomy t → Roomy (change_task x.id (with_addresses version t) t)
address-room version t x is = record {
  homes =
      each-changed (HasHome t.nodes) task_id x.id (with_addresses version t) t.tasks is.homes
      (λ y h e placed. absurd cc);
  room = λ n h.
      room-lighter IsLighter t.tasks _ (λ y z k l. l)
      (becomes-change_any IsLighter task_id x.id (with_addresses version t) t.tasks lighter-same
      (λ y k. address-lighter version t y)) n (is.room n h);
}

pub unplaced-new : (x : Task) → x.state ≡ state.New → is_placed x ≡ false
unplaced-new x e = ap (λ s. nat_le (rank state.Assigned) (rank s) && nat_le (rank s) (rank state.Running)) e

unplaced-on : (node : ℕ) (x : Task) → is_placed x ≡ false → is_placed_on node x ≡ false
unplaced-on node x e = ap (λ (b : Bool). b && is_on node x) e

comes-room : (t : Tables) (s : Service) (x : Task) → IsNewOf t s x → Roomy t → Roomy (with_task t x)
comes-room t s x new is = record {
  homes =
      each-pushed (HasHome t.nodes) t.tasks x is.homes (λ placed. never-both (is_placed x)
      (unplaced-new x new.state) placed);
  room = λ n h.
      let none = unplaced-on n.id x (unplaced-new x new.state) in
      record {
        cpu = omega (
          arith,
          (is.room n h).cpu,
          sum_by_push
              (weight cpu_of n.id) t.tasks x,
          weight-none cpu_of n.id x none,
        );
        mem = omega (
          arith,
          (is.room n h).mem,
          sum_by_push
              (weight mem_of n.id) t.tasks x,
          weight-none mem_of n.id x none,
        );
      };
}

-- A task is placed.

reserved-held : (f : Template → ℕ) (node : ℕ) (tasks : List Task) →
    sum_by (λ x. f x.template) (filter (is_placed_on node) tasks) ≡ held f node tasks
reserved-held f node tasks = sum_by-filter (λ x. f x.template) (is_placed_on node) tasks

pub admits-all : (t : Tables) (x : Task) (m : Node) → admits t x m ≡ true → (k : ℕ) → Has filter_numbers k →
    passes t x m k ≡ true
admits-all t x m e k h =
    passed (passes t x m k) (first-none (λ j. not (passes t x m j)) filter_numbers k (none (refused_by t x m) e) h)
  where
    none : (o : Option ℕ) → is_none o ≡ true → o ≡ None
    none None r = refl
    none (Some j) r = absurd cc

    passed : (b : Bool) → not b ≡ false → b ≡ true
    passed true r = refl
    passed false r = absurd cc

pending-unplaced : (x : Task) → is_to_place x ≡ true → is_placed x ≡ false
pending-unplaced x e = go x.state refl (first_so (is_pending x.state) (is_wanted x) e)
  where
    go : (s : TaskState) → x.state ≡ s → is_pending s ≡ true → is_placed x ≡ false
    go state.Pending at p = ap (λ s. nat_le (rank state.Assigned) (rank s) && nat_le (rank s) (rank state.Running)) at
    go _ at p = absurd cc

placed-held : (f : Template → ℕ) (version : ℕ) (t : Tables) (x : Task) (m : ℕ) (node : ℕ) → InOrder t → Has t.tasks x →
    is_placed x ≡ false →
    held f node (change_row task_id x.id (placed version t.clock m) t.tasks)
    ≡ held f node t.tasks + weight f node (placed version t.clock m x)
placed-held f version t x m node order there none =
    let sum = sum_by-change_row task_id (weight f node) 0 (placed version t.clock m) t.tasks x
    (rises-between task_id 0 1 t.next_id t.tasks (omega arith) order.tasks) there in
    omega (arith, sum, weight-none f node x (unplaced-on node x none))

placed-elsewhere : (version clock m node : ℕ) (x : Task) → (node ≡ m → ⊥) → is_placed_on node
    (placed version clock m x) ≡ false
placed-elsewhere version clock m node x other = go (is_placed_on node (placed version clock m x)) refl
  where
    go : (b : Bool) → is_placed_on node (placed version clock m x) ≡ b → b ≡ false
    go true e =
        let at : ◌≡◌ {A = Option ℕ} (Some m) (Some node) = (on-node (placed version clock m x) node e).1 in
        let same : node ≡ m = cc in absurd (other same)
    go false e = refl

placed-here : (version clock m : ℕ) (x : Task) → is_placed_on m (placed version clock m x) ≡ true
placed-here version clock m x = on-node-by (placed version clock m x) m refl refl

placed-room : (version : ℕ) (t : Tables) (x : Task) (m n : Node) → InOrder t → Has t.tasks x → Has t.nodes m →
    Has t.nodes n →
    is_placed x ≡ false → has_resources t x m ≡ true → HasRoom t.tasks n →
    HasRoom (change_row task_id x.id (placed version t.clock m.id) t.tasks) n
placed-room version t x m n order there at h none fits is = go (eqb n.id m.id) refl
  where
    one : n ≡ m → HasRoom (change_row task_id x.id (placed version t.clock m.id) t.tasks) n
    one e =
        let cpu_fits : (reserved_cpu t m.id + x.template.cpu) ≤ m.cpu =
        grind (
          arith,
          nat_tests,
          first_so (nat_le (reserved_cpu t m.id + x.template.cpu) m.cpu)
              (nat_le (reserved_mem t m.id + x.template.mem) m.mem) fits,
        ) in
        let mem_fits : (reserved_mem t m.id + x.template.mem) ≤ m.mem =
        grind (
          arith,
          nat_tests,
          second_so (nat_le (reserved_cpu t m.id + x.template.cpu) m.cpu)
              (nat_le (reserved_mem t m.id + x.template.mem) m.mem) fits,
        ) in
        let here = placed-here version t.clock m.id x in
        subst (λ (z : Node). HasRoom (change_row task_id x.id (placed version t.clock m.id) t.tasks) z) (sym e)
        (record {
          cpu = omega (arith, cpu_fits, placed-held cpu_of version t x m.id m.id order there none, reserved-held cpu_of m.id t.tasks, weight-all cpu_of m.id (placed version t.clock m.id x) here);
          mem = omega (arith, mem_fits, placed-held mem_of version t x m.id m.id order there none, reserved-held mem_of m.id t.tasks, weight-all mem_of m.id (placed version t.clock m.id x) here);
        })

    go : (b : Bool) → eqb n.id m.id ≡ b → HasRoom (change_row task_id x.id (placed version t.clock m.id) t.tasks) n
    go true e = one (between-one node_id 1 t.next_id t.nodes n m order.nodes h at (grind (arith, nat_tests, e)))
    go false e =
        let other : n.id ≡ m.id → ⊥ = (λ same. never-both (eqb n.id m.id) e (grind (arith, nat_tests, same))) in
        let away = placed-elsewhere version t.clock m.id n.id x other in
        record {
          cpu = omega (arith, is.cpu, placed-held cpu_of version t x m.id n.id order there none, weight-none cpu_of n.id (placed version t.clock m.id x) away);
          mem = omega (arith, is.mem, placed-held mem_of version t x m.id n.id order there none, weight-none mem_of n.id (placed version t.clock m.id x) away);
        }

place-keeps : (version : ℕ) (t : Tables) (x : Task) (m : Node) → InOrder t → Roomy t → Has t.tasks x →
    is_to_place x ≡ true →
    best_node t x ≡ Some m → Roomy (change_task x.id (placed version t.clock m.id) t)
place-keeps version t x m order is there e best =
    let at = best-is t x m best in
    let fits = admits-all t x m at.2 1 (inr (inl refl)) in
    record {
      homes =
          each-changed (HasHome t.nodes) task_id x.id (placed version t.clock m.id) t.tasks is.homes
          (λ y h same p. (m, at.0, refl));
      room = λ n h.
          placed-room version t x m n order there at.0 h (pending-unplaced x e) fits (is.room n h);
    }

-- Nodes.

mapped-home : (nodes : List Node) (f : Node → Node) (x : Task) → ((n : Node) → Has nodes n → (f n).id ≡ n.id) →
    HasHome nodes x →
    HasHome (map f nodes) x
mapped-home nodes f x same home = λ placed.
    let at = home placed in
    (f at.0, Has-map f nodes at.0 at.1, at.2 ∙ ap (λ (k : ℕ). Some k) (sym (same at.0 at.1)))

room-of : (tasks : List Task) (n m : Node) → m.id ≡ n.id → m.cpu ≡ n.cpu → m.mem ≡ n.mem → HasRoom tasks n →
    HasRoom tasks m
room-of tasks n m id cpu mem is = record {
  cpu = omega (arith, is.cpu, cpu, ap (λ (k : ℕ). held cpu_of k tasks) id);
  mem = omega (arith, is.mem, mem, ap (λ (k : ℕ). held mem_of k tasks) id);
}

nodes-keep : (t : Tables) (f : Node → Node) → Roomy t → ((n : Node) → Has t.nodes n → SameRoom t.clock n (f n)) →
    Roomy (record t { nodes = map f t.nodes })
nodes-keep t f is each = record {
  homes = λ x h. mapped-home t.nodes f x (λ n k. (each n k).id) (is.homes x h);
  room = λ n h.
      let from = Has-map_cases f t.nodes n h in
      subst (HasRoom t.tasks) from.2
      (room-of t.tasks from.0 (f from.0) (each from.0 from.1).id (each from.0 from.1).cpu (each from.0 from.1).mem
      (is.room from.0 from.1));
}

unhomed : (t : Tables) (x : Task) → InOrder t → HasHome t.nodes x → is_placed_on t.next_id x ≡ false
unhomed t x order home = go (is_placed_on t.next_id x) refl
  where
    go : (b : Bool) → is_placed_on t.next_id x ≡ b → b ≡ false
    go true e =
        let on = on-node x t.next_id e in
        let at = home on.0 in
        let both : ◌≡◌ {A = Option ℕ} (Some at.0.id) (Some t.next_id) = sym at.2 ∙ on.1 in
        let same : at.0.id ≡ t.next_id = cc in
        let below = between-has node_id 1 t.next_id t.nodes at.0 order.nodes at.1 in
        absurd (omega (arith, same, below.1))
    go false e = refl

node-comes : (t : Tables) (n : Node) → InOrder t → n.id ≡ t.next_id → Roomy t →
    Roomy (record (id_taken t) { nodes = t.nodes ++ n ∷ [] })
node-comes t n order id is = record {
  homes = λ x h placed. let at = is.homes x h placed in (at.0, Has-append_left t.nodes (n ∷ []) at.0 at.1, at.2);
  room =
      each-pushed (HasRoom t.tasks) t.nodes n is.room
      (record { cpu = omega (arith, none cpu_of); mem = omega (arith, none mem_of) });
}
  where
    none : (f : Template → ℕ) → held f n.id t.tasks ≡ 0
    none f =
        ap (λ (k : ℕ). held f k t.tasks) id ∙ held-none f t.next_id t.tasks (λ x h. unhomed t x order (is.homes x h))

left-lighter : (version clock : ℕ) (x : Task) → IsLighter x (in_state version clock state.Orphaned x)
left-lighter version clock x = record { template = refl; on = λ node e. absurd cc }

-- a placed task of another node stays homed
left-home : (nodes : List Node) (id : ℕ) (x : Task) → is_left_behind id x ≡ false → HasHome nodes x → HasHome
    (drop_row node_id id nodes) x
left-home nodes id x stays home = λ placed.
    let at = home placed in
    (at.0, Has-filter (λ n. not (node_id n == id)) nodes at.0 at.1 (other at.0 at.2 placed (eqb at.0.id id) refl), at.2)
  where
    other : (n : Node) → x.node ≡ Some n.id → is_placed x ≡ true → (b : Bool) → eqb n.id id ≡ b → not b ≡ true
    other n at placed true e =
        let same : n.id ≡ id = grind (arith, nat_tests, e) in
        let on : is_on id x ≡ true = is-on-same x.node id (at ∙ ap (λ (k : ℕ). Some k) same) in
        let most : rank x.state ≤ rank state.Running = placed-most x placed in
        let over : is_not_over x ≡ true = grind (arith, nat_tests, most) in
        never-both (is_left_behind id x) stays (ap (λ (b : Bool). b && is_not_over x) on ∙ over)
    other n at placed false e = refl

node-goes : (version : ℕ) (t : Tables) (id : ℕ) → Roomy t → Roomy (tables_without_node version t id)
node-goes version t id is = record {
  homes = λ y h.
      let from = Has-map_cases (λ x. cond (is_left_behind id x)
      (in_state version t.clock state.Orphaned x) x) t.tasks y h in
      subst (HasHome (drop_row node_id id t.nodes)) from.2 (go from.0 (is.homes from.0 from.1)
      (is_left_behind id from.0) refl);
  room = λ n h.
      let k = (Has-filter_cases (λ m. not (node_id m == id)) t.nodes n h).0 in
      room-lighter IsLighter t.tasks _ (λ y z j l. l)
      (becomes-where IsLighter (is_left_behind id) (in_state version t.clock state.Orphaned) t.tasks lighter-same
      (λ y j e. left-lighter version t.clock y)) n (is.room n k);
}
  where
    go : (x : Task) → HasHome t.nodes x → (b : Bool) → is_left_behind id x ≡ b →
        HasHome (drop_row node_id id t.nodes) (cond b (in_state version t.clock state.Orphaned x) x)
    go x home true e = λ placed. absurd cc
    go x home false e = left-home t.nodes id x e home

begins : (version : ℕ) (t : Tables) (n : Node) (cpu mem : ℕ) → Roomy t → Roomy (begun_tables version t n.id cpu mem)
begins version t n cpu mem is = record {
  homes =
      each-becomes (HasHome (change_row node_id n.id (with_resources version cpu mem) t.nodes))
      (Lightens t.clock) t.tasks _ rows
      (λ x y h l.
      home-lightens t.clock _ x y (mapped-home t.nodes _ x (λ m k. same m (eqb (node_id m) n.id)) (is.homes x h)) l);
  room =
      each-changed (HasRoom (tasks_within version t.clock n.id cpu mem t.tasks)) node_id n.id
      (with_resources version cpu mem) t.nodes
      (λ m h. room-lighter (Lightens t.clock) t.tasks _ (λ x y k l. lighter-by t.clock t.nodes x y
      (is.homes x k) l) rows m (is.room m h))
      (λ m h e. record {
        cpu = omega (
          arith,
          ap
              (λ (k : ℕ). held cpu_of k
              (tasks_within version t.clock n.id cpu mem t.tasks)) e,
          within-cpu version t.clock n.id cpu mem t.tasks,
        );
        mem = omega (
          arith,
          ap
              (λ (k : ℕ). held mem_of k
              (tasks_within version t.clock n.id cpu mem t.tasks)) e,
          within-mem version t.clock n.id cpu mem t.tasks,
        );
      });
}
  where
    rows : Becomes (Lightens t.clock) [] t.tasks (tasks_within version t.clock n.id cpu mem t.tasks)
    rows = within-lightens version t.clock n.id cpu mem t.tasks

    same : (m : Node) (b : Bool) → (cond b (with_resources version cpu mem m) m).id ≡ m.id
    same m true = refl
    same m false = refl

registered-room : (version : ℕ) (t : Tables) (node : ℕ) → Roomy t → Roomy (registered version t node)
registered-room version t node is =
    let same = nodes-keep t (λ m. cond (eqb (node_id m) node) (ready_node version m) m) is
    (λ m h. ready m (eqb (node_id m) node)) in
    record { homes = same.homes; room = same.room }
  where
    ready : (m : Node) (b : Bool) → SameRoom t.clock m (cond b (ready_node version m) m)
    ready m true = record { id = refl; cpu = refl; mem = refl; down_since = inl refl }
    ready m false = record { id = refl; cpu = refl; mem = refl; down_since = inl refl }

pub roomy-keeps : Keeps Roomy
roomy-keeps = record {
  tasks = λ t new order is rows. tasks-lighten t new rows is;
  address = λ version t x order is there e. address-room version t x is;
  place = λ version t x m order is there e best. place-keeps version t x m order is there e best;
  comes = λ t s x order is there new. comes-room t s x new is;
  runs = λ t new order is rows. same-room t _ refl refl is;
  port = λ version t s target udp number order is e. same-room t _ refl refl is;
  fails = λ version t s spec order is there e. same-room t _ refl refl is;
  updates = λ version t s d order is there same taken. same-room t _ refl refl is;
  rolls_back = λ version t s spec order is there e. same-room t _ refl refl is;
  service_comes = λ version t name d order is taken. same-room t _ refl refl is;
  attempts = λ t new is each. same-room t _ refl refl is;
  nodes = λ t f order is each. nodes-keep t f is each;
  node_comes = λ t n order is id since. node-comes t n order id is;
  node_goes = λ version t id order is. node-goes version t id is;
  begins = λ version t n cpu mem order is there. begins version t n cpu mem is;
  registers = λ version t node order is. registered-room version t node is;
  beats = λ t node is. same-room t _ refl refl is;
  networks = λ t new is. same-room t _ refl refl is;
  ids = λ t order is. same-room t _ refl refl is;
  ticks = λ t ms is. same-room t _ refl refl is;
  settings = λ t s e is. same-room t _ refl refl is;
}

pub roomy-empty : Roomy empty_tables
roomy-empty = record { homes = λ x h. absurd h; room = λ n h. absurd h }

-- the test of the law
pub has-room : (t : Tables) → Roomy t → (n : Node) → Has t.nodes n → has_room_for t n ≡ true
has-room t is n h =
    let room = is.room n h in
    let cpu : reserved_cpu t n.id ≤ n.cpu = omega (arith, room.cpu, reserved-held cpu_of n.id t.tasks) in
    let mem : reserved_mem t n.id ≤ n.mem = omega (arith, room.mem, reserved-held mem_of n.id t.tasks) in
    let one : nat_le (reserved_cpu t n.id) n.cpu ≡ true = grind (arith, nat_tests, cpu) in
    let two : nat_le (reserved_mem t n.id) n.mem ≡ true = grind (arith, nat_tests, mem) in
    ap (λ (b : Bool). b && nat_le (reserved_mem t n.id) n.mem) one ∙ two
