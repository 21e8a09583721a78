-- A task whose place is a node has that node; a task from ASSIGNED to RUNNING has a node that is there.
use Rattle.std.proofs.Common.{Bool, List, None, Option, Some, [], ap, arith, cond, false, not, refl, subst, sym, true, ℕ, ◌++◌, ◌∙◌, ◌∷◌, ◌≡◌, ◌≤◌}
use Rattle.std.proofs.lemmas.Bool.Decides.{nat_tests}
use Rattle.std.specs.Prelude.{map, ◌==◌}
use Rattle.swarm_model.proofs.Laws.Kept.{Keeps, Lightens}
use Rattle.swarm_model.proofs.Laws.KeptCalls.{kept-replay}
use Rattle.swarm_model.proofs.Laws.Timely.{each-becomes, each-changed, each-pushed}
use Rattle.swarm_model.proofs.Laws.Within.{within-lightens}
use Rattle.swarm_model.proofs.Moves.Duties.{placed-most}
use Rattle.swarm_model.proofs.Moves.Placing.{best-is}
use Rattle.swarm_model.proofs.Moves.Rows.{between-one}
use Rattle.swarm_model.proofs.Moves.Worlds.{IsGood}
use Rattle.swarm_model.specs.Calls.Nodes.{is_left_behind, tables_without_node}
use Rattle.swarm_model.specs.Calls.Remote.{begun_tables}
use Rattle.swarm_objects.specs.Nodes.Opening.{with_resources}
use Rattle.swarm_model.specs.History.{IsLegal, replay}
use Rattle.swarm_model.specs.Laws.Rises.{KeepsNode}
use Rattle.swarm_objects.proofs.RowLemmas.{Has-append_left, Has-filter, Has-map, Has-map_cases}
use Rattle.swarm_objects.proofs.SameLemmas.{Decides-option_eq, Decides-same_number}
use Rattle.swarm_objects.proofs.Tests.{both, false_from_ne_true, never-both, not_from_false}
use Rattle.swarm_objects.specs.Changes.{id_taken, in_state, placed}
use Rattle.swarm_objects.specs.Loops.Allocator.{with_addresses}
use Rattle.swarm_objects.specs.Nodes.BestNode.{best_node}
use Rattle.swarm_objects.specs.Nodes.Filters.{is_tested_on}
use Rattle.swarm_objects.specs.Nodes.Sessions.{ready_node, registered}
use Rattle.swarm_objects.specs.Rows.{Has, change_row, drop_row, node_id, task_id}
use Rattle.swarm_objects.specs.Same.{same_number}
use Rattle.swarm_objects.specs.Tasks.New.{bound_node}
use Rattle.swarm_objects.specs.Tasks.Words.{is_not_over, is_on, is_placed}
use Rattle.swarm_objects.specs.Values.Ranks.{rank}
use Rattle.swarm_objects.specs.World.{Tables}
use Rattle.swarm_objects.specs.declared.calls.Entry.{Entry}
use Rattle.swarm_objects.specs.declared.nodes.Node.{Node}
use Rattle.swarm_objects.specs.declared.tasks.Place.TheVariants.{On, Slot}
use Rattle.swarm_objects.specs.declared.tasks.Place.{Place}
use Rattle.swarm_objects.specs.declared.tasks.Task.{Task}
use Rattle.swarm_objects.specs.declared.tasks.TaskState.TheVariants as state

-- a node that is there has this number
abbrev pub IsThere : List Node → Option ℕ → Type 0
IsThere nodes held = (n : Node) × Has nodes n × (held ≡ Some n.id)

pub record IsHome (nodes : List Node) (x : Task) : Type 0 where
  pub bound : (k : ℕ) → x.place ≡ On k → x.node ≡ Some k
  pub placed : is_placed x ≡ true → IsThere nodes x.node

abbrev pub HomeNodes : Tables → Type 0
HomeNodes t = (x : Task) → Has t.tasks x → IsHome t.nodes x

keeps-node : (a b : Option ℕ) (k : ℕ) → a ≡ Some k → KeepsNode a b → b ≡ Some k
keeps-node None b k e h = absurd cc
keeps-node (Some j) b k e h = h ∙ e

light-home : (clock : ℕ) (nodes : List Node) (x y : Task) → Lightens clock x y → IsHome nodes x → IsHome nodes y
light-home clock nodes x y l is = record {
  bound = λ k e. keeps-node x.node y.node k (is.bound k (sym l.moves.rises.making.place ∙ e)) l.moves.rises.node;
  placed = λ p.
      let old = is.placed (l.placed p) in (old.0, old.1, keeps-node x.node y.node old.0.id old.2 l.moves.rises.node);
}

-- more nodes, or the same ones changed
more-nodes : (t u : Tables) → u.tasks ≡ t.tasks →
    ((n : Node) → Has t.nodes n → (m : Node) × Has u.nodes m × (m.id ≡ n.id)) → HomeNodes t → HomeNodes u
more-nodes t u tasks kept is x h =
    let old = is x (subst (λ (xs : List Task). Has xs x) tasks h) in
    record {
      bound = old.bound;
      placed = λ p.
          let at = old.placed p in
          let m = kept at.0 at.1 in
          (m.0, m.1, at.2 ∙ ap (λ (k : ℕ). Some k) (sym m.2));
    }

same-nodes : (t u : Tables) → u.tasks ≡ t.tasks → u.nodes ≡ t.nodes → HomeNodes t → HomeNodes u
same-nodes t u tasks nodes is =
    more-nodes t u tasks (λ n h. (n, subst (λ (ns : List Node). Has ns n) (sym nodes) h, refl)) is

mapped-nodes : (f : Node → Node) (nodes : List Node) → ((n : Node) → Has nodes n → (f n).id ≡ n.id) → (n : Node) →
    Has nodes n → (m : Node) × Has (map f nodes) m × (m.id ≡ n.id)
mapped-nodes f nodes same n h = (f n, Has-map f nodes n h, same n h)

tested-is : (p : Place) (k m : ℕ) → p ≡ On k → is_tested_on p m ≡ true → k ≡ m
tested-is (Slot j) k m e tested = absurd cc
tested-is (On j) k m e tested =
    let same : j ≡ k = cc in let at : j ≡ m = grind (arith, nat_tests, tested) in sym same ∙ at

placed-home : (version : ℕ) (t : Tables) (x : Task) (m : Node) → best_node t x ≡ Some m →
    IsHome t.nodes (placed version t.clock m.id x)
placed-home version t x m best =
    let is = best-is t x m best in
    record {
      bound = λ k e. ap (λ (j : ℕ). Some j) (sym (tested-is x.place k m.id e is.1));
      placed = λ p. (m, is.0, refl);
    }

bound-is : (p : Place) (k : ℕ) → p ≡ On k → bound_node p ≡ Some k
bound-is (Slot j) k e = absurd cc
bound-is (On j) k e = let same : j ≡ k = cc in ap (λ (i : ℕ). Some i) same

new-home : (t : Tables) (x : Task) → x.state ≡ state.New → IsGood x → IsHome t.nodes x
new-home t x new good =
    let r : rank x.state ≡ 0 = ap rank new in
    record {
      bound = λ k e. good.bound (omega (arith, r)) ∙ bound-is x.place k e;
      placed = λ p. absurd (let low : 192 ≤ rank x.state = grind (arith, nat_tests, p) in omega (arith, low, r));
    }

-- a node goes, and what was placed on it is placed no more
left-home : (version : ℕ) (t : Tables) (id : ℕ) → HomeNodes t → HomeNodes (tables_without_node version t id)
left-home version t id is y h =
    let from = Has-map_cases (λ x. cond (is_left_behind id x) (in_state version t.clock state.Orphaned x) x) t.tasks y
    h in
    subst (IsHome (drop_row node_id id t.nodes)) from.2 (go from.0 from.1 (is_left_behind id from.0) refl)
  where
    go : (x : Task) → Has t.tasks x → (b : Bool) → is_left_behind id x ≡ b →
        IsHome (drop_row node_id id t.nodes) (cond b (in_state version t.clock state.Orphaned x) x)
    go x k true e = record { bound = (is x k).bound; placed = λ p. absurd cc }
    go x k false e = record {
      bound = (is x k).bound;
      placed = λ p.
          let at = (is x k).placed p in
          let over : is_not_over x ≡ true =
          (let most = placed-most x p in grind (arith, nat_tests, most)) in (
            at.0,
            Has-filter (λ n. not (node_id n == id)) t.nodes at.0 at.1
                (not_from_false (node_id at.0 == id)
                (false_from_ne_true (node_id at.0 == id)
                (λ same. never-both (is_left_behind id x) e
                (both (is_on id x) (is_not_over x) (on x at.0.id at.2 same) over)))),
            at.2,
          );
    }
      where
        on : (z : Task) (k : ℕ) → z.node ≡ Some k → (k == id) ≡ true → is_on id z ≡ true
        on z k at same =
            let number : k ≡ id = grind (arith, nat_tests, same) in
            (Decides-option_eq same_number Decides-same_number z.node (Some id)).1
            (at ∙ ap (λ (j : ℕ). Some j) number)

pub home-keeps : Keeps HomeNodes
home-keeps = record {
  tasks = λ t new order is rows.
      each-becomes (IsHome t.nodes) (Lightens t.clock) t.tasks new rows
      (λ x y h l. light-home t.clock t.nodes x y l (is x h));
  address = λ version t x order is there e.
      each-changed (IsHome t.nodes) task_id x.id (with_addresses version t) t.tasks is
      (λ y h same. record { bound = (is y h).bound; placed = λ p. absurd cc });
  place = λ version t x m order is there e best.
      each-changed (IsHome t.nodes) task_id x.id (placed version t.clock m.id) t.tasks is
      (λ y h same.
      subst (λ (z : Task). IsHome t.nodes (placed version t.clock m.id z))
      (between-one task_id 1 t.next_id t.tasks x y order.tasks there h (sym same)) (placed-home version t x m best));
  comes = λ t s x order is there new.
      each-pushed (IsHome t.nodes) t.tasks x is (new-home t x new.state new.good);
  runs = λ t new order is rows. is;
  port = λ version t s target udp number order is e. is;
  fails = λ version t s spec order is there e. is;
  updates = λ version t s d order is there same taken. is;
  rolls_back = λ version t s spec order is there e. is;
  service_comes = λ version t name d order is taken. is;
  attempts = λ t new is each. is;
  nodes = λ t f order is each.
      more-nodes t (record t { nodes = map f t.nodes }) refl (mapped-nodes f t.nodes (λ n h. (each n h).id)) is;
  node_comes = λ t n order is id since.
      more-nodes t (record (id_taken t) { nodes = t.nodes ++ n ∷ [] }) refl
      (λ m h. (m, Has-append_left t.nodes (n ∷ []) m h, refl)) is;
  node_goes = λ version t id order is. left-home version t id is;
  begins = λ version t n cpu mem order is there.
      each-becomes (IsHome (begun_tables version t n.id cpu mem).nodes) (Lightens t.clock) t.tasks _
      (within-lightens version t.clock n.id cpu mem t.tasks)
      (λ x y h l.
      light-home t.clock (begun_tables version t n.id cpu mem).nodes x y l
      (more-nodes t (record t { nodes = change_row node_id n.id (with_resources version cpu mem) t.nodes }) refl
      (mapped-nodes _ t.nodes (λ m k. same-id (with_resources version cpu mem) (λ z. refl) m (node_id m == n.id))) is
      x h));
  registers = λ version t node order is.
      more-nodes t (registered version t node) refl
      (mapped-nodes _ t.nodes (λ m k. same-id (ready_node version) (λ z. refl) m (node_id m == node))) is;
  beats = λ t node is. is;
  networks = λ t new is. is;
  ids = λ t order is. is;
  ticks = λ t ms is. is;
  settings = λ t s e is. is;
}
  where
    same-id : (f : Node → Node) → ((n : Node) → (f n).id ≡ n.id) → (m : Node) (b : Bool) → (cond b (f m) m).id ≡ m.id
    same-id f same m true = same m
    same-id f same m false = refl

pub home-replay : (h : List Entry) → IsLegal h → HomeNodes (replay h).tables
home-replay h legal = kept-replay HomeNodes home-keeps (λ x k. absurd k) h legal
