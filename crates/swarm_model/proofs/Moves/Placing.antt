-- A task goes to a node that it was tested on.
use Rattle.std.proofs.Common.{◌≡◌, ℕ, ◌<◌, Bool, true, false, cond, ◌⊎◌, inl, inr, List, [], ◌∷◌, refl, sym, ap, subst, arith, Option, Some, None}
use Rattle.std.specs.Ordering.{is_lt}
use Rattle.std.specs.declared.cmp.Ordering.{Ordering}
use Rattle.std.proofs.lemmas.Bool.Decides.{nat_tests}
use Rattle.swarm_model.proofs.Base.IsDuty.{GoesTo}
use Rattle.swarm_model.proofs.Moves.Tables.{keeps-made}
use Rattle.swarm_model.proofs.Moves.Worlds.{IsGood, TaskMoves}
use Rattle.swarm_model.specs.Laws.Rises.{KeepsNode}
use Rattle.swarm_objects.proofs.RowLemmas.{Has-filter_cases}
use Rattle.swarm_objects.proofs.Tests.{first_so}
use Rattle.swarm_objects.specs.Changes.{placed}
use Rattle.swarm_objects.specs.Nodes.BestNode.{best_node, node_cmp}
use Rattle.swarm_objects.specs.Nodes.Filters.{admits, admitting_nodes, is_tested_on, tested_nodes}
use Rattle.swarm_objects.specs.Rows.{Has, keep_least, least_by}
use Rattle.swarm_objects.specs.Tasks.New.{bound_node}
use Rattle.swarm_objects.specs.Tasks.Words.{is_pending, is_wanted}
use Rattle.swarm_objects.specs.Values.Ranks.{rank}
use Rattle.swarm_objects.specs.World.{Tables}
use Rattle.swarm_objects.specs.declared.nodes.Node.{Node}
use Rattle.swarm_objects.specs.declared.tasks.Place.{Place}
use Rattle.swarm_objects.specs.declared.tasks.Place.TheVariants.{On, Slot}
use Rattle.swarm_objects.specs.declared.tasks.Task.{Task}
use Rattle.swarm_objects.specs.declared.tasks.TaskState.{TaskState}
use Rattle.swarm_objects.specs.declared.tasks.TaskState.TheVariants as state

kept-is : {X : Type 0} (compare : X → X → Ordering) (best : Option X) (x y : X) → keep_least compare best x ≡ Some y →
    (best ≡ Some y) ⊎ (x ≡ y)
kept-is compare None x y e = inr cc
kept-is compare (Some b) x y e = go (is_lt (compare x b)) e
  where
    go : (t : Bool) → cond t (Some x) (Some b) ≡ Some y → (Some b ≡ Some y) ⊎ (x ≡ y)
    go true k = inr cc
    go false k = inl k

-- the least of a list is one of it
pub least-has : {X : Type 0} (compare : X → X → Ordering) (best : Option X) (xs : List X) (y : X) →
    least_by compare best xs ≡ Some y → (best ≡ Some y) ⊎ Has xs y
least-has compare best [] y e = inl e
least-has compare best (x ∷ xs) y e =
    elim (least-has compare (keep_least compare best x) xs y e) [
      | inl k ↦ (elim (kept-is compare best x y k) [ inl b ↦ inl b | inr same ↦ inr (inl same) ])
      | inr h ↦ inr (inr h)
    ]

-- the best node is there, admits the task, and was tested
pub best-is : (t : Tables) (x : Task) (m : Node) → best_node t x ≡ Some m →
    Has t.nodes m × (is_tested_on x.place m.id ≡ true) × (admits t x m ≡ true)
best-is t x m e = go (least-has (node_cmp t x) None (admitting_nodes t x) m e)
  where
    go : (◌≡◌ {A = Option Node} None (Some m)) ⊎ Has (admitting_nodes t x) m →
        Has t.nodes m × (is_tested_on x.place m.id ≡ true) × (admits t x m ≡ true)
    go (inl wrong) = absurd cc
    go (inr h) =
        let admitted = Has-filter_cases (admits t x) (tested_nodes t x) m h in
        let tested = Has-filter_cases (λ n. is_tested_on x.place n.id) t.nodes m admitted.0 in
        (tested.0, tested.1, admitted.1)

pending-below : (s : TaskState) → is_pending s ≡ true → (rank s < rank state.Assigned)
pending-below state.Pending e = omega arith
pending-below _ e = absurd cc

keeps-bound : (p : Place) (held : Option ℕ) (m : ℕ) → held ≡ bound_node p → is_tested_on p m ≡ true → KeepsNode held (Some m)
keeps-bound (Slot k) held m e tested = subst (λ o. KeepsNode o (Some m)) (sym e) tt
keeps-bound (On k) held m e tested =
    let same : k ≡ m = grind (arith, nat_tests, tested) in
    subst (λ o. KeepsNode o (Some m)) (sym e) (ap (λ (z : ℕ). Some z) (sym same))

placed-by : (version clock n : ℕ) (x : Task) → IsGood x → rank x.state < rank state.Assigned →
    is_tested_on x.place n ≡ true → TaskMoves x (placed version clock n x)
placed-by version clock n x good below tested = record {
  id = refl;
  rises = record {
    making = keeps-made x (placed version clock n x) refl;
    node = keeps-bound x.place x.node n (good.bound below) tested;
    state = omega (arith, below);
    desired = omega arith;
  };
  unplaced = λ wrong. absurd (omega (arith, wrong));
}

pub placed-moves : (version : ℕ) (t : Tables) (n : ℕ) (x : Task) → IsGood x → GoesTo t n x →
    TaskMoves x (placed version t.clock n x)
placed-moves version t n x good goes =
    let best = best-is t x goes.1 goes.2 in
    placed-by version t.clock n x good
    (pending-below x.state (first_so (is_pending x.state) (is_wanted x) goes.0))
    (subst (λ k. is_tested_on x.place k ≡ true) goes.3 best.1)
