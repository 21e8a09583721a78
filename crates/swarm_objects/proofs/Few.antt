-- There are few rows, and few places of a service.
use Rattle.std.proofs.Common.{ap, ◌≡◌, ℕ, ◌+◌, ◌<◌, ◌≤◌, ◌^◌, Bool, true, false, cond, eqb, ltb, List, [], ◌∷◌, length, arith}
use Rattle.std.specs.Prelude.{filter, fold}
use Rattle.std.proofs.lemmas.List.Sums.{count_by-le-length, length-filter}
use Rattle.swarm_objects.specs.Rows.{itself, node_id, task_id, with_number, with_row, IsBelow, RisesFrom}
use Rattle.swarm_objects.specs.Tasks.Places.{counts_for, place_number, place_numbers}
use Rattle.swarm_objects.specs.World.{Tables}
use Rattle.swarm_objects.specs.declared.services.Service.{Service}
use Rattle.swarm_objects.specs.declared.tasks.Task.{Task}
use Rattle.swarm_objects.specs.declared.nodes.Node.{Node}
use Rattle.swarm_objects.specs.Usable.{IsUsable}

few_rows : {X : Type 0} (key : X → ℕ) (n bound : ℕ) (rows : List X) → RisesFrom key n rows → IsBelow key bound rows
    → n ≤ bound → length rows + n ≤ bound
few_rows key n bound [] r b le = omega (arith, le)
few_rows key n bound (x ∷ rows) r b le =
    let rest = few_rows key (key x) bound rows r.1 b.1 (omega (arith, b.0)) in omega (arith, rest, r.0)

pub few_tasks : (t : Tables) → IsUsable t → length t.tasks < 2 ^ 60
few_tasks t usable =
    let few = few_rows task_id 0 t.next_id t.tasks usable.sound.ordered.tasks usable.sound.below.tasks (omega arith) in
    omega (arith, few, usable.next_id)

pub few_nodes : (t : Tables) → IsUsable t → length t.nodes < 2 ^ 60
few_nodes t usable =
    let few = few_rows node_id 0 t.next_id t.nodes usable.sound.ordered.nodes usable.sound.below.nodes (omega arith) in
    omega (arith, few, usable.next_id)

length-filter_le : {X : Type 0} (p : X → Bool) (xs : List X) → length (filter p xs) ≤ length xs
length-filter_le p xs = rw (length-filter p xs) (count_by-le-length p xs)

-- of the tasks that pass a test
pub few_among : (t : Tables) (p : Task → Bool) → IsUsable t → length (filter p t.tasks) < 2 ^ 60
few_among t p usable = omega (arith, length-filter_le p t.tasks, few_tasks t usable)

pub few_nodes_among : (t : Tables) (p : Node → Bool) → IsUsable t → length (filter p t.nodes) < 2 ^ 60
few_nodes_among t p usable = omega (arith, length-filter_le p t.nodes, few_nodes t usable)

length-with_row : {X : Type 0} (key : X → ℕ) (new : X) (rows : List X)
    → length (with_row key new rows) ≤ 1 + length rows
length-with_row key new [] = omega arith
length-with_row key new (x ∷ rows) = go (ltb (key new) (key x)) (eqb (key new) (key x)) (length-with_row key new rows)
  where
    go : (a b : Bool) → length (with_row key new rows) ≤ 1 + length rows
        → length (cond a (new ∷ x ∷ rows) (cond b (new ∷ rows) (x ∷ with_row key new rows))) ≤ 1 + length (x ∷ rows)
    go true b le = omega arith
    go false true le = omega arith
    go false false le = omega (arith, le)

length-numbers : (ks : List ℕ) (tasks : List Task)
    → length (fold (λ js t. with_number (place_number t.place) js) ks tasks) ≤ length ks + length tasks
length-numbers ks [] = omega arith
length-numbers ks (x ∷ tasks) =
    omega (
      arith,
      length-numbers (with_number (place_number x.place) ks) tasks,
      length-with_row itself
          (place_number x.place) ks,
    )

pub few_numbers : (t : Tables) (s : Service) → IsUsable t → length (place_numbers t s) < 2 ^ 60
few_numbers t s usable =
    omega (
      arith,
      length-numbers [] (filter (counts_for s) t.tasks),
      length-filter_le (counts_for s) t.tasks,
      few_tasks t usable,
    )

-- counting what passes by its length
pub length_yes : {X : Type 0} (p : X → Bool) (x : X) (xs : List X) → p x ≡ true
    → length (filter p (x ∷ xs)) ≡ 1 + length (filter p xs)
length_yes p x xs e = omega (arith, ap {B = ℕ} (λ b. length (cond b (x ∷ filter p xs) (filter p xs))) e)

pub length_no : {X : Type 0} (p : X → Bool) (x : X) (xs : List X) → p x ≡ false
    → length (filter p (x ∷ xs)) ≡ length (filter p xs)
length_no p x xs e = ap (λ b. length (cond b (x ∷ filter p xs) (filter p xs))) e
