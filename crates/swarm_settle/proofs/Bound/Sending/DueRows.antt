-- What is due of each task: the due set, number by number.
use Rattle.std.proofs.Common.{Bool, List, None, Option, Some, [], ap, arith, cond, eqb, false, refl, sym, true, ℕ, ◌∙◌, ◌∷◌, ◌≡◌}
use Rattle.std.proofs.lemmas.Bool.Decides.{nat_tests}
use Rattle.std.specs.Prelude.{filter, if◌then◌else◌, map}
use Rattle.swarm_objects.proofs.RowLemmas.{RisesFrom-filter, row_at-None_below}
use Rattle.swarm_objects.specs.Agents.Messages.{assigned, assigned_task, due_set, is_assigned_on}
use Rattle.swarm_objects.specs.Rows.{IsBelow, RisesFrom, row_at, task_id}
use Rattle.swarm_objects.specs.World.{Tables}
use Rattle.swarm_objects.specs.declared.messages.Assigned.{Assigned}
use Rattle.swarm_objects.specs.declared.tasks.Task.{Task}

-- what the node is to have of the task
abbrev pub due_of : ℕ → Option Task → Option Assigned
due_of node None = None
due_of node (Some x) = if is_assigned_on node x then Some (assigned x) else None

rows-due : (node low k : ℕ) (xs : List Task) → RisesFrom task_id low xs →
    row_at assigned_task k (map assigned (filter (is_assigned_on node) xs)) ≡ due_of node (row_at task_id k xs)
rows-due node low k [] rises = refl
rows-due node low k (x ∷ xs) rises =
    go (is_assigned_on node x) refl (eqb x.id k) refl (rows-due node x.id k xs rises.1)
  where
    rest : List Assigned
    rest = map assigned (filter (is_assigned_on node) xs)

    go : (b : Bool) → is_assigned_on node x ≡ b → (c : Bool) → eqb x.id k ≡ c →
        row_at assigned_task k rest ≡ due_of node (row_at task_id k xs) →
        row_at assigned_task k (map assigned
        (cond b (x ∷ filter (is_assigned_on node) xs) (filter (is_assigned_on node) xs)))
        ≡ due_of node (cond c (Some x) (row_at task_id k xs))
    go true on true e same =
        ap (λ (z : Bool). cond z (Some (assigned x)) (row_at assigned_task k rest)) e
        ∙ sym (ap (λ (z : Bool). cond z (Some (assigned x)) None) on)
    go true on false e same =
        ap (λ (z : Bool). cond z (Some (assigned x)) (row_at assigned_task k rest)) e ∙ same
    go false on true e same =
        let is : x.id ≡ k = grind (arith, nat_tests, e) in
        same ∙ ap (due_of node) (row_at-None_below task_id x.id k xs rises.1 (omega (arith, is)))
        ∙ sym (ap (λ (z : Bool). cond z (Some (assigned x)) None) on)
    go false on false e same = same

-- due at a number is what is due of the task with it
pub due-at : (t : Tables) (node k : ℕ) → RisesFrom task_id 0 t.tasks →
    row_at assigned_task k (due_set t node) ≡ due_of node (row_at task_id k t.tasks)
due-at t node k rises = rows-due node 0 k t.tasks rises

assigned-rise : (low : ℕ) (xs : List Task) → RisesFrom task_id low xs → RisesFrom assigned_task low (map assigned xs)
assigned-rise low [] rises = tt
assigned-rise low (x ∷ xs) rises = (rises.0, assigned-rise x.id xs rises.1)

pub due-rises : (t : Tables) (node : ℕ) → RisesFrom task_id 0 t.tasks → RisesFrom assigned_task 0 (due_set t node)
due-rises t node rises =
    assigned-rise 0 (filter (is_assigned_on node) t.tasks)
    (RisesFrom-filter task_id 0 (is_assigned_on node) t.tasks rises)

assigned-below : (n node : ℕ) (xs : List Task) → IsBelow task_id n xs →
    IsBelow assigned_task n (map assigned (filter (is_assigned_on node) xs))
assigned-below n node [] below = tt
assigned-below n node (x ∷ xs) below = go (is_assigned_on node x) (assigned-below n node xs below.1)
  where
    go : (b : Bool) → IsBelow assigned_task n (map assigned (filter (is_assigned_on node) xs)) →
        IsBelow assigned_task n (map assigned
        (cond b (x ∷ filter (is_assigned_on node) xs) (filter (is_assigned_on node) xs)))
    go true rest = (below.0, rest)
    go false rest = rest

pub due-below : (t : Tables) (node n : ℕ) → IsBelow task_id n t.tasks → IsBelow assigned_task n (due_set t node)
due-below t node n below = assigned-below n node t.tasks below
