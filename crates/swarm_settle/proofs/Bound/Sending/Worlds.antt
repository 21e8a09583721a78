-- What the nodes are to be sent in a world, and what a change of tasks makes of that: a task that is touched costs a change
-- on one node.
use Rattle.std.proofs.Common.{Bool, List, None, Option, Some, [], ap, arith, cond, eqb, false, inl, inr, length, refl, subst, sym, true, ℕ, ◌*◌, ◌+◌, ◌<◌, ◌∙◌, ◌∷◌, ◌≡◌, ◌≤◌, ◌⊎◌}
use Rattle.std.proofs.lemmas.Bool.Decides.{nat_tests}
use Rattle.std.proofs.lemmas.List.Sums.{sum_by-cons}
use Rattle.std.specs.List.{sum_by}
use Rattle.std.specs.Prelude.{is_none, is_some, map, ◌&&◌}
use Rattle.swarm_settle.proofs.Bound.Sending.Differing.{changes-count, differs}
use Rattle.swarm_settle.proofs.Bound.Sending.DueRows.{due-at, due-below, due-rises, due_of}
use Rattle.swarm_settle.proofs.Bound.Sending.Numbers.{count-own, count-rows, count-same, count-touched, count_below}
use Rattle.swarm_settle.specs.Bound.Left.{changes_due, message_left}
use Rattle.swarm_model.proofs.Laws.GivesOut.{GivesOut, on-is}
use Rattle.swarm_model.proofs.Moves.Rows.{RisesBetween, becomes-cases, between-has, between-one}
use Rattle.swarm_model.proofs.Moves.Worlds.{IsOrderly, TablesMove, TaskMoves}
use Rattle.swarm_model.specs.Laws.Rises.{KeepsNode}
use Rattle.swarm_objects.proofs.RowChanges.{rising_from}
use Rattle.swarm_objects.proofs.RowLemmas.{Has-from_row_at}
use Rattle.swarm_objects.proofs.Tests.{never-both, second_so}
use Rattle.swarm_objects.specs.Agents.Messages.{assigned, assigned_task, changes_of, due_set, is_assigned_on, message_with, next_message, sent_of}
use Rattle.swarm_objects.specs.Kinds.{bit}
use Rattle.swarm_objects.specs.Rows.{Has, IsBelow, RisesFrom, agent_node, has_row, on_row, row_at, sent_node, task_id}
use Rattle.swarm_objects.specs.Tasks.Words.{is_on}
use Rattle.swarm_objects.specs.World.{Tables, World}
use Rattle.swarm_objects.specs.declared.agents.NodeAgent.{NodeAgent}
use Rattle.swarm_objects.specs.declared.messages.AssignChange.TheVariants as assign
use Rattle.swarm_objects.specs.declared.messages.AssignChange.{AssignChange}
use Rattle.swarm_objects.specs.declared.messages.Assigned.{Assigned}
use Rattle.swarm_objects.specs.declared.messages.Message.{Message}
use Rattle.swarm_objects.specs.declared.messages.NodeSent.{NodeSent}
use Rattle.swarm_objects.specs.declared.tasks.Task.{Task}

-- tasks by rising number, these and those that were sent below the number
pub record InNumbers (n : ℕ) (w : World) : Type 0 where
  pub rises : RisesFrom task_id 0 w.tables.tasks
  pub below : IsBelow task_id n w.tables.tasks
  pub sent : (s : NodeSent) → Has w.sent s → IsBelow assigned_task n s.tasks

-- The world of a legal history is so.

pub rises-from : {X : Type 0} (key : X → ℕ) (low high n : ℕ) (rows : List X) → n < low → RisesBetween key low high rows →
    RisesFrom key n rows
rises-from key low high n [] under rises = tt
rises-from key low high n (x ∷ xs) under rises =
    (omega (arith, under, rises.0), rises-from key (key x + 1) high (key x) xs (omega arith) rises.2)

pub below-from : {X : Type 0} (key : X → ℕ) (n : ℕ) (rows : List X) → ((x : X) → Has rows x → key x < n) →
    IsBelow key n rows
below-from key n [] each = tt
below-from key n (x ∷ xs) each = (each x (inl refl), below-from key n xs (λ y h. each y (inr h)))

pub in-numbers : (w : World) (n : ℕ) → w.tables.next_id ≤ n → IsOrderly w → GivesOut w → InNumbers n w
in-numbers w n high orderly gives = record {
  rises = rises-from task_id 1 w.tables.next_id 0 w.tables.tasks (omega arith) orderly.tasks;
  below = below-from task_id n w.tables.tasks
      (λ x h.
      let inside = between-has task_id 1 w.tables.next_id w.tables.tasks x orderly.tasks h in
      omega (arith, inside.1, high));
  sent = λ s h.
      below-from assigned_task n s.tasks
      (λ a k. let given = gives.sent s h a k in omega (arith, given.below, high));
}

-- The next message as a count.

abbrev pub tasks_sent : Option NodeSent → List Assigned
tasks_sent None = []
tasks_sent (Some s) = s.tasks

-- the next message to the node names the task with this number
abbrev pub is_named : World → ℕ → ℕ → Bool
is_named w node k = differs (tasks_sent (sent_of w node)) k (due_of node (row_at task_id k w.tables.tasks))

length-updates : (due : List Assigned) → length (map assign.Update due) ≡ length due
length-updates [] = refl
length-updates (a ∷ rest) = omega (arith, length-updates rest)

length-with : (count : ℕ) (cs : List AssignChange) →
    on_row 0 (λ (m : Message). length m.changes) (message_with count cs) ≡ length cs
length-with count [] = refl
length-with count (c ∷ cs) = refl

next-count : (n : ℕ) (o : Option NodeSent) (due : List Assigned) → RisesFrom assigned_task 0 due →
    IsBelow assigned_task n due → ((s : NodeSent) → o ≡ Some s → IsBelow assigned_task n s.tasks) →
    on_row 0 (λ (m : Message). length m.changes) (next_message o due)
    ≡ count_below (λ k. differs (tasks_sent o) k (row_at assigned_task k due)) n
next-count n None due rises below sent =
    length-updates due ∙ sym (count-rows assigned_task 0 n due rises below)
    ∙ count-same (λ k. has_row assigned_task k due) (λ k. differs [] k (row_at assigned_task k due)) n
    (λ k. go k (row_at assigned_task k due))
  where
    go : (k : ℕ) (o : Option Assigned) → is_some o ≡ differs [] k o
    go k None = refl
    go k (Some a) = refl
next-count n (Some s) due rises below sent =
    length-with s.count (changes_of s.tasks due)
    ∙ changes-count s.tasks due n (rising_from assigned_task 0 due rises) (sent s refl) below

pub changes-named : (w : World) (node n : ℕ) → InNumbers n w → changes_due w node ≡ count_below (is_named w node) n
changes-named w node n is =
    next-count n (sent_of w node) (due_set w.tables node) (due-rises w.tables node is.rises)
    (due-below w.tables node n is.below)
    (λ s at. is.sent s (Has-from_row_at sent_node node w.sent s at).0)
    ∙ count-same _ (is_named w node) n
    (λ k. ap (differs (tasks_sent (sent_of w node)) k) (due-at w.tables node k is.rises))

-- Tasks that are touched.

-- what the nodes are to have of this task, but for its own node, is as it was
abbrev pub SameDue : Tables → Tables → (ℕ → Bool) → (ℕ → ℕ) → Type 0
SameDue t u touched home =
    (node k : ℕ) → (touched k && eqb node (home k)) ≡ false →
    due_of node (row_at task_id k u.tasks) ≡ due_of node (row_at task_id k t.tasks)

node-touched : (w v : World) (touched : ℕ → Bool) (home : ℕ → ℕ) (n node : ℕ) → InNumbers n w → InNumbers n v →
    v.sent ≡ w.sent → SameDue w.tables v.tables touched home →
    message_left v node ≤ message_left w node + 2 * count_below (λ k. touched k && eqb node (home k)) n
node-touched w v touched home n node is then sent same =
    let more = count-touched (is_named v node) (is_named w node) (λ k. touched k && eqb node (home k)) n
    (λ k away.
    ap (λ (ss : List NodeSent). differs (tasks_sent (row_at sent_node node ss)) k
    (due_of node (row_at task_id k v.tables.tasks))) sent
    ∙ ap (differs (tasks_sent (sent_of w node)) k) (same node k away)) in
    omega (
      arith,
      more,
      changes-named w node n is,
      changes-named v node n then,
      ap (λ (ss : List NodeSent). bit (is_none (row_at sent_node node ss))) sent,
    )

sum-most : {X : Type 0} (f g h : X → ℕ) (rows : List X) → ((x : X) → f x ≤ g x + 2 * h x) →
    sum_by f rows ≤ sum_by g rows + 2 * sum_by h rows
sum-most f g h [] most = omega arith
sum-most f g h (x ∷ xs) most =
    omega (arith, sum-most f g h xs most, most x, sum_by-cons f x xs, sum_by-cons g x xs, sum_by-cons h x xs)

-- all agents' nodes together are to be sent no more than they were, but for two for each task that is touched
pub messages-touched : (w v : World) (touched : ℕ → Bool) (home : ℕ → ℕ) (n : ℕ) (agents : List NodeAgent) →
    InNumbers n w → InNumbers n v → v.sent ≡ w.sent → SameDue w.tables v.tables touched home →
    RisesFrom agent_node 0 agents →
    sum_by (λ (a : NodeAgent). message_left v a.node) agents
    ≤ sum_by (λ (a : NodeAgent). message_left w a.node) agents + 2 * count_below touched n
messages-touched w v touched home n agents is then sent same rises =
    let most = sum-most (λ (a : NodeAgent). message_left v a.node) (λ (a : NodeAgent). message_left w a.node)
    (λ (a : NodeAgent). count_below (λ k. touched k && eqb a.node (home k)) n) agents
    (λ a. node-touched w v touched home n a.node is then sent same) in
    let own = count-own agent_node touched home 0 n agents rises in
    omega (arith, most, own)

-- The node that a task is on.

abbrev or_none : Option ℕ → ℕ
or_none None = 0
or_none (Some node) = node

-- the node of the task as it is, or as it was
abbrev pub home_in : Option Task → Option Task → ℕ
home_in old (Some y) = or_none y.node
home_in (Some x) None = or_none x.node
home_in None None = 0

abbrev pub home_of : Tables → Tables → ℕ → ℕ
home_of t u k = home_in (row_at task_id k t.tasks) (row_at task_id k u.tasks)

-- it isn't due elsewhere
not-due : (node : ℕ) (x : Task) → (x.node ≡ Some node → ⊥) → due_of node (Some x) ≡ None
not-due node x away = go (is_assigned_on node x) refl
  where
    go : (b : Bool) → is_assigned_on node x ≡ b → cond b (Some (assigned x)) None ≡ None
    go true e = absurd (away (on-is x.node node (second_so _ (is_on node x) e)))
    go false e = refl

abbrev MovesIf : Option Task → Option Task → Type 0
MovesIf old new = (x y : Task) → old ≡ Some x → new ≡ Some y → KeepsNode x.node y.node

elsewhere : (node : ℕ) (o p : Option Task) → MovesIf o p → eqb node (home_in o p) ≡ false →
    (due_of node o ≡ None) × (due_of node p ≡ None)
elsewhere node None None moves away = (refl, refl)
elsewhere node (Some x) None moves away = (not-due node x (λ on. apart on), refl)
  where
    apart : x.node ≡ Some node → ⊥
    apart on =
        let is : or_none x.node ≡ node = ap or_none on in
        absurd (let wrong : eqb node (or_none x.node) ≡ true = grind (arith, nat_tests, is) in never-both _ away wrong)
elsewhere node None (Some y) moves away = (refl, not-due node y (λ on. apart on))
  where
    apart : y.node ≡ Some node → ⊥
    apart on =
        let is : or_none y.node ≡ node = ap or_none on in
        absurd (let wrong : eqb node (or_none y.node) ≡ true = grind (arith, nat_tests, is) in never-both _ away wrong)
elsewhere node (Some x) (Some y) moves away =
    (not-due node x (λ on. apart (kept (moves x y refl refl) on)), not-due node y (λ on. apart on))
  where
    kept : {o : Option ℕ} → KeepsNode o y.node → o ≡ Some node → y.node ≡ Some node
    kept {o = None} keeps on = absurd cc
    kept {o = Some m} keeps on = keeps ∙ on

    apart : y.node ≡ Some node → ⊥
    apart on =
        let is : or_none y.node ≡ node = ap or_none on in
        absurd (let wrong : eqb node (or_none y.node) ≡ true = grind (arith, nat_tests, is) in never-both _ away wrong)

-- a step of tables touches each task on one node at most
pub same-due : (w : World) (u : Tables) (touched : ℕ → Bool) → IsOrderly w → TablesMove w.tables u →
    ((node k : ℕ) → touched k ≡ false →
    due_of node (row_at task_id k u.tasks) ≡ due_of node (row_at task_id k w.tables.tasks)) →
    SameDue w.tables u touched (home_of w.tables u)
same-due w u touched orderly moves same node k away = go (touched k) refl away
  where
    o : Option Task
    o = row_at task_id k w.tables.tasks

    p : Option Task
    p = row_at task_id k u.tasks

    its : MovesIf o p
    its x y old new =
        let was = Has-from_row_at task_id k w.tables.tasks x old in
        let is = Has-from_row_at task_id k u.tasks y new in
        from x y was.0 (was.1 ∙ sym is.1)
        (becomes-cases TaskMoves moves.tasks.more w.tables.tasks u.tasks moves.tasks.rows y is.0)
      where
        from : (x y : Task) → Has w.tables.tasks x → x.id ≡ y.id →
            ((z : Task) × Has w.tables.tasks z × TaskMoves z y) ⊎ Has moves.tasks.more y → KeepsNode x.node y.node
        from x y there id (inl r) =
            let one = between-one task_id 1 w.tables.next_id w.tables.tasks r.0 x orderly.tasks r.1 there
            (sym r.2.id ∙ sym id) in
            subst (λ (z : Task). KeepsNode z.node y.node) one r.2.rises.node
        from x y there id (inr fresh) =
            let old = between-has task_id 1 w.tables.next_id w.tables.tasks x orderly.tasks there in
            let new = between-has task_id w.tables.next_id u.next_id moves.tasks.more y moves.tasks.fresh fresh in
            absurd (omega (arith, old.1, new.0, id))

    go : (b : Bool) → touched k ≡ b → (b && eqb node (home_of w.tables u k)) ≡ false → due_of node p ≡ due_of node o
    go true e apart = let both = elsewhere node o p its apart in both.1 ∙ sym both.0
    go false e apart = same node k e

-- a task that keeps what it is sent with is due as it was
pub due-kept : (node : ℕ) (x y : Task) → y.id ≡ x.id → y.desired ≡ x.desired → y.template ≡ x.template →
    is_assigned_on node y ≡ is_assigned_on node x → due_of node (Some y) ≡ due_of node (Some x)
due-kept node x y id desired template on =
    ap (λ (b : Bool). cond b (Some (assigned y)) None) on
    ∙ ap (λ (a : Assigned). cond (is_assigned_on node x) (Some a) None) same
  where
    same : assigned y ≡ assigned x
    same = cc
