-- What a pull and a new session make of all that the nodes are still to be sent.
use Rattle.std.proofs.Common.{Bool, List, None, Option, Some, [], ap, arith, cond, count_by, eqb, false, length, not, refl, sym, true, ℕ, ◌*◌, ◌+◌, ◌∙◌, ◌∷◌, ◌≡◌, ◌≤◌}
use Rattle.std.proofs.lemmas.Bool.Decides.{nat_tests}
use Rattle.std.proofs.lemmas.List.Sums.{length-filter}
use Rattle.std.specs.Prelude.{filter, is_none, is_some, map, ◌&&◌}
use Rattle.swarm_settle.proofs.Bound.Sending.Differing.{differs}
use Rattle.swarm_settle.proofs.Bound.Sending.DueRows.{due-at, due_of}
use Rattle.swarm_settle.proofs.Bound.Sending.Left.{row_at-left_other, row_at-left_same}
use Rattle.swarm_settle.proofs.Bound.Sending.Numbers.{count-none}
use Rattle.swarm_settle.proofs.Bound.Sending.Worlds.{InNumbers, changes-named, in-numbers, is_named, tasks_sent}
use Rattle.swarm_settle.specs.Bound.Left.{changes_due, message_left}
use Rattle.swarm_model.proofs.Laws.GivesOut.{GivesOut}
use Rattle.swarm_model.proofs.Moves.Worlds.{IsOrderly, Moves, orderly-moves}
use Rattle.swarm_objects.proofs.RowChanges.{row_at-with_row}
use Rattle.swarm_objects.proofs.RowLemmas.{Has-from_row_at}
use Rattle.swarm_objects.proofs.SameLemmas.{Decides-same_workload}
use Rattle.swarm_objects.proofs.Tests.{both, has-any}
use Rattle.swarm_objects.specs.Agents.Messages.{assigned, assigned_task, changes_of, due_set, is_assigned_on, message_for, message_with, next_message, same_assigned, sent_of}
use Rattle.swarm_objects.specs.Kinds.{bit}
use Rattle.swarm_objects.specs.Loops.Agents.{after_pull, after_register}
use Rattle.swarm_objects.specs.Rows.{on_row, row_at, sent_node, task_id}
use Rattle.swarm_objects.specs.Same.{same_workload}
use Rattle.swarm_objects.specs.Values.Ranks.{desired_rank}
use Rattle.swarm_objects.specs.World.{World}
use Rattle.swarm_objects.specs.declared.messages.AssignChange.TheVariants as assign
use Rattle.swarm_objects.specs.declared.messages.AssignChange.{AssignChange}
use Rattle.swarm_objects.specs.declared.messages.Assigned.{Assigned}
use Rattle.swarm_objects.specs.declared.messages.Message.{Message}
use Rattle.swarm_objects.specs.declared.messages.NodeSent.{NodeSent}
use Rattle.swarm_objects.specs.declared.tasks.Task.{Task}

-- the parts of a node's count
abbrev left_by : Option NodeSent → List Assigned → ℕ
left_by sent due =
    2 * on_row 0 (λ (m : Message). length m.changes) (next_message sent due) + 2 * bit (is_none sent)

-- where a message is there, something is left
some-left : (sent : Option NodeSent) (due : List Assigned) (m : Message) → next_message sent due ≡ Some m →
    2 ≤ left_by sent due
some-left None due m e = omega arith
some-left (Some s) due m e = go (changes_of s.tasks due) e
  where
    go : (cs : List AssignChange) → message_with s.count cs ≡ Some m →
        2 ≤ 2 * on_row 0 (λ (m : Message). length m.changes) (message_with s.count cs) + 2 * bit false
    go [] e = absurd cc
    go (c ∷ cs) e = omega arith

-- an item that is due was sent, once all that is due was
same-self : (a : Assigned) → same_assigned a a ≡ true
same-self a =
    both (eqb a.task a.task && eqb (desired_rank a.desired) (desired_rank a.desired)) (same_workload a.workload a.workload)
    (both (eqb a.task a.task) (eqb (desired_rank a.desired) (desired_rank a.desired))
    (grind (arith, nat_tests)) (grind (arith, nat_tests)))
    ((Decides-same_workload a.workload a.workload).1 refl)

none-differs : (due : List Assigned) (k : ℕ) → differs due k (row_at assigned_task k due) ≡ false
none-differs due k = go (row_at assigned_task k due) refl
  where
    go : (o : Option Assigned) → row_at assigned_task k due ≡ o → differs due k o ≡ false
    go None at = ap is_some at
    go (Some a) at =
        ap not (has-any (same_assigned a) due a (Has-from_row_at assigned_task k due a at).0 (same-self a))

-- Pulling: the node is to be sent nothing more, and the others what they were.

pub pulled-own : (w : World) (n : ℕ) (m : Message) → IsOrderly w → GivesOut w → Moves w (after_pull w n (Some m)) →
    GivesOut (after_pull w n (Some m)) → message_for w n ≡ Some m →
    message_left (after_pull w n (Some m)) n + 2 ≤ message_left w n
pulled-own w n m orderly gives moves given e =
    let some = some-left (sent_of w n) (due_set w.tables n) m e in
    omega (arith, some, nothing, ap (λ (o : Option NodeSent). bit (is_none o)) sent)
  where
    v : World
    v = after_pull w n (Some m)

    new : NodeSent
    new = record { node = n; count = m.results_in; tasks = due_set w.tables n }

    same : eqb n n ≡ true
    same = grind (arith, nat_tests)

    sent : sent_of v n ≡ Some new
    sent =
        row_at-with_row sent_node n new w.sent
        ∙ ap (λ (b : Bool). cond b (Some new) (row_at sent_node n w.sent)) same

    is : InNumbers v.tables.next_id v
    is = in-numbers v v.tables.next_id (omega arith) (orderly-moves w v orderly moves) given

    nothing : changes_due v n ≡ 0
    nothing =
        changes-named v n v.tables.next_id is
        ∙ count-none (is_named v n) v.tables.next_id
        (λ k.
        ap (λ (o : Option NodeSent). differs (tasks_sent o) k (due_of n (row_at task_id k w.tables.tasks))) sent
        ∙ ap (differs (due_set w.tables n) k) (sym (due-at w.tables n k is.rises)) ∙ none-differs (due_set w.tables n) k)

pub pulled-other : (w : World) (n k : ℕ) (m : Message) → eqb n k ≡ false →
    message_left (after_pull w n (Some m)) k ≡ message_left w k
pulled-other w n k m away =
    ap (λ (o : Option NodeSent). left_by o (due_set w.tables k))
    (row_at-with_row sent_node k new w.sent
    ∙ ap (λ (b : Bool). cond b (Some new) (row_at sent_node k w.sent)) away)
  where
    new : NodeSent
    new = record { node = n; count = m.results_in; tasks = due_set w.tables n }

-- A session that begins: all that is due is to be sent.

length-updates : (due : List Assigned) → length (map assign.Update due) ≡ length due
length-updates [] = refl
length-updates (a ∷ rest) = omega (arith, length-updates rest)

length-assigned : (xs : List Task) → length (map assigned xs) ≡ length xs
length-assigned [] = refl
length-assigned (x ∷ xs) = omega (arith, length-assigned xs)

pub begun-own : (version : ℕ) (w : World) (n : ℕ) →
    message_left (after_register version w n) n ≡ 2 * count_by (is_assigned_on n) w.tables.tasks + 2
begun-own version w n =
    let left = ap (λ (o : Option NodeSent). left_by o (due_set w.tables n)) (row_at-left_same sent_node n w.sent) in
    omega (arith, left, length-updates (due_set w.tables n), long)
  where
    long : length (due_set w.tables n) ≡ count_by (is_assigned_on n) w.tables.tasks
    long =
        length-assigned (filter (is_assigned_on n) w.tables.tasks) ∙ length-filter (is_assigned_on n) w.tables.tasks

pub begun-other : (version : ℕ) (w : World) (n k : ℕ) → eqb k n ≡ false →
    message_left (after_register version w n) k ≡ message_left w k
begun-other version w n k away =
    ap (λ (o : Option NodeSent). left_by o (due_set w.tables k)) (row_at-left_other sent_node n k w.sent away)
