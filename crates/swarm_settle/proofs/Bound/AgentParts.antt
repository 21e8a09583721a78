-- What agents have before them depends on their executors, on what was sent, on what is due, and on which rows are there.
use Rattle.std.proofs.Common.{Bool, List, None, Option, Some, ap, arith, false, length, refl, true, ℕ, ◌+◌, ◌*◌, ◌∙◌, ◌≡◌, ◌≤◌}
use Rattle.std.specs.Prelude.{count_by, is_none, not, sum_by}
use Rattle.swarm_settle.proofs.Bound.Sums.{count-le, sum-le}
use Rattle.swarm_settle.specs.Bound.Left.{agent_left, brings, executes, inbox_left, message_left}
use Rattle.swarm_objects.proofs.Tests.{both, first_so, never-both, second_so}
use Rattle.swarm_objects.specs.Agents.Messages.{due_set, next_message, sent_of}
use Rattle.swarm_objects.specs.Kinds.{bit}
use Rattle.swarm_objects.specs.Rows.{has_row, on_row, row_at, sent_node, task_id}
use Rattle.swarm_objects.specs.World.{World}
use Rattle.swarm_objects.specs.declared.agents.NodeAgent.{NodeAgent}
use Rattle.swarm_objects.specs.declared.messages.AssignChange.TheVariants as assign
use Rattle.swarm_objects.specs.declared.messages.AssignChange.{AssignChange}
use Rattle.swarm_objects.specs.declared.messages.Assigned.{Assigned}
use Rattle.swarm_objects.specs.declared.messages.Message.{Message}
use Rattle.swarm_objects.specs.declared.messages.NodeSent.{NodeSent}

-- each row that was there is there
abbrev pub RowsStay : World → World → Type 0
RowsStay w v = (id : ℕ) → has_row task_id id w.tables.tasks ≡ true → has_row task_id id v.tables.tasks ≡ true

-- what was sent is as it was, and so is what is due on each node
pub record SameMessages (w v : World) : Type 0 where
  pub sent : v.sent ≡ w.sent
  pub due : (node : ℕ) → due_set v.tables node ≡ due_set w.tables node

abbrev left_by : Option NodeSent → List Assigned → ℕ
left_by sent due =
    2 * on_row 0 (λ (m : Message). length m.changes) (next_message sent due) + 2 * bit (is_none sent)

pub message-same : (w v : World) → SameMessages w v → (node : ℕ) → message_left v node ≡ message_left w node
message-same w v same node =
    ap (λ (d : List Assigned). left_by (sent_of v node) d) (same.due node)
    ∙ ap (λ (s : List NodeSent). left_by (row_at sent_node node s) (due_set w.tables node)) same.sent

not-up : (a b : Bool) → (a ≡ true → b ≡ true) → not b ≡ true → not a ≡ true
not-up true b up e = absurd (never-both (not b) (ap not (up refl)) e)
not-up false b up e = refl

brings-up : (w v : World) (a b : NodeAgent) → RowsStay w v →
    ((task : ℕ) → executes task a ≡ true → executes task b ≡ true) → (c : AssignChange) → brings v b c ≡ true →
    brings w a c ≡ true
brings-up w v a b stay keeps (assign.Update i) e =
    let row = has_row task_id i.task v.tables.tasks in
    both (not (has_row task_id i.task w.tables.tasks)) _
    (not-up _ row (stay i.task) (first_so (not row) (not (executes i.task b)) e))
    (not-up _ (executes i.task b) (keeps i.task) (second_so (not row) (not (executes i.task b)) e))
brings-up w v a b stay keeps (assign.Remove task) e = absurd cc

-- where no row and no executor goes, an inbox has no more before it
pub inbox-stays : (w v : World) (a b : NodeAgent) → RowsStay w v → b.inbox ≡ a.inbox →
    ((task : ℕ) → executes task a ≡ true → executes task b ≡ true) → inbox_left v b ≤ inbox_left w a
inbox-stays w v a b stay same keeps =
    omega (
      arith,
      ap (λ (o : Option Message). on_row 0 (λ (m : Message). 1 + 14 * count_by (brings v b) m.changes) o) same,
      go a.inbox,
    )
  where
    go : (o : Option Message) →
        on_row 0 (λ (m : Message). 1 + 14 * count_by (brings v b) m.changes) o
        ≤ on_row 0 (λ (m : Message). 1 + 14 * count_by (brings w a) m.changes) o
    go None = omega arith
    go (Some m) =
        let few : count_by (brings v b) m.changes ≤ count_by (brings w a) m.changes =
        count-le (brings v b) (brings w a) m.changes (λ c h e. brings-up w v a b stay keeps c e) in
        omega (arith, few)

pub agent-stays : (w v : World) → SameMessages w v → RowsStay w v → (a : NodeAgent) → agent_left v a ≤ agent_left w a
agent-stays w v same stay a =
    omega (arith, message-same w v same a.node, inbox-stays w v a a stay refl (λ task e. e))

pub agents-stay : (w v : World) → v.agents ≡ w.agents → SameMessages w v → RowsStay w v →
    sum_by (agent_left v) v.agents ≤ sum_by (agent_left w) w.agents
agents-stay w v agents same stay =
    omega (
      arith,
      ap (λ (xs : List NodeAgent). sum_by (agent_left v) xs) agents,
      sum-le (agent_left v) (agent_left w) w.agents (λ a h. agent-stays w v same stay a),
    )
