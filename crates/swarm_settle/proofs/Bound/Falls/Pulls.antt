-- A pull makes the measure smaller: the node is to be sent nothing more, and what waits brings no executor of itself.
use Rattle.std.proofs.Common.{Bool, List, None, Option, Some, [], ap, arith, cond, count_by, eqb, false, inl, inr, not, refl, subst, sym, true, ℕ, ◌*◌, ◌+◌, ◌∙◌, ◌∷◌, ◌≡◌, ◌≤◌}
use Rattle.std.proofs.lemmas.Bool.Decides.{nat_tests}
use Rattle.std.proofs.lemmas.List.Sums.{sum_by-cons}
use Rattle.std.specs.Prelude.{filter, ◌&&◌}
use Rattle.swarm_settle.proofs.Bound.Falls.Rows.{and-changed}
use Rattle.swarm_settle.proofs.Bound.Messages.Work.{update-due}
use Rattle.swarm_settle.proofs.Bound.Sending.Pulls.{pulled-other, pulled-own}
use Rattle.swarm_settle.proofs.Bound.Sums.{row-falls, sum-le}
use Rattle.swarm_settle.specs.Bound.Left.{agent_left, brings, executes, has_executor, inbox_left, message_left, task_left}
use Rattle.swarm_settle.specs.Bound.Measure.{measure}
use Rattle.swarm_model.proofs.Base.IsDuty.{IsDuty}
use Rattle.swarm_model.proofs.Laws.GivesOut.{GivesOut}
use Rattle.swarm_model.proofs.Moves.Rows.{between-one, has_row-Has}
use Rattle.swarm_model.proofs.Moves.Worlds.{IsOrderly, Moves}
use Rattle.swarm_objects.proofs.RowLemmas.{Has-filter_cases, Has-map_cases}
use Rattle.swarm_objects.specs.Agents.Messages.{assigned, due_set, is_assigned_on, message_for, sent_of}
use Rattle.swarm_objects.specs.Kinds.{bit}
use Rattle.swarm_objects.specs.Loops.Agents.{after_pull, received}
use Rattle.swarm_objects.specs.Rows.{Has, agent_node, has_row, is_row_and, is_some_and, on_row, task_id}
use Rattle.swarm_objects.specs.World.{World}
use Rattle.swarm_objects.specs.declared.agents.NodeAgent.{NodeAgent}
use Rattle.swarm_objects.specs.declared.duties.Duty.TheVariants as duty
use Rattle.swarm_objects.specs.declared.messages.AssignChange.TheVariants as assign
use Rattle.swarm_objects.specs.declared.messages.AssignChange.{AssignChange}
use Rattle.swarm_objects.specs.declared.messages.Message.{Message}
use Rattle.swarm_objects.specs.declared.tasks.Task.{Task}

count-no : {X : Type 0} (test : X → Bool) (xs : List X) → ((x : X) → Has xs x → test x ≡ false) → count_by test xs ≡ 0
count-no test [] none = refl
count-no test (x ∷ xs) none =
    omega (
      arith,
      sum_by-cons (λ y. cond {A = ℕ} (test y) 1 0) x xs,
      ap (λ (b : Bool). cond {A = ℕ} b 1 0) (none x (inl refl)),
      count-no test xs (λ y h. none y (inr h)),
    )

-- what the next message updates has a row
pub update-row : (w : World) (n : ℕ) (m : Message) (a : NodeAgent) (c : AssignChange) → message_for w n ≡ Some m →
    Has m.changes c → brings w a c ≡ false
update-row w n m a (assign.Remove task) e h = refl
update-row w n m a (assign.Update i) e h =
    let due = update-due (sent_of w n) (due_set w.tables n) m i e h in
    let from = Has-map_cases assigned (filter (is_assigned_on n) w.tables.tasks) i due in
    let x = Has-filter_cases (is_assigned_on n) w.tables.tasks from.0 from.1 in
    let there : has_row task_id i.task w.tables.tasks ≡ true =
    has_row-Has task_id w.tables.tasks from.0 i.task x.0 (ap (λ (z : _). z.task) from.2) in
    ap (λ (b : Bool). not b && not (executes i.task a)) there

received-executes : (w : World) (n : ℕ) (m : Message) (x : Task) →
    has_executor (after_pull w n (Some m)) x ≡ has_executor w x
received-executes w n m x = go x.node
  where
    go : (o : Option ℕ) →
        is_some_and (is_row_and agent_node (executes x.id) (after_pull w n (Some m)).agents) o
        ≡ is_some_and (is_row_and agent_node (executes x.id) w.agents) o
    go None = refl
    go (Some k) =
        and-changed agent_node (executes x.id) (received m) w.agents n k (λ a. refl) (λ a. refl)

pub falls-pull : (m : ℕ) (w : World) (n : ℕ) (message : Message) → IsOrderly w → GivesOut w →
    Moves w (after_pull w n (Some message)) → GivesOut (after_pull w n (Some message)) → IsDuty w (duty.Pull n) →
    message_for w n ≡ Some message → measure m (after_pull w n (Some message)) + 1 ≤ measure m w
falls-pull m w n message orderly gives moves given of e =
    let tasks = sum-le (task_left v) (task_left w) w.tables.tasks
    (λ x h. omega (arith, ap (λ (b : Bool). bit (not b)) (received-executes w n message x))) in
    let agents = row-falls agent_node n (agent_left v) (agent_left w) (received message) 1 w.agents of.row of.there
    of.id_is (one of.row of.there of.id_is) (λ a h same. let fall = one a h same in omega (arith, fall))
    (λ a h. stays a (eqb n a.node) refl) in
    omega (arith, tasks, agents)
  where
    v : World
    v = after_pull w n (Some message)

    own : message_left v n + 2 ≤ message_left w n
    own = pulled-own w n message orderly gives moves given e

    empty : (a : NodeAgent) → Has w.agents a → a.node ≡ n → a.inbox ≡ None
    empty a h same =
        let is = between-one agent_node 1 w.tables.next_id w.agents of.row a orderly.agents of.there h
        (of.id_is ∙ sym same) in
        subst (λ (b : NodeAgent). ◌≡◌ {A = Option Message} b.inbox None) is of.fact.1.1.0

    one : (a : NodeAgent) → Has w.agents a → a.node ≡ n → agent_left v (received message a) + 1 ≤ agent_left w a
    one a h same =
        let none = count-no (brings v (received message a)) message.changes
        (λ c k. update-row w n message (received message a) c e k) in
        let before = ap (λ (o : Option Message). on_row 0
        (λ (z : Message). 1 + 14 * count_by (brings w a) z.changes) o) (empty a h same) in
        let left = subst (λ (k : ℕ). message_left v k + 2 ≤ message_left w k) (sym same) own in
        omega (arith, none, before, left)

    inbox : (a : NodeAgent) → inbox_left v a ≡ inbox_left w a
    inbox a = refl

    stays : (a : NodeAgent) (b : Bool) → eqb n a.node ≡ b → agent_left v a ≤ agent_left w a
    stays a true q =
        let same : n ≡ a.node = grind (arith, nat_tests, q) in
        let left = subst (λ (k : ℕ). message_left v k + 2 ≤ message_left w k) same own in
        omega (arith, left, inbox a)
    stays a false q = omega (arith, pulled-other w n a.node message q, inbox a)
