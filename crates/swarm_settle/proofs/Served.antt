-- Where nothing is to be sent or reported, tasks of a node and executors of its agent are one for one.
use Rattle.std.proofs.Common.{Bool, List, None, Option, Some, [], ap, arith, cond, eqb, false, not, refl, subst, sym, true, ℕ, ◌∙◌, ◌∷◌, ◌≡◌, ◌≤◌}
use Rattle.std.proofs.lemmas.Bool.Decides.{nat_tests}
use Rattle.std.specs.Option.{option_map}
use Rattle.std.specs.Prelude.{⊤}
use Rattle.std.specs.Prelude.{filter, is_some, nat_le, ◌&&◌, ◌||◌}
use Rattle.swarm_settle.proofs.Ahead.{ahead-replay}
use Rattle.swarm_objects.proofs.Aims.{aim}
use Rattle.swarm_settle.proofs.Aims.{aim_at, is_kept}
use Rattle.swarm_objects.proofs.Hearing.{keys-has, rows-left, update-row}
use Rattle.swarm_settle.proofs.InStep.{InStep}
use Rattle.swarm_objects.proofs.Aims.{same-aim}
use Rattle.swarm_settle.proofs.Known.{Known, known-replay}
use Rattle.swarm_settle.proofs.QuietAgents.{quiet-agents}
use Rattle.swarm_settle.proofs.SentLaws.{with-aim}
use Rattle.swarm_settle.proofs.ShapeDuties.{found}
use Rattle.swarm_settle.proofs.Together.{any-rising, due-rising, is-due-there}
use Rattle.swarm_settle.proofs.TogetherCalls.{together-replay}
use Rattle.swarm_settle.specs.Agents.{AreAhead, IsAhead, IsQuietAgent}
use Rattle.swarm_settle.specs.Served.{IsExecutorOf, IsOnNode, ServedLaw}
use Rattle.swarm_model.proofs.Moves.Rows.{has_row-Has}
use Rattle.swarm_model.proofs.Laws.GivesOut.{on-is}
use Rattle.swarm_model.specs.History.{IsLegal, replay}
use Rattle.swarm_objects.proofs.Empty.{flat_map_empty}
use Rattle.swarm_objects.proofs.RowLemmas.{Has-filter_cases, Has-from_row_at, Has-map_cases, row_at-Some}
use Rattle.swarm_objects.proofs.Tests.{any-has, first_so, not_from_false, or_left, or_right, second_so}
use Rattle.swarm_objects.specs.Agents.Messages.{assigned, assigned_task, change_of, changes_of, due_set, is_assigned_on, is_sent, message_with, next_message, same_assigned, sent_of, tasks_of_either, update_of}
use Rattle.swarm_objects.specs.Loops.Agents.{is_news, wants_report}
use Rattle.swarm_objects.specs.Rows.{Has, IsRising, RisesFrom, agent_node, executor_task, has_row, on_row, row_at, task_id}
use Rattle.swarm_objects.specs.Tasks.Words.{is_on}
use Rattle.swarm_objects.specs.Values.Ranks.{rank}
use Rattle.swarm_objects.specs.World.{World}
use Rattle.swarm_objects.specs.declared.agents.Executor.{Executor}
use Rattle.swarm_objects.specs.declared.agents.NodeAgent.{NodeAgent}
use Rattle.swarm_objects.specs.declared.messages.AssignChange.TheVariants as assign
use Rattle.swarm_objects.specs.declared.calls.Entry.{Entry}
use Rattle.swarm_objects.specs.declared.messages.AssignChange.{AssignChange}
use Rattle.swarm_objects.specs.declared.messages.Assigned.{Assigned}
use Rattle.swarm_objects.specs.declared.messages.Message.{Message}
use Rattle.swarm_objects.specs.declared.messages.NodeSent.{NodeSent}
use Rattle.swarm_objects.specs.declared.nodes.Node.{Node}
use Rattle.swarm_objects.specs.declared.tasks.Task.{Task}
use Rattle.swarm_objects.specs.declared.tasks.TaskState.TheVariants as state
use Rattle.swarm_objects.specs.declared.tasks.TaskState.{TaskState}

-- No message: what was sent is due.

pub record IsAllSent (s : NodeSent) (due : List Assigned) : Type 0 where
  pub are_sent : (i : Assigned) → Has due i → is_sent s.tasks i ≡ true
  pub are_due : (x : ℕ) → has_row assigned_task x s.tasks ≡ true → has_row assigned_task x due ≡ true

none-sent-first : (m : Option NodeSent) (due : List Assigned) → next_message m due ≡ None →
    (s : NodeSent) × (m ≡ Some s) × (changes_of s.tasks due ≡ [])
none-sent-first None due e = absurd cc
none-sent-first (Some s) due e = (s, refl, go (changes_of s.tasks due) refl e)
  where
    go : (cs : List AssignChange) → changes_of s.tasks due ≡ cs → message_with s.count cs ≡ None → cs ≡ []
    go [] at k = refl
    go (c ∷ cs) at k = absurd cc

-- no change for the task
unchanged : (sent due : List Assigned) → changes_of sent due ≡ [] → (x : ℕ) →
    (has_row assigned_task x sent || has_row assigned_task x due) ≡ true → change_of sent due x ≡ []
unchanged sent due none x there =
    let key = any-has (λ k. eqb k x) (tasks_of_either sent due) (keys-has x sent due ∙ there) in
    let is : key.0 ≡ x = (let e = key.2 in grind (arith, nat_tests, e)) in
    subst (λ (k : ℕ). change_of sent due k ≡ []) is
    (flat_map_empty (change_of sent due) (tasks_of_either sent due) key.0 none key.1)

-- a task without a change is due
still-due : (sent due : List Assigned) (x : ℕ) → change_of sent due x ≡ [] → has_row assigned_task x due ≡ true
still-due sent due x none = go (has_row assigned_task x due) none
  where
    go : (b : Bool) →
        cond (not b) (assign.Remove x ∷ []) (update_of (filter (λ a. not (is_sent sent a)) due) x) ≡ [] → b ≡ true
    go true k = refl
    go false k = absurd cc

-- and was sent so
still-sent : (sent due : List Assigned) (i : Assigned) → IsRising assigned_task due →
    row_at assigned_task i.task due ≡ Some i → change_of sent due i.task ≡ [] → is_sent sent i ≡ true
still-sent sent due i rises at none = go (is_sent sent i) refl
  where
    left : List Assigned
    left = filter (λ a. not (is_sent sent a)) due

    no-update : update_of left i.task ≡ []
    no-update =
        ap (λ (b : Bool). cond (not b) (assign.Remove i.task ∷ []) (update_of left i.task))
        (sym (ap (λ (o : Option Assigned). is_some o) at)) ∙ none

    row : row_at assigned_task i.task left ≡ cond (not (is_sent sent i)) (Some i) None
    row =
        rows-left (λ a. not (is_sent sent a)) i.task due rises
        ∙ ap (λ (o : Option Assigned). on_row None (λ (a : Assigned). cond (not (is_sent sent a)) (Some a) None) o) at

    go : (b : Bool) → is_sent sent i ≡ b → is_sent sent i ≡ true
    go true e = e
    go false e =
        let here : row_at assigned_task i.task left ≡ Some i =
        row ∙ ap (λ (b : Bool). cond (not b) (Some i) None) e in
        let some : assign.Update i ∷ [] ≡ [] =
        sym (ap (λ (o : Option Assigned). on_row [] (λ (a : Assigned). assign.Update a ∷ []) o) here)
        ∙ sym (update-row i.task left) ∙ no-update in
        absurd cc

all-sent : (s : NodeSent) (due : List Assigned) → RisesFrom assigned_task 0 due → changes_of s.tasks due ≡ [] →
    IsAllSent s due
all-sent s due rises none = record {
  are_sent = λ i h.
      let at = row_at-Some assigned_task 0 due i rises h in
      still-sent s.tasks due i (any-rising 0 due rises) at
      (unchanged s.tasks due none i.task
      (or_right (has_row assigned_task i.task s.tasks) (has_row assigned_task i.task due)
      (ap (λ (o : Option Assigned). is_some o) at)));
  are_due = λ x there.
      still-due s.tasks due x
      (unchanged s.tasks due none x (or_left (has_row assigned_task x s.tasks) (has_row assigned_task x due) there));
}

-- Reports.

-- what isn't news was reported
not-news : (s : TaskState) (o : Option TaskState) → is_news s o ≡ false →
    (r : TaskState) × (o ≡ Some r) × (rank s ≤ rank r)
not-news s None e = absurd cc
not-news s (Some r) e = (r, refl, grind (arith, nat_tests, e))

first-two : (a b c : Bool) → a ≡ true → b ≡ true → (a && b && c) ≡ false → c ≡ false
first-two true true c e f g = g
first-two true false c e f g = absurd cc
first-two false b c e f g = absurd cc

no-further : (w : World) (e : Executor) (x : Task) → IsAhead w.tables e → wants_report w.tables e ≡ false →
    e.gone ≡ false → Has w.tables.tasks x → x.id ≡ e.task → rank e.state ≤ rank x.state
no-further w e x ahead quiet alive h same =
    let there : has_row task_id e.task w.tables.tasks ≡ true = has_row-Has task_id w.tables.tasks x e.task h same in
    let told = not-news e.state e.reported
    (first-two (not e.gone) (has_row task_id e.task w.tables.tasks) (is_news e.state e.reported)
    (not_from_false e.gone alive) there quiet) in
    let up = (ahead.reported told.0 told.1).1 x h same in
    omega (arith, told.2, up)

-- One for one.

-- what a quiet agent and what was sent to it have
record IsAgreed (w : World) (n : Node) (a : NodeAgent) (s : NodeSent) : Type 0 where
  pub known : Known w
  pub home : Has w.agents a
  pub quiet : IsQuietAgent w a
  pub step : InStep w.tables (Some s) None (aim_at a.executors)
  pub ahead : AreAhead w
  pub all : IsAllSent s (due_set w.tables n.id)

wanted : (w : World) (n : Node) (a : NodeAgent) (s : NodeSent) → IsAgreed w n a s → (x : Task) →
    Has w.tables.tasks x → IsOnNode n x →
    (e : Executor) × (row_at executor_task x.id a.executors ≡ Some e) × (e.desired ≡ x.desired) × (e.gone ≡ false)
wanted w n a s is x h on =
    let sent = is.all.are_sent (assigned x) (is-due-there w.tables n.id x h on.node on.assigned) in
    let item = any-has (same_assigned (assigned x)) s.tasks sent in
    let same = same-aim (assigned x) item.0 item.2 in
    let aimed : aim_at a.executors x.id ≡ Some (item.0.desired, false) =
    subst (λ (k : ℕ). aim_at a.executors k ≡ Some (item.0.desired, false)) same.0
    (is.step.items s item.0 refl item.1) in
    let e = with-aim (row_at executor_task x.id a.executors) item.0.desired aimed in
    (e.0, e.1, e.2 ∙ same.1, e.3)

serve : (w : World) (n : Node) (a : NodeAgent) (s : NodeSent) → IsAgreed w n a s → (x : Task) →
    Has w.tables.tasks x → IsOnNode n x →
    (e : Executor) × (row_at executor_task x.id a.executors ≡ Some e) × IsExecutorOf e x
serve w n a s is x h on =
    let e = wanted w n a s is x h on in
    let row = Has-from_row_at executor_task x.id a.executors e.0 e.1 in (
      e.0,
      e.1,
      record {
        gone = e.3;
        desired = e.2;
        state = no-further w e.0 x (is.ahead a is.home e.0 row.0) (is.quiet.reports e.0 row.0) e.3 h (sym row.1);
      },
    )

some-row : (key : ℕ) (rows : List Assigned) → has_row assigned_task key rows ≡ true →
    (i : Assigned) × (row_at assigned_task key rows ≡ Some i)
some-row key rows there = go (row_at assigned_task key rows) there
  where
    go : (o : Option Assigned) → is_some o ≡ true → (i : Assigned) × (o ≡ Some i)
    go None k = absurd cc
    go (Some i) k = (i, refl)

-- a number that is due is a task's on the node
due-task : (w : World) (n : Node) (k : ℕ) → has_row assigned_task k (due_set w.tables n.id) ≡ true →
    (x : Task) × Has w.tables.tasks x × (x.id ≡ k) × IsOnNode n x
due-task w n k due =
    let i = some-row k (due_set w.tables n.id) due in
    let row = Has-from_row_at assigned_task k (due_set w.tables n.id) i.0 i.1 in
    let from = Has-map_cases assigned (filter (is_assigned_on n.id) w.tables.tasks) i.0 row.0 in
    let x = Has-filter_cases (is_assigned_on n.id) w.tables.tasks from.0 from.1 in
    let up = first_so (nat_le (rank state.Assigned) (rank from.0.state)) (is_on n.id from.0) x.1 in
    let there = second_so (nat_le (rank state.Assigned) (rank from.0.state)) (is_on n.id from.0) x.1 in (
      from.0,
      x.0,
      ap assigned_task from.2 ∙ row.1,
      record { node = on-is from.0.node n.id there; assigned = grind (arith, nat_tests, up) },
    )

-- an executor that isn't gone is of a number that is due
due-number : (w : World) (n : Node) (a : NodeAgent) (s : NodeSent) → IsAgreed w n a s → (e : Executor) →
    row_at executor_task e.task a.executors ≡ Some e → e.gone ≡ false →
    has_row assigned_task e.task (due_set w.tables n.id) ≡ true
due-number w n a s is e here alive =
    is.all.are_due e.task
    (is.step.others s e.task refl
    (subst (λ (o : Option Executor). is_kept (option_map aim o) ≡ true) (sym here) (not_from_false e.gone alive)))

back : (w : World) (n : Node) (a : NodeAgent) (s : NodeSent) → IsAgreed w n a s → (e : Executor) →
    Has a.executors e → e.gone ≡ false →
    (x : Task) × Has w.tables.tasks x × (x.id ≡ e.task) × IsOnNode n x × IsExecutorOf e x
back w n a s is e h alive = go (due-task w n e.task (due-number w n a s is e here alive))
  where
    here : row_at executor_task e.task a.executors ≡ Some e
    here =
        found executor_task w.tables.next_id e.task a.executors (λ f. ⊤)
        (is.known.gives.agents a is.home).executors.rises
        (record { row = e; there = h; id_is = refl; fact = tt })

    some-is : (f g : Executor) → Some f ≡ Some g → f ≡ g
    some-is f g q = cc

    go : ((x : Task) × Has w.tables.tasks x × (x.id ≡ e.task) × IsOnNode n x) →
        (x : Task) × Has w.tables.tasks x × (x.id ≡ e.task) × IsOnNode n x × IsExecutorOf e x
    go x = its (serve w n a s is x.0 x.1 x.3)
      where
        its : ((f : Executor) × (row_at executor_task x.0.id a.executors ≡ Some f) × IsExecutorOf f x.0) →
            (y : Task) × Has w.tables.tasks y × (y.id ≡ e.task) × IsOnNode n y × IsExecutorOf e y
        its f =
            let one : f.0 ≡ e =
            some-is f.0 e (sym f.1 ∙ ap (λ (k : ℕ). row_at executor_task k a.executors) x.2 ∙ here) in
            (x.0, x.1, x.2, x.3, subst (λ (g : Executor). IsExecutorOf g x.0) one f.2)

agreed : (h : List Entry) → IsLegal h → (n : Node) (a : NodeAgent) → Has (replay h).agents a → a.node ≡ n.id →
    IsQuietAgent (replay h) a → (s : NodeSent) × IsAgreed (replay h) n a s
agreed h legal n a home number quiet =
    let known = known-replay h legal in
    let sent = none-sent-first (sent_of (replay h) a.node) (due_set (replay h).tables a.node) quiet.message in (
      sent.0,
      record {
        known = known;
        home = home;
        quiet = quiet;
        step = subst (λ (o : Option Message). InStep (replay h).tables (Some sent.0) o (aim_at a.executors)) quiet.inbox
            (subst (λ (o : Option NodeSent). InStep (replay h).tables o a.inbox (aim_at a.executors)) sent.1
            ((together-replay h legal).1 a home));
        ahead = ahead-replay h legal;
        all = subst (λ (k : ℕ). IsAllSent sent.0 (due_set (replay h).tables k)) number
            (all-sent sent.0 (due_set (replay h).tables a.node)
            (due-rising (replay h).tables a.node known.orderly.tasks) sent.2);
      },
    )

pub always-served : ServedLaw
always-served h legal quiet n a there ready inside at =
    let row = Has-from_row_at agent_node n.id (replay h).agents a at in
    let is = agreed h legal n a row.0 row.1 (quiet-agents h legal quiet n a there ready inside at) in
    record {
      tasks = λ x k on. serve (replay h) n a is.0 is.1 x k on;
      executors = λ e k alive. back (replay h) n a is.0 is.1 e k alive;
    }
