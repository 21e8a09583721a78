-- The workload of each executor, and of each update in an inbox, takes some time to prepare.
use Rattle.std.proofs.Common.{Bool, List, None, Option, Some, [], ap, arith, cond, eqb, false, inl, inr, refl, subst, sym, true, ℕ, ◌∙◌, ◌∷◌, ◌≡◌, ◌≤◌, ◌⊎◌}
use Rattle.std.proofs.lemmas.Bool.Decides.{nat_tests}
use Rattle.std.specs.Prelude.{filter, map, nat_le, not, ⊤}
use Rattle.swarm_settle.proofs.Bound.Messages.Agents.{AgentsCome, IsBare, KeepsAgent}
use Rattle.swarm_settle.proofs.Bound.Messages.Updates.{IsMadeBy, SameProgress, applied-from}
use Rattle.swarm_settle.proofs.Bound.Sending.Worlds.{rises-from}
use Rattle.swarm_model.proofs.Base.IsDuty.{IsDuty}
use Rattle.swarm_model.proofs.Laws.GivesOut.{GivesOut, duty-gives}
use Rattle.swarm_model.proofs.Laws.Timely.{each-changed}
use Rattle.swarm_model.proofs.Moves.Worlds.{IsOrderly}
use Rattle.swarm_objects.proofs.RowLemmas.{Has-filter_cases, Has-flat_map_cases, Has-from_row_at, Has-map, Has-map_cases, row_at-Some}
use Rattle.swarm_objects.specs.Agents.Executors.{at_time, early_step, ending, executor_step, is_early, is_late, is_to_go, late, late_step, moved, stopped_at, wants_to_stop}
use Rattle.swarm_objects.specs.Agents.Messages.{applied, assigned, assigned_task, change_executor, change_of, changes_of, due_set, is_assigned_on, is_sent, message_for, message_with, next_message, sent_of, tasks_of_either, update_of}
use Rattle.swarm_objects.specs.Duties.{effect_by}
use Rattle.swarm_objects.specs.Loops.Agents.{after_pull, begun, received, stepped, take_in, told}
use Rattle.swarm_objects.specs.Rows.{Has, RisesFrom, agent_node, change_row, drop_row, executor_task, has_row, on_row, row_at}
use Rattle.swarm_objects.specs.World.{Tables, World}
use Rattle.swarm_objects.specs.declared.agents.Executor.{Executor}
use Rattle.swarm_objects.specs.declared.agents.NodeAgent.{NodeAgent}
use Rattle.swarm_objects.specs.declared.duties.Duty.TheVariants as duty
use Rattle.swarm_objects.specs.declared.duties.Duty.{Duty}
use Rattle.swarm_objects.specs.declared.messages.AssignChange.TheVariants as assign
use Rattle.swarm_objects.specs.declared.messages.AssignChange.{AssignChange}
use Rattle.swarm_objects.specs.declared.messages.Assigned.{Assigned}
use Rattle.swarm_objects.specs.declared.messages.Message.{Message}
use Rattle.swarm_objects.specs.declared.messages.NodeSent.{NodeSent}
use Rattle.swarm_objects.specs.declared.tasks.Task.{Task}
use Rattle.swarm_objects.specs.declared.tasks.TaskState.TheVariants as state
use Rattle.swarm_objects.specs.declared.tasks.TaskState.{TaskState}
use Rattle.swarm_objects.specs.declared.templates.End.TheVariants as end
use Rattle.swarm_objects.specs.declared.templates.End.{End}
use Rattle.swarm_objects.specs.declared.templates.Workload.{Workload}

abbrev pub IsTimed : Workload → Type 0
IsTimed w = 1 ≤ w.prepare

pub record IsTimedAgent (a : NodeAgent) : Type 0 where
  pub executors : (e : Executor) → Has a.executors e → IsTimed e.workload
  pub inbox : (m : Message) (i : Assigned) → a.inbox ≡ Some m → Has m.changes (assign.Update i) → IsTimed i.workload

abbrev pub AllTimed : List NodeAgent → Type 0
AllTimed agents = (a : NodeAgent) → Has agents a → IsTimedAgent a

abbrev pub TasksTimed : Tables → Type 0
TasksTimed t = (x : Task) → Has t.tasks x → IsTimed x.template.workload

-- What a message updates is due.

is-update : (a b : Assigned) → assign.Update a ≡ assign.Update b → a ≡ b
is-update a b e = cc

some-is : {A : Type 0} (a b : A) → Some a ≡ Some b → a ≡ b
some-is a b e = cc

of-update : (rows : List Assigned) (k : ℕ) (i : Assigned) → Has (update_of rows k) (assign.Update i) → Has rows i
of-update [] k i h = absurd h
of-update (a ∷ rows) k i h = go (eqb a.task k) h (of-update rows k i)
  where
    go : (b : Bool) → Has (cond b (assign.Update a ∷ []) (update_of rows k)) (assign.Update i) →
        (Has (update_of rows k) (assign.Update i) → Has rows i) → Has (a ∷ rows) i
    go true (inl e) rest = inl (is-update a i e)
    go true (inr none) rest = absurd none
    go false h rest = inr (rest h)

of-change : (sent due : List Assigned) (k : ℕ) (i : Assigned) → Has (change_of sent due k) (assign.Update i) →
    Has due i
of-change sent due k i h = go (not (has_row assigned_task k due)) h
  where
    left : List Assigned
    left = filter (λ a. not (is_sent sent a)) due

    go : (b : Bool) → Has (cond b (assign.Remove k ∷ []) (update_of left k)) (assign.Update i) → Has due i
    go true (inl e) = absurd (let wrong : assign.Remove k ≡ assign.Update i = e in cc)
    go true (inr none) = absurd none
    go false h = (Has-filter_cases (λ a. not (is_sent sent a)) due i (of-update left k i h)).0

pub update-due : (sent : Option NodeSent) (due : List Assigned) (m : Message) (i : Assigned) →
    next_message sent due ≡ Some m → Has m.changes (assign.Update i) → Has due i
update-due None due m i e h =
    let changes : map assign.Update due ≡ m.changes = cc in
    let from = Has-map_cases assign.Update due (assign.Update i)
    (subst (λ (cs : List AssignChange). Has cs (assign.Update i)) (sym changes) h) in
    subst (Has due) (is-update from.0 i from.2) from.1
update-due (Some s) due m i e h = go (changes_of s.tasks due) refl e
  where
    go : (cs : List AssignChange) → changes_of s.tasks due ≡ cs → message_with s.count cs ≡ Some m → Has due i
    go [] at k = absurd cc
    go (c ∷ cs) at k =
        let changes : c ∷ cs ≡ m.changes = cc in
        let from = Has-flat_map_cases (change_of s.tasks due) (tasks_of_either s.tasks due) (assign.Update i)
        (subst (λ (ds : List AssignChange). Has ds (assign.Update i)) (sym (at ∙ changes)) h) in
        of-change s.tasks due from.0 i from.2

due-timed : (t : Tables) (node : ℕ) (i : Assigned) → TasksTimed t → Has (due_set t node) i → IsTimed i.workload
due-timed t node i is h =
    let from = Has-map_cases assigned (filter (is_assigned_on node) t.tasks) i h in
    let x = Has-filter_cases (is_assigned_on node) t.tasks from.0 from.1 in
    subst (λ (a : Assigned). IsTimed a.workload) from.2 (is from.0 x.0)

-- Steps keep the work.

abbrev WorkIf : Executor → Option Executor → Type 0
WorkIf e None = ⊤
WorkIf e (Some f) = f.workload ≡ e.workload

timed : (clock time : ℕ) (e after : Executor) → after.workload ≡ e.workload → WorkIf e (at_time clock time after)
timed clock time e after same = go (nat_le time clock)
  where
    go : (b : Bool) → WorkIf e (cond b (Some after) None)
    go true = same
    go false = tt

early-work : (clock : ℕ) (e : Executor) (s : TaskState) → WorkIf e (early_step clock e s)
early-work clock e state.Accepted = refl
early-work clock e state.Preparing = timed clock _ e _ refl
early-work clock e state.Ready = go (is_to_go e.desired)
  where
    go : (b : Bool) → WorkIf e (cond b (Some (moved clock state.Starting e)) None)
    go true = refl
    go false = tt
early-work clock e _ = tt

ending-work : (clock : ℕ) (e : Executor) (x : End) → WorkIf e (ending clock e x)
ending-work clock e end.Never = tt
ending-work clock e (end.Exit time code) = timed clock _ e _ refl
ending-work clock e end.Reject = tt

late-step-work : (clock : ℕ) (e : Executor) (s : TaskState) → WorkIf e (late_step clock e s)
late-step-work clock e state.Starting = timed clock _ e _ refl
late-step-work clock e state.Running = ending-work clock e e.workload.end
late-step-work clock e _ = tt

late-work : (clock : ℕ) (e : Executor) (stopping : Option ℕ) → WorkIf e (late clock e stopping)
late-work clock e (Some time) = timed clock time e _ refl
late-work clock e None = go (wants_to_stop e)
  where
    go : (b : Bool) → WorkIf e (cond b (Some (stopped_at clock e)) (late_step clock e e.state))
    go true = refl
    go false = late-step-work clock e e.state

step-work : (clock : ℕ) (e : Executor) → WorkIf e (executor_step clock e)
step-work clock e = go (is_early e.state) (wants_to_stop e) (is_late e.state)
  where
    go : (early stop late_now : Bool) →
        WorkIf e (cond early (cond stop (Some (moved clock state.Shutdown e)) (early_step clock e e.state))
        (cond late_now (late clock e e.stopping) None))
    go true true late_now = refl
    go true false late_now = early-work clock e e.state
    go false stop true = late-work clock e e.stopping
    go false stop false = tt

pub stepped-work : (clock : ℕ) (e : Executor) → (stepped clock e).workload ≡ e.workload
stepped-work clock e = go (executor_step clock e) (step-work clock e)
  where
    go : (o : Option Executor) → WorkIf e o → (on_row e (λ after. after) o).workload ≡ e.workload
    go None k = refl
    go (Some f) k = k

-- Duties.

-- the executors of the agent that has applied its inbox rise
pub taken-rises : (version : ℕ) (w : World) (n : ℕ) → IsOrderly w → GivesOut w → IsDuty w (duty.Apply n) →
    (a : NodeAgent) → Has w.agents a → a.node ≡ n →
    RisesFrom executor_task 0 (take_in w.tables.clock a.inbox a).executors
taken-rises version w n orderly gives of a h e =
    rises-from executor_task 1 w.tables.next_id 0 (take_in w.tables.clock a.inbox a).executors (omega arith)
    ((duty-gives version w (duty.Apply n) orderly of gives).agents (take_in w.tables.clock a.inbox a) there).executors.rises
  where
    same : eqb a.node n ≡ true
    same = grind (arith, nat_tests, e)

    there : Has (change_row agent_node n (λ a. take_in w.tables.clock a.inbox a) w.agents)
        (take_in w.tables.clock a.inbox a)
    there =
        subst (Has (change_row agent_node n (λ a. take_in w.tables.clock a.inbox a) w.agents))
        (ap (λ (b : Bool). cond b (take_in w.tables.clock a.inbox a) a) same)
        (Has-map (λ a. cond (eqb (agent_node a) n) (take_in w.tables.clock a.inbox a) a) w.agents a h)

take-timed : (clock : ℕ) (o : Option Message) (a : NodeAgent) → a.inbox ≡ o →
    RisesFrom executor_task 0 (take_in clock o a).executors → IsTimedAgent a → IsTimedAgent (take_in clock o a)
take-timed clock None a at rises is = is
take-timed clock (Some m) a at rises is = record {
  executors = λ f h.
      go f (applied-from clock f.task m a.executors f
      (row_at-Some executor_task 0 (applied clock m a.executors) f rises h));
  inbox = λ n i wrong h. absurd (let no : None ≡ Some n = wrong in cc);
}
  where
    go : (f : Executor) →
        ((e : Executor) × (row_at executor_task f.task a.executors ≡ Some e) × SameProgress e f)
        ⊎ ((i : Assigned) × Has m.changes (assign.Update i) × (i.task ≡ f.task) × IsMadeBy i f) → IsTimed f.workload
    go f (inl k) =
        let row = Has-from_row_at executor_task f.task a.executors k.0 k.1 in
        subst IsTimed (sym k.2.workload) (is.executors k.0 row.0)
    go f (inr k) = subst IsTimed (sym k.3.workload) (is.inbox m k.0 at k.1)

pull-timed : (w : World) (n : ℕ) (o : Option Message) → message_for w n ≡ o → TasksTimed w.tables →
    AllTimed w.agents → AllTimed (after_pull w n o).agents
pull-timed w n None at tasks is = is
pull-timed w n (Some message) at tasks is =
    each-changed IsTimedAgent agent_node n (received message) w.agents is
    (λ a h e. record {
      executors = (is a h).executors;
      inbox = λ m i same k.
          let one : message ≡ m = some-is message m same in
          due-timed w.tables n i tasks
          (update-due (sent_of w n) (due_set w.tables n) message i at
          (subst (λ (z : Message). Has z.changes (assign.Update i)) (sym one) k));
    })

pub duty-timed : (version : ℕ) (w : World) (d : Duty) → IsOrderly w → GivesOut w → IsDuty w d → TasksTimed w.tables →
    AllTimed w.agents → AllTimed (effect_by version w d).agents
duty-timed version w (duty.Register n) orderly gives of tasks is =
    each-changed IsTimedAgent agent_node n begun w.agents is
    (λ a h e. record {
      executors = (is a h).executors;
      inbox = λ m i wrong k. absurd (let no : None ≡ Some m = wrong in cc);
    })
duty-timed version w (duty.Apply n) orderly gives of tasks is =
    each-changed IsTimedAgent agent_node n (λ a. take_in w.tables.clock a.inbox a) w.agents is
    (λ a h e. take-timed w.tables.clock a.inbox a refl (taken-rises version w n orderly gives of a h e) (is a h))
duty-timed version w (duty.Pull n) orderly gives of tasks is = pull-timed w n (message_for w n) refl tasks is
duty-timed version w (duty.Exec n x) orderly gives of tasks is =
    each-changed IsTimedAgent agent_node n
    (λ a. record a { executors = change_executor x (stepped w.tables.clock) a.executors }) w.agents is
    (λ a h e. record {
      executors = each-changed (λ (f : Executor). IsTimed f.workload) executor_task x (stepped w.tables.clock)
          a.executors (is a h).executors
          (λ f k same. subst IsTimed (sym (stepped-work w.tables.clock f)) ((is a h).executors f k));
      inbox = (is a h).inbox;
    })
duty-timed version w (duty.Report n x) orderly gives of tasks is =
    each-changed IsTimedAgent agent_node n
    (λ a. record a { executors = change_executor x told a.executors }) w.agents is
    (λ a h e. record {
      executors = each-changed (λ (f : Executor). IsTimed f.workload) executor_task x told
          a.executors (is a h).executors (λ f k same. (is a h).executors f k);
      inbox = (is a h).inbox;
    })
duty-timed version w (duty.Forget n x) orderly gives of tasks is =
    each-changed IsTimedAgent agent_node n
    (λ a. record a { executors = drop_row executor_task x a.executors }) w.agents is
    (λ a h e. record {
      executors = λ f k.
          (is a h).executors f (Has-filter_cases (λ g. not (eqb (executor_task g) x)) a.executors f k).0;
      inbox = (is a h).inbox;
    })
duty-timed version w d orderly gives of tasks is = is

-- Calls.

pub come-timed : (w v : World) → AgentsCome w v → AllTimed w.agents → AllTimed v.agents
come-timed w v come is b h = go (come b h)
  where
    go : ((a : NodeAgent) × Has w.agents a × KeepsAgent a b) ⊎ IsBare b → IsTimedAgent b
    go (inl r) = record {
      executors = λ f k.
          let from = Has-map_cases r.2.change r.0.executors f
          (subst (λ (es : List Executor). Has es f) r.2.executors k) in
          subst (λ (g : Executor). IsTimed g.workload) from.2
          (subst IsTimed (sym (r.2.work from.0)) ((is r.0 r.1).executors from.0 from.1));
      inbox = λ m i at k. (is r.0 r.1).inbox m i (sym r.2.inbox ∙ at) k;
    }
    go (inr bare) = record {
      executors = λ f k. absurd (subst (λ (es : List Executor). Has es f) bare.executors k);
      inbox = λ m i at k. absurd (let no : None ≡ Some m = sym bare.inbox ∙ at in cc);
    }
