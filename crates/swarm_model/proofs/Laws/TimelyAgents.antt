-- The times and counts of agents and of what was sent, in every world of a legal history.
use Rattle.std.proofs.Common.{Bool, List, None, Option, Some, [], arith, cond, eqb, false, inl, inr, refl, subst, sym, true, ℕ, ◌+◌, ◌∷◌, ◌≡◌, ◌≤◌}
use Rattle.std.specs.List.{list_any}
use Rattle.std.specs.Prelude.{filter, fold, map, nat_le, not, ⊤, ◌&&◌, ◌==◌}
use Rattle.swarm_model.proofs.Laws.Timely.{IsShortWork, Timely, Where, day, each-changed, each-with_row}
use Rattle.swarm_objects.specs.Agents.NodeAgents.{lost}
use Rattle.swarm_objects.proofs.RowLemmas.{Has-filter_cases, Has-flat_map_cases, Has-from_row_at, Has-map_cases}
use Rattle.swarm_objects.specs.Agents.Executors.{at_time, early_step, ending, executor_step, is_early, is_late, is_to_go, late, late_step, moved, stopped_at, wants_to_stop}
use Rattle.swarm_objects.specs.Agents.Messages.{applied, apply_change, assigned, assigned_task, change_executor, change_of, changes_of, due_set, gone_executor, is_assigned_on, is_sent, left_out, message_for, message_with, names, new_executor, next_message, sent_of, tasks_of_either, update_of, with_sent}
use Rattle.swarm_objects.specs.Duties.{effect_by}
use Rattle.swarm_objects.specs.Loops.Agents.{after_pull, begun, executor_at, received, reported_by, stepped, take_in, told}
use Rattle.swarm_objects.specs.Rows.{Has, agent_node, change_row, drop_row, executor_task, has_row, on_row, row_at, sent_node, with_row}
use Rattle.swarm_objects.specs.World.{Tables, World}
use Rattle.swarm_objects.specs.declared.agents.Executor.{Executor}
use Rattle.swarm_objects.specs.declared.agents.NodeAgent.{NodeAgent}
use Rattle.swarm_objects.specs.declared.duties.Duty.TheVariants as duty
use Rattle.swarm_objects.specs.declared.duties.Duty.{Duty}
use Rattle.swarm_objects.specs.declared.messages.AssignChange.TheVariants as assign
use Rattle.swarm_objects.specs.declared.messages.AssignChange.{AssignChange}
use Rattle.swarm_objects.specs.declared.messages.Assigned.{Assigned}
use Rattle.swarm_objects.specs.declared.messages.Message.{Message}
use Rattle.swarm_objects.specs.declared.messages.NodeSent.{NodeSent}
use Rattle.swarm_objects.specs.declared.tasks.TaskState.TheVariants as state
use Rattle.swarm_objects.specs.declared.tasks.TaskState.{TaskState}
use Rattle.swarm_objects.specs.declared.templates.End.TheVariants as end
use Rattle.swarm_objects.specs.declared.templates.End.{End}

abbrev pub IsShortChange : AssignChange → Type 0
IsShortChange (assign.Update a) = IsShortWork a.workload
IsShortChange (assign.Remove task) = ⊤

abbrev pub AreShort : List Assigned → Type 0
AreShort given = (a : Assigned) → Has given a → IsShortWork a.workload

abbrev pub AreShortChanges : List AssignChange → Type 0
AreShortChanges changes = (c : AssignChange) → Has changes c → IsShortChange c

pub record IsCountedMessage (n : ℕ) (m : Message) : Type 0 where
  pub results_in : m.results_in ≤ n
  pub changes : AreShortChanges m.changes

pub record IsTimelyExecutor (clock : ℕ) (e : Executor) : Type 0 where
  pub workload : IsShortWork e.workload
  pub since : e.since ≤ clock
  pub stopping : Where (λ k. k ≤ clock + day) e.stopping

abbrev pub AreTimely : ℕ → List Executor → Type 0
AreTimely clock es = (e : Executor) → Has es e → IsTimelyExecutor clock e

pub record IsTimelyAgent (clock n : ℕ) (a : NodeAgent) : Type 0 where
  pub applied : a.applied ≤ n
  pub executors : AreTimely clock a.executors
  pub inbox : Where (IsCountedMessage n) a.inbox

pub record IsCountedSent (n : ℕ) (s : NodeSent) : Type 0 where
  pub count : s.count ≤ n
  pub tasks : AreShort s.tasks

pub record TimelyBeside (clock n : ℕ) (given : List NodeSent) (held : List NodeAgent) : Type 0 where
  pub sent : (s : NodeSent) → Has given s → IsCountedSent n s
  pub agents : (a : NodeAgent) → Has held a → IsTimelyAgent clock n a

-- Later.

where-later : (clock later : ℕ) (o : Option ℕ) → clock ≤ later → Where (λ k. k ≤ clock + day) o → Where
    (λ k. k ≤ later + day) o
where-later clock later None le is = tt
where-later clock later (Some k) le is = omega (arith, le, is)

executor-later : (clock later : ℕ) (e : Executor) → clock ≤ later → IsTimelyExecutor clock e → IsTimelyExecutor later e
executor-later clock later e le is = record {
  workload = is.workload;
  since = omega (arith, le, is.since);
  stopping = where-later clock later e.stopping le is.stopping;
}

message-later : (n more : ℕ) (o : Option Message) → n ≤ more → Where (IsCountedMessage n) o → Where
    (IsCountedMessage more) o
message-later n more None le is = tt
message-later n more (Some m) le is = record { results_in = omega (arith, le, is.results_in); changes = is.changes }

pub beside-later : (clock later n more : ℕ) (sent : List NodeSent) (agents : List NodeAgent) → clock ≤ later →
    n ≤ more →
    TimelyBeside clock n sent agents → TimelyBeside later more sent agents
beside-later clock later n more sent agents le up is = record {
  sent = λ s h. record { count = omega (arith, up, (is.sent s h).count); tasks = (is.sent s h).tasks };
  agents = λ a h. record {
    applied = omega (arith, up, (is.agents a h).applied);
    executors = λ e k. executor-later clock later e le ((is.agents a h).executors e k);
    inbox = message-later n more a.inbox up (is.agents a h).inbox;
  };
}

-- Messages.

pub due-short : (t : Tables) (node : ℕ) → Timely t → AreShort (due_set t node)
due-short t node is a h =
    let from = Has-map_cases assigned (filter (is_assigned_on node) t.tasks) a h in
    let at = Has-filter_cases (is_assigned_on node) t.tasks from.0 from.1 in
    subst (λ (z : Assigned). IsShortWork z.workload) from.2 (is.tasks from.0 at.0).template.workload

updates-short : (due : List Assigned) → AreShort due → AreShortChanges (map assign.Update due)
updates-short due is c h =
    let from = Has-map_cases assign.Update due c h in subst IsShortChange from.2 (is from.0 from.1)

update-short : (task : ℕ) (due : List Assigned) → AreShort due → AreShortChanges (update_of due task)
update-short task [] is c h = absurd h
update-short task (a ∷ rest) is c h = go (eqb a.task task) h (update-short task rest (λ b k. is b (inr k)) c)
  where
    go : (b : Bool) → Has (cond b (assign.Update a ∷ []) (update_of rest task)) c →
        (Has (update_of rest task) c → IsShortChange c) → IsShortChange c
    go true (inl e) others = subst IsShortChange e (is a (inl refl))
    go true (inr k) others = absurd k
    go false k others = others k

change-short : (sent due : List Assigned) (task : ℕ) → AreShort due → AreShortChanges (change_of sent due task)
change-short sent due task is c h = go (not (has_row assigned_task task due)) h
  where
    go : (b : Bool) →
        Has (cond b (assign.Remove task ∷ []) (update_of (filter (λ a. not (is_sent sent a)) due) task)) c →
        IsShortChange c
    go true (inl e) = subst IsShortChange e tt
    go true (inr k) = absurd k
    go false k =
        update-short task (filter (λ a. not (is_sent sent a)) due)
        (λ a j. is a (Has-filter_cases (λ b. not (is_sent sent b)) due a j).0) c k

changes-short : (sent due : List Assigned) → AreShort due → AreShortChanges (changes_of sent due)
changes-short sent due is c h =
    let from = Has-flat_map_cases (change_of sent due) (tasks_of_either sent due) c h in
    change-short sent due from.0 is c from.2

with-count : (n count : ℕ) (changes : List AssignChange) → count ≤ n → AreShortChanges changes →
    Where (IsCountedMessage (n + 1)) (message_with count changes)
with-count n count [] le is = tt
with-count n count (c ∷ cs) le is = record { results_in = omega (arith, le); changes = is }

next-counted : (n : ℕ) (sent : Option NodeSent) (due : List Assigned) → AreShort due → Where (IsCountedSent n) sent →
    Where (IsCountedMessage (n + 1)) (next_message sent due)
next-counted n None due is before = record { results_in = omega arith; changes = updates-short due is }
next-counted n (Some s) due is before = with-count n s.count (changes_of s.tasks due) before.count
    (changes-short s.tasks due is)

sent-there : (n : ℕ) (sent : List NodeSent) (node : ℕ) → ((s : NodeSent) → Has sent s → IsCountedSent n s) →
    (o : Option NodeSent) →
    row_at sent_node node sent ≡ o → Where (IsCountedSent n) o
sent-there n sent node is None e = tt
sent-there n sent node is (Some s) e = is s (Has-from_row_at sent_node node sent s e).0

pub message-counted : (clock n : ℕ) (w : World) (node : ℕ) → Timely w.tables → TimelyBeside clock n w.sent w.agents →
    Where (IsCountedMessage (n + 1)) (message_for w node)
message-counted clock n w node is beside =
    next-counted n (sent_of w node) (due_set w.tables node) (due-short w.tables node is)
    (sent-there n w.sent node beside.sent (sent_of w node) refl)

-- Executors.

moved-timely : (clock : ℕ) (e : Executor) (s : TaskState) → IsTimelyExecutor clock e → IsTimelyExecutor clock
    (moved clock s e)
moved-timely clock e s is = record { workload = is.workload; since = omega arith; stopping = is.stopping }

timed : (clock time : ℕ) (after : Executor) → IsTimelyExecutor clock after → Where (IsTimelyExecutor clock)
    (at_time clock time after)
timed clock time after is = go (nat_le time clock)
  where
    go : (b : Bool) → Where (IsTimelyExecutor clock) (cond b (Some after) None)
    go true = is
    go false = tt

early-timely : (clock : ℕ) (e : Executor) (s : TaskState) → IsTimelyExecutor clock e →
    Where (IsTimelyExecutor clock) (early_step clock e s)
early-timely clock e state.Accepted is = moved-timely clock e state.Preparing is
early-timely clock e state.Preparing is = timed clock _ _ (moved-timely clock e _ is)
early-timely clock e state.Ready is = go (is_to_go e.desired)
  where
    go : (b : Bool) → Where (IsTimelyExecutor clock) (cond b (Some (moved clock state.Starting e)) None)
    go true = moved-timely clock e state.Starting is
    go false = tt
early-timely clock e _ is = tt

ending-timely : (clock : ℕ) (e : Executor) (x : End) → IsTimelyExecutor clock e → Where (IsTimelyExecutor clock)
    (ending clock e x)
ending-timely clock e end.Never is = tt
ending-timely clock e (end.Exit time code) is = timed clock _ _ (moved-timely clock e _ is)
ending-timely clock e end.Reject is = tt

late-step-timely : (clock : ℕ) (e : Executor) (s : TaskState) → IsTimelyExecutor clock e →
    Where (IsTimelyExecutor clock) (late_step clock e s)
late-step-timely clock e state.Starting is = timed clock _ _ (moved-timely clock e _ is)
late-step-timely clock e state.Running is = ending-timely clock e e.workload.end is
late-step-timely clock e _ is = tt

stopped-timely : (clock : ℕ) (e : Executor) → IsTimelyExecutor clock e → IsTimelyExecutor clock (stopped_at clock e)
stopped-timely clock e is =
    record { workload = is.workload; since = omega arith; stopping = omega (arith, is.workload.stop) }

late-timely : (clock : ℕ) (e : Executor) (stopping : Option ℕ) → IsTimelyExecutor clock e →
    Where (IsTimelyExecutor clock) (late clock e stopping)
late-timely clock e (Some time) is = timed clock time _ (moved-timely clock e state.Shutdown is)
late-timely clock e None is = go (wants_to_stop e)
  where
    go : (b : Bool) → Where (IsTimelyExecutor clock) (cond b (Some (stopped_at clock e)) (late_step clock e e.state))
    go true = stopped-timely clock e is
    go false = late-step-timely clock e e.state is

step-timely : (clock : ℕ) (e : Executor) → IsTimelyExecutor clock e → Where (IsTimelyExecutor clock)
    (executor_step clock e)
step-timely clock e is = go (is_early e.state) (wants_to_stop e) (is_late e.state)
  where
    go : (early stop late_now : Bool) →
        Where (IsTimelyExecutor clock) (cond early (cond stop (Some (moved clock state.Shutdown e))
        (early_step clock e e.state)) (cond late_now (late clock e e.stopping) None))
    go true true late_now = moved-timely clock e state.Shutdown is
    go true false late_now = early-timely clock e e.state is
    go false stop true = late-timely clock e e.stopping is
    go false stop false = tt

stepped-timely : (clock : ℕ) (e : Executor) → IsTimelyExecutor clock e → IsTimelyExecutor clock (stepped clock e)
stepped-timely clock e is = go (executor_step clock e) (step-timely clock e is)
  where
    go : (o : Option Executor) → Where (IsTimelyExecutor clock) o → IsTimelyExecutor clock (on_row e (λ after. after) o)
    go None k = is
    go (Some after) k = k

pub lost-timely : (clock : ℕ) (e : Executor) → IsTimelyExecutor clock e → IsTimelyExecutor clock (lost clock e)
lost-timely clock e is = go (is_late e.state)
  where
    go : (b : Bool) → IsTimelyExecutor clock (cond b (moved clock state.Failed e) e)
    go true = moved-timely clock e state.Failed is
    go false = is

-- with another desired state, or gone, or told
same-times : (clock : ℕ) (e f : Executor) → f.workload ≡ e.workload → f.since ≡ e.since → f.stopping ≡ e.stopping →
    IsTimelyExecutor clock e → IsTimelyExecutor clock f
same-times clock e f workload since stopping is = record {
  workload = subst IsShortWork (sym workload) is.workload;
  since = omega (arith, since, is.since);
  stopping = subst (Where (λ k. k ≤ clock + day)) (sym stopping) is.stopping;
}

all-changed : (clock task : ℕ) (f : Executor → Executor) (es : List Executor) →
    ((e : Executor) → IsTimelyExecutor clock e → IsTimelyExecutor clock (f e)) → AreTimely clock es →
    AreTimely clock (change_executor task f es)
all-changed clock task f es each is =
    each-changed (IsTimelyExecutor clock) executor_task task f es is (λ e h k. each e (is e h))

change-timely : (clock : ℕ) (c : AssignChange) (es : List Executor) → IsShortChange c → AreTimely clock es →
    AreTimely clock (apply_change clock es c)
change-timely clock (assign.Update a) es short is = go (has_row executor_task a.task es)
  where
    go : (b : Bool) →
        AreTimely clock (cond b (change_executor a.task (λ e. record e { desired = a.desired }) es)
        (with_row executor_task (new_executor clock a) es))
    go true =
        all-changed clock a.task (λ e. record e { desired = a.desired }) es
        (λ e k. same-times clock e (record e { desired = a.desired }) refl refl refl k) is
    go false =
        each-with_row (IsTimelyExecutor clock) executor_task (new_executor clock a) es is
        (record { workload = short; since = omega arith; stopping = tt })
change-timely clock (assign.Remove task) es short is =
    all-changed clock task gone_executor es (λ e k. same-times clock e (gone_executor e) refl refl refl k) is

changes-timely : (clock : ℕ) (changes : List AssignChange) (es : List Executor) → AreShortChanges changes →
    AreTimely clock es →
    AreTimely clock (fold (apply_change clock) es changes)
changes-timely clock [] es short is = is
changes-timely clock (c ∷ cs) es short is =
    changes-timely clock cs (apply_change clock es c) (λ d h. short d (inr h))
    (change-timely clock c es (short c (inl refl)) is)

applied-timely : (clock : ℕ) (m : Message) (es : List Executor) → AreShortChanges m.changes → AreTimely clock es →
    AreTimely clock (applied clock m es)
applied-timely clock m es short is e h =
    let all = fold (apply_change clock) es m.changes in
    let from = Has-map_cases (left_out m) all e h in
    subst (IsTimelyExecutor clock) from.2
    (go from.0 (changes-timely clock m.changes es short is from.0 from.1)
    (m.complete && not (list_any (names from.0.task) m.changes)))
  where
    go : (x : Executor) → IsTimelyExecutor clock x → (b : Bool) → IsTimelyExecutor clock (cond b (gone_executor x) x)
    go x k true = same-times clock x (gone_executor x) refl refl refl k
    go x k false = k

take-timely : (clock n : ℕ) (inbox : Option Message) (a : NodeAgent) → Where (IsCountedMessage n) inbox →
    IsTimelyAgent clock n a →
    IsTimelyAgent clock n (take_in clock inbox a)
take-timely clock n None a message is = is
take-timely clock n (Some m) a message is = record {
  applied = message.results_in;
  executors = applied-timely clock m a.executors message.changes is.executors;
  inbox = tt;
}

-- Agents.

pub agent-timely : (clock n node : ℕ) (f : NodeAgent → NodeAgent) (sent : List NodeSent) (agents : List NodeAgent) →
    ((a : NodeAgent) → IsTimelyAgent clock n a → IsTimelyAgent clock n (f a)) → TimelyBeside clock n sent agents →
    TimelyBeside clock n sent (change_row agent_node node f agents)
agent-timely clock n node f sent agents each is = record {
  sent = is.sent;
  agents = each-changed (IsTimelyAgent clock n) agent_node node f agents is.agents (λ a h e. each a (is.agents a h));
}

executors-timely : (clock n : ℕ) (f : List Executor → List Executor) → ((es : List Executor) → AreTimely clock es →
    AreTimely clock (f es)) →
    (a : NodeAgent) → IsTimelyAgent clock n a → IsTimelyAgent clock n (record a { executors = f a.executors })
executors-timely clock n f each a is =
    record { applied = is.applied; executors = each a.executors is.executors; inbox = is.inbox }

pub sent-timely : (clock n : ℕ) (w : World) (node : ℕ) (m : Message) → Timely w.tables → m.results_in ≤ n →
    TimelyBeside clock n w.sent w.agents → TimelyBeside clock n (with_sent w node m).sent w.agents
sent-timely clock n w node m is count beside = record {
  sent =
      each-with_row (IsCountedSent n) sent_node (record {
        node = node;
        count = m.results_in;
        tasks =
            due_set w.tables node;
      })
      w.sent beside.sent (record { count = count; tasks = due-short w.tables node is });
  agents = beside.agents;
}

pub sent-dropped : (clock n node : ℕ) (sent : List NodeSent) (agents : List NodeAgent) →
    TimelyBeside clock n sent agents →
    TimelyBeside clock n (drop_row sent_node node sent) agents
sent-dropped clock n node sent agents is = record {
  sent = λ s h. is.sent s (Has-filter_cases (λ r. not (sent_node r == node)) sent s h).0;
  agents = is.agents;
}

-- a world, whose agents and messages are timely
abbrev pub IsBeside : ℕ → World → Type 0
IsBeside n w = TimelyBeside w.tables.clock n w.sent w.agents

-- the same beside a later clock
pub moved-on : (n : ℕ) (w v : World) → w.tables.clock ≤ v.tables.clock → v.sent ≡ w.sent → v.agents ≡ w.agents →
    IsBeside n w → IsBeside (n + 1) v
moved-on n w v up sent agents is =
    subst (λ xs. TimelyBeside v.tables.clock (n + 1) xs v.agents) (sym sent)
    (subst (λ ys. TimelyBeside v.tables.clock (n + 1) w.sent ys) (sym agents)
    (beside-later w.tables.clock v.tables.clock n (n + 1) w.sent w.agents up (omega arith) is))

pub more : (n : ℕ) (w : World) → IsBeside n w → IsBeside (n + 1) w
more n w is = beside-later w.tables.clock w.tables.clock n (n + 1) w.sent w.agents (omega arith) (omega arith) is

pull-timely : (n : ℕ) (w : World) (node : ℕ) (m : Option Message) → Timely w.tables → Where
    (IsCountedMessage (n + 1)) m → IsBeside n w →
    IsBeside (n + 1) (after_pull w node m)
pull-timely n w node None is message beside = more n w beside
pull-timely n w node (Some m) is message beside =
    agent-timely w.tables.clock (n + 1) node (received m) _ w.agents
    (λ a k. record { applied = k.applied; executors = k.executors; inbox = message })
    (sent-timely w.tables.clock (n + 1) w node m is message.results_in (more n w beside))

begun-timely : (clock n : ℕ) (a : NodeAgent) → IsTimelyAgent clock n a → IsTimelyAgent clock n (begun a)
begun-timely clock n a is = record { applied = omega arith; executors = is.executors; inbox = tt }

reported-clock : (version : ℕ) (w : World) (o : Option Executor) → (reported_by version w o).clock ≡ w.tables.clock
reported-clock version w None = refl
reported-clock version w (Some e) = refl

pub duty-beside : (version n : ℕ) (w : World) (d : Duty) → Timely w.tables → w.tables.clock ≤
    (effect_by version w d).tables.clock →
    IsBeside n w → IsBeside (n + 1) (effect_by version w d)
duty-beside version n w (duty.Register k) is up beside =
    agent-timely w.tables.clock (n + 1) k begun (drop_row sent_node k w.sent) w.agents
    (λ a. begun-timely w.tables.clock (n + 1) a)
    (sent-dropped w.tables.clock (n + 1) k w.sent w.agents (more n w beside))
duty-beside version n w (duty.Apply k) is up beside =
    agent-timely w.tables.clock (n + 1) k (λ a. take_in w.tables.clock a.inbox a) w.sent w.agents
    (λ a of. take-timely w.tables.clock (n + 1) a.inbox a of.inbox of) (more n w beside)
duty-beside version n w (duty.Pull k) is up beside =
    pull-timely n w k (message_for w k) is (message-counted w.tables.clock n w k is beside) beside
duty-beside version n w (duty.Exec k x) is up beside =
    agent-timely w.tables.clock (n + 1) k _ w.sent w.agents
    (executors-timely w.tables.clock (n + 1) (change_executor x (stepped w.tables.clock))
    (λ es. all-changed w.tables.clock x (stepped w.tables.clock) es (λ e. stepped-timely w.tables.clock e)))
    (more n w beside)
duty-beside version n w (duty.Report k x) is up beside =
    subst (λ (c : ℕ). TimelyBeside c (n + 1) w.sent (effect_by version w (duty.Report k x)).agents)
    (sym (reported-clock version w (executor_at w k x)))
    (agent-timely w.tables.clock (n + 1) k _ w.sent w.agents
    (executors-timely w.tables.clock (n + 1) (change_executor x told)
    (λ es. all-changed w.tables.clock x told es (λ e of. same-times w.tables.clock e (told e) refl refl refl of)))
    (more n w beside))
duty-beside version n w (duty.Forget k x) is up beside =
    agent-timely w.tables.clock (n + 1) k _ w.sent w.agents
    (executors-timely w.tables.clock (n + 1) (drop_row executor_task x)
    (λ es of e h. of e (Has-filter_cases (λ y. not (executor_task y == x)) es e h).0))
    (more n w beside)
duty-beside version n w d is up beside = moved-on n w (effect_by version w d) up refl refl beside
