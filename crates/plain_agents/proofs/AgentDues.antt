-- A duty of the agents is due exactly where an agent has it.
use Rattle.std.proofs.Common.{◌≡◌, ℕ, Bool, true, false, eqb, Option, None, Some, refl, ap}
use Rattle.std.specs.Prelude.{◌&&◌, not, is_none, is_some}
use Rattle.std.specs.List.{list_any}
use Rattle.std.proofs.lemmas.Bool.{eq-eqb, eqb-true}
use Rattle.plain_agents.specs.OneAgent.{beats, forgets, has_executor, is_active, pulls, registers, reports, steps, takes_in}
use Rattle.swarm_model.proofs.Base.FromLists.{IsDuty-due}
use Rattle.swarm_model.proofs.Base.IsDuty.{HasMessage, IsDuty, IsLive, OfAgent, OfExecutor}
use Rattle.swarm_model.proofs.Base.ToLists.{due-IsDuty}
use Rattle.swarm_objects.proofs.Tests.{any-has, both, both_are, has-any, not-true, same_test}
use Rattle.swarm_objects.specs.Agents.Messages.{message_for}
use Rattle.swarm_objects.specs.Duties.{is_due}
use Rattle.swarm_objects.specs.Loops.Agents.{has_step, is_beat_due, is_forgotten, is_mode_on, wants_report}
use Rattle.swarm_objects.specs.Nodes.Sessions.{is_session_live, session_of}
use Rattle.swarm_objects.specs.Rows.{is_some_and}
use Rattle.swarm_objects.specs.World.{World}
use Rattle.swarm_objects.specs.declared.agents.Executor.{Executor}
use Rattle.swarm_objects.specs.declared.agents.NodeAgent.{NodeAgent}
use Rattle.swarm_objects.specs.declared.duties.Duty.{Duty}
use Rattle.swarm_objects.specs.declared.duties.Duty.TheVariants as duty
use Rattle.swarm_objects.specs.declared.messages.Message.{Message}

-- Any of a list.

-- Executors.

executor_from : (test : Executor → Bool) (a : NodeAgent) (task : ℕ) → has_executor test task a.executors ≡ true →
    OfExecutor a test task
executor_from test a task e =
    let r = any-has (λ (x : Executor). eqb x.task task && test x) a.executors e in
    let k = both_are (eqb r.0.task task) (test r.0) r.2 in
    record { row = r.0; there = r.1; id_is = eqb-true r.0.task task k.0; fact = k.1 }

executor_to : (test : Executor → Bool) (a : NodeAgent) (task : ℕ) → OfExecutor a test task →
    has_executor test task a.executors ≡ true
executor_to test a task of =
    has-any (λ (x : Executor). eqb x.task task && test x) a.executors of.row of.there
    (both (eqb of.row.task task) (test of.row) (eq-eqb of.row.task task of.id_is) of.fact)

-- Agents.

active : (n : ℕ) (a : NodeAgent) → a.node ≡ n → is_mode_on a.mode ≡ true → is_active n a ≡ true
active n a at on = both (eqb a.node n) (is_mode_on a.mode) (eq-eqb a.node n at) on

-- an agent that passes a test is one of which the fact holds
agent_due : (w : World) (d : Duty) (n : ℕ) (Fact : NodeAgent → Type 0) (test : NodeAgent → Bool) →
    (IsDuty w d → OfAgent w n Fact) → (OfAgent w n Fact → IsDuty w d) →
    ((a : NodeAgent) → test a ≡ true → (is_active n a ≡ true) × Fact a) →
    ((a : NodeAgent) → is_active n a ≡ true → Fact a → test a ≡ true) → list_any test w.agents ≡ is_due w d
agent_due w d n Fact test is of from to =
    same_test (list_any test w.agents) (is_due w d)
    (λ e.
    let r = any-has test w.agents e in
    let k = from r.0 r.2 in
    let on = both_are (eqb r.0.node n) (is_mode_on r.0.mode) k.0 in
    due-IsDuty w d (of (record { row = r.0; there = r.1; id_is = eqb-true r.0.node n on.0; fact = (on.1, k.1) })))
    (λ e.
    let r = is (IsDuty-due w d e) in
    has-any test w.agents r.row r.there (to r.row (active n r.row r.id_is r.fact.0) r.fact.1))

pub register_due : (w : World) (n : ℕ) → list_any (registers w.tables n) w.agents ≡ is_due w (duty.Register n)
register_due w n =
    agent_due w (duty.Register n) n (λ a. is_session_live w.tables a.node ≡ false) (registers w.tables n) (λ of. of)
    (λ of. of)
    (λ (a : NodeAgent) e.
    let k = both_are (is_active n a) (not (is_session_live w.tables a.node)) e in
    (k.0, not-true (is_session_live w.tables a.node) k.1))
    (λ (a : NodeAgent) on f. both (is_active n a) (not (is_session_live w.tables a.node)) on (ap not f))

pub beat_due : (w : World) (n : ℕ) → list_any (beats w.tables n) w.agents ≡ is_due w (duty.Beat n)
beat_due w n =
    agent_due w (duty.Beat n) n
    (λ a. IsLive w a × (is_some_and (is_beat_due w.tables) (session_of w.tables a.node) ≡ true))
    (beats w.tables n) (λ of. of) (λ of. of)
    (λ (a : NodeAgent) e.
    let live = is_session_live w.tables a.node in
    let k = both_are (is_active n a && live) (is_some_and (is_beat_due w.tables) (session_of w.tables a.node)) e in
    let l = both_are (is_active n a) live k.0 in
    (l.0, (l.1, k.1)))
    (λ (a : NodeAgent) on f.
    let live = is_session_live w.tables a.node in
    both (is_active n a && live) (is_some_and (is_beat_due w.tables) (session_of w.tables a.node))
    (both (is_active n a) live on f.0) f.1)

some_is : {X : Type 0} (o : Option X) → is_some o ≡ true → (x : X) × (o ≡ Some x)
some_is None e = absurd cc
some_is (Some x) e = (x, refl)

none_is : {X : Type 0} (o : Option X) → is_none o ≡ true → o ≡ None
none_is None e = refl
none_is (Some x) e = absurd cc

pub apply_due : (w : World) (n : ℕ) → list_any (takes_in n) w.agents ≡ is_due w (duty.Apply n)
apply_due w n =
    agent_due w (duty.Apply n) n (λ a. (m : Message) × (a.inbox ≡ Some m)) (takes_in n) (λ of. of) (λ of. of)
    (λ (a : NodeAgent) e. let k = both_are (is_active n a) (is_some a.inbox) e in (k.0, some_is a.inbox k.1))
    (λ (a : NodeAgent) on f. both (is_active n a) (is_some a.inbox) on (ap is_some f.1))

pub pull_due : (w : World) (n : ℕ) → list_any (pulls w n) w.agents ≡ is_due w (duty.Pull n)
pull_due w n =
    agent_due w (duty.Pull n) n (λ a. IsLive w a × HasMessage w a) (pulls w n) (λ of. of) (λ of. of)
    (λ (a : NodeAgent) e.
    let live = is_session_live w.tables a.node in
    let k = both_are (is_active n a && is_none a.inbox && live) (is_some (message_for w a.node)) e in
    let l = both_are (is_active n a && is_none a.inbox) live k.0 in
    let m = both_are (is_active n a) (is_none a.inbox) l.0 in
    (m.0, (l.1, (none_is a.inbox m.1, k.1))))
    (λ (a : NodeAgent) on f.
    let live = is_session_live w.tables a.node in
    both (is_active n a && is_none a.inbox && live) (is_some (message_for w a.node))
    (both (is_active n a && is_none a.inbox) live
    (both (is_active n a) (is_none a.inbox) on (ap is_none f.1.0)) f.0) f.1.1)

pub exec_due : (w : World) (n x : ℕ) → list_any (steps w.tables.clock n x) w.agents ≡ is_due w (duty.Exec n x)
exec_due w n x =
    let test = has_step w.tables.clock in
    agent_due w (duty.Exec n x) n (λ a. OfExecutor a (has_step w.tables.clock) x) (steps w.tables.clock n x) (λ of. of)
    (λ of. of)
    (λ (a : NodeAgent) e.
    let k = both_are (is_active n a) (has_executor test x a.executors) e in (k.0, executor_from test a x k.1))
    (λ (a : NodeAgent) on f. both (is_active n a) (has_executor test x a.executors) on (executor_to test a x f))

pub report_due : (w : World) (n x : ℕ) → list_any (reports w.tables n x) w.agents ≡ is_due w (duty.Report n x)
report_due w n x =
    let test = wants_report w.tables in
    agent_due w (duty.Report n x) n (λ a. IsLive w a × OfExecutor a (wants_report w.tables) x) (reports w.tables n x)
    (λ of. of) (λ of. of)
    (λ (a : NodeAgent) e.
    let live = is_session_live w.tables a.node in
    let k = both_are (is_active n a && live) (has_executor test x a.executors) e in
    let l = both_are (is_active n a) live k.0 in
    (l.0, (l.1, executor_from test a x k.1)))
    (λ (a : NodeAgent) on f.
    let live = is_session_live w.tables a.node in
    both (is_active n a && live) (has_executor test x a.executors) (both (is_active n a) live on f.0)
    (executor_to test a x f.1))

pub forget_due : (w : World) (n x : ℕ) → list_any (forgets n x) w.agents ≡ is_due w (duty.Forget n x)
forget_due w n x =
    agent_due w (duty.Forget n x) n (λ a. OfExecutor a is_forgotten x) (forgets n x) (λ of. of) (λ of. of)
    (λ (a : NodeAgent) e.
    let k = both_are (is_active n a) (has_executor is_forgotten x a.executors) e in
    (k.0, executor_from is_forgotten a x k.1))
    (λ (a : NodeAgent) on f.
    both (is_active n a) (has_executor is_forgotten x a.executors) on (executor_to is_forgotten a x f))
