-- A task rises to the state of its executor, which is reported then.
use Rattle.std.proofs.Common.{◌≡◌, ◌+◌, ◌∙◌, ℕ, List, None, Option, Some, ap, refl, subst, sym}
use Rattle.std.specs.Option.{option_map}
use Rattle.std.specs.Prelude.{map}
use Rattle.swarm_agent.specs.Agent.{executor_state}
use Rattle.swarm_agent.specs.Agents.{Changes, executor_on}
use Rattle.swarm_agent.specs.Times.{on_executors}
use Rattle.swarm_model.specs.Changed.{changes_between}
use Rattle.swarm_model.specs.History.{replay, step}
use Rattle.swarm_objects.proofs.RowLemmas.{Has-from_row_at}
use Rattle.swarm_objects.specs.Agents.Messages.{change_executor}
use Rattle.swarm_objects.specs.ChangeLists.{Makes, apply_changes}
use Rattle.swarm_objects.specs.Changes.{change_task, raised_to, with_tables}
use Rattle.swarm_objects.specs.Loops.Agents.{change_executors, executor_at, reported_by, told}
use Rattle.swarm_objects.specs.Rows.{agent_node, executor_task, on_row, row_at}
use Rattle.swarm_objects.specs.World.{Tables, World}
use Rattle.swarm_objects.specs.declared.agents.Executor.{Executor}
use Rattle.swarm_objects.specs.declared.agents.NodeAgent.{NodeAgent}
use Rattle.swarm_objects.specs.declared.calls.Entry.{Entry}
use Rattle.swarm_objects.specs.declared.calls.What.TheVariants as what
use Rattle.swarm_objects.specs.declared.duties.Duty.TheVariants as duty
use Rattle.swarm_objects.specs.declared.rows.Change.{Change}
use Rattle.swarm_objects.specs.declared.tasks.TaskState.{TaskState}
use Rattle.swarm_watch.specs.Calls.{hears}
use Rattle.swarm_watch.specs.Watchings.{Watchings}
use Rattle.swarm_watch.specs.Worlds.{NotesLaw}
use Rattle.swarm_world.proofs.OnNodes.{by_agent}
use Rattle.swarm_world.proofs.Recorded.{tables_are}
use Rattle.swarm_world.proofs.Stepping.{stepped_as}
use Rattle.swarm_world.specs.Inside.Parts.{IsAt, StandsFor}
use Rattle.swarm_world.specs.Inside.Records.{HasRecords, tables_of}
use Rattle.swarm_world.specs.declared.parts.Parts.{Parts}
use Rattle.swarm_world.specs.declared.records.Records.{Records}

-- The executor.

none-there : (o : Option Executor) → None ≡ option_map executor_state o → o ≡ None
none-there None e = refl
none-there (Some x) e = absurd cc

task-is : (task : ℕ) (o : Option NodeAgent) (e : Executor) →
    on_row None (λ a. row_at executor_task task a.executors) o ≡ Some e → e.task ≡ task
task-is task None e is = absurd cc
task-is task (Some a) e is = (Has-from_row_at executor_task task a.executors e is).1

-- the task rises to its state
reported-is : (version : ℕ) (w : World) (node task : ℕ) (s : TaskState) (o : Option Executor) →
    executor_at w node task ≡ o → Some s ≡ option_map executor_state o →
    reported_by version w o ≡ change_task task (raised_to version w.tables.clock s) w.tables
reported-is version w node task s None there state = absurd cc
reported-is version w node task s (Some e) there state =
    let same : s ≡ e.state = cc in
    ap (λ k. change_task k (raised_to version w.tables.clock e.state) w.tables)
    (task-is task (row_at agent_node node w.agents) e there)
    ∙ ap (λ (x : TaskState). change_task task (raised_to version w.tables.clock x) w.tables) (sym same)

-- The entry.

-- no executor is there
pub reported_none : (notes : NotesLaw) (h : List Entry) (node task : ℕ) (p q : Parts) → StandsFor p (replay h) →
    None ≡ option_map executor_state (executor_on node task (replay h).agents) →
    Changes node (on_executors (change_executor task told)) p.agents q.agents → q.records ≡ p.records →
    q.watches ≡ p.watches → q.sent ≡ p.sent → q.halted ≡ p.halted →
    StandsFor q (step (replay h) (what.Duty (duty.Report node task))).after
reported_none notes h node task p q stands none changed records watches sent halted =
    let w = replay h in
    let k = w.entries + 1 in
    by_agent notes h (duty.Report node task) node (on_executors (change_executor task told)) p q stands
    (ap (λ (o : Option Executor). change_executors node (change_executor task told) (with_tables w (reported_by k w o)))
    (none-there (executor_at w node task) none))
    changed records watches sent halted

-- the rows and the watchers changed, and then the agent
pub reported_some : (notes : NotesLaw) (version : ℕ) (h : List Entry) (node task : ℕ) (s : TaskState) (p q : Parts)
    (r : Records) (m : Watchings) (cs : List Change) → IsAt version p h →
    Some s ≡ option_map executor_state (executor_on node task (replay h).agents) →
    Makes (tables_of p.records) cs
    (change_task task (raised_to version (tables_of p.records).clock s) (tables_of p.records)) →
    HasRecords r (with_tables (replay h) (apply_changes (replay h).tables cs)) →
    m.watchers
    ≡ map (hears (changes_between version (replay h).tables (apply_changes (replay h).tables cs))) p.watches.watchers →
    Changes node (on_executors (change_executor task told)) p.agents q.agents → q.records ≡ r → q.watches ≡ m →
    q.sent ≡ p.sent → q.halted ≡ p.halted →
    StandsFor q (step (replay h) (what.Duty (duty.Report node task))).after
reported_some notes version h node task s p q r m cs is there makes rows heard changed records watches sent halted =
    let w = replay h in
    let has = is.stands.has in
    let gives : apply_changes w.tables cs ≡ change_task task (raised_to version w.tables.clock s) w.tables =
    subst (λ (t : Tables). apply_changes t cs ≡ change_task task (raised_to version t.clock s) t)
    (tables_are p.records w has.records) makes.gives in
    let raised : apply_changes w.tables cs ≡ reported_by version w (executor_at w node task) =
    gives ∙ sym (reported-is version w node task s (executor_at w node task) refl there) in
    let v = change_executors node (change_executor task told) (with_tables w (apply_changes w.tables cs)) in
    stepped_as notes version h (duty.Report node task) v p q is
    (ap (λ (t : Tables). change_executors node (change_executor task told) (with_tables w t)) raised)
    (record {
      records = record {
        store = ap (λ (x : Records). x.store.tables) records ∙ rows.store;
        sessions = ap (λ (x : Records). x.sessions.rows) records ∙ rows.sessions;
      };
      sent = sent ∙ has.sent;
      agents = changed w.agents has.agents;
      halted = halted ∙ has.halted;
    })
    (ap (λ (x : Watchings). x.watchers) watches ∙ heard)
