use Rattle.std.proofs.Common.{◌≡◌, ◌++◌, take}
use Rattle.swarm_objects.specs.Loops.Agents.{wants_report}
use Rattle.swarm_objects.specs.Loops.Words.{duty_where}
use Rattle.swarm_objects.specs.declared.duties.Duty.TheVariants as duty
use Rattle.swarm_plain.specs.Plain.{tables_of}
use Rattle.plain_agents.proofs.agents.add_reports.Given as goal

abbrev pub invariant-loop-executor : goal.invariant-loop-executor
invariant-loop-executor l =
    let test = wants_report (tables_of l.plain) in
    l.duties
    ≡ l.initial.duties
    ++ duty_where test (λ e. duty.Report l.agent.node e.task) (take l.executor-index l.executor-items)
