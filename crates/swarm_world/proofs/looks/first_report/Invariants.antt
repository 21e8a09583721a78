use Rattle.std.proofs.Common.{length, true, ◌≡◌}
use Rattle.swarm_agent.specs.Agent.{at_node}
use Rattle.swarm_objects.specs.Loops.Agents.{report_duties}
use Rattle.swarm_objects.specs.Rows.{first_of}
use Rattle.swarm_objects.specs.declared.agents.Executor.{Executor}
use Rattle.swarm_objects.specs.declared.duties.Duty.TheVariants as duty
use Rattle.swarm_world.proofs.LooksOn.{left_above, report_above}
use Rattle.swarm_world.proofs.looks.first_report.Given as goal
use Rattle.swarm_world.specs.Inside.Looks.{looked_at}
use Rattle.swarm_world.specs.Inside.Records.{tables_of}

-- the first report among the executors that are left is the first of all
abbrev pub invariant-loop-task : goal.invariant-loop-task
invariant-loop-task l =
    report_above (tables_of l.records) (λ (e : Executor). duty.Report l.node e.task) l.after l.agent.executors
    ≡ first_of (report_duties (looked_at (tables_of l.records) l.sent) (at_node l.node l.agent) true)

abbrev pub decreases-loop-task : goal.decreases-loop-task
decreases-loop-task l = length (left_above l.after l.agent.executors)
