use Rattle.std.proofs.Common.{refl}
use Rattle.swarm_agent.specs.Times.{on_executors}
use Rattle.swarm_objects.specs.Rows.{drop_row, executor_task}
use Rattle.swarm_objects.specs.declared.duties.Duty.TheVariants as duty
use Rattle.swarm_world.proofs.OnNodes.{by_agent}
use Rattle.swarm_world.proofs.parts.Parts.forget.Goals as goal

pub returns-clause-stands : goal.returns-clause-stands
returns-clause-stands c = λ h stands.
    by_agent c.entries_are_noted.ensures h (duty.Forget c.args.node c.args.task) c.args.node
    (on_executors (drop_row executor_task c.args.task)) c.args.self.now _ stands refl c.forget.ensures refl refl refl refl
