use Rattle.swarm_duties.proofs.Reached.{order}
use Rattle.swarm_plain.specs.Plain.{world_of}
use Rattle.swarm_duties.proofs.steps.is_due.Goals as goal

pub is_pull_due-requires : goal.is_pull_due-requires
is_pull_due-requires c = order (world_of c.args.plain.now) c.requires
