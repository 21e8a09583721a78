use Rattle.swarm_duties.proofs.Reached.{order}
use Rattle.swarm_plain.specs.Plain.{world_of}
use Rattle.swarm_duties.proofs.settling.duties.Goals as goal

pub agents_duties-requires : goal.agents_duties-requires
agents_duties-requires c = order (world_of c.args.plain.now) c.requires
