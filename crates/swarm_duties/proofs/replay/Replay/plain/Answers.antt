use Rattle.swarm_duties.proofs.Reached.{usable}
use Rattle.swarm_plain.specs.Plain.{world_of}
use Rattle.swarm_duties.proofs.replay.Replay.plain.Goals as goal

pub returns-clause-usable : goal.returns-clause-usable
returns-clause-usable c = usable (world_of c.self.inside.plain) c.self.invariant
