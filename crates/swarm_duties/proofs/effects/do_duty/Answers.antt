use Rattle.swarm_duties.proofs.Reached.{usable}
use Rattle.swarm_plain.specs.Plain.{world_of}
use Rattle.swarm_duties.proofs.effects.do_duty.Goals as goal

pub do_unseen-requires-clause-usable : goal.do_unseen-requires-clause-usable
do_unseen-requires-clause-usable c = usable (world_of c.args.plain.now) c.requires.reached
