use Rattle.swarm_duties.proofs.Reached.{usable}
use Rattle.swarm_plain.specs.Plain.{world_of}
use Rattle.swarm_duties.proofs.steps.step_duty.Goals as goal

pub may_be_done-requires : goal.may_be_done-requires
may_be_done-requires c = usable (world_of c.args.plain.now) c.requires
