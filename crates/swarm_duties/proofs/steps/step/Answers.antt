use Rattle.swarm_duties.proofs.Reached.{usable}
use Rattle.swarm_plain.specs.Plain.{world_of}
use Rattle.swarm_duties.proofs.steps.step.Goals as goal

pub step_call-requires : goal.step_call-requires
step_call-requires c = usable (world_of c.args.plain.now) c.requires
