use Rattle.swarm_settle.proofs.WellPlaced.{one-live-task}
use Rattle.swarm_settle.proofs.theorems.live_tasks_stand_well.Goals as goal

pub returns : goal.returns
returns c = one-live-task
