use Rattle.swarm_settle.proofs.Calm.{always-aimed}
use Rattle.swarm_settle.proofs.theorems.live_placed_tasks_run.Goals as goal

pub returns : goal.returns
returns c = always-aimed
