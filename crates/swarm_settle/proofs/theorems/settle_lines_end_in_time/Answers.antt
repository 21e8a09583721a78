use Rattle.swarm_settle.proofs.Bound.Settling.{settles-in-time}
use Rattle.swarm_settle.proofs.theorems.settle_lines_end_in_time.Goals as goal

pub returns : goal.returns
returns c = settles-in-time
