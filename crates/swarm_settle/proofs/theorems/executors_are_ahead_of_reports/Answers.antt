use Rattle.swarm_settle.proofs.Ahead.{always-ahead}
use Rattle.swarm_settle.proofs.theorems.executors_are_ahead_of_reports.Goals as goal

pub returns : goal.returns
returns c = always-ahead
