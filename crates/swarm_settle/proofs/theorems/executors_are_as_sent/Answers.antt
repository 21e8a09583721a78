use Rattle.swarm_settle.proofs.SentLaws.{always-as-sent}
use Rattle.swarm_settle.proofs.theorems.executors_are_as_sent.Goals as goal

pub returns : goal.returns
returns c = always-as-sent
