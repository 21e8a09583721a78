use Rattle.swarm_settle.proofs.Bound.Rest.{bound-law}
use Rattle.swarm_settle.proofs.theorems.loops_come_to_rest.Goals as goal

pub returns : goal.returns
returns c = bound-law
