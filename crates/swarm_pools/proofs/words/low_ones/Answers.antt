use Rattle.std.proofs.Common.{arith, rules}
use Rattle.swarm_pools.proofs.Bits.{ones_end, ones_set}
use Rattle.swarm_pools.proofs.words.low_ones.Goals as goal

pub returns-clause-set : goal.returns-clause-set
returns-clause-set c = λ place lt. ones_set c.args.word place (omega arith) (omega arith)

pub returns-clause-clear : goal.returns-clause-clear
returns-clause-clear c = λ lt. ones_end c.args.word _ (search rules) (omega arith) lt
