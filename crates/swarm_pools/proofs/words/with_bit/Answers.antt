use Rattle.swarm_pools.proofs.Bits.{bit_set}
use Rattle.swarm_pools.proofs.words.with_bit.Goals as goal

pub returns : goal.returns
returns c = λ other. bit_set c.args.word c.args.place other c.requires
