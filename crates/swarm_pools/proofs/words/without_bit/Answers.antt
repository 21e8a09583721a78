use Rattle.swarm_pools.proofs.Bits.{bit_cleared}
use Rattle.swarm_pools.proofs.words.without_bit.Goals as goal

pub returns : goal.returns
returns c = λ other below. bit_cleared c.args.word c.args.place other c.requires below
