use Rattle.swarm_pools.proofs.Pools.{none_taken}
use Rattle.swarm_pools.proofs.pool.Pool.new.Goals as goal

pub returns : goal.returns
returns c = none_taken c.args.first c.args.last
