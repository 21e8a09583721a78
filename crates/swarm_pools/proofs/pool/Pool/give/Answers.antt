use Rattle.std.proofs.Common.{rules}
use Rattle.swarm_pools.proofs.Pools.{taken_fewer}
use Rattle.swarm_pools.proofs.pool.Pool.give.Goals as goal

pub returns : goal.returns
returns c =
    taken_fewer c.self.inside.first c.self.inside.last c.self.inside.places c.give.new.self c.args.self.now
    c.args.number c.self.view_is (search rules) (search rules) (search rules)
