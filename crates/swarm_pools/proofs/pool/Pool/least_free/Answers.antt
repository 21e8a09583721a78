use Rattle.std.proofs.Common.{arith, rules}
use Rattle.swarm_pools.proofs.Pools.{least_free, none_free}
use Rattle.swarm_pools.proofs.pool.Pool.least_free.Goals as goal

pub returns-then-is_full : goal.returns-then-is_full
returns-then-is_full c =
    none_free c.self.inside.first c.self.inside.last c.self.inside.places c.args.self.now c.self.view_is c.self.invariant
    (search rules)

pub returns-else-is_full : goal.returns-else-is_full
returns-else-is_full c =
    let order = c.self.invariant.order in
    least_free c.self.inside.first c.self.inside.last c.self.inside.places c.args.self.now c.least_free.result c.self.view_is
    order (omega arith) c.least_free.ensures.free c.least_free.ensures.least
