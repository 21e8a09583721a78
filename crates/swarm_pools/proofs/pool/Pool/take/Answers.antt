use Rattle.std.proofs.Common.{rules}
use Rattle.swarm_pools.proofs.Pools.{take_err, take_ok}
use Rattle.swarm_pools.proofs.pool.Pool.take.Goals as goal

pub returns-clause-ok : goal.returns-clause-ok
returns-clause-ok c =
    take_ok c.take.result c.self.inside.first c.self.inside.last c.self.inside.places c.take.new.self c.args.self.now
    c.args.number c.self.view_is (search rules) (search rules) (search rules)

pub returns-clause-err : goal.returns-clause-err
returns-clause-err c =
    take_err c.take.result c.self.inside.first c.self.inside.last c.self.inside.places c.take.new.self c.args.self.now
    c.args.number c.self.view_is c.self.invariant.order (search rules)
