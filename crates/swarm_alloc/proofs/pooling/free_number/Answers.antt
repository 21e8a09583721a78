use Rattle.std.proofs.Common.{arith}
use Rattle.swarm_alloc.proofs.Pooled.{pool_free}
use Rattle.swarm_alloc.proofs.pooling.free_number.Goals as goal

pub returns-clause-value : goal.returns-clause-value
returns-clause-value c =
    let pool = c.loop-number.pool in
    pool_free c.args.first c.args.last c.last_needed-needed.result pool.first pool.last pool.taken c.args.held.now
    c.loop-number.number-index c.least_free.result c.last_needed-needed.ensures c.least_free.ensures
    c.loop-number.invariant.first c.loop-number.invariant.last (omega arith) c.loop-number.invariant.taken
