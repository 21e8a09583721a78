use Rattle.std.proofs.Common.{subst, sym}
use Rattle.swarm_timers.proofs.Kept.{walk-all, walk-order}
use Rattle.swarm_timers.proofs.timers.Timers.iter.Goals as goal
use Rattle.swarm_timers.specs.Timers.{AreInOrder}

pub returns-clause-all : goal.returns-clause-all
returns-clause-all c at owner =
    walk-all c.self.inside.by_owner.entries c.self.inside.by_time.set c.iter.result c.args.self.now c.self.invariant
    c.iter.ensures.rest c.self.view_is at owner

pub returns-clause-order : goal.returns-clause-order
returns-clause-order c =
    subst AreInOrder (sym c.iter.ensures.rest) (walk-order c.self.inside.by_time.set.keys c.iter.ensures.order)
