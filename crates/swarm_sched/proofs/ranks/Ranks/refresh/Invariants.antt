use Rattle.std.proofs.Common.{length}
use Rattle.swarm_sched.proofs.ranks.Ranks.refresh.Given as goal
use Rattle.swarm_sched.specs.Inside.Known.{Knows}
use Rattle.swarm_sched.specs.Inside.Ranks.{AreRanked, AreRight}

abbrev pub invariant-loop-node : goal.invariant-loop-node
invariant-loop-node g l =
    let t = g.R.Rows.tables l.rows in
    record {
      ranked : AreRanked l.nodes l.self;
      right : AreRight t l.self;
      knows : Knows t l.known;
    }

abbrev pub decreases-loop-node : goal.decreases-loop-node
decreases-loop-node g l = length l.self.stale
