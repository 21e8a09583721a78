use Rattle.swarm_sched.proofs.Refusing.{AreRefused}
use Rattle.swarm_sched.proofs.Remembering.{AreAmong}
use Rattle.swarm_sched.proofs.refused.counts_with.Given as goal
use Rattle.swarm_sched.specs.Inside.Known.{Knows}
use Rattle.swarm_sched.specs.Inside.KnownRefusals.{KnowsOwn}

abbrev pub invariant-loop-node : goal.invariant-loop-node
invariant-loop-node g l =
    let t = g.R.Rows.tables l.rows in
    record {
      refused : AreRefused t l.task l.counts l.node-iterator;
      among : AreAmong t l.node-iterator;
      knows : Knows t l.known;
      own : KnowsOwn t l.task l.group;
    }
