use Rattle.std.specs.Prelude.{length, ◌≡◌}
use Rattle.swarm_sched.proofs.known_refusals.forget_each.Given as goal
use Rattle.swarm_sched.specs.Inside.KnownRefusals.{forget_each}

abbrev pub invariant-loop-change : goal.invariant-loop-change
invariant-loop-change g l =
    let t = g.R.Rows.tables l.rows in forget_each t l.left l.groups ≡ forget_each t l.changes l.initial.groups

abbrev pub decreases-loop-change : goal.decreases-loop-change
decreases-loop-change g l = length l.left
