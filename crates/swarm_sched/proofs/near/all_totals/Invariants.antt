use Rattle.std.proofs.Common.{◌≡◌, ◌++◌}
use Rattle.std.specs.Prelude.{map}
use Rattle.swarm_sched.proofs.near.all_totals.Given as goal
use Rattle.swarm_sched.specs.Near.{totals_of}

abbrev pub invariant-loop-node : goal.invariant-loop-node
invariant-loop-node g l =
    let t = g.R.Rows.tables l.rows in
    l.all ++ map (totals_of t) l.node-iterator ≡ map (totals_of t) t.nodes
