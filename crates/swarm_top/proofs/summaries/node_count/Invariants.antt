use Rattle.std.proofs.Common.{◌≡◌, ◌+◌, length}
use Rattle.swarm_top.proofs.summaries.node_count.Given as goal

abbrev pub invariant-loop : goal.invariant-loop
invariant-loop g l = l.count + length l.iterator' ≡ length (g.R.Rows.tables l.rows).nodes
