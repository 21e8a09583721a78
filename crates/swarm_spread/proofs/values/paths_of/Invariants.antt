use Rattle.std.proofs.Common.{◌≡◌, ◌++◌}
use Rattle.std.specs.Prelude.{map}
use Rattle.swarm_spread.specs.Counts.{path_of}
use Rattle.swarm_spread.proofs.values.paths_of.Given as goal

abbrev pub invariant-loop-node : goal.invariant-loop-node
invariant-loop-node g l =
    l.paths ++ map (path_of l.keys) l.node-iterator ≡ map (path_of l.keys) (g.R.Rows.tables l.rows).nodes
