use Rattle.std.proofs.Common.{◌↔◌, ◌+◌, ◌≡◌, length}
use Rattle.swarm_spread.specs.Counts.{Stands}
use Rattle.swarm_spread.proofs.Standing.{IsScannedFrom}
use Rattle.swarm_spread.proofs.tree.SpreadTree.stands.Given as goal

abbrev pub invariant-loop-node : goal.invariant-loop-node
invariant-loop-node g l = let t = g.R.Rows.tables l.rows in
    record {
      left : IsScannedFrom t l.self l.place l.node-iterator ↔ Stands t l.self;
      count : l.place + length l.node-iterator ≡ length t.nodes;
    }
