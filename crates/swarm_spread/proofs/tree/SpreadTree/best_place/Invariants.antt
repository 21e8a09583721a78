use Rattle.std.proofs.Common.{None, ◌≡◌, ◌+◌, ◌<◌, length}
use Rattle.std.specs.Prelude.{IfSome}
use Rattle.swarm_spread.specs.Counts.{best_place, place_order}
use Rattle.swarm_spread.proofs.tree.SpreadTree.best_place.Given as goal

abbrev pub invariant-loop-node : goal.invariant-loop-node
invariant-loop-node g l = let t = g.R.Rows.tables l.rows in
    record {
      chosen :
          best_place (place_order t l.self) (λ n. g.A.Admits.test l.test n l.task) l.best l.place l.node-iterator
          ≡ best_place (place_order t l.self) (λ n. g.A.Admits.test l.test n l.task) None 0 t.nodes;
      left : l.place + length l.node-iterator ≡ length l.self.nodes;
      within : IfSome l.best (λ other. other < length l.self.nodes);
    }
