use Rattle.std.proofs.Common.{◌≡◌, ◌-◌, length}
use Rattle.swarm_index.specs.Inside.Boxes.{first_from, unboxed}
use Rattle.swarm_index.proofs.pages.Page.first.Given as goal

abbrev pub invariant-loop-at : goal.invariant-loop-at
invariant-loop-at g l = first_from l.at (unboxed l.self-inside.places.items) ≡ first_from l.fn.from l.fn.self

abbrev pub decreases-loop-at : goal.decreases-loop-at
decreases-loop-at g l = length l.self-inside.places.items - l.at
