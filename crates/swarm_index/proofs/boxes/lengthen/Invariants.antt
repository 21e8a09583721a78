use Rattle.std.proofs.Common.{◌≡◌, length}
use Rattle.swarm_index.specs.Inside.Boxes.{ArePages, unpaged}
use Rattle.swarm_index.proofs.boxes.lengthen.Given as goal

abbrev pub invariant-loop-key : goal.invariant-loop-key
invariant-loop-key g l = (length l.pages.items ≡ l.key) × (unpaged l.pages.items ≡ unpaged l.initial.pages.items) × (ArePages l.initial.pages.items → ArePages l.pages.items)
