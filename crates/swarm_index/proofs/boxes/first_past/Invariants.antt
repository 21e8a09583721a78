use Rattle.std.proofs.Common.{◌≡◌, drop}
use Rattle.swarm_index.specs.Inside.Boxes.{all_places, first_in}
use Rattle.swarm_index.proofs.boxes.first_past.Given as goal

abbrev pub invariant-loop-key : goal.invariant-loop-key
invariant-loop-key g l = first_in (all_places (drop l.key l.pages.items)) ≡ first_in (all_places (drop l.from l.pages.items))
