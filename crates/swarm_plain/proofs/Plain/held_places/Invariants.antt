use Rattle.std.proofs.Common.{◌≡◌, take}
use Rattle.std.specs.Prelude.{filter}
use Rattle.swarm_objects.specs.Tasks.Places.{is_held_place}
use Rattle.swarm_plain.specs.Plain.{tables_of}
use Rattle.swarm_plain.proofs.Plain.held_places.Given as goal

abbrev pub invariant-loop-number : goal.invariant-loop-number
invariant-loop-number l =
    l.held ≡ filter (is_held_place (tables_of l.self) l.service) (take l.number-index l.number-items)
