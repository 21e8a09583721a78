use Rattle.std.proofs.Common.{◌≡◌, length}
use Rattle.std.specs.Prelude.{filter}
use Rattle.swarm_objects.specs.Tasks.Places.{is_in_place}
use Rattle.role_words.proofs.places.PlaceTasksIterator.next.Given as goal

-- only tasks of other places were passed over
abbrev pub invariant-loop-row : goal.invariant-loop-row
invariant-loop-row g l =
    filter (is_in_place l.self-inside.service.now l.self-inside.place) l.self-inside.rest ≡ l.fn.self

abbrev pub decreases-loop-row : goal.decreases-loop-row
decreases-loop-row g l = length l.self-inside.rest
