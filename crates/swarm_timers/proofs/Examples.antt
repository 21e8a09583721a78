-- Two owners with one time.
use Rattle.std.proofs.Common.{List, None, Some, [], refl, ◌≡◌}
use Rattle.swarm_timers.specs.Timers.{Timer, due_owner, next_time, with_time, without_time}

abbrev both : List Timer
both = with_time 3 10 (with_time 5 10 [])

nothing-yet : due_owner 9 both ≡ None
nothing-yet = refl

soon : next_time both ≡ Some 10
soon = refl

-- of two with one time the lesser owner
lesser : due_owner 10 both ≡ Some 3
lesser = refl

-- a later time takes the place of the earlier one
put-off : due_owner 10 (with_time 3 12 both) ≡ Some 5
put-off = refl

still : next_time (with_time 3 12 both) ≡ Some 10
still = refl

-- the least time goes before the lesser owner
sooner : due_owner 12 (with_time 5 9 both) ≡ Some 5
sooner = refl

one-left : due_owner 10 (without_time 3 both) ≡ Some 5
one-left = refl

none-left : next_time (without_time 5 (without_time 3 both)) ≡ None
none-left = refl
