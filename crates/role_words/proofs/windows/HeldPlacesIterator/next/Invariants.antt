use Rattle.std.proofs.Common.{◌≡◌, length}
use Rattle.role_words.specs.Slots.{held_numbers}
use Rattle.role_words.proofs.windows.HeldPlacesIterator.next.Given as goal

-- only places that aren't held were passed over
abbrev pub invariant-loop-slot : goal.invariant-loop-slot
invariant-loop-slot g l = held_numbers l.self-inside.rest ≡ l.fn.self

abbrev pub decreases-loop-slot : goal.decreases-loop-slot
decreases-loop-slot g l = length l.self-inside.rest
