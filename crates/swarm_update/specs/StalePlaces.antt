-- Which places are stale, by the bits of words.
use Rattle.std.specs.Int.{bit_at}
use Rattle.std.specs.Prelude.{Bool, get_or, nat_le, ℕ, ◌%◌, ◌&&◌, ◌/◌, ◌==◌}
use Rattle.swarm_update.specs.declared.stale_places.StalePlaces.{StalePlaces}
use Rattle.swarm_update.specs.declared.stale_places.TheConstants.{WORD}

-- a word that isn't there has no bit
unfoldable pub is_stale : StalePlaces → ℕ → Bool
is_stale stale k = bit_at (get_or stale.words (k / WORD) 0) (k % WORD) == 1

-- it is stale, and has a number from this one on
abbrev pub is_stale_from : ℕ → StalePlaces → ℕ → Bool
is_stale_from first stale k = nat_le first k && is_stale stale k
