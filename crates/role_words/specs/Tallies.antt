-- How many places are held and have a live task, and the least number that isn't held.
use Rattle.std.specs.Prelude.{ℕ, ◌≡◌, ◌+◌, ◌==◌, ◌&&◌, List, fold, if◌then◌else◌, length}
use Rattle.swarm_objects.specs.Rows.{first_gap}
use Rattle.swarm_objects.specs.Tasks.Places.{held_places, live_places}
use Rattle.swarm_objects.specs.World.{Tables}
use Rattle.swarm_objects.specs.declared.services.Service.{Service}
use Rattle.role_words.specs.declared.tallies.Tally.{Tally}
use Rattle.role_words.specs.declared.window.Slot.{Slot}

-- nothing was counted, and the gap is looked for from this number on
abbrev pub empty : ℕ → Tally
empty from = record { live = 0; held = 0; gap = from }

-- with the next place
abbrev pub counted : Tally → Slot → Tally
counted tally slot = record {
  live = if slot.is_live then tally.live + 1 else tally.live;
  held = if slot.is_held then tally.held + 1 else tally.held;
  gap = if slot.is_held && slot.number == tally.gap then tally.gap + 1 else tally.gap;
}

-- of all these places
abbrev pub tally_of : ℕ → List Slot → Tally
tally_of from slots = fold counted (empty from) slots

-- it tells of the service's places
pub record Tells (tally : Tally) (from : ℕ) (t : Tables) (s : Service) : Type 0 where
  pub live : tally.live ≡ length (live_places t s)
  pub held : tally.held ≡ length (held_places t s)
  pub gap : tally.gap ≡ first_gap from (held_places t s)
