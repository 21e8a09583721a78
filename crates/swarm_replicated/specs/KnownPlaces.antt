-- What is remembered of the places of services.
use Rattle.std.specs.Prelude.{IfSome, List, None, Option, Some, get_or, if◌then◌else◌, length, ℕ, ◌%◌, ◌<◌, ◌==◌, ◌≡◌}
use Rattle.swarm_objects.specs.Rows.{first_gap, row_at, service_id}
use Rattle.swarm_objects.specs.Tasks.Places.{held_places}
use Rattle.swarm_objects.specs.World.{Tables}
use Rattle.swarm_objects.specs.declared.services.Service.{Service}
use Rattle.swarm_replicated.specs.declared.known_places.Counted.{Counted}
use Rattle.swarm_replicated.specs.declared.known_places.KnownPlaces.{KnownPlaces}
use Rattle.swarm_replicated.specs.declared.known_places.PlacesAfter.{PlacesAfter}
use Rattle.swarm_replicated.specs.declared.known_places.TheConstants.{SLOTS}

-- these numbers are held: so many, and the least from 1 on that isn't
pub record AreCounted (k : Counted) (numbers : List ℕ) : Type 0 where
  pub held : k.held ≡ length numbers
  pub gap : k.gap ≡ first_gap 1 numbers

-- where the service is there, its places are counted so
pub record IsCounted (t : Tables) (k : Counted) : Type 0 where
  pub each : (s : Service) → row_at service_id k.service t.services ≡ Some s → AreCounted k (held_places t s)

-- it stands in its service's slot
pub record IsKept (t : Tables) (slot : ℕ) (k : Counted) : Type 0 where
  pub counted : IsCounted t k
  pub stands : k.service % SLOTS ≡ slot

-- whatever is remembered is so
pub record Knows (t : Tables) (known : KnownPlaces) : Type 0 where
  pub each : (slot : ℕ) → slot < SLOTS → IfSome (get_or known.counted slot None) (IsKept t slot)

-- what it says of its service is so
abbrev pub IsAfter : Tables → PlacesAfter → Type 0
IsAfter t after = IfSome after.counted (IsCounted t)

-- where it is of this service
abbrev pub of_service : ℕ → Option Counted → Option Counted
of_service id None = None
of_service id (Some k) = if k.service == id then Some k else None

-- what is remembered of the service with this id
abbrev pub entry : KnownPlaces → ℕ → Option Counted
entry known id = of_service id (get_or known.counted (id % SLOTS) None)
