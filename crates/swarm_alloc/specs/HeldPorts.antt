-- The numbers of ports that are held, by a flag for each number that may be given, from the first on.
use Rattle.std.specs.List.{list_any}
use Rattle.std.specs.Option.{option_map}
use Rattle.std.specs.Prelude.{Bool, List, Some, slice_get, ℕ, ◌+◌, ◌||◌, ◌≡◌, ◌≤◌}
use Rattle.swarm_objects.specs.Limits.{first_port, last_port}
use Rattle.swarm_objects.specs.Services.Ports.{holds_port}
use Rattle.swarm_objects.specs.declared.services.Service.{Service}

-- the flags of the numbers that pass are set, and the others stay
abbrev pub Notes : (ℕ → Bool) → List Bool → List Bool → Type 0
Notes passes before after =
    (place : ℕ)
    → slice_get after place ≡ option_map (λ held. held || passes (first_port + place)) (slice_get before place)

-- each flag says whether a service holds the number
abbrev pub AreHeld : Bool → List Service → List Bool → Type 0
AreHeld udp services flags =
    (place : ℕ) → first_port + place ≤ last_port
    → slice_get flags place ≡ Some (list_any (holds_port udp (first_port + place)) services)
