-- Which port numbers a service that is put goes on holding.
use Rattle.std.specs.List.{list_all}
use Rattle.std.specs.Prelude.{Bool, None, Option, Some, [], false, not, true, ℕ, ◌&&◌, ◌≡◌}
use Rattle.swarm_objects.specs.Rows.{is_some_and, row_at, service_id}
use Rattle.swarm_objects.specs.Services.Ports.{holds_port, ports_of}
use Rattle.swarm_objects.specs.World.{Tables}
use Rattle.swarm_objects.specs.declared.services.Service.{Service}

-- the service holds the number, if there is one
abbrev pub holds_number : Service → Bool → Option ℕ → Bool
holds_number s udp None = true
holds_number s udp (Some n) = holds_port udp n s

-- it holds each number that the other one holds
abbrev pub holds_all : Service → Service → Bool
holds_all s other =
    list_all (λ p. holds_number s p.udp p.number) other.spec.ports
    && list_all (λ p. holds_number s p.udp p.number) (ports_of other.previous)
    && list_all (λ n. holds_port n.udp n.number s) other.numbers

-- it doesn't hold each number that the row with its id holds
abbrev pub frees_number : Tables → Service → Bool
frees_number t s = is_some_and (λ old. not (holds_all s old)) (row_at service_id s.id t.services)

-- it names no port, nor did it before, and no number was given to it
pub record HoldsNone (s : Service) : Type 0 where
  pub named : s.spec.ports ≡ []
  pub previous : ports_of s.previous ≡ []
  pub given : s.numbers ≡ []

-- no row with this id sets a number free
pub record KeepsNumbers (t : Tables) (id : ℕ) : Type 0 where
  pub none : (s : Service) → s.id ≡ id → frees_number t s ≡ false
