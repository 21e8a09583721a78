-- How often services name each port number, as a table counts it.
use Rattle.std.specs.Prelude.{◌≡◌, ◌+◌, ◌-◌, ◌==◌, ◌&&◌, if◌then◌else◌, ℕ, Bool, List, Option, Some, None, IfSome, slice_get, count_by, min, nat_lt, not, sum_by}
use Rattle.std.specs.Option.{option_eq, option_map}
use Rattle.swarm_objects.specs.Rows.{row_at, service_id}
use Rattle.swarm_objects.specs.Same.{same_bool, same_number}
use Rattle.swarm_objects.specs.Services.Ports.{has_port_number, holds_port, is_numbered, ports_of}
use Rattle.swarm_objects.specs.declared.services.Service.{Service}

-- how often the service names the number of this protocol: its specification, its previous one and its numbers
abbrev pub times : Bool → ℕ → Service → ℕ
times udp number s =
    count_by (has_port_number udp number) s.spec.ports
    + count_by (has_port_number udp number) (ports_of s.previous)
    + count_by (is_numbered udp number) s.numbers

abbrev pub times_of : Bool → ℕ → Option Service → ℕ
times_of udp number None = 0
times_of udp number (Some s) = times udp number s

-- how often the one with this id does
abbrev pub own_times : Option ℕ → Bool → ℕ → List Service → ℕ
own_times None udp number services = 0
own_times (Some id) udp number services = times_of udp number (row_at service_id id services)

-- how often all of them do
abbrev pub times_in : Bool → ℕ → List Service → ℕ
times_in udp number services = sum_by (times udp number) services

-- a count for each number of a protocol
pub record Counts : Type 0 where
  pub tcp : List ℕ
  pub udp : List ℕ

abbrev pub count_of : Bool → Counts → ℕ → Option ℕ
count_of udp counts number = if udp then slice_get counts.udp number else slice_get counts.tcp number

-- the greatest number of a count: from there on it stays, and tells nothing
abbrev pub most_times : ℕ
most_times = 65535

-- so many more, or so many fewer
abbrev pub moved : Bool → ℕ → ℕ → ℕ
moved more n count =
    if nat_lt count most_times then (if more then min (count + n) most_times else count - n) else count

-- each number is named so many times more, or fewer
abbrev pub MovesAll : Bool → (Bool → ℕ → ℕ) → Counts → Counts → Type 0
MovesAll more n before after =
    (udp : Bool) (number : ℕ) →
    count_of udp after number ≡ option_map (moved more (n udp number)) (count_of udp before number)

-- how often a number is named, as far as its count tells it
abbrev pub known : Option ℕ → Option ℕ
known None = None
known (Some count) = if nat_lt count most_times then Some count else None

-- what the table tells is how often the services name the number
abbrev pub AreTimes : Counts → List Service → Type 0
AreTimes counts services =
    (udp : Bool) (number : ℕ) →
    IfSome (known (count_of udp counts number)) (λ times. times ≡ times_in udp number services)

-- how many numbers a protocol has
abbrev pub all_numbers : ℕ
all_numbers = 65536

-- no number is held
abbrev pub AreNone : Counts → Type 0
AreNone counts =
    (udp : Bool) (number : ℕ) → count_of udp counts number ≡ (if nat_lt number all_numbers then Some 0 else None)

-- this one number, once
abbrev pub once : Bool → ℕ → Bool → ℕ → ℕ
once udp number u n = if same_bool udp u && number == n then 1 else 0

-- another service that holds the number
abbrev pub is_other : Option ℕ → Bool → ℕ → Service → Bool
is_other own udp number s = not (option_eq same_number own (Some s.id)) && holds_port udp number s
