-- Flags of the numbers of ports: one number more, and those of lists.
use Rattle.std.proofs.Common.{Bool, List, None, Option, Some, [], ap, arith, false, refl, replicate, slice_index_or, suc, sym, true, zero, ℕ, ◌+◌, ◌-◌, ◌<◌, ◌≤◌, ◌∙◌, ◌∷◌, ◌≡◌}
use Rattle.std.specs.List.{list_any}
use Rattle.std.specs.Option.{option_map}
use Rattle.std.specs.Prelude.{slice_get, ◌||◌}
use Rattle.swarm_alloc.specs.HeldPorts.{AreHeld, Notes}
use Rattle.swarm_objects.proofs.FreeNumbers.{AreTaken, all_ports, next_port, port_found}
use Rattle.swarm_objects.specs.Limits.{first_port, last_port}
use Rattle.swarm_objects.specs.Services.Ports.{free_port, holds_port}
use Rattle.swarm_objects.specs.World.{Tables}
use Rattle.swarm_objects.specs.declared.services.Service.{Service}

-- once the items that are left are noted too, all will be
abbrev pub AreLeft : {X : Type 0} → (ℕ → X → Bool) → List X → List X → List Bool → List Bool → Type 0
AreLeft passes all left before now =
    (place : ℕ)
    → option_map (λ held. held || list_any (passes (first_port + place)) left) (slice_get now place)
    ≡ option_map (λ held. held || list_any (passes (first_port + place)) all) (slice_get before place)

pub none_noted : (flag : Option Bool) → flag ≡ option_map (λ held. held || false) flag
none_noted None = refl
none_noted (Some true) = refl
none_noted (Some false) = refl

both_noted : (one other : Bool) (flag : Option Bool)
    → option_map (λ held. held || other) (option_map (λ held. held || one) flag)
    ≡ option_map (λ held. held || (one || other)) flag
both_noted one other None = refl
both_noted one other (Some true) = refl
both_noted one other (Some false) = refl

pub notes_three : (p q r : ℕ → Bool) (before then' later after : List Bool)
    → Notes p before then' → Notes q then' later → Notes r later after
    → Notes (λ n. p n || q n || r n) before after
notes_three p q r before then' later after one two three = λ place.
    let n = first_port + place in
    three place ∙ ap (option_map (λ held. held || r n)) (two place ∙ ap (option_map (λ held. held || q n)) (one place))
    ∙ ap (option_map (λ held. held || r n)) (both_noted (p n) (q n) (slice_get before place))
    ∙ both_noted (p n || q n) (r n) (slice_get before place)

no_flag : (count place : ℕ) → place < count → slice_get (replicate count false) place ≡ Some false
no_flag zero place below = absurd (omega (arith, below))
no_flag (suc count) zero below = refl
no_flag (suc count) (suc place) below = no_flag count place (omega (arith, below))

-- all services were noted, of none at first
pub all_noted : (udp : Bool) (services rest : List Service) (now : List Bool)
    → AreLeft (holds_port udp) services rest (replicate 2768 false) now → rest ≡ [] → AreHeld udp services now
all_noted udp services rest now left none = λ place within.
    let held = list_any (holds_port udp (first_port + place)) services in
    none_noted (slice_get now place)
    ∙ ap (λ left. option_map (λ held. held || list_any (holds_port udp (first_port + place)) left) (slice_get now place))
    (sym none)
    ∙ left place ∙ ap (option_map (λ flag. flag || held)) (no_flag 2768 place (omega (arith, within)))

-- Counting up to the first that isn't held.

item : (flags : List Bool) (place : ℕ) (d is : Bool) → slice_get flags place ≡ Some is
    → slice_index_or flags place d ≡ is
item [] place d is e = absurd cc
item (one ∷ flags) zero d is e = cc
item (one ∷ flags) (suc place) d is e = item flags place d is e

flag : (udp : Bool) (services : List Service) (flags : List Bool) (number place : ℕ) (d : Bool)
    → AreHeld udp services flags → place ≡ number - first_port → first_port ≤ number → number ≤ last_port
    → slice_index_or flags place d ≡ list_any (holds_port udp number) services
flag udp services flags number place d are is low high =
    let back : first_port + place ≡ number = omega (arith, is, low) in
    item flags place d (list_any (holds_port udp number) services)
    (are place (omega (arith, back, high)) ∙ ap (λ n. Some (list_any (holds_port udp n) services)) back)

-- the numbers before this one are held
pub record AreBefore (t : Tables) (udp : Bool) (number : ℕ) : Type 0 where
  pub low : first_port ≤ number
  pub taken : AreTaken first_port (all_ports t udp) number

pub held_on : (t : Tables) (udp : Bool) (flags : List Bool) (number place : ℕ) (d : Bool)
    → AreHeld udp t.services flags → AreBefore t udp number → number ≤ last_port → place ≡ number - first_port
    → slice_index_or flags place d ≡ true → AreBefore t udp (number + 1)
held_on t udp flags number place d are before high is held = record {
  low = omega (arith, before.low);
  taken =
      next_port t udp number true (sym held ∙ flag udp t.services flags number place d are is before.low high) refl
      before.taken;
}

pub free_found : (t : Tables) (udp : Bool) (flags : List Bool) (number place : ℕ) (d : Bool)
    → AreHeld udp t.services flags → AreBefore t udp number → number ≤ last_port → place ≡ number - first_port
    → slice_index_or flags place d ≡ false → Some number ≡ free_port t udp
free_found t udp flags number place d are before high is free =
    port_found t udp number false (sym free ∙ flag udp t.services flags number place d are is before.low high) refl high
    before.taken
