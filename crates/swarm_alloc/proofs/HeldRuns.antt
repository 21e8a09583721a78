-- Bits of a word that stand for numbers: those that are held from one number on.
use Rattle.std.proofs.Common.{◌≡◌, ◌+◌, ◌<◌, Bool, List, arith, refl, subst, suc, sym, true, zero, ℕ}
use Rattle.std.specs.List.{list_any}
use Rattle.std.specs.Prelude.{◌||◌}
use Rattle.swarm_objects.proofs.FreeNumbers.{AreTaken, lowest, next_address}
use Rattle.swarm_objects.specs.Tasks.Addresses.{addresses_held}
use Rattle.swarm_objects.specs.Tasks.Holders.{holds_address}
use Rattle.swarm_objects.specs.World.{Tables}
use Rattle.swarm_objects.specs.declared.networks.Network.{Network}
use Rattle.swarm_pools.specs.Places.{has_bit}

-- the word's bits and those of the items that are left are these of the first word and those of all items
abbrev pub IsMoreOf : {X : Type 0} → (ℕ → X → Bool) → List X → ℕ → List X → ℕ → Type 0
IsMoreOf passes all first left word =
    (place : ℕ) → place < 64
    → (has_bit word place || list_any (passes place) left) ≡ (has_bit first place || list_any (passes place) all)

-- so many numbers are taken
run-taken : (low : ℕ) (taken : List ℕ) (is_held : ℕ → Bool)
    → ((n : ℕ) → true ≡ is_held n → AreTaken low taken n → AreTaken low taken (n + 1)) → (n count : ℕ)
    → ((place : ℕ) → place < count → is_held (n + place) ≡ true) → AreTaken low taken n
    → AreTaken low taken (n + count)
run-taken low taken is_held next n zero held so_far = subst (AreTaken low taken) (omega arith) so_far
run-taken low taken is_held next n (suc count) held so_far =
    subst (AreTaken low taken) (omega arith)
    (next (n + count) (sym (held count (omega arith)))
    (run-taken low taken is_held next n count (λ place lt. held place (omega arith)) so_far))

pub addresses_taken : (t : Tables) (id : ℕ) (network : Network) (n count : ℕ)
    → ((place : ℕ) → place < count → list_any (holds_address id (n + place)) t.tasks ≡ true)
    → AreTaken (lowest network) (addresses_held t id) n → AreTaken (lowest network) (addresses_held t id) (n + count)
addresses_taken t id network =
    run-taken (lowest network) (addresses_held t id) (λ n. list_any (holds_address id n) t.tasks)
    (λ n held. next_address t id network n true held refl)
