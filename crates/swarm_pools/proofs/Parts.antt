-- What is taken of a part, by its halves.
use Rattle.std.proofs.Common.{◌≡◌, ◌&&◌, ◌+◌, ◌-◌, ◌<◌, ◌≤◌, Bool, arith, cond, false, ltb, refl, subst, sym, true, ℕ, ◌∙◌}
use Rattle.std.proofs.lemmas.Bool.Decides.{nat_tests}
use Rattle.swarm_pools.specs.Places.{IsShaped, is_full, is_taken, low_ones}
use Rattle.swarm_pools.specs.declared.places.Places.{Places, Clear, Word, Fork'}
use Rattle.swarm_pools.proofs.Bits.{ones_set}

full_halves : (half place : ℕ) (low high : Places) (a b : Bool) →
    (a ≡ true → place < half → is_taken low place ≡ true) →
    (b ≡ true → half ≤ place → is_taken high (place - half) ≡ true) → (a && b) ≡ true →
    cond (ltb place half) (is_taken low place) (is_taken high (place - half)) ≡ true
full_halves half place low high true true first second both = go (ltb place half) refl
  where
    go : (c : Bool) → ltb place half ≡ c → cond c (is_taken low place) (is_taken high (place - half)) ≡ true
    go true k = first refl (grind (arith, nat_tests))
    go false k = second refl (grind (arith, nat_tests))
full_halves half place low high true false first second both = cc
full_halves half place low high false b first second both = cc

-- each place of a full part is taken
pub full_taken : (size : ℕ) (t : Places) → IsShaped size t → is_full size t ≡ true → (place : ℕ) → place < size →
    is_taken t place ≡ true
full_taken size Clear shape full place lt = cc
full_taken size (Word word) shape full place lt =
    let enough : size ≤ low_ones word = grind (arith, nat_tests) in
    ones_set word place shape.1 (omega (arith, enough))
full_taken size (Fork' half full p low q high) shape is place lt =
    full_halves half place low high (is_full half low) (is_full (size - half) high)
    (λ e within. full_taken half low shape.2 e place within)
    (λ e from. full_taken (size - half) high shape.3 e (place - half) (omega arith))
    (sym shape.4 ∙ is)

-- up to the least free place of the higher half, where the lower one is full
pub taken_up_to : (size free : ℕ) (t : Places) {half : ℕ} {full : Bool} {p q : _} {low high : Places} →
    t ≡ Fork' half full p low q high → IsShaped size t → is_full half low ≡ true →
    ((place : ℕ) → place < free → is_taken high place ≡ true) → (place : ℕ) → place < half + free →
    is_taken t place ≡ true
taken_up_to size free t {half} {full} {p} {q} {low} {high} is shape whole least place lt =
    subst (λ (u : Places). is_taken u place ≡ true) (sym is) (go (ltb place half) refl)
  where
    low_shape : IsShaped half low
    low_shape = (subst (IsShaped size) is shape).2

    go : (c : Bool) → ltb place half ≡ c → cond c (is_taken low place) (is_taken high (place - half)) ≡ true
    go true k = full_taken half low low_shape whole place (grind (arith, nat_tests))
    go false k =
        let from : half ≤ place = grind (arith, nat_tests) in
        least (place - half) (omega arith)
