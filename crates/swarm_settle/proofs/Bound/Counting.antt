-- How many duties can follow one another, where each makes a measure smaller.
use Rattle.std.proofs.Common.{Bool, List, [], ap, arith, false, length, refl, true, ℕ, ◌+◌, ◌*◌, ◌∷◌, ◌≡◌, ◌≤◌}
use Rattle.std.proofs.lemmas.List.Sums.{sum_by-cons}
use Rattle.std.proofs.lemmas.Nat.{mul-le}
use Rattle.std.specs.Prelude.{cond, count_by, map, not}
use Rattle.swarm_model.specs.History.{IsLegalFrom, effect, may_follow}
use Rattle.swarm_model.specs.Laws.Size.{by_caller, is_silent_duty}
use Rattle.swarm_objects.specs.World.{World}
use Rattle.swarm_objects.specs.declared.calls.What.TheVariants as what
use Rattle.swarm_objects.specs.declared.duties.Duty.{Duty}

-- the duty may come next
abbrev pub MayCome : World → Duty → Type 0
MayCome w d = may_follow w (what.Duty d) ≡ true

-- a duty other than a note makes the measure smaller, a note the count of notes; each of these has 23 of the measure
pub record Bounds (P : World → Type 0) (measure notes : World → ℕ) : Type 0 where
  pub stays : (w : World) (d : Duty) → P w → MayCome w d → P (effect w d)
  pub falls : (w : World) (d : Duty) → P w → MayCome w d → is_silent_duty d ≡ false → measure (effect w d) + 1 ≤ measure w
  pub silent : (w : World) (d : Duty) → P w → MayCome w d → is_silent_duty d ≡ true →
      (measure (effect w d) ≤ measure w) × (notes (effect w d) + 1 ≤ notes w)
  pub few : (w : World) → P w → 23 * notes w ≤ measure w

-- all duties, and those other than notes
pub record IsBounded (measure notes : ℕ) (ds : List Duty) : Type 0 where
  pub all : 23 * length ds ≤ measure * (measure + 23) + 23 * notes
  pub loud : count_by (λ d. not (is_silent_duty d)) ds ≤ measure

-- one more duty: the measure and the notes fall from the first to the second
loud-more : (m n k l : ℕ) (d : Duty) (ds : List Duty) → n + 1 ≤ m → 23 * l ≤ n → is_silent_duty d ≡ false →
    IsBounded n l ds → IsBounded m k (d ∷ ds)
loud-more m n k l d ds fall few loud is = record {
  all = let product = mul-le (n + 1) (n + 24) m (m + 23) fall (omega (arith, fall)) in omega (arith, product, is.all, few);
  loud = let step = sum_by-cons (λ (x : Duty). cond (not (is_silent_duty x)) 1 0) d ds in
      let one : cond (not (is_silent_duty d)) 1 0 ≤ 1 = bit-le (not (is_silent_duty d)) in
      omega (arith, step, one, is.loud, fall);
}
  where
    bit-le : (b : Bool) → cond b 1 0 ≤ 1
    bit-le true = omega arith
    bit-le false = omega arith

silent-more : (m n k l : ℕ) (d : Duty) (ds : List Duty) → n ≤ m → l + 1 ≤ k → is_silent_duty d ≡ true →
    IsBounded n l ds → IsBounded m k (d ∷ ds)
silent-more m n k l d ds fall few silent is = record {
  all = let product = mul-le n (n + 23) m (m + 23) fall (omega (arith, fall)) in omega (arith, product, is.all, few);
  loud = let step = sum_by-cons (λ (x : Duty). cond (not (is_silent_duty x)) 1 0) d ds in
      let none : ◌≡◌ {A = ℕ} (cond (not (is_silent_duty d)) 1 0) 0 = ap (λ (b : Bool). cond {A = ℕ} (not b) 1 0) silent in
      omega (arith, step, none, is.loud, fall);
}

pub bounded : (P : World → Type 0) (measure notes : World → ℕ) → Bounds P measure notes → (caller : ℕ) (ds : List Duty)
    (w : World) → P w → IsLegalFrom w (map (by_caller caller) ds) → IsBounded (measure w) (notes w) ds
bounded P measure notes is caller [] w p legal = record { all = omega arith; loud = omega arith }
bounded P measure notes is caller (d ∷ ds) w p legal =
    go (is_silent_duty d) refl
    (bounded P measure notes is caller ds (effect w d) (is.stays w d p legal.0) legal.1)
  where
    go : (b : Bool) → is_silent_duty d ≡ b → IsBounded (measure (effect w d)) (notes (effect w d)) ds →
        IsBounded (measure w) (notes w) (d ∷ ds)
    go false e rest =
        loud-more (measure w) _ (notes w) _ d ds (is.falls w d p legal.0 e)
        (is.few (effect w d) (is.stays w d p legal.0)) e rest
    go true e rest =
        let step = is.silent w d p legal.0 e in
        silent-more (measure w) _ (notes w) _ d ds step.0 step.1 e rest
