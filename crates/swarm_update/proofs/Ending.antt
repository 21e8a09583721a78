-- Marks of which none is set from some place on.
use Rattle.std.proofs.Common.{ap, arith, false, get_or, length, List, refl, suc, zero, ℕ, ◌≡◌, ◌≤◌, ◌∙◌, ◌∷◌, []}
use Rattle.std.proofs.lemmas.List.{length-replicate}
use Rattle.std.specs.Prelude.{replicate}
use Rattle.swarm_update.specs.Marks.{blank}
use Rattle.swarm_update.specs.PlaceMarks.{EndsAt}
use Rattle.swarm_update.specs.declared.marks.Mark.{Mark}
use Rattle.swarm_update.specs.declared.marks.TheConstants.{UNMARKED, WIDTH}

-- the value of a list of equal items at any place is that item
all_same : (n k : ℕ) (m : Mark) → get_or (replicate n m) k m ≡ m
all_same zero k m = refl
all_same (suc n) zero m = refl
all_same (suc n) (suc k) m = all_same n k m

pub ends_blank : EndsAt 0 (replicate WIDTH UNMARKED)
ends_blank = record {
  wide = length-replicate WIDTH UNMARKED;
  within = omega arith;
  rest = λ k le. all_same WIDTH k UNMARKED;
}

-- where none is set at all
none_set : (n : ℕ) (marks : List Mark) (m : Mark) → length marks ≡ n → ((k : ℕ) → get_or marks k m ≡ m)
    → marks ≡ replicate n m
none_set zero [] m long each = refl
none_set zero (x ∷ xs) m long each = absurd cc
none_set (suc n) [] m long each = absurd cc
none_set (suc n) (x ∷ xs) m long each =
    let here : x ≡ m = each 0 in
    let left : length xs ≡ n = omega (arith, long) in
    ap (λ y. y ∷ xs) here ∙ ap (λ ys. m ∷ ys) (none_set n xs m left (λ k. each (suc k)))

pub cleared : (end : ℕ) (marks : List Mark) → end ≤ 0 → EndsAt end marks
    → record { marks = marks; reach = 0; has_far = false } ≡ blank
cleared end marks over h =
    ap (λ ms. record blank { marks = ms })
    (none_set WIDTH marks UNMARKED h.wide (λ k. h.rest k (omega (arith, over))))
