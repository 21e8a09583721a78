-- What holds of each item of a list, or of each two in their order, by place.
use Rattle.std.proofs.Common.{List, [], arith, inl, inr, refl, ℕ, ◌++◌, ◌<◌, ◌∷◌}
use Rattle.std.proofs.lemmas.List.Kept.{AllPairs-cons}
use Rattle.std.specs.Prelude.{All, AllPairs, length, slice_index_or, suc, zero, ⊤}
use Rattle.swarm_objects.proofs.RowLemmas.{Has-append_cases}
use Rattle.swarm_objects.specs.Rows.{Has}

has-index : {X : Type 0} (xs : List X) (k : ℕ) (d : X) → k < length xs → Has xs (slice_index_or xs k d)
has-index [] k d less = absurd (omega (arith, less))
has-index (x ∷ xs) zero d less = inl refl
has-index (x ∷ xs) (suc k) d less = inr (has-index xs k d (omega (arith, less)))

pub all-has : {X : Type 0} (P : X → Type 0) (xs : List X) → ((x : X) → Has xs x → P x) → All P xs
all-has P xs each = λ k d less. each (slice_index_or xs k d) (has-index xs k d less)

-- each item comes before all behind it
abbrev pub Follow : {X : Type 0} → (X → X → Type 0) → List X → Type 0
Follow R [] = ⊤
Follow {X} R (x ∷ xs) = ((y : X) → Has xs y → R x y) × Follow R xs

pub follow-append : {X : Type 0} (R : X → X → Type 0) (xs ys : List X) → Follow R xs → Follow R ys →
    ((x y : X) → Has xs x → Has ys y → R x y) → Follow R (xs ++ ys)
follow-append R [] ys f g between = g
follow-append R (x ∷ xs) ys f g between = (
  λ y h. elim (Has-append_cases xs ys y h) [ inl k ↦ f.0 y k | inr k ↦ between x y (inl refl) k ],
  follow-append R xs ys f.1 g (λ a b h k. between a b (inr h) k),
)

pub pairs-follow : {X : Type 0} (R : X → X → Type 0) (xs : List X) → Follow R xs → AllPairs R xs
pairs-follow R [] f = λ i j d less short. absurd (omega (arith, short))
pairs-follow R (x ∷ xs) f = AllPairs-cons R x xs (all-has (R x) xs f.0) (pairs-follow R xs f.1)
