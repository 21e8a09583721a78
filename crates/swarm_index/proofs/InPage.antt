-- The places of one page, with their boxes and without.
use Rattle.std.proofs.Common.{◌≡◌, ◌<◌, ◌≤◌, ◌+◌, ◌++◌, ◌∷◌, ◌∙◌, ℕ, zero, suc, List, [], None, Option, Some, length, replicate, get_or, set, refl, sym, ap, arith}
use Rattle.std.proofs.lemmas.List.{map-set, set-get_or, set-set}
use Rattle.std.specs.Option.{option_map}
use Rattle.std.specs.declared.boxed.Box.{Box}
use Rattle.swarm_index.specs.Inside.Boxes.{first_from, first_in, unboxed}

-- one empty place more
pub one_more : {X : Type 0} (n : ℕ) (x : X) → replicate n x ++ x ∷ [] ≡ replicate (n + 1) x
one_more zero x = refl
one_more {X} (suc n) x = ap (λ (xs : List X). x ∷ xs) (one_more n x) ∙ ap (λ (m : ℕ). replicate m x) (let e : suc (n + 1) ≡ suc n + 1 = omega arith in e)

-- what was taken out of a place, and what is put there then
pub put_back : {X : Type 0} (page taken left : List (Option X)) (at : ℕ) (row new : X) → taken ≡ set page at None → left ≡ set taken at (Some row) → row ≡ new → left ≡ set page at (Some new)
put_back {X} page taken left at row new t p same =
    p ∙ ap (λ (places : List (Option X)). set places at (Some row)) t ∙ set-set page at None (Some row) ∙ ap (λ (x : X). set page at (Some x)) same

pub put_same : {X : Type 0} (page taken left : List (Option X)) (at : ℕ) (row : X) → taken ≡ set page at None → left ≡ set taken at (Some row) → Some row ≡ get_or page at None → left ≡ page
put_same page taken left at row t p same = put_back page taken left at row row t p refl ∙ ap (set page at) same ∙ set-get_or page at None

module _ {R Z : Type 0} where
  none_unboxed : (n : ℕ) (none : Option (Box R Z)) → none ≡ None → unboxed (replicate n none) ≡ replicate n None
  none_unboxed zero none is = refl
  none_unboxed (suc n) none is = ap (λ (p : Option (Box R Z)). option_map (λ b. b.value) p ∷ unboxed (replicate n none)) is ∙ ap (λ (places : List (Option R)). None ∷ places) (none_unboxed n none is)

  pub no_rows : (n : ℕ) (items : List (Option (Box R Z))) → items ≡ replicate n None → unboxed items ≡ replicate n None
  no_rows n items is = ap unboxed is ∙ none_unboxed n None refl

  -- a place that is written
  pub set_unboxed : (items : List (Option (Box R Z))) (at : ℕ) (new : Option (Box R Z)) (o : Option R) (seen : List (Option R)) → unboxed items ≡ seen → option_map (λ b. b.value) new ≡ o
      → unboxed (set items at new) ≡ set seen at o
  set_unboxed items at new o seen view is = map-set (option_map (λ b. b.value)) items at new ∙ ap (λ (places : List (Option R)). set places at (option_map (λ b. b.value) new)) view ∙ ap (set seen at) is

  -- the first row from a place on that has none
  pub first_more : (items : List (Option (Box R Z))) (i : ℕ) (d : Option (Box R Z)) → i < length items → get_or items i d ≡ None
      → first_from i (unboxed items) ≡ first_from (i + 1) (unboxed items)
  first_more [] i d lt none = absurd (omega (arith, lt))
  first_more (place ∷ items) zero d lt none = ap (λ (p : Option (Box R Z)). first_in (option_map (λ b. b.value) p ∷ unboxed items)) none
  first_more (place ∷ items) (suc i) d lt none =
      first_more items i d (omega (arith, lt)) none
      ∙ ap (λ (m : ℕ). first_from m (unboxed (place ∷ items))) (let e : suc (i + 1) ≡ suc i + 1 = omega arith in e)

  -- .. and from one that has a row
  pub first_found : (items : List (Option (Box R Z))) (i : ℕ) (d : Option (Box R Z)) (b : Box R Z) → i < length items → get_or items i d ≡ Some b
      → first_from i (unboxed items) ≡ Some b.value
  first_found [] i d b lt some = absurd (omega (arith, lt))
  first_found (place ∷ items) zero d b lt some = ap (λ (p : Option (Box R Z)). first_in (option_map (λ b. b.value) p ∷ unboxed items)) some
  first_found (place ∷ items) (suc i) d b lt some = first_found items i d b (omega (arith, lt)) some

  pub first_end : (items : List (Option (Box R Z))) (i : ℕ) → length items ≤ i → first_from i (unboxed items) ≡ None
  first_end [] zero le = refl
  first_end [] (suc i) le = refl
  first_end (place ∷ items) zero le = absurd (omega (arith, le))
  first_end (place ∷ items) (suc i) le = first_end items i (omega (arith, le))

  -- the same of what was read at a place

  pub goes_on : (items : List (Option (Box R Z))) (i : ℕ) (x : Option (Box R Z)) (t : Option R) → i < length items → x ≡ get_or items i x → x ≡ None
      → first_from i (unboxed items) ≡ t → first_from (i + 1) (unboxed items) ≡ t
  goes_on items i x t lt read none so = sym (first_more items i x lt (sym read ∙ none)) ∙ so

  pub finds : (items : List (Option (Box R Z))) (i : ℕ) (x : Option (Box R Z)) (b : Box R Z) (t : Option R) → i < length items → x ≡ get_or items i x → x ≡ Some b
      → first_from i (unboxed items) ≡ t → Some b.value ≡ t
  finds items i x b t lt read some so = sym (first_found items i x b lt (sym read ∙ some)) ∙ so

  pub ends : (items : List (Option (Box R Z))) (i : ℕ) (t : Option R) → length items ≤ i → first_from i (unboxed items) ≡ t → None ≡ t
  ends items i t le so = sym (first_end items i le) ∙ so

pub ruleset first_steps = (goes_on, finds, ends)
