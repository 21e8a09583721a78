-- Rows counted by their numbers, one after the other, in a list of six counts.
use Rattle.std.proofs.Common.{◌≡◌, ◌≢◌, ◌∙◌, ap, refl, sym, arith, ◌+◌, ◌<◌, ◌≤◌, ℕ, eqb, Bool, cond, false, true}
use Rattle.std.proofs.Common.{List, Option, Some, [], ◌∷◌, ext_get_or, get_or, length, set}
use Rattle.std.proofs.Common.{get_or-set_other, get_or-set_same}
use Rattle.std.proofs.lemmas.Bool.Decides.{nat_tests}
use Rattle.std.proofs.lemmas.List.{length-set}
use Rattle.std.proofs.lemmas.List.FromFn.{get_or-map-range_with_len}
use Rattle.std.proofs.lemmas.List.Sums.{count_by-le-length, sum_by-cons}
use Rattle.std.specs.List.{range_with_len}
use Rattle.std.specs.Option.{option_eq}
use Rattle.std.specs.Prelude.{count_by, map, ◌&&◌}
use Rattle.swarm_objects.specs.Same.{same_number}

-- each count after one of them is raised
raised : (counts : List ℕ) (i k : ℕ) → i < length counts →
    get_or (set counts i (get_or counts i 0 + 1)) k 0 ≡ get_or counts k 0 + cond (eqb i k) 1 0
raised counts i k lt = go (eqb i k) refl
  where
    go : (b : Bool) → eqb i k ≡ b → get_or (set counts i (get_or counts i 0 + 1)) k 0 ≡ get_or counts k 0 + cond b 1 0
    go true e =
        let same : k ≡ i = grind (arith, nat_tests) in
        rw same (get_or-set_same counts i (get_or counts i 0 + 1) 0 lt)
    go false e =
        let other : k ≢ i = grind (arith, nat_tests) in
        omega (arith, get_or-set_other counts i k (get_or counts i 0 + 1) 0 other)

module _ {X : Type 0} (tested : X → Bool) (number : X → Option ℕ) where
  -- the row is tested, and has this number
  abbrev pub has_number : ℕ → X → Bool
  has_number k x = tested x && option_eq same_number (number x) (Some k)

  -- the counts so far and those of the rows that are left are those of all rows
  pub record IsTally (all : List X) (counts : List ℕ) (left : List X) : Type 0 where
    pub six : length counts ≡ 6
    pub sums : (k : ℕ) → get_or counts k 0 + count_by (has_number k) left ≡ count_by (has_number k) all

  -- no count is over the number of rows
  pub within : (all : List X) (counts : List ℕ) (left : List X) (k : ℕ) → IsTally all counts left →
      get_or counts k 0 ≤ length all
  within all counts left k tally = omega (arith, tally.sums k, count_by-le-length (has_number k) all)

  -- the count of a tested row's number is raised
  pub goes_on : (all : List X) (counts : List ℕ) (x : X) (xs : List X) (i : ℕ) → tested x ≡ true →
      Some i ≡ number x → i < 6 → IsTally all counts (x ∷ xs) →
      IsTally all (set counts i (get_or counts i 0 + 1)) xs
  goes_on all counts x xs i passes is lt tally = record {
    six = length-set counts i (get_or counts i 0 + 1) ∙ tally.six;
    sums = λ k. omega (arith, tally.sums k, more k, raised counts i k (omega (arith, lt, tally.six)));
  }
    where
      more : (k : ℕ) → count_by (has_number k) (x ∷ xs) ≡ cond (eqb i k) 1 0 + count_by (has_number k) xs
      more k =
          sum_by-cons (λ y. cond (has_number k y) 1 0) x xs
          ∙ ap (λ b. cond (b && option_eq same_number (number x) (Some k)) 1 0 + count_by (has_number k) xs) passes
          ∙ ap (λ o. cond (option_eq same_number o (Some k)) 1 0 + count_by (has_number k) xs) (sym is)

  -- at the end each count is that of all rows
  pub ends : (all : List X) (counts : List ℕ) (left : List X) (count : ℕ → ℕ) →
      ((k : ℕ) → count_by (has_number k) all ≡ count k) → left ≡ [] → IsTally all counts left →
      counts ≡ map count (range_with_len 0 6)
  ends all counts left count same none tally =
      ext_get_or 0 counts (map count (range_with_len 0 6)) tally.six (λ k lt.
      omega (
        arith,
        tally.sums k,
        ap (λ xs. count_by (has_number k) xs) none,
        same k,
        get_or-map-range_with_len count 0 6 k k 0 (omega (arith, lt, tally.six)) (omega arith),
      ))
