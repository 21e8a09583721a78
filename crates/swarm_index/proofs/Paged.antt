-- Rows by their places: what is found by an id, what becomes of the rows as a place is filled or emptied, and the next row.
use Rattle.std.proofs.Common.{◌≡◌, ◌<◌, ◌+◌, ◌++◌, ◌∷◌, ◌∙◌, ℕ, zero, suc, Bool, true, false, cond, List, [], None, Option, Some, length, drop, set, replicate, refl, sym, ap, arith}
use Rattle.std.proofs.lemmas.Bool.Decides.{nat_tests}
use Rattle.std.specs.BTreeMap.{insert_entry, is_at}
use Rattle.std.specs.BTreeMap.Range.{entries_between, range_contains}
use Rattle.std.specs.Map.{lookup, remove_entry, set_value}
use Rattle.std.specs.Option.{option_map}
use Rattle.std.specs.Ordering.{is_eq, match_ordering, nat_cmp}
use Rattle.std.specs.Prelude.{◌≤◌}
use Rattle.std.specs.declared.cmp.Ordering.{Ordering}
use Rattle.std.specs.declared.cmp.Ordering.TheVariants.{Equal, Greater, Less}
use Rattle.std.specs.declared.ops.Bound.TheVariants.{Excluded, Unbounded}
use Rattle.swarm_index.specs.Inside.Boxes.{first_in, row_in, row_of, rows_in}
use Rattle.swarm_objects.specs.Rows.{first_of}

-- the number of an entry and the one that is asked for

here : (k j : ℕ) → k ≡ j → nat_cmp k j ≡ Equal
here k j e = grind (arith, nat_tests, e)

below : (k j : ℕ) → k < j → nat_cmp k j ≡ Less
below k j lt = grind (arith, nat_tests, lt)

above : (k j : ℕ) → j < k → nat_cmp k j ≡ Greater
above k j lt = grind (arith, nat_tests, lt)

is_beyond : (a k : ℕ) → a < k → range_contains nat_cmp (Excluded a) Unbounded k ≡ true
is_beyond a k lt = grind (arith, nat_tests, lt)

not_beyond : (a k : ℕ) → k ≤ a → range_contains nat_cmp (Excluded a) Unbounded k ≡ false
not_beyond a k le = grind (arith, nat_tests, le)

-- what is found among entries by their numbers
abbrev pub found : {V : Type 0} → List (ℕ × V) → ℕ → Option V
found es k = lookup (is_at (nat_cmp k)) es

-- the first row above a number
abbrev pub first_above : {R : Type 0} → ℕ → List (ℕ × R) → Option R
first_above a es = option_map row_of (first_of (entries_between nat_cmp (Excluded a) Unbounded es))

module _ {R : Type 0} where
  -- before the first place

  none_before : (n k : ℕ) (places : List (Option R)) → k < n → found (rows_in n places) k ≡ None
  none_before n k [] lt = refl
  none_before n k (None ∷ places) lt = none_before (suc n) k places (omega (arith, lt))
  none_before n k (Some x ∷ places) lt =
      ap (λ (o : Ordering). cond (is_eq o) (Some x) (found (rows_in (suc n) places) k)) (below k n lt) ∙ none_before (suc n) k places (omega (arith, lt))

  comes_before : (n k : ℕ) (places : List (Option R)) (row : R) → k < n → insert_entry nat_cmp (rows_in n places) k row ≡ (k, row) ∷ rows_in n places
  comes_before n k [] row lt = refl
  comes_before n k (None ∷ places) row lt = comes_before (suc n) k places row (omega (arith, lt))
  comes_before n k (Some x ∷ places) row lt =
      ap (λ (o : Ordering). match_ordering o ((k, row) ∷ (n, x) ∷ rows_in (suc n) places) ((n, row) ∷ rows_in (suc n) places) ((n, x) ∷ insert_entry nat_cmp (rows_in (suc n) places) k row)) (below k n lt)

  none_goes : (n k : ℕ) (places : List (Option R)) → k < n → rows_in n places ≡ remove_entry (is_at (nat_cmp k)) (rows_in n places)
  none_goes n k [] lt = refl
  none_goes n k (None ∷ places) lt = none_goes (suc n) k places (omega (arith, lt))
  none_goes n k (Some x ∷ places) lt =
      ap (λ (es : List (ℕ × R)). (n, x) ∷ es) (none_goes (suc n) k places (omega (arith, lt)))
      ∙ ap (λ (o : Ordering). cond (is_eq o) (rows_in (suc n) places) ((n, x) ∷ remove_entry (is_at (nat_cmp k)) (rows_in (suc n) places))) (sym (below k n lt))

  all_above : (n a : ℕ) (places : List (Option R)) → a < n → first_above a (rows_in n places) ≡ first_in places
  all_above n a [] lt = refl
  all_above n a (None ∷ places) lt = all_above (suc n) a places (omega (arith, lt))
  all_above n a (Some x ∷ places) lt =
      let rest : List (ℕ × R) = entries_between nat_cmp (Excluded a) Unbounded (rows_in (suc n) places) in
      ap (λ (b : Bool). option_map row_of (first_of (cond b ((n, x) ∷ rest) rest))) (is_beyond a n lt)

  -- at a place

  pub row_found : (n i k : ℕ) (places : List (Option R)) → k ≡ n + i → row_in places i ≡ found (rows_in n places) k
  row_found n i k [] e = refl
  row_found n zero k (None ∷ places) e = sym (none_before (suc n) k places (omega (arith, e)))
  row_found n zero k (Some x ∷ places) e = ap (λ (o : Ordering). cond (is_eq o) (Some x) (found (rows_in (suc n) places) k)) (sym (here k n (omega (arith, e))))
  row_found n (suc i) k (None ∷ places) e = row_found (suc n) i k places (omega (arith, e))
  row_found n (suc i) k (Some x ∷ places) e =
      row_found (suc n) i k places (omega (arith, e))
      ∙ ap (λ (o : Ordering). cond (is_eq o) (Some x) (found (rows_in (suc n) places) k)) (sym (above k n (omega (arith, e))))

  pub row_comes : (n i k : ℕ) (places : List (Option R)) (row : R) → k ≡ n + i → i < length places → rows_in n (set places i (Some row)) ≡ insert_entry nat_cmp (rows_in n places) k row
  row_comes n i k [] row e lt = absurd (omega (arith, lt))
  row_comes n zero k (None ∷ places) row e lt =
      ap (λ (m : ℕ). (m, row) ∷ rows_in (suc n) places) (let same : n ≡ k = omega (arith, e) in same)
      ∙ sym (comes_before (suc n) k places row (omega (arith, e)))
  row_comes n zero k (Some x ∷ places) row e lt =
      ap (λ (o : Ordering). match_ordering o ((k, row) ∷ (n, x) ∷ rows_in (suc n) places) ((n, row) ∷ rows_in (suc n) places) ((n, x) ∷ insert_entry nat_cmp (rows_in (suc n) places) k row)) (sym (here k n (omega (arith, e))))
  row_comes n (suc i) k (None ∷ places) row e lt = row_comes (suc n) i k places row (omega (arith, e)) (omega (arith, lt))
  row_comes n (suc i) k (Some x ∷ places) row e lt =
      ap (λ (es : List (ℕ × R)). (n, x) ∷ es) (row_comes (suc n) i k places row (omega (arith, e)) (omega (arith, lt)))
      ∙ ap (λ (o : Ordering). match_ordering o ((k, row) ∷ (n, x) ∷ rows_in (suc n) places) ((n, row) ∷ rows_in (suc n) places) ((n, x) ∷ insert_entry nat_cmp (rows_in (suc n) places) k row)) (sym (above k n (omega (arith, e))))

  pub row_changes : (n i k : ℕ) (places : List (Option R)) (old row : R) → k ≡ n + i → row_in places i ≡ Some old → rows_in n (set places i (Some row)) ≡ set_value (is_at (nat_cmp k)) (rows_in n places) row
  row_changes n i k [] old row e is = let none : None ≡ Some old = is in cc
  row_changes n zero k (None ∷ places) old row e is = let none : None ≡ Some old = is in cc
  row_changes n zero k (Some x ∷ places) old row e is =
      ap (λ (o : Ordering). cond (is_eq o) ((n, row) ∷ rows_in (suc n) places) ((n, x) ∷ set_value (is_at (nat_cmp k)) (rows_in (suc n) places) row)) (sym (here k n (omega (arith, e))))
  row_changes n (suc i) k (None ∷ places) old row e is = row_changes (suc n) i k places old row (omega (arith, e)) is
  row_changes n (suc i) k (Some x ∷ places) old row e is =
      ap (λ (es : List (ℕ × R)). (n, x) ∷ es) (row_changes (suc n) i k places old row (omega (arith, e)) is)
      ∙ ap (λ (o : Ordering). cond (is_eq o) ((n, row) ∷ rows_in (suc n) places) ((n, x) ∷ set_value (is_at (nat_cmp k)) (rows_in (suc n) places) row)) (sym (above k n (omega (arith, e))))

  pub row_goes : (n i k : ℕ) (places : List (Option R)) → k ≡ n + i → rows_in n (set places i None) ≡ remove_entry (is_at (nat_cmp k)) (rows_in n places)
  row_goes n i k [] e = refl
  row_goes n zero k (None ∷ places) e = none_goes (suc n) k places (omega (arith, e))
  row_goes n zero k (Some x ∷ places) e =
      ap (λ (o : Ordering). cond (is_eq o) (rows_in (suc n) places) ((n, x) ∷ remove_entry (is_at (nat_cmp k)) (rows_in (suc n) places))) (sym (here k n (omega (arith, e))))
  row_goes n (suc i) k (None ∷ places) e = row_goes (suc n) i k places (omega (arith, e))
  row_goes n (suc i) k (Some x ∷ places) e =
      ap (λ (es : List (ℕ × R)). (n, x) ∷ es) (row_goes (suc n) i k places (omega (arith, e)))
      ∙ ap (λ (o : Ordering). cond (is_eq o) (rows_in (suc n) places) ((n, x) ∷ remove_entry (is_at (nat_cmp k)) (rows_in (suc n) places))) (sym (above k n (omega (arith, e))))

  pub next_row : (n i a : ℕ) (places : List (Option R)) → suc a ≡ n + i → first_in (drop i places) ≡ first_above a (rows_in n places)
  next_row n zero a places e = sym (all_above n a places (omega (arith, e)))
  next_row n (suc i) a [] e = refl
  next_row n (suc i) a (None ∷ places) e = next_row (suc n) i a places (omega (arith, e))
  next_row n (suc i) a (Some x ∷ places) e =
      let rest : List (ℕ × R) = entries_between nat_cmp (Excluded a) Unbounded (rows_in (suc n) places) in
      next_row (suc n) i a places (omega (arith, e))
      ∙ ap (λ (b : Bool). option_map row_of (first_of (cond b ((n, x) ∷ rest) rest))) (sym (not_beyond a n (omega (arith, e))))

  -- further places without rows add none
  pub no_more_rows : (n m : ℕ) (places : List (Option R)) → rows_in n (places ++ replicate m None) ≡ rows_in n places
  no_more_rows n zero [] = refl
  no_more_rows n (suc m) [] = no_more_rows (suc n) m []
  no_more_rows n m (None ∷ places) = no_more_rows (suc n) m places
  no_more_rows n m (Some x ∷ places) = ap (λ (es : List (ℕ × R)). (n, x) ∷ es) (no_more_rows (suc n) m places)
