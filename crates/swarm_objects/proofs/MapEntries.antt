-- A map's entries as rows by their numbers: what is found and changed in the map is found and changed in the rows.
use Rattle.std.proofs.Common.{Bool, List, Some, [], ap, arith, cond, eqb, false, ltb, not, refl, subst, sym, true, ℕ, ◌<◌, ◌∙◌, ◌∷◌, ◌≡◌}
use Rattle.std.proofs.lemmas.Bool.Decides.{nat_tests}
use Rattle.std.specs.BTreeMap.{insert_entry, is_at}
use Rattle.std.specs.Map.{lookup, remove_entry, set_value}
use Rattle.std.specs.Option.{option_map}
use Rattle.std.specs.Ordering.{is_eq, match_ordering, nat_cmp}
use Rattle.std.specs.Prelude.{filter, map}
use Rattle.std.specs.declared.cmp.Ordering.TheVariants.{Equal, Greater, Less}
use Rattle.swarm_objects.proofs.RowChanges.{drop_row_above, rising_from}
use Rattle.swarm_objects.proofs.RowLemmas.{RisesFrom-filter, RisesFrom-lower, change_row_above}
use Rattle.swarm_objects.specs.MapEntries.{entry_key}
use Rattle.swarm_objects.specs.Rows.{IsRising, RisesFrom, change_row, drop_row, row_at, with_row}

found : (k j : ℕ) → is_eq (nat_cmp k j) ≡ eqb j k
found k j = go (ltb k j) refl (eqb k j) refl
  where
    go : (a : Bool) → ltb k j ≡ a → (b : Bool) → eqb k j ≡ b → is_eq (nat_cmp k j) ≡ eqb j k
    go true p b q = grind (arith, nat_tests)
    go false p true q = grind (arith, nat_tests)
    go false p false q = grind (arith, nat_tests)

module _ {V X : Type 0} (key : X → ℕ) (row : ℕ × V → X) (at : (e : ℕ × V) → key (row e) ≡ e.0) where
  rows-rise : (n : ℕ) (es : List (ℕ × V)) → RisesFrom entry_key n es → RisesFrom key n (map row es)
  rows-rise n [] r = tt
  rows-rise n (e ∷ es) r =
      (omega (arith, r.0, at e), subst (λ (j : ℕ). RisesFrom key j (map row es)) (sym (at e)) (rows-rise e.0 es r.1))

  pub entries-rise : (es : List (ℕ × V)) → IsRising entry_key es → IsRising key (map row es)
  entries-rise [] r = tt
  entries-rise (e ∷ es) r = subst (λ (j : ℕ). RisesFrom key j (map row es)) (sym (at e)) (rows-rise e.0 es r)

  pub lookup-entry : (k : ℕ) (es : List (ℕ × V)) →
      option_map (λ (v : V). row (k, v)) (lookup (is_at (nat_cmp k)) es) ≡ row_at key k (map row es)
  lookup-entry k [] = refl
  lookup-entry k (e ∷ es) =
      ap (λ (b : Bool). option_map (λ (v : V). row (k, v)) (cond b (Some e.1) (lookup (is_at (nat_cmp k)) es)))
      (found k e.0)
      ∙ go (eqb e.0 k) refl (lookup-entry k es)
      ∙ ap (λ (j : ℕ). cond (eqb j k) (Some (row e)) (row_at key k (map row es))) (sym (at e))
    where
      go : (b : Bool) → eqb e.0 k ≡ b →
          option_map (λ (v : V). row (k, v)) (lookup (is_at (nat_cmp k)) es) ≡ row_at key k (map row es) →
          option_map (λ (v : V). row (k, v)) (cond b (Some e.1) (lookup (is_at (nat_cmp k)) es))
          ≡ cond b (Some (row e)) (row_at key k (map row es))
      go true p rest = ap (λ (j : ℕ). Some (row (j, e.1))) (let same : k ≡ e.0 = grind (arith, nat_tests, p) in same)
      go false p rest = rest

  pub set-entry : (k : ℕ) (v : V) (es : List (ℕ × V)) → IsRising entry_key es →
      map row (set_value (is_at (nat_cmp k)) es v) ≡ change_row key k (λ _. row (k, v)) (map row es)
  set-entry k v [] r = refl
  set-entry k v (e ∷ es) r =
      ap (λ (b : Bool). map row (cond b ((e.0, v) ∷ es) (e ∷ set_value (is_at (nat_cmp k)) es v))) (found k e.0)
      ∙ go (eqb e.0 k) refl (set-entry k v es (rising_from entry_key e.0 es r))
      ∙ ap (λ (j : ℕ). cond (eqb j k) (row (k, v)) (row e) ∷ change_row key k (λ _. row (k, v)) (map row es)) (sym (at e))
    where
      go : (b : Bool) → eqb e.0 k ≡ b →
          map row (set_value (is_at (nat_cmp k)) es v) ≡ change_row key k (λ _. row (k, v)) (map row es) →
          map row (cond b ((e.0, v) ∷ es) (e ∷ set_value (is_at (nat_cmp k)) es v))
          ≡ cond b (row (k, v)) (row e) ∷ change_row key k (λ _. row (k, v)) (map row es)
      go true p rest =
          let same : e.0 ≡ k = grind (arith, nat_tests, p) in
          ap (λ (j : ℕ). row (j, v) ∷ map row es) same
          ∙ ap (λ (xs : List X). row (k, v) ∷ xs)
          (sym (change_row_above key e.0 k (λ _. row (k, v)) (map row es) (rows-rise e.0 es r) (omega (arith, same))))
      go false p rest = ap (λ (xs : List X). row e ∷ xs) rest

  pub put-entry : (k : ℕ) (v : V) (es : List (ℕ × V)) →
      map row (insert_entry nat_cmp es k v) ≡ with_row key (row (k, v)) (map row es)
  put-entry k v [] = refl
  put-entry k v (e ∷ es) =
      go (ltb k e.0) (eqb k e.0) refl (put-entry k v es)
      ∙ ap (λ (j : ℕ). whole (ltb k j) (eqb k j)) (sym (at e))
      ∙ ap (λ (j : ℕ). whole (ltb j (key (row e))) (eqb j (key (row e)))) (sym (at (k, v)))
    where
      whole : Bool → Bool → List X
      whole a b = cond a (row (k, v) ∷ map row (e ∷ es)) (cond b (row (k, v) ∷ map row es)
          (row e ∷ with_row key (row (k, v)) (map row es)))

      go : (a b : Bool) → eqb k e.0 ≡ b →
          map row (insert_entry nat_cmp es k v) ≡ with_row key (row (k, v)) (map row es) →
          map row (match_ordering (cond a Less (cond b Equal Greater)) ((k, v) ∷ e ∷ es) ((e.0, v) ∷ es)
          (e ∷ insert_entry nat_cmp es k v)) ≡ whole a b
      go true b p rest = refl
      go false true p rest =
          let same : e.0 ≡ k = grind (arith, nat_tests, p) in ap (λ (j : ℕ). row (j, v) ∷ map row es) same
      go false false p rest = ap (λ (xs : List X). row e ∷ xs) rest

  pub remove-entry : (k : ℕ) (es : List (ℕ × V)) → IsRising entry_key es →
      map row (remove_entry (is_at (nat_cmp k)) es) ≡ drop_row key k (map row es)
  remove-entry k [] r = refl
  remove-entry k (e ∷ es) r =
      ap (λ (b : Bool). map row (cond b es (e ∷ remove_entry (is_at (nat_cmp k)) es))) (found k e.0)
      ∙ go (eqb e.0 k) refl (remove-entry k es (rising_from entry_key e.0 es r))
      ∙ ap (λ (j : ℕ). cond (not (eqb j k)) (row e ∷ drop_row key k (map row es)) (drop_row key k (map row es)))
      (sym (at e))
    where
      go : (b : Bool) → eqb e.0 k ≡ b →
          map row (remove_entry (is_at (nat_cmp k)) es) ≡ drop_row key k (map row es) →
          map row (cond b es (e ∷ remove_entry (is_at (nat_cmp k)) es))
          ≡ cond (not b) (row e ∷ drop_row key k (map row es)) (drop_row key k (map row es))
      go true p rest =
          let same : e.0 ≡ k = grind (arith, nat_tests, p) in
          sym (drop_row_above key e.0 k (map row es) (rows-rise e.0 es r) (omega (arith, same)))
      go false p rest = ap (λ (xs : List X). row e ∷ xs) rest

  -- those below a number
  pub below-entries : (n : ℕ) (es : List (ℕ × V)) →
      map row (filter (λ (e : ℕ × V). ltb e.0 n) es) ≡ filter (λ (x : X). ltb (key x) n) (map row es)
  below-entries n [] = refl
  below-entries n (e ∷ es) =
      go (ltb e.0 n) (below-entries n es)
      ∙ ap (λ (j : ℕ). cond (ltb j n) (row e ∷ filter (λ (x : X). ltb (key x) n) (map row es))
      (filter (λ (x : X). ltb (key x) n) (map row es))) (sym (at e))
    where
      go : (b : Bool) → map row (filter (λ (d : ℕ × V). ltb d.0 n) es) ≡ filter (λ (x : X). ltb (key x) n) (map row es) →
          map row (cond b (e ∷ filter (λ (d : ℕ × V). ltb d.0 n) es) (filter (λ (d : ℕ × V). ltb d.0 n) es))
          ≡ cond b (row e ∷ filter (λ (x : X). ltb (key x) n) (map row es)) (filter (λ (x : X). ltb (key x) n) (map row es))
      go true rest = ap (λ (xs : List X). row e ∷ xs) rest
      go false rest = rest

-- Numbers go on rising.

set-rises : {V : Type 0} (k n : ℕ) (v : V) (es : List (ℕ × V)) → RisesFrom entry_key n es →
    RisesFrom entry_key n (set_value (is_at (nat_cmp k)) es v)
set-rises k n v [] r = tt
set-rises k n v (e ∷ es) r = go (is_eq (nat_cmp k e.0)) (set-rises k e.0 v es r.1)
  where
    go : (b : Bool) → RisesFrom entry_key e.0 (set_value (is_at (nat_cmp k)) es v) →
        RisesFrom entry_key n (cond b ((e.0, v) ∷ es) (e ∷ set_value (is_at (nat_cmp k)) es v))
    go true rest = r
    go false rest = (r.0, rest)

pub set-rising : {V : Type 0} (k : ℕ) (v : V) (es : List (ℕ × V)) → IsRising entry_key es →
    IsRising entry_key (set_value (is_at (nat_cmp k)) es v)
set-rising k v [] r = tt
set-rising k v (e ∷ es) r = go (is_eq (nat_cmp k e.0))
  where
    go : (b : Bool) → IsRising entry_key (cond b ((e.0, v) ∷ es) (e ∷ set_value (is_at (nat_cmp k)) es v))
    go true = r
    go false = set-rises k e.0 v es r

put-rises : {V : Type 0} (k n : ℕ) (v : V) (es : List (ℕ × V)) → n < k → RisesFrom entry_key n es →
    RisesFrom entry_key n (insert_entry nat_cmp es k v)
put-rises k n v [] lt r = (lt, tt)
put-rises k n v (e ∷ es) lt r =
    go (ltb k e.0) refl (eqb k e.0) refl (λ more. put-rises k e.0 v es more r.1)
  where
    go : (a : Bool) → ltb k e.0 ≡ a → (b : Bool) → eqb k e.0 ≡ b →
        (e.0 < k → RisesFrom entry_key e.0 (insert_entry nat_cmp es k v)) →
        RisesFrom entry_key n (match_ordering (cond a Less (cond b Equal Greater)) ((k, v) ∷ e ∷ es) ((e.0, v) ∷ es)
        (e ∷ insert_entry nat_cmp es k v))
    go true p b q rest = (lt, (grind (arith, nat_tests, p), r.1))
    go false p true q rest = r
    go false p false q rest = (r.0, rest (grind (arith, nat_tests, p, q)))

pub put-rising : {V : Type 0} (k : ℕ) (v : V) (es : List (ℕ × V)) → IsRising entry_key es →
    IsRising entry_key (insert_entry nat_cmp es k v)
put-rising k v [] r = tt
put-rising k v (e ∷ es) r = go (ltb k e.0) refl (eqb k e.0) refl
  where
    go : (a : Bool) → ltb k e.0 ≡ a → (b : Bool) → eqb k e.0 ≡ b →
        IsRising entry_key (match_ordering (cond a Less (cond b Equal Greater)) ((k, v) ∷ e ∷ es) ((e.0, v) ∷ es)
        (e ∷ insert_entry nat_cmp es k v))
    go true p b q = (grind (arith, nat_tests, p), r)
    go false p true q = r
    go false p false q = put-rises k e.0 v es (grind (arith, nat_tests, p, q)) r

remove-rises : {V : Type 0} (k n : ℕ) (es : List (ℕ × V)) → RisesFrom entry_key n es →
    RisesFrom entry_key n (remove_entry (is_at (nat_cmp k)) es)
remove-rises k n [] r = tt
remove-rises k n (e ∷ es) r = go (is_eq (nat_cmp k e.0)) (remove-rises k e.0 es r.1)
  where
    go : (b : Bool) → RisesFrom entry_key e.0 (remove_entry (is_at (nat_cmp k)) es) →
        RisesFrom entry_key n (cond b es (e ∷ remove_entry (is_at (nat_cmp k)) es))
    go true rest = RisesFrom-lower entry_key n e.0 es (omega (arith, r.0)) r.1
    go false rest = (r.0, rest)

pub remove-rising : {V : Type 0} (k : ℕ) (es : List (ℕ × V)) → IsRising entry_key es →
    IsRising entry_key (remove_entry (is_at (nat_cmp k)) es)
remove-rising k [] r = tt
remove-rising k (e ∷ es) r = go (is_eq (nat_cmp k e.0))
  where
    go : (b : Bool) → IsRising entry_key (cond b es (e ∷ remove_entry (is_at (nat_cmp k)) es))
    go true = rising_from entry_key e.0 es r
    go false = remove-rises k e.0 es r

pub filter-rising : {V : Type 0} (test : ℕ × V → Bool) (es : List (ℕ × V)) → IsRising entry_key es →
    IsRising entry_key (filter test es)
filter-rising test [] r = tt
filter-rising test (e ∷ es) r = go (test e) (filter-rising test es (rising_from entry_key e.0 es r))
  where
    go : (b : Bool) → IsRising entry_key (filter test es) →
        IsRising entry_key (cond b (e ∷ filter test es) (filter test es))
    go true rest = RisesFrom-filter entry_key e.0 test es r
    go false rest = rest
