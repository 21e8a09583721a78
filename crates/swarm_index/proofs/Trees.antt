-- A map of rows by their ids is those rows in order.
use Rattle.std.proofs.Common.{◌≡◌, ℕ, ◌≤◌, cond, eqb, List, [], ◌∷◌, Some, refl, ap, ◌∙◌, arith}
use Rattle.std.specs.BTreeMap.{insert_entry, is_at}
use Rattle.std.specs.BTreeMap.Range.{entries_between}
use Rattle.std.specs.Map.{lookup, remove_entry, set_value, values_of}
use Rattle.std.specs.Option.{option_map}
use Rattle.std.specs.Ordering.{is_eq, nat_cmp}
use Rattle.std.specs.Prelude.{map}
use Rattle.std.specs.declared.ops.Bound.TheVariants.{Excluded, Unbounded}
use Rattle.std.proofs.lemmas.Bool.Decides.{nat_tests}
use Rattle.swarm_index.specs.Inside.Marks.{with_id}
use Rattle.swarm_objects.proofs.RowLemmas.{change_row_above}
use Rattle.swarm_objects.specs.Rows.{IsRising, RisesFrom, drop_row, first_of, put_row, row_above, row_at, with_row}

at_is : (i k : ℕ) → is_eq (nat_cmp i k) ≡ eqb k i
at_is i k = grind (arith, nat_tests)

pub values_rows : {X : Type 0} (key : X → ℕ) (rows : List X) → values_of (map (with_id key) rows) ≡ rows
values_rows key [] = refl
values_rows key (x ∷ rows) = ap (λ xs. x ∷ xs) (values_rows key rows)

pub lookup_rows : {X : Type 0} (key : X → ℕ) (i : ℕ) (rows : List X) → lookup (is_at (nat_cmp i)) (map (with_id key) rows) ≡ row_at key i rows
lookup_rows key i [] = refl
lookup_rows key i (x ∷ rows) = ap (λ b. cond b (Some x) (lookup (is_at (nat_cmp i)) (map (with_id key) rows))) (at_is i (key x)) ∙ ap (λ o. cond (eqb (key x) i) (Some x) o) (lookup_rows key i rows)

pub insert_rows : {X : Type 0} (key : X → ℕ) (new : X) (rows : List X) → insert_entry nat_cmp (map (with_id key) rows) (key new) new ≡ map (with_id key) (with_row key new rows)
insert_rows key new [] = refl
insert_rows key new (x ∷ rows) = grind (arith, nat_tests, insert_rows key new rows)

none_left : {X : Type 0} (key : X → ℕ) (n i : ℕ) (rows : List X) → RisesFrom key n rows → i ≤ n → drop_row key i rows ≡ rows
none_left key n i [] r le = refl
none_left key n i (x ∷ rows) r le = grind (arith, nat_tests, none_left key (key x) i rows r.1, r.0)

pub remove_rows : {X : Type 0} (key : X → ℕ) (i : ℕ) (rows : List X) → IsRising key rows → remove_entry (is_at (nat_cmp i)) (map (with_id key) rows) ≡ map (with_id key) (drop_row key i rows)
remove_rows key i [] r = refl
remove_rows {X} key i (x ∷ rows) r = grind (arith, nat_tests, remove_rows key i rows (weaker rows r), none_left key (key x) (key x) rows r)
  where
    weaker : (ys : List X) → RisesFrom key (key x) ys → IsRising key ys
    weaker [] q = tt
    weaker (y ∷ ys) q = q.1

pub set_rows : {X : Type 0} (key : X → ℕ) (new : X) (rows : List X) → IsRising key rows → set_value (is_at (nat_cmp (key new))) (map (with_id key) rows) new ≡ map (with_id key) (put_row key new rows)
set_rows key new [] r = refl
set_rows {X} key new (x ∷ rows) r = grind (arith, nat_tests, set_rows key new rows (weaker rows r), change_row_above key (key x) (key new) (λ _. new) rows r)
  where
    weaker : (ys : List X) → RisesFrom key (key x) ys → IsRising key ys
    weaker [] q = tt
    weaker (y ∷ ys) q = q.1

pub between_rows : {X : Type 0} (key : X → ℕ) (after : ℕ) (rows : List X) → first_of (entries_between nat_cmp (Excluded after) Unbounded (map (with_id key) rows)) ≡ option_map (with_id key) (row_above key after rows)
between_rows key after [] = refl
between_rows key after (x ∷ rows) = grind (arith, nat_tests, between_rows key after rows)
