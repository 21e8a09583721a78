-- The least id of those that pass a test, from row to row.
use Rattle.std.proofs.Common.{◌≡◌, ℕ, Bool, true, false, cond, List, ◌∷◌, ◌++◌, Option, Some, None, refl, sym, ap, ◌∙◌, arith}
use Rattle.std.specs.Ordering.{nat_cmp}
use Rattle.std.specs.Prelude.{filter, map}
use Rattle.swarm_objects.proofs.RowLemmas.{rows_above-None, rows_above-Some, rows_above-all}
use Rattle.swarm_objects.specs.Rows.{RisesFrom, keep_least, least_by, row_above, rows_above}

abbrev passing : {X : Type 0} → (X → ℕ) → (X → Bool) → ℕ → List X → List ℕ
passing key test after rows = map key (filter test (rows_above key after rows))

pub least-next : {X : Type 0} (key : X → ℕ) (test : X → Bool) (after : ℕ) (rows : List X) (x : X) (least next : Option ℕ)
    (more : List ℕ) (all : Option ℕ) → RisesFrom key 0 rows → Some x ≡ row_above key after rows →
    next ≡ cond (test x) (keep_least nat_cmp least (key x)) least →
    least_by nat_cmp least (map key (filter test (rows_above key after rows)) ++ more) ≡ all →
    least_by nat_cmp next (map key (filter test (rows_above key (key x) rows)) ++ more) ≡ all
least-next key test after rows x least next more all r e is so =
    let s = rows_above-Some key 0 after rows x r (sym e) in
    ap (λ l. least_by nat_cmp l (map key (filter test (rows_above key (key x) rows)) ++ more)) is
    ∙ go (test x)
    ∙ ap (λ xs. least_by nat_cmp least (map key (filter test xs) ++ more)) (sym s.0)
    ∙ so
  where
    go : (b : Bool) →
        least_by nat_cmp (cond b (keep_least nat_cmp least (key x)) least) (map key (filter test (rows_above key (key x) rows)) ++ more)
        ≡ least_by nat_cmp least (
        map key (cond b (x ∷ filter test (rows_above key (key x) rows)) (filter test (rows_above key (key x) rows))) ++ more
        )
    go true = refl
    go false = refl

pub least-next_last : {X : Type 0} (key : X → ℕ) (test : X → Bool) (after : ℕ) (rows : List X) (x : X) (least next : Option ℕ)
    (all : Option ℕ) → RisesFrom key 0 rows → Some x ≡ row_above key after rows →
    next ≡ cond (test x) (keep_least nat_cmp least (key x)) least →
    least_by nat_cmp least (map key (filter test (rows_above key after rows))) ≡ all →
    least_by nat_cmp next (map key (filter test (rows_above key (key x) rows))) ≡ all
least-next_last key test after rows x least next all r e is so =
    let s = rows_above-Some key 0 after rows x r (sym e) in
    ap (λ l. least_by nat_cmp l (map key (filter test (rows_above key (key x) rows)))) is
    ∙ go (test x)
    ∙ ap (λ xs. least_by nat_cmp least (map key (filter test xs))) (sym s.0)
    ∙ so
  where
    go : (b : Bool) →
        least_by nat_cmp (cond b (keep_least nat_cmp least (key x)) least) (map key (filter test (rows_above key (key x) rows)))
        ≡ least_by nat_cmp least (
        map key (cond b (x ∷ filter test (rows_above key (key x) rows)) (filter test (rows_above key (key x) rows)))
        )
    go true = refl
    go false = refl

pub least-begins : {X : Type 0} (key : X → ℕ) (test : X → Bool) (rows : List X) (more : List ℕ) (least : Option ℕ) →
    RisesFrom key 0 rows →
    least_by nat_cmp least (map key (filter test (rows_above key 0 rows)) ++ more) ≡ least_by nat_cmp least (map key (filter test rows) ++ more)
least-begins key test rows more least r =
    ap (λ xs. least_by nat_cmp least (map key (filter test xs) ++ more)) (rows_above-all key 0 0 rows r (omega arith))

pub least-turns : {X Y : Type 0} (key : X → ℕ) (test : X → Bool) (after : ℕ) (rows : List X) (key' : Y → ℕ) (test' : Y → Bool)
    (others : List Y) (least all : Option ℕ) → None ≡ row_above key after rows → RisesFrom key' 0 others →
    least_by nat_cmp least (map key (filter test (rows_above key after rows)) ++ map key' (filter test' others)) ≡ all →
    least_by nat_cmp least (map key' (filter test' (rows_above key' 0 others))) ≡ all
least-turns key test after rows key' test' others least all e r so =
    ap (λ ys. least_by nat_cmp least (map key' (filter test' ys))) (rows_above-all key' 0 0 others r (omega arith))
    ∙ sym (ap (λ xs. least_by nat_cmp least (map key (filter test xs) ++ map key' (filter test' others)))
    (rows_above-None key after rows (sym e)))
    ∙ so

pub least-ends : {X : Type 0} (key : X → ℕ) (test : X → Bool) (after : ℕ) (rows : List X) (least all : Option ℕ) →
    None ≡ row_above key after rows → least_by nat_cmp least (map key (filter test (rows_above key after rows))) ≡ all → least ≡ all
least-ends key test after rows least all e so =
    sym (ap (λ xs. least_by nat_cmp least (map key (filter test xs))) (rows_above-None key after rows (sym e))) ∙ so
