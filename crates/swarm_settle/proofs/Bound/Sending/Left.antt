-- Look-ups among the rows that are left where one goes.
use Rattle.std.proofs.Common.{Bool, List, None, Some, [], ap, arith, cond, eqb, false, not, refl, sym, true, ℕ, ◌∙◌, ◌∷◌, ◌≡◌}
use Rattle.std.proofs.lemmas.Bool.Decides.{nat_tests}
use Rattle.swarm_objects.specs.Rows.{drop_row, row_at}

pub row_at-left_same : {X : Type 0} (key : X → ℕ) (id : ℕ) (rows : List X) → row_at key id (drop_row key id rows) ≡ None
row_at-left_same key id [] = refl
row_at-left_same key id (x ∷ rows) = go (eqb (key x) id) refl (row_at-left_same key id rows)
  where
    go : (b : Bool) → eqb (key x) id ≡ b → row_at key id (drop_row key id rows) ≡ None →
        row_at key id (cond (not b) (x ∷ drop_row key id rows) (drop_row key id rows)) ≡ None
    go true e rest = rest
    go false e rest = ap (λ (b : Bool). cond b (Some x) (row_at key id (drop_row key id rows))) e ∙ rest

pub row_at-left_other : {X : Type 0} (key : X → ℕ) (id other : ℕ) (rows : List X) → eqb other id ≡ false →
    row_at key other (drop_row key id rows) ≡ row_at key other rows
row_at-left_other key id other [] away = refl
row_at-left_other key id other (x ∷ rows) away = go (eqb (key x) id) refl (row_at-left_other key id other rows away)
  where
    go : (b : Bool) → eqb (key x) id ≡ b → row_at key other (drop_row key id rows) ≡ row_at key other rows →
        row_at key other (cond (not b) (x ∷ drop_row key id rows) (drop_row key id rows))
        ≡ cond (eqb (key x) other) (Some x) (row_at key other rows)
    go true e rest =
        let apart : eqb (key x) other ≡ false = grind (arith, nat_tests, e, away) in
        rest ∙ sym (ap (λ (b : Bool). cond b (Some x) (row_at key other rows)) apart)
    go false e rest = ap (λ (o : _). cond (eqb (key x) other) (Some x) o) rest
