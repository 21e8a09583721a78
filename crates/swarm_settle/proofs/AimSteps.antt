-- What the agents' duties make of aims: steps leave them, a row that goes takes one with it.
use Rattle.swarm_objects.proofs.Aims.{KeepsAim, Aim, aim}
use Rattle.std.proofs.Common.{Bool, List, None, Option, Some, [], ap, arith, cond, eqb, false, not, refl, sym, true, ℕ, ◌∙◌, ◌∷◌, ◌≡◌}
use Rattle.std.proofs.lemmas.Bool.Decides.{nat_tests}
use Rattle.std.specs.Option.{option_map}
use Rattle.std.specs.Prelude.{map}
use Rattle.swarm_settle.proofs.Aims.{aim_at}
use Rattle.swarm_objects.proofs.RowLemmas.{row_at-map}
use Rattle.swarm_objects.specs.Agents.Messages.{change_executor}
use Rattle.swarm_objects.specs.Rows.{drop_row, executor_task, row_at}
use Rattle.swarm_objects.specs.declared.agents.Executor.{Executor}

-- Rows that go.

pub row_at-drop_same : {X : Type 0} (key : X → ℕ) (id : ℕ) (rows : List X) → row_at key id (drop_row key id rows) ≡ None
row_at-drop_same key id [] = refl
row_at-drop_same key id (x ∷ rows) = go (eqb (key x) id) refl (row_at-drop_same key id rows)
  where
    go : (b : Bool) → eqb (key x) id ≡ b → row_at key id (drop_row key id rows) ≡ None →
        row_at key id (cond (not b) (x ∷ drop_row key id rows) (drop_row key id rows)) ≡ None
    go true e rest = rest
    go false e rest = ap (λ (b : Bool). cond b (Some x) (row_at key id (drop_row key id rows))) e ∙ rest

pub row_at-drop_other : {X : Type 0} (key : X → ℕ) (id other : ℕ) (rows : List X) → eqb other id ≡ false →
    row_at key other (drop_row key id rows) ≡ row_at key other rows
row_at-drop_other key id other [] away = refl
row_at-drop_other key id other (x ∷ rows) away = go (eqb (key x) id) refl (row_at-drop_other key id other rows away)
  where
    go : (b : Bool) → eqb (key x) id ≡ b → row_at key other (drop_row key id rows) ≡ row_at key other rows →
        row_at key other (cond (not b) (x ∷ drop_row key id rows) (drop_row key id rows))
        ≡ cond (eqb (key x) other) (Some x) (row_at key other rows)
    go true e rest =
        let apart : eqb (key x) other ≡ false = grind (arith, nat_tests, e, away) in
        rest ∙ sym (ap (λ (b : Bool). cond b (Some x) (row_at key other rows)) apart)
    go false e rest = ap (λ (o : _). cond (eqb (key x) other) (Some x) o) rest

-- Steps.

pub aims-map : (g : Executor → Executor) (es : List Executor) (x : ℕ) → ((e : Executor) → KeepsAim e (g e)) →
    aim_at (map g es) x ≡ aim_at es x
aims-map g es x same =
    ap (option_map aim) (row_at-map executor_task x g es (λ e. (same e).0)) ∙ go (row_at executor_task x es)
  where
    go : (o : Option Executor) → option_map aim (option_map g o) ≡ option_map aim o
    go None = refl
    go (Some e) = ap (λ (p : Aim). Some p) (same e).1

pub aims-change : (task : ℕ) (g : Executor → Executor) (es : List Executor) (x : ℕ) →
    ((e : Executor) → KeepsAim e (g e)) → aim_at (change_executor task g es) x ≡ aim_at es x
aims-change task g es x same = aims-map (λ e. cond (eqb e.task task) (g e) e) es x (λ e. go e (eqb e.task task))
  where
    go : (e : Executor) (b : Bool) → KeepsAim e (cond b (g e) e)
    go e true = same e
    go e false = (refl, refl)
