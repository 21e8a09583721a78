-- What is found is there; and the first duties of an agent.
use Rattle.std.proofs.Common.{Bool, List, None, Option, Some, [], ap, arith, cond, eqb, false, inl, inr, ltb, refl, subst, sym, true, ℕ, ◌∙◌, ◌∷◌, ◌≡◌}
use Rattle.std.proofs.lemmas.Bool.Decides.{nat_tests}
use Rattle.std.specs.Option.{option_map}
use Rattle.std.specs.Prelude.{IfSome, filter, find, is_some, map}
use Rattle.swarm_agent.specs.Agent.{DutiesLaw, first_task, has_news, news_after, news_of}
use Rattle.swarm_objects.proofs.RowLemmas.{number_above, row_at-Some}
use Rattle.swarm_objects.specs.Rows.{Has, IsRising, executor_task, first_of, has_row, is_some_and, row_at, rows_above}
use Rattle.swarm_objects.specs.declared.agents.Executor.{Executor}
use Rattle.swarm_objects.specs.Loops.Agents.{has_step, is_forgotten}
use Rattle.swarm_objects.specs.declared.duties.Duty.{Duty}
use Rattle.swarm_objects.specs.declared.duties.Duty.TheVariants as duty
use Rattle.swarm_objects.specs.declared.tasks.TaskState.{TaskState}

find-has : (test : Executor → Bool) (es : List Executor) (e : Executor) → find test es ≡ Some e →
    Has es e × (test e ≡ true)
find-has test [] e at = absurd cc
find-has test (x ∷ es) e at = go (test x) refl (find-has test es e) at
  where
    go : (b : Bool) → test x ≡ b → (find test es ≡ Some e → Has es e × (test e ≡ true)) →
        cond b (Some x) (find test es) ≡ Some e → Has (x ∷ es) e × (test e ≡ true)
    go true q rest at = let is : x ≡ e = cc in (inl is, sym (ap test is) ∙ q)
    go false q rest at = let r = rest at in (inr r.0, r.1)

pub row-found : (es : List Executor) (e : Executor) → IsRising executor_task es → Has es e →
    row_at executor_task e.task es ≡ Some e
row-found [] e r h = absurd h
row-found (y ∷ es) e r (inl same) =
    let is : eqb y.task e.task ≡ true = (let q = ap executor_task same in grind (arith, nat_tests, q)) in
    ap (λ (b : Bool). cond b (Some y) (row_at executor_task e.task es)) is ∙ ap (λ (z : Executor). Some z) same
row-found (y ∷ es) e r (inr h) =
    let above = number_above executor_task y.task es e r h in
    let is : eqb y.task e.task ≡ false = grind (arith, nat_tests, above) in
    ap (λ (b : Bool). cond b (Some y) (row_at executor_task e.task es)) is
    ∙ row_at-Some executor_task y.task es e r h

pub first-passes : (test : Executor → Bool) (o : Option ℕ) (es : List Executor) → IsRising executor_task es →
    o ≡ first_task test es → IfSome o (λ task. is_some_and test (row_at executor_task task es) ≡ true)
first-passes test o es r is =
    subst (λ (p : Option ℕ). IfSome p (λ task. is_some_and test (row_at executor_task task es) ≡ true)) (sym is)
    (go (find test es) refl)
  where
    go : (p : Option Executor) → find test es ≡ p →
        IfSome (option_map executor_task p) (λ task. is_some_and test (row_at executor_task task es) ≡ true)
    go None at = tt
    go (Some e) at =
        let h = find-has test es e at in ap (is_some_and test) (row-found es e r h.0) ∙ h.1

has-there : (es : List Executor) (e : Executor) → Has es e → has_row executor_task e.task es ≡ true
has-there [] e h = absurd h
has-there (y ∷ es) e (inl same) =
    let is : eqb y.task e.task ≡ true = (let q = ap executor_task same in grind (arith, nat_tests, q)) in
    ap (λ (b : Bool). is_some (cond b (Some y) (row_at executor_task e.task es))) is
has-there (y ∷ es) e (inr h) = go (eqb y.task e.task) (has-there es e h)
  where
    go : (b : Bool) → has_row executor_task e.task es ≡ true →
        is_some (cond b (Some y) (row_at executor_task e.task es)) ≡ true
    go true rest = refl
    go false rest = rest

above-has : (k : ℕ) (es : List Executor) (e : Executor) → Has (rows_above executor_task k es) e → Has es e
above-has k [] e h = absurd h
above-has k (y ∷ es) e h = go (ltb k y.task) (above-has k es e) h
  where
    go : (b : Bool) → (Has (rows_above executor_task k es) e → Has es e) →
        Has (cond b (y ∷ rows_above executor_task k es) (rows_above executor_task k es)) e → Has (y ∷ es) e
    go true rest (inl same) = inl same
    go true rest (inr h) = inr (rest h)
    go false rest h = inr (rest h)

pub news-there : (k : ℕ) (o : Option (ℕ × TaskState)) (es : List Executor) → o ≡ news_after k es →
    IfSome o (λ news. has_row executor_task news.0 es ≡ true)
news-there k o es is =
    subst (λ (p : Option (ℕ × TaskState)). IfSome p (λ news. has_row executor_task news.0 es ≡ true)) (sym is)
    (go (find has_news (rows_above executor_task k es)) refl)
  where
    go : (p : Option Executor) → find has_news (rows_above executor_task k es) ≡ p →
        IfSome (option_map news_of p) (λ news. has_row executor_task news.0 es ≡ true)
    go None at = tt
    go (Some e) at =
        has-there es e (above-has k es e (find-has has_news (rows_above executor_task k es) e at).0)

-- The first duty of a list.

pub first-duty : (test : Executor → Bool) (duty_of : ℕ → Duty) (es : List Executor) →
    first_of (map (λ (e : Executor). duty_of e.task) (filter test es)) ≡ option_map duty_of (first_task test es)
first-duty test duty_of [] = refl
first-duty test duty_of (e ∷ es) = go (test e) (first-duty test duty_of es)
  where
    go : (b : Bool) →
        first_of (map (λ (e : Executor). duty_of e.task) (filter test es)) ≡ option_map duty_of (first_task test es) →
        first_of (map (λ (e : Executor). duty_of e.task) (cond b (e ∷ filter test es) (filter test es)))
        ≡ option_map duty_of (option_map executor_task (cond b (Some e) (find test es)))
    go true rest = refl
    go false rest = rest

pub duties : DutiesLaw
duties = record {
  steps = λ node clock es. first-duty (has_step clock) (duty.Exec node) es;
  forgets = λ node es. first-duty is_forgotten (duty.Forget node) es;
}
