-- How many executors have something to say.
use Rattle.std.proofs.Common.{Bool, List, None, Some, [], ap, arith, cond, false, ltb, refl, sym, true, ℕ, ◌+◌, ◌∙◌, ◌∷◌, ◌≡◌}
use Rattle.std.proofs.lemmas.Bool.Decides.{nat_tests}
use Rattle.std.proofs.lemmas.List.Sums.{sum_by-cons}
use Rattle.std.specs.List.{list_any}
use Rattle.std.specs.Option.{option_map}
use Rattle.std.specs.Prelude.{find, ◌||◌}
use Rattle.swarm_agent.specs.Agent.{first_task, has_news, news_after, news_of}
use Rattle.swarm_agent.specs.Inside.Saying.{is_unsaid, unsaid}
use Rattle.swarm_objects.proofs.Tests.{neither_left, neither_right}
use Rattle.swarm_objects.specs.Loops.Agents.{is_forgotten}
use Rattle.swarm_objects.specs.Rows.{executor_task, rows_above}
use Rattle.swarm_objects.specs.declared.agents.Executor.{Executor}

one-more : (n : ℕ) → ltb 0 (1 + n) ≡ true
one-more n = grind (arith, nat_tests)

none-more : (n : ℕ) → 0 + n ≡ n
none-more n = omega arith

pub any_unsaid : (es : List Executor) → ltb 0 (unsaid es) ≡ list_any is_unsaid es
any_unsaid [] = refl
any_unsaid (e ∷ es) = ap (ltb 0) (sum_by-cons (λ x. cond (is_unsaid x) 1 0) e es) ∙ go (is_unsaid e) (any_unsaid es)
  where
    go : (b : Bool) → ltb 0 (unsaid es) ≡ list_any is_unsaid es →
        ltb 0 (cond b 1 0 + unsaid es) ≡ (b || list_any is_unsaid es)
    go true rest = one-more (unsaid es)
    go false rest = ap (ltb 0) (none-more (unsaid es)) ∙ rest

-- where there are none, none is found by a test of less
none-found : (p : Executor → Bool) (es : List Executor) → ((e : Executor) → is_unsaid e ≡ false → p e ≡ false) →
    list_any is_unsaid es ≡ false → find p es ≡ None
none-found p [] less none = refl
none-found p (e ∷ es) less none =
    ap (λ b. cond b (Some e) (find p es)) (less e (neither_left (is_unsaid e) (list_any is_unsaid es) none))
    ∙ none-found p es less (neither_right (is_unsaid e) (list_any is_unsaid es) none)

none-above : (after : ℕ) (es : List Executor) → list_any is_unsaid es ≡ false →
    list_any is_unsaid (rows_above executor_task after es) ≡ false
none-above after [] none = refl
none-above after (e ∷ es) none =
    go (ltb after e.task) (none-above after es (neither_right (is_unsaid e) (list_any is_unsaid es) none))
  where
    go : (b : Bool) → list_any is_unsaid (rows_above executor_task after es) ≡ false →
        list_any is_unsaid (cond b (e ∷ rows_above executor_task after es) (rows_above executor_task after es)) ≡ false
    go true rest =
        ap (λ c. c || list_any is_unsaid (rows_above executor_task after es))
        (neither_left (is_unsaid e) (list_any is_unsaid es) none)
        ∙ rest
    go false rest = rest

pub none-forgotten : (es : List Executor) → list_any is_unsaid es ≡ false → None ≡ first_task is_forgotten es
none-forgotten es none =
    sym (ap (option_map executor_task)
    (none-found is_forgotten es (λ e. neither_right (has_news e) (is_forgotten e)) none))

pub none-news : (after : ℕ) (es : List Executor) → list_any is_unsaid es ≡ false → None ≡ news_after after es
none-news after es none =
    sym (ap (option_map news_of)
    (none-found has_news (rows_above executor_task after es) (λ e. neither_left (has_news e) (is_forgotten e))
    (none-above after es none)))
