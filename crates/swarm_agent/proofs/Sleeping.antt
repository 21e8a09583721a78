-- How long executors have nothing to do.
use Rattle.std.proofs.Common.{Bool, List, None, Option, Some, [], add-one, ap, arith, cond, drop, eqb, false, get_or, length, ltb, min, not, refl, subst, suc, sym, true, zero, ℕ, ◌+◌, ◌-◌, ◌<◌, ◌^◌, ◌≤◌, ◌∙◌, ◌∷◌, ◌≡◌}
use Rattle.std.specs.Option.{option_map}
use Rattle.std.specs.Ordering.{is_lt}
use Rattle.std.specs.Prelude.{Err, IfSome, Ok, OnErr, OnOk, find, map, option_to_list, ⊤, ◌++◌}
use Rattle.std.specs.declared.result.Result.{Result}
use Rattle.swarm_agent.specs.Agent.{first_task, least_phase, phase_cmp, phase_of, phases}
use Rattle.swarm_agent.specs.Inside.Sleeping.{AllSleepUntil, IsUntil, SleepsUntil}
use Rattle.swarm_objects.specs.Agents.Executors.{phase_time}
use Rattle.swarm_objects.specs.Agents.Messages.{change_executor}
use Rattle.swarm_objects.specs.Loops.Agents.{has_step}
use Rattle.swarm_objects.specs.Rows.{drop_row, executor_task, keep_least, least_by, rows_above, with_row}
use Rattle.swarm_objects.specs.declared.agents.Executor.{Executor}

-- One executor.

abbrev ends_later : ℕ → Option ℕ → Type 0
ends_later w phase = IfSome phase (IsUntil w)

sooner-ends : (v w : ℕ) (phase : Option ℕ) → v ≤ w → ends_later w phase → ends_later v phase
sooner-ends v w None le ends = tt
sooner-ends v w (Some time) le ends = (omega (arith, le, ends.0), omega (arith, le, ends.1))

-- and so until a sooner time
pub sleeps-less : (v w : ℕ) (e : Executor) → v ≤ w → SleepsUntil w e → SleepsUntil v e
sleeps-less v w e le s = record {
  steps = λ clock lt. s.steps clock (omega (arith, lt, le));
  phase = sooner-ends v w (phase_time e) le s.phase;
}

-- Lists.

pub all-less : (v w : ℕ) (es : List Executor) → v ≤ w → AllSleepUntil w es → AllSleepUntil v es
all-less v w [] le all = tt
all-less v w (e ∷ es) le all = (sleeps-less v w e le all.0, all-less v w es le all.1)

-- one more of those that are left
one-more : (w i : ℕ) (d : Executor) (es : List Executor) → i < length es → SleepsUntil w (get_or es i d) →
    AllSleepUntil w (drop (suc i) es) → AllSleepUntil w (drop i es)
one-more w i d [] lt s left = absurd (omega (arith, lt))
one-more w zero d (e ∷ es) lt s left = (s, left)
one-more w (suc i) d (e ∷ es) lt s left = one-more w i d es (omega (arith, lt)) s left

pub next-wake : (next least v i : ℕ) (d : Executor) (es : List Executor) → next ≡ min least v → i < length es →
    SleepsUntil v (get_or es i d) →
    ((time : ℕ) → time ≤ least → AllSleepUntil time (drop i es) → AllSleepUntil time es) →
    (time : ℕ) → time ≤ next → AllSleepUntil time (drop (i + 1) es) → AllSleepUntil time es
next-wake next least v i d es is lt s rest time le left =
    let sooner : time ≤ min least v = subst (λ n. time ≤ n) is le in
    rest time (omega (arith, sooner))
    (one-more time i d es lt (sleeps-less time v (get_or es i d) (omega (arith, sooner)) s)
    (subst (λ n. AllSleepUntil time (drop n es)) (add-one i) left))

-- a change of all, each of which it leaves so or makes it so
each-sleeps : (w : ℕ) (f : Executor → Executor) (es : List Executor) →
    ((e : Executor) → SleepsUntil w e → SleepsUntil w (f e)) → AllSleepUntil w es → AllSleepUntil w (map f es)
each-sleeps w f [] same all = tt
each-sleeps w f (e ∷ es) same all = (same e all.0, each-sleeps w f es same all.1)

set-sleeps : (w : ℕ) (new : Executor) (es : List Executor) → SleepsUntil w new → AllSleepUntil w es →
    AllSleepUntil w (change_executor new.task (λ _. new) es)
set-sleeps w new es s all = each-sleeps w (λ e. cond (eqb e.task new.task) new e) es (λ e is. go e is (eqb e.task new.task)) all
  where
    go : (e : Executor) → SleepsUntil w e → (b : Bool) → SleepsUntil w (cond b new e)
    go e is true = s
    go e is false = is

put-sleeps : (w : ℕ) (new : Executor) (es : List Executor) → SleepsUntil w new → AllSleepUntil w es →
    AllSleepUntil w (with_row executor_task new es)
put-sleeps w new [] s all = (s, tt)
put-sleeps w new (e ∷ es) s all =
    go (ltb new.task e.task) (eqb new.task e.task) (put-sleeps w new es s all.1)
  where
    go : (a b : Bool) → AllSleepUntil w (with_row executor_task new es) →
        AllSleepUntil w (cond a (new ∷ e ∷ es) (cond b (new ∷ es) (e ∷ with_row executor_task new es)))
    go true b rest = (s, all)
    go false true rest = (s, all.1)
    go false false rest = (all.0, rest)

drop-sleeps : (w task : ℕ) (es : List Executor) → AllSleepUntil w es → AllSleepUntil w (drop_row executor_task task es)
drop-sleeps w task [] all = tt
drop-sleeps w task (e ∷ es) all = go (eqb e.task task) (drop-sleeps w task es all.1)
  where
    go : (b : Bool) → AllSleepUntil w (drop_row executor_task task es) →
        AllSleepUntil w (cond (not b) (e ∷ drop_row executor_task task es) (drop_row executor_task task es))
    go true rest = rest
    go false rest = (all.0, rest)

-- As the calls have it: the lesser of two times.

pub set-wakes : (v w : ℕ) (new : Executor) (es after : List Executor) → SleepsUntil v new → AllSleepUntil w es →
    after ≡ change_executor new.task (λ _. new) es → AllSleepUntil (min w v) after
set-wakes v w new es after s all is =
    subst (AllSleepUntil (min w v)) (sym is)
    (set-sleeps (min w v) new es (sleeps-less (min w v) v new (omega arith) s) (all-less (min w v) w es (omega arith) all))

pub put-wakes : {T E : Type 0} (result : Result T E) (v w : ℕ) (new : Executor) (es after : List Executor) →
    SleepsUntil v new → AllSleepUntil w es → OnOk result (after ≡ with_row executor_task new es) →
    OnErr result (after ≡ es) → AllSleepUntil (min w v) after
put-wakes (Ok x) v w new es after s all ok err =
    subst (AllSleepUntil (min w v)) (sym ok)
    (put-sleeps (min w v) new es (sleeps-less (min w v) v new (omega arith) s) (all-less (min w v) w es (omega arith) all))
put-wakes (Err x) v w new es after s all ok err =
    subst (AllSleepUntil (min w v)) (sym err) (all-less (min w v) w es (omega arith) all)

pub drop-wakes : (w task : ℕ) (es after : List Executor) → AllSleepUntil w es → after ≡ drop_row executor_task task es →
    AllSleepUntil w after
drop-wakes w task es after all is = subst (AllSleepUntil w) (sym is) (drop-sleeps w task es all)

-- What is found of them.

none-steps : (w clock : ℕ) (es : List Executor) → clock < w → AllSleepUntil w es → find (has_step clock) es ≡ None
none-steps w clock [] lt all = refl
none-steps w clock (e ∷ es) lt all =
    ap (λ (b : Bool). cond b (Some e) (find (has_step clock) es)) (all.0.steps clock lt) ∙ none-steps w clock es lt all.1

above-sleep : (w after : ℕ) (es : List Executor) → AllSleepUntil w es → AllSleepUntil w (rows_above executor_task after es)
above-sleep w after [] all = tt
above-sleep w after (e ∷ es) all = go (ltb after e.task) (above-sleep w after es all.1)
  where
    go : (b : Bool) → AllSleepUntil w (rows_above executor_task after es) →
        AllSleepUntil w (cond b (e ∷ rows_above executor_task after es) (rows_above executor_task after es))
    go true rest = (all.0, rest)
    go false rest = rest

pub no-step : (w clock : ℕ) (es : List Executor) → AllSleepUntil w es → clock < w →
    first_task (has_step clock) es ≡ None
no-step w clock es all lt = ap (option_map executor_task) (none-steps w clock es lt all)

pub no-step-above : (w clock after : ℕ) (es : List Executor) → AllSleepUntil w es → clock < w →
    None ≡ first_task (has_step clock) (rows_above executor_task after es)
no-step-above w clock after es all lt =
    sym (no-step w clock (rows_above executor_task after es) (above-sleep w after es all) lt)

-- the first phase, and the best one so far

abbrev phase_later : ℕ → Option (ℕ × ℕ) → Type 0
phase_later w phase = IfSome phase (λ p. IsUntil w p.0)

abbrev AllLater : ℕ → List (ℕ × ℕ) → Type 0
AllLater w [] = ⊤
AllLater w (p ∷ ps) = IsUntil w p.0 × AllLater w ps

phase-later : (w : ℕ) (e : Executor) (ps : List (ℕ × ℕ)) → SleepsUntil w e → AllLater w ps →
    AllLater w (option_to_list (phase_of e) ++ ps)
phase-later w e ps s rest = go (phase_time e) s.phase
  where
    go : (phase : Option ℕ) → ends_later w phase →
        AllLater w (option_to_list (option_map (λ time. (time, e.task)) phase) ++ ps)
    go None ends = rest
    go (Some time) ends = (ends, rest)

phases-later : (w : ℕ) (es : List Executor) → AllSleepUntil w es → AllLater w (phases es)
phases-later w [] all = tt
phases-later w (e ∷ es) all = phase-later w e (phases es) all.0 (phases-later w es all.1)

kept-later : (w : ℕ) (best : Option (ℕ × ℕ)) (p : ℕ × ℕ) → phase_later w best → IsUntil w p.0 →
    phase_later w (keep_least phase_cmp best p)
kept-later w None p had le = le
kept-later w (Some first) p had le = go (is_lt (phase_cmp p first))
  where
    go : (b : Bool) → phase_later w (cond b (Some p) (Some first))
    go true = le
    go false = had

least-later : (w : ℕ) (best : Option (ℕ × ℕ)) (ps : List (ℕ × ℕ)) → phase_later w best → AllLater w ps →
    phase_later w (least_by phase_cmp best ps)
least-later w best [] had all = had
least-later w best (p ∷ ps) had all = least-later w (keep_least phase_cmp best p) ps (kept-later w best p had all.0) all.1

first-later : (w : ℕ) (es : List Executor) → AllSleepUntil w es → phase_later w (least_phase es)
first-later w es all = least-later w None (phases es) tt (phases-later w es all)

pub no-phase : (w : ℕ) (es : List Executor) → AllSleepUntil w es → IfSome (least_phase es) (λ p. w ≤ p.0)
no-phase w es all = go (least_phase es) (first-later w es all)
  where
    go : (phase : Option (ℕ × ℕ)) → phase_later w phase → IfSome phase (λ p. w ≤ p.0)
    go None later = tt
    go (Some p) later = later.0

-- none at all, where the time is the last one
pub never-phase : (w : ℕ) (es : List Executor) → AllSleepUntil w es → w ≡ 2 ^ 64 - 1 → least_phase es ≡ None
never-phase w es all last = go (least_phase es) (first-later w es all)
  where
    go : (phase : Option (ℕ × ℕ)) → phase_later w phase → phase ≡ None
    go None later = refl
    go (Some p) later = absurd (omega (arith, later.1, last))
