-- The first duty of the agents' loop.
use Rattle.std.proofs.Common.{◌≡◌, ◌<◌, ◌≤◌, ◌∙◌, ◌∷◌, ◌++◌, ℕ, Bool, true, false, cond, ltb, List, [], Option, Some, None, ap, arith, inl, inr, length, not, refl, subst, sym}
use Rattle.std.proofs.lemmas.Bool.Decides.{nat_tests}
use Rattle.std.proofs.lemmas.List.Sums.{count_by-le-length, length-filter}
use Rattle.std.specs.Option.{option_map}
use Rattle.std.specs.Prelude.{◌&&◌, filter, find, flat_map, map, nat_lt}
use Rattle.swarm_agent.specs.Agent.{has_news, news_after, news_of}
use Rattle.swarm_agent.specs.Times.{TimesLaw, seen, seen_agent}
use Rattle.swarm_objects.proofs.RowLemmas.{Has-filter_cases, RisesFrom-filter, has-found, number_above, rows_above-all}
use Rattle.swarm_objects.specs.Loops.Agents.{agent_duties, duties_on, has_step, inbox_duties, is_forgotten, is_mode_on, is_news, report_duties, session_duties, wants_report}
use Rattle.swarm_objects.specs.Loops.Words.{duty_where}
use Rattle.swarm_objects.specs.Nodes.Sessions.{is_session_live}
use Rattle.swarm_objects.specs.Rows.{Has, RisesFrom, executor_task, first_of, has_row, rows_above, task_id}
use Rattle.swarm_objects.specs.World.{Tables, World}
use Rattle.swarm_objects.specs.declared.agents.Executor.{Executor}
use Rattle.swarm_objects.specs.declared.agents.NodeAgent.{NodeAgent}
use Rattle.swarm_objects.specs.declared.duties.Duty.{Duty}
use Rattle.swarm_objects.specs.declared.duties.Duty.TheVariants as duty
use Rattle.swarm_objects.specs.declared.messages.Message.{Message}
use Rattle.swarm_objects.specs.declared.tasks.TaskState.{TaskState}
use Rattle.swarm_world.specs.Inside.Looks.{looked_at}

-- Reports are wanted of news of a task that is there.

not-wanted : (t : Tables) (e : Executor) → has_news e ≡ false → wants_report t e ≡ false
not-wanted t e none = go (not e.gone) (has_row task_id e.task t.tasks) (is_news e.state e.reported) none
  where
    go : (a b c : Bool) → (a && c) ≡ false → (a && b && c) ≡ false
    go true true c none = none
    go true false c none = refl
    go false b c none = refl

wanted-is : (t : Tables) (e : Executor) → has_news e ≡ true → wants_report t e ≡ has_row task_id e.task t.tasks
wanted-is t e news = go (not e.gone) (has_row task_id e.task t.tasks) (is_news e.state e.reported) news
  where
    go : (a b c : Bool) → (a && c) ≡ true → (a && b && c) ≡ b
    go true true c news = news
    go true false c news = refl
    go false b c news = absurd cc

-- Rows above one of them.

above-first : (e : Executor) (es : List Executor) (n : ℕ) → RisesFrom executor_task n (e ∷ es) →
    rows_above executor_task e.task (e ∷ es) ≡ es
above-first e es n rises =
    let same : ltb e.task e.task ≡ false = grind (arith, nat_tests) in
    ap (λ (b : Bool). cond b (e ∷ rows_above executor_task e.task es) (rows_above executor_task e.task es)) same
    ∙ rows_above-all executor_task e.task e.task es rises.1 (omega arith)

above-later : (e x : Executor) (es : List Executor) (n : ℕ) → RisesFrom executor_task n (e ∷ es) → Has es x →
    rows_above executor_task x.task (e ∷ es) ≡ rows_above executor_task x.task es
above-later e x es n rises has =
    let less = number_above executor_task e.task es x rises.1 has in
    let other : ltb x.task e.task ≡ false = grind (arith, nat_tests, less) in
    ap (λ (b : Bool). cond b (e ∷ rows_above executor_task x.task es) (rows_above executor_task x.task es)) other

above-again : (m n : ℕ) (es : List Executor) → m ≤ n →
    rows_above executor_task n (rows_above executor_task m es) ≡ rows_above executor_task n es
above-again m n [] le = refl
above-again m n (e ∷ es) le = go (ltb m e.task) refl (ltb n e.task) refl (above-again m n es le)
  where
    go : (a : Bool) → ltb m e.task ≡ a → (b : Bool) → ltb n e.task ≡ b →
        rows_above executor_task n (rows_above executor_task m es) ≡ rows_above executor_task n es →
        rows_above executor_task n (cond a (e ∷ rows_above executor_task m es) (rows_above executor_task m es))
        ≡ cond b (e ∷ rows_above executor_task n es) (rows_above executor_task n es)
    go true p true q same =
        ap (λ (b : Bool). cond b (e ∷ rows_above executor_task n (rows_above executor_task m es))
        (rows_above executor_task n (rows_above executor_task m es))) q
        ∙ ap (λ (all : List Executor). e ∷ all) same
    go true p false q same =
        ap (λ (b : Bool). cond b (e ∷ rows_above executor_task n (rows_above executor_task m es))
        (rows_above executor_task n (rows_above executor_task m es))) q
        ∙ same
    go false p true q same = let wrong : true ≡ false = grind (arith, nat_tests, le, p, q) in absurd cc
    go false p false q same = same

few-above : (n : ℕ) (es : List Executor) → length (rows_above executor_task n es) ≤ length es
few-above n es =
    rw (length-filter (λ (e : Executor). nat_lt n (executor_task e)) es)
    (count_by-le-length (λ (e : Executor). nat_lt n (executor_task e)) es)

fewer-above : (x : Executor) (es : List Executor) (n : ℕ) → RisesFrom executor_task n es → Has es x →
    length (rows_above executor_task x.task es) < length es
fewer-above x [] n rises has = absurd has
fewer-above x (e ∷ es) n rises (inl is) =
    let same = ap (λ (y : Executor). length (rows_above executor_task y.task (e ∷ es))) is in
    let first = ap (λ (all : List Executor). length all) (above-first e es n rises) in
    omega (arith, same, first)
fewer-above x (e ∷ es) n rises (inr has) =
    let rest = fewer-above x es e.task rises.1 has in
    let later = ap (λ (all : List Executor). length all) (above-later e x es n rises has) in
    omega (arith, rest, later)

-- The first executor with news, among those that are left.

module _ (t : Tables) (f : Executor → Duty) where
  abbrev wanted : List Executor → Option Duty
  wanted es = first_of (map f (filter (wants_report t) es))

  none-wanted : (es : List Executor) → find has_news es ≡ None → wanted es ≡ None
  none-wanted [] none = refl
  none-wanted (e ∷ es) none = go (has_news e) refl none (none-wanted es)
    where
      go : (b : Bool) → has_news e ≡ b → cond b (Some e) (find has_news es) ≡ None →
          (find has_news es ≡ None → wanted es ≡ None) → wanted (e ∷ es) ≡ None
      go true p none rest = absurd cc
      go false p none rest =
          ap (λ (b : Bool). first_of (map f (cond b (e ∷ filter (wants_report t) es) (filter (wants_report t) es))))
          (not-wanted t e p)
          ∙ rest none

  first-wanted : (es : List Executor) (x : Executor) → find has_news es ≡ Some x → wants_report t x ≡ true →
      wanted es ≡ Some (f x)
  first-wanted [] x found wants = absurd cc
  first-wanted (e ∷ es) x found wants = go (has_news e) refl found (λ later. first-wanted es x later wants)
    where
      go : (b : Bool) → has_news e ≡ b → cond b (Some e) (find has_news es) ≡ Some x →
          (find has_news es ≡ Some x → wanted es ≡ Some (f x)) → wanted (e ∷ es) ≡ Some (f x)
      go true p found rest =
          let same : e ≡ x = cc in
          ap (λ (b : Bool). first_of (map f (cond b (e ∷ filter (wants_report t) es) (filter (wants_report t) es))))
          (ap (wants_report t) same ∙ wants)
          ∙ ap (λ (y : Executor). Some (f y)) same
      go false p found rest =
          ap (λ (b : Bool). first_of (map f (cond b (e ∷ filter (wants_report t) es) (filter (wants_report t) es))))
          (not-wanted t e p)
          ∙ rest found

  passed : (n : ℕ) (es : List Executor) (x : Executor) → RisesFrom executor_task n es → find has_news es ≡ Some x →
      wants_report t x ≡ false → wanted es ≡ wanted (rows_above executor_task x.task es)
  passed n [] x rises found other = absurd cc
  passed n (e ∷ es) x rises found other =
      go (has_news e) refl found (λ later. passed e.task es x rises.1 later other)
    where
      go : (b : Bool) → has_news e ≡ b → cond b (Some e) (find has_news es) ≡ Some x →
          (find has_news es ≡ Some x → wanted es ≡ wanted (rows_above executor_task x.task es)) →
          wanted (e ∷ es) ≡ wanted (rows_above executor_task x.task (e ∷ es))
      go true p found rest =
          let same : e ≡ x = cc in
          ap (λ (b : Bool). first_of (map f (cond b (e ∷ filter (wants_report t) es) (filter (wants_report t) es))))
          (ap (wants_report t) same ∙ other)
          ∙ ap wanted (sym (above-first e es n rises))
          ∙ ap (λ (y : Executor). wanted (rows_above executor_task y.task (e ∷ es))) same
      go false p found rest =
          ap (λ (b : Bool). first_of (map f (cond b (e ∷ filter (wants_report t) es) (filter (wants_report t) es))))
          (not-wanted t e p)
          ∙ rest found
          ∙ ap wanted (sym (above-later e x es n rises (has-found has_news es x found)))

-- What is found next.

news-is : (o : Option Executor) (task : ℕ) (s : TaskState) → Some (task, s) ≡ option_map news_of o →
    (x : Executor) × (o ≡ Some x) × (x.task ≡ task)
news-is None task s e = absurd cc
news-is (Some x) task s e = (x, refl, (let pair : (task, s) ≡ news_of x = cc in sym (ap (λ (n : ℕ × TaskState). n.0) pair)))

no-news : (o : Option Executor) → None ≡ option_map news_of o → o ≡ None
no-news None e = refl
no-news (Some x) e = absurd cc

-- nothing is told
pub none-told : (o : Option (ℕ × TaskState)) → ((n : ℕ × TaskState) → o ≡ Some n → ⊥) → None ≡ o
none-told None none = refl
none-told (Some n) none = absurd (none n refl)

found-news : (es : List Executor) (x : Executor) → find has_news es ≡ Some x → has_news x ≡ true
found-news [] x found = absurd cc
found-news (e ∷ es) x found = go (has_news e) refl found (found-news es x)
  where
    go : (b : Bool) → has_news e ≡ b → cond b (Some e) (find has_news es) ≡ Some x →
        (find has_news es ≡ Some x → has_news x ≡ true) → has_news x ≡ true
    go true p found rest = let same : e ≡ x = cc in ap has_news (sym same) ∙ p
    go false p found rest = rest found

-- the executors whose task is above this one
abbrev pub left_above : ℕ → List Executor → List Executor
left_above after es = rows_above executor_task after es

-- the first report among those above
abbrev pub report_above : Tables → (Executor → Duty) → ℕ → List Executor → Option Duty
report_above t f after es = first_of (map f (filter (wants_report t) (left_above after es)))

pub report_begins : (t : Tables) (f : Executor → Duty) (es : List Executor) → RisesFrom executor_task 0 es →
    report_above t f 0 es ≡ first_of (map f (filter (wants_report t) es))
report_begins t f es rises =
    ap (λ (all : List Executor). first_of (map f (filter (wants_report t) all)))
    (rows_above-all executor_task 0 0 es rises (omega arith))

pub report_ends : (t : Tables) (f : Executor → Duty) (es : List Executor) (after : ℕ) → None ≡ news_after after es →
    report_above t f after es ≡ None
report_ends t f es after none = none-wanted t f (left_above after es) (no-news (find has_news (left_above after es)) none)

pub report_found : (t : Tables) (f : Executor → Duty) (g : ℕ → Duty) (es : List Executor) (after task : ℕ)
    (s : TaskState) → ((e : Executor) → f e ≡ g e.task) → Some (task, s) ≡ news_after after es →
    has_row task_id task t.tasks ≡ true → report_above t f after es ≡ Some (g task)
report_found t f g es after task s by-task news there =
    let n = news-is (find has_news (left_above after es)) task s news in
    let x = n.0 in
    let wants =
    wanted-is t x (found-news (left_above after es) x n.1)
    ∙ ap (λ k. has_row task_id k t.tasks) n.2 ∙ there in
    first-wanted t f (left_above after es) x n.1 wants
    ∙ ap (λ (d : Duty). Some d) (by-task x ∙ ap g n.2)

pub record GoesOn (t : Tables) (f : Executor → Duty) (es : List Executor) (after task : ℕ) : Type 0 where
  pub same : report_above t f after es ≡ report_above t f task es
  pub fewer : length (left_above task es) < length (left_above after es)

pub report_goes_on : (t : Tables) (f : Executor → Duty) (es : List Executor) (after task : ℕ) (s : TaskState) →
    RisesFrom executor_task 0 es → Some (task, s) ≡ news_after after es → has_row task_id task t.tasks ≡ false →
    GoesOn t f es after task
report_goes_on t f es after task s rises news gone =
    let ys = left_above after es in
    let n = news-is (find has_news ys) task s news in
    let x = n.0 in
    let rise = RisesFrom-filter executor_task 0 (λ (e : Executor). nat_lt after (executor_task e)) es rises in
    let has = has-found has_news ys x n.1 in
    let more = (Has-filter_cases (λ (e : Executor). nat_lt after (executor_task e)) es x has).1 in
    let le : after ≤ x.task = grind (arith, nat_tests, more) in
    let other = wanted-is t x (found-news ys x n.1) ∙ ap (λ k. has_row task_id k t.tasks) n.2 ∙ gone in
    let again = above-again after x.task es le in
    let count = ap (λ (all : List Executor). length all) again in
    subst (GoesOn t f es after) n.2
    (record {
      same =
          passed t f 0 ys x rise n.1 other
          ∙ ap (λ (all : List Executor). first_of (map f (filter (wants_report t) all))) again;
      fewer = (let fewer = fewer-above x ys 0 rise has in omega (arith, fewer, count));
    })

-- Agent by agent.

pub rises-seen : (times : TimesLaw) (n : ℕ) (es : List Executor) → RisesFrom executor_task n (map seen es) →
    RisesFrom executor_task n es
rises-seen times n [] rises = tt
rises-seen times n (e ∷ es) rises = (
  subst (λ k. n < k) (times.task e) rises.0,
  rises-seen times e.task es (subst (λ k. RisesFrom executor_task k (map seen es)) (times.task e) rises.1),
)

-- What is looked at is enough.

session-same : (w : World) (a : NodeAgent) (live : Bool) →
    session_duties (looked_at w.tables w.sent) a live ≡ session_duties w a live
session-same w a true = refl
session-same w a false = refl

inbox-same : (w : World) (a : NodeAgent) (live : Bool) (o : Option Message) →
    inbox_duties (looked_at w.tables w.sent) a live o ≡ inbox_duties w a live o
inbox-same w a live (Some m) = refl
inbox-same w a live None = refl

report-same : (w : World) (a : NodeAgent) (live : Bool) →
    report_duties (looked_at w.tables w.sent) a live ≡ report_duties w a live
report-same w a true = refl
report-same w a false = refl

on-same : (w : World) (a : NodeAgent) (live : Bool) →
    duties_on (looked_at w.tables w.sent) a live ≡ duties_on w a live
on-same w a live =
    let steps = duty_where (has_step w.tables.clock) (λ (e : Executor). duty.Exec a.node e.task) a.executors in
    let forgets = duty_where is_forgotten (λ (e : Executor). duty.Forget a.node e.task) a.executors in
    let l = looked_at w.tables w.sent in
    ap (λ (ds : List Duty). ds ++ inbox_duties l a live a.inbox ++ steps ++ report_duties l a live ++ forgets)
    (session-same w a live)
    ∙ ap (λ (ds : List Duty). session_duties w a live ++ ds ++ steps ++ report_duties l a live ++ forgets)
    (inbox-same w a live a.inbox)
    ∙ ap (λ (ds : List Duty). session_duties w a live ++ inbox_duties w a live a.inbox ++ steps ++ ds ++ forgets)
    (report-same w a live)

pub agent-same : (w : World) (a : NodeAgent) → agent_duties (looked_at w.tables w.sent) a ≡ agent_duties w a
agent-same w a = ap (λ (ds : List Duty). cond (is_mode_on a.mode) ds []) (on-same w a (is_session_live w.tables a.node))

-- the agents as they are seen have the world's duties
pub agents-seen : (times : TimesLaw) (w : World) (inside : List NodeAgent) →
    flat_map (agent_duties (looked_at w.tables w.sent)) (map seen_agent inside) ≡ flat_map (agent_duties w) inside
agents-seen times w [] = refl
agents-seen times w (a ∷ inside) =
    ap (λ (ds : List Duty). ds ++ flat_map (agent_duties (looked_at w.tables w.sent)) (map seen_agent inside))
    (agent-same w (seen_agent a) ∙ times.duties w a)
    ∙ ap (λ (ds : List Duty). agent_duties w a ++ ds) (agents-seen times w inside)
