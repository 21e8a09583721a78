-- Whether an agent has news: where less is shown of it, it has none that it hadn't.
use Rattle.std.proofs.Common.{◌≡◌, ◌∙◌, ◌++◌, ◌∷◌, Bool, true, false, cond, List, [], ap, inl, inr, map, refl, sym}
use Rattle.std.specs.Prelude.{◌&&◌, filter, is_some}
use Rattle.swarm_agent.specs.Times.{seen, seen_agent}
use Rattle.swarm_objects.proofs.RowLemmas.{Has-append_cases, Has-append_left, Has-append_right}
use Rattle.swarm_objects.proofs.Tests.{both, both_are}
use Rattle.swarm_objects.specs.Loops.Agents.{agent_duties, duties_on, has_step, inbox_duties, is_forgotten, is_mode_on, report_duties, session_duties, wants_report}
use Rattle.swarm_objects.specs.Loops.Words.{duty_where}
use Rattle.swarm_objects.specs.Nodes.Sessions.{is_session_live}
use Rattle.swarm_objects.specs.Rows.{Has, first_of, has_row, task_id}
use Rattle.swarm_objects.specs.World.{Tables, World}
use Rattle.swarm_objects.specs.declared.agents.Executor.{Executor}
use Rattle.swarm_objects.specs.declared.agents.NodeAgent.{NodeAgent}
use Rattle.swarm_objects.specs.declared.duties.Duty.TheVariants as duty
use Rattle.swarm_objects.specs.declared.duties.Duty.{Duty}
use Rattle.swarm_spans.specs.Spans.{has_duty}
use Rattle.swarm_world.proofs.AgentsShown.{ShowsNoMore, first-has, live-same, more-joined, more-where, some-duty, wants-more}
use Rattle.swarm_world.specs.Inside.Looks.{has_news_on, is_unsaid, news_duties}

-- Where a session that is live was live, and each task of the agent's that is there was there.

-- no task of the agent's is there in the first world alone
abbrev pub HasNoMore : World → World → NodeAgent → Type 0
HasNoMore v w a =
    (e : Executor) → Has a.executors e → has_row task_id e.task v.tables.tasks ≡ true →
    has_row task_id e.task w.tables.tasks ≡ true

more-told : (v w : World) (a : NodeAgent) (now was : Bool) (d : Duty) → (now ≡ true → was ≡ true) → HasNoMore v w a →
    Has (report_duties v a now) d → Has (report_duties w a was) d
more-told v w a true true d live tasks =
    more-where (wants_report v.tables) (wants_report w.tables) (λ e. duty.Report a.node e.task) a.executors d
    (λ e there. wants-more v.tables w.tables e (tasks e there))
more-told v w a true false d live tasks = λ h. absurd (let both : false ≡ true = live refl in cc)
more-told v w a false was d live tasks = λ h. absurd h

more-news : (v w : World) (a : NodeAgent) (now was : Bool) (d : Duty) → (now ≡ true → was ≡ true) → HasNoMore v w a →
    Has (news_duties v a now) d → Has (news_duties w a was) d
more-news v w a now was d live tasks =
    let forgets = duty_where is_forgotten (λ (e : Executor). duty.Forget a.node e.task) a.executors in
    more-joined (report_duties v a now) forgets (report_duties w a was) forgets d (more-told v w a now was d live tasks)
    (λ h. h)

-- it had news where it has news
pub unsaid-more : (v w : World) (a : NodeAgent) →
    (is_session_live v.tables a.node ≡ true → is_session_live w.tables a.node ≡ true) → HasNoMore v w a →
    is_unsaid v a ≡ true → is_unsaid w a ≡ true
unsaid-more v w a live tasks unsaid =
    let now = is_session_live v.tables a.node in
    let was = is_session_live w.tables a.node in
    let is = both_are (is_mode_on a.mode) (has_news_on v a now) unsaid in
    let d = first-has (news_duties v a now) is.1 in
    both (is_mode_on a.mode) (has_news_on w a was) is.0
    (some-duty (news_duties w a was) d.0 (more-news v w a now was d.0 live tasks d.1))

pub had-unsaid : (v w : World) (a : NodeAgent) → ShowsNoMore v w a → is_unsaid v a ≡ true → is_unsaid w a ≡ true
had-unsaid v w a shows = unsaid-more v w a (λ live. sym (live-same v w a shows) ∙ live) shows.tasks

-- News is a duty.

pub unsaid-duty : (w : World) (a : NodeAgent) → is_unsaid w a ≡ true → has_duty (agent_duties w) a ≡ true
unsaid-duty w a unsaid =
    let live = is_session_live w.tables a.node in
    let is = both_are (is_mode_on a.mode) (has_news_on w a live) unsaid in
    let d = first-has (news_duties w a live) is.1 in
    ap (λ b. is_some (first_of (cond b (duties_on w a live) []))) is.0
    ∙ some-duty (duties_on w a live) d.0 (among live d.0 d.1)
  where
    among : (live : Bool) (d : Duty) → Has (news_duties w a live) d → Has (duties_on w a live) d
    among live d h =
        let reports = report_duties w a live in
        let steps = duty_where (has_step w.tables.clock) (λ (e : Executor). duty.Exec a.node e.task) a.executors in
        let forgets = duty_where is_forgotten (λ (e : Executor). duty.Forget a.node e.task) a.executors in
        let first = session_duties w a live ++ inbox_duties w a live a.inbox ++ steps in
        elim (Has-append_cases reports forgets d h) [
          | inl told ↦ Has-append_left (first ++ reports) forgets d (Has-append_right first reports d told)
          | inr gone ↦ Has-append_right (first ++ reports) forgets d gone
        ]

-- As it is seen, an agent has the same news.

seen-wants : (t : Tables) (e : Executor) → wants_report t (seen e) ≡ wants_report t e
seen-wants t e = go _
  where
    go : (b : Bool) → wants_report t (cond b e (record e { since = 0 })) ≡ wants_report t e
    go true = refl
    go false = refl

seen-forgotten : (e : Executor) → is_forgotten (seen e) ≡ is_forgotten e
seen-forgotten e = go _
  where
    go : (b : Bool) → is_forgotten (cond b e (record e { since = 0 })) ≡ is_forgotten e
    go true = refl
    go false = refl

seen-named : (f : Executor → Duty) → ((e : Executor) → f (record e { since = 0 }) ≡ f e) → (e : Executor) → f (seen e) ≡ f e
seen-named f same e = go _
  where
    go : (b : Bool) → f (cond b e (record e { since = 0 })) ≡ f e
    go true = refl
    go false = same e

seen-where : (p : Executor → Bool) (f : Executor → Duty) (es : List Executor) → ((e : Executor) → p (seen e) ≡ p e) →
    ((e : Executor) → f (seen e) ≡ f e) → duty_where p f (map seen es) ≡ duty_where p f es
seen-where p f [] same named = refl
seen-where p f (e ∷ es) same named =
    let rest = seen-where p f es same named in
    ap (λ b. map f (cond b (seen e ∷ filter p (map seen es)) (filter p (map seen es)))) (same e) ∙ go (p e) rest
  where
    go : (b : Bool) → duty_where p f (map seen es) ≡ duty_where p f es →
        map f (cond b (seen e ∷ filter p (map seen es)) (filter p (map seen es)))
        ≡ map f (cond b (e ∷ filter p es) (filter p es))
    go true rest =
        ap (λ (d : Duty). d ∷ duty_where p f (map seen es)) (named e) ∙ ap (λ (ds : List Duty). f e ∷ ds) rest
    go false rest = rest

seen-news : (w : World) (a : NodeAgent) (live : Bool) → news_duties w (seen_agent a) live ≡ news_duties w a live
seen-news w a live =
    let forgets = duty_where is_forgotten (λ (e : Executor). duty.Forget a.node e.task) (map seen a.executors) in
    ap (λ (ds : List Duty). ds ++ forgets) (told live)
    ∙ ap (λ (ds : List Duty). report_duties w a live ++ ds)
    (seen-where is_forgotten (λ (e : Executor). duty.Forget a.node e.task) a.executors seen-forgotten
    (seen-named (λ (e : Executor). duty.Forget a.node e.task) (λ e. refl)))
  where
    told : (b : Bool) → report_duties w (seen_agent a) b ≡ report_duties w a b
    told true =
        seen-where (wants_report w.tables) (λ (e : Executor). duty.Report a.node e.task) a.executors (seen-wants w.tables)
        (seen-named (λ (e : Executor). duty.Report a.node e.task) (λ e. refl))
    told false = refl

pub unsaid-same : (w : World) (a : NodeAgent) → is_unsaid w (seen_agent a) ≡ is_unsaid w a
unsaid-same w a =
    ap (λ (ds : List Duty). is_mode_on a.mode && is_some (first_of ds))
    (seen-news w a (is_session_live w.tables a.node))

pub unsaid-seen : (w : World) (a : NodeAgent) → is_unsaid w a ≡ true → is_unsaid w (seen_agent a) ≡ true
unsaid-seen w a unsaid = unsaid-same w a ∙ unsaid

pub seen-unsaid : (w : World) (a : NodeAgent) → is_unsaid w (seen_agent a) ≡ true → is_unsaid w a ≡ true
seen-unsaid w a unsaid = sym (unsaid-same w a) ∙ unsaid
