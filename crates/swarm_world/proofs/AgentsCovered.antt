-- Spans that cover the nodes of the agents' loop cover them after any duty of the loop.
use Rattle.std.proofs.Common.{◌≡◌, ◌∙◌, ℕ, Bool, true, false, cond, List, [], Option, Some, None, arith, inl, inr, refl, subst, sym, ◌+◌, ◌<◌}
use Rattle.std.proofs.lemmas.Bool.Decides.{nat_tests}
use Rattle.std.specs.Prelude.{◌==◌}
use Rattle.swarm_model.proofs.Base.DutyLists.{Has-due, from_either, from_when, from_where}
use Rattle.swarm_model.proofs.Base.FromLists.{IsDuty-due}
use Rattle.swarm_model.proofs.Base.IsDuty.{IsDuty, OfAgent}
use Rattle.swarm_model.proofs.Laws.GivesOut.{GivesOut}
use Rattle.swarm_model.proofs.Laws.GivesOutReplay.{whole-replay}
use Rattle.swarm_model.proofs.Laws.Sound.{rises-between}
use Rattle.swarm_model.specs.History.{IsLegal, effect, replay, step}
use Rattle.swarm_objects.proofs.RowLemmas.{Has-flat_map_cases, number_above}
use Rattle.swarm_objects.specs.Agents.Messages.{change_executor, message_for}
use Rattle.swarm_objects.specs.Duties.{duties, is_due}
use Rattle.swarm_objects.specs.Kinds.{duty_numbers, role_of}
use Rattle.swarm_objects.specs.Loops.Agents.{agent_duties, duties_on, executor_at, has_step, inbox_duties, is_forgotten, is_mode_on, report_duties, session_duties, stepped, take_in, wants_report}
use Rattle.swarm_objects.specs.Nodes.Sessions.{is_session_live}
use Rattle.swarm_objects.specs.Rows.{Has, RisesFrom, agent_node, drop_row, executor_task, first_of}
use Rattle.swarm_objects.specs.World.{World}
use Rattle.swarm_objects.specs.declared.agents.NodeAgent.{NodeAgent}
use Rattle.swarm_objects.specs.declared.calls.Entry.{Entry}
use Rattle.swarm_objects.specs.declared.calls.What.TheVariants as what
use Rattle.swarm_objects.specs.declared.duties.Duty.TheVariants as duty
use Rattle.swarm_objects.specs.declared.duties.Duty.{Duty}
use Rattle.swarm_objects.specs.declared.loops.Role.TheVariants as role
use Rattle.swarm_objects.specs.declared.messages.Message.{Message}
use Rattle.swarm_spans.proofs.Grown.{low-end, own-with, wider_itself, wider_with}
use Rattle.swarm_spans.specs.Spans.{Covers, IsWider, is_in, with_id}
use Rattle.swarm_spans.specs.declared.span.Span.{Span}
use Rattle.swarm_world.proofs.AgentsAlone.{TurnsAlone, beat-alone, one-agent, pull-alone, register-alone, taken-node}
use Rattle.swarm_world.proofs.AgentsShown.{IsShown, had-duty, had-message, is_busy, same-tables, some-duty, wants-both, wants-parts}
use Rattle.swarm_world.proofs.KnownSteps.{known-after}
use Rattle.swarm_settle.specs.Asked.{may_wait}
use Rattle.swarm_world.proofs.ReportsAlone.{IsPlaced, executor-of, report-alone, reported-shows}
use Rattle.swarm_world.proofs.Restless.{shown-restless}
use Rattle.swarm_world.proofs.Unsaid.{had-unsaid, unsaid-more}
use Rattle.swarm_world.specs.Inside.Looks.{AreSpanned, is_restless, is_told, is_unsaid, wants_message}
use Rattle.swarm_world.specs.Inside.Spanned.{after_turn, news_by, told_by}
use Rattle.swarm_world.specs.declared.agent_spans.AgentSpans.{AgentSpans}

-- The node of a duty.

-- an agent's duty names its node first
pub of-agent : (w : World) (a : NodeAgent) (d : Duty) → Has (agent_duties w a) d → first_of (duty_numbers d) ≡ Some a.node
of-agent w a d h = go (is_mode_on a.mode) h
  where
    Named : Duty → Type 0
    Named e = first_of (duty_numbers e) ≡ Some a.node

    of_session : (live : Bool) → Has (session_duties w a live) d → Named d
    of_session true k = from_when Named _ (duty.Beat a.node) d (λ e. refl) k
    of_session false (inl same) = subst Named same refl
    of_session false (inr none) = absurd none

    of_inbox : (live : Bool) (inbox : Option Message) → Has (inbox_duties w a live inbox) d → Named d
    of_inbox live (Some m) (inl same) = subst Named same refl
    of_inbox live (Some m) (inr none) = absurd none
    of_inbox live None k = from_when Named _ (duty.Pull a.node) d (λ e. refl) k

    of_reports : (live : Bool) → Has (report_duties w a live) d → Named d
    of_reports true k =
        from_where Named (wants_report w.tables) (λ e. duty.Report a.node e.task) a.executors d (λ e there passes. refl) k
    of_reports false k = absurd k

    on : (live : Bool) → Has (duties_on w a live) d → Named d
    on live k =
        from_either _ _ d
        (from_either _ _ d
        (from_either _ _ d
        (from_either _ _ d (of_session live) (of_inbox live a.inbox))
        (from_where Named (has_step w.tables.clock) (λ e. duty.Exec a.node e.task) a.executors d (λ e there passes. refl)))
        (of_reports live))
        (from_where Named is_forgotten (λ e. duty.Forget a.node e.task) a.executors d (λ e there passes. refl)) k

    go : (b : Bool) → Has (cond b (duties_on w a (is_session_live w.tables a.node)) []) d → Named d
    go true k = on (is_session_live w.tables a.node) k
    go false k = absurd k

-- Each duty of the agents' loop.

-- where nodes have executors of their own tasks alone, a task that is reported is on the node, and at least ASSIGNED
reported-placed : (w : World) (n x : ℕ) → GivesOut w → IsDuty w (duty.Report n x) → IsPlaced w.tables x
reported-placed w n x gives is y there same =
    let e = is.fact.1.1 in
    (((gives.agents is.row is.there).executors.given e.row e.there).there y there (same ∙ sym e.id_is)).1

pub turns-alone : (w : World) (d : Duty) (n : ℕ) → GivesOut w → IsDuty w d → role_of d ≡ role.Agents →
    first_of (duty_numbers d) ≡ Some n → TurnsAlone w (effect w d) n
turns-alone w (duty.Register k) n gives is own at =
    subst (TurnsAlone w (effect w (duty.Register k))) (let same : k ≡ n = cc in same) (register-alone w k)
turns-alone w (duty.Beat k) n gives is own at =
    subst (TurnsAlone w (effect w (duty.Beat k))) (let same : k ≡ n = cc in same) (beat-alone w k)
turns-alone w (duty.Apply k) n gives is own at =
    let v = effect w (duty.Apply k) in
    subst (TurnsAlone w v) (let same : k ≡ n = cc in same)
    (one-agent w v k (λ a. take_in w.tables.clock a.inbox a) (λ a. taken-node w.tables.clock a.inbox a) refl
    (λ a away. same-tables v w a refl refl))
turns-alone w (duty.Pull k) n gives is own at =
    subst (TurnsAlone w (effect w (duty.Pull k))) (let same : k ≡ n = cc in same)
    (pull-alone w (effect w (duty.Pull k)) k (message_for w k) refl refl refl)
turns-alone w (duty.Exec k x) n gives is own at =
    let v = effect w (duty.Exec k x) in
    subst (TurnsAlone w v) (let same : k ≡ n = cc in same)
    (one-agent w v k (λ a. record a { executors = change_executor x (stepped w.tables.clock) a.executors }) (λ a. refl) refl
    (λ a away. same-tables v w a refl refl))
turns-alone w (duty.Report k x) n gives is own at =
    subst (TurnsAlone w (effect w (duty.Report k x))) (let same : k ≡ n = cc in same)
    (report-alone w k x (reported-placed w k x gives is))
turns-alone w (duty.Forget k x) n gives is own at =
    let v = effect w (duty.Forget k x) in
    subst (TurnsAlone w v) (let same : k ≡ n = cc in same)
    (one-agent w v k (λ a. record a { executors = drop_row executor_task x a.executors }) (λ a. refl) refl
    (λ a away. same-tables v w a refl refl))
turns-alone w _ n gives is own at = absurd cc

-- Messages.

-- the span gets no smaller
pub told-wider : (d : Duty) (span : Span) → IsWider (told_by d span) span
told-wider (duty.Register n) span = wider_with span (with_id span n) n refl
told-wider _ span = wider_itself span

-- the agent of the node wanted a message before, where it wants one after
told-before : (w v : World) (k n : ℕ) (span : Span) (a : NodeAgent) (Fact : NodeAgent → Type 0) (is : OfAgent w k Fact) →
    k ≡ n → a.node ≡ n → Covers agent_node (wants_message w) span w.agents →
    (wants_message v is.row ≡ true → wants_message w is.row ≡ true) → wants_message v a ≡ true → is_in span n ≡ true
told-before w v k n span a Fact is same node covers before wants =
    let parts = wants-parts v a wants in
    let at : a.node ≡ is.row.node = node ∙ sym same ∙ sym is.id_is in
    let now =
    wants-both v is.row is.fact.0 (subst (λ j. is_session_live v.tables j ≡ true) at parts.1)
    (subst (λ j. is_told v j ≡ true) at parts.2) in
    subst (λ j. is_in span j ≡ true) (is.id_is ∙ same) (covers.has is.row is.there (before now))

-- a message is due for the node of a duty after it where one was due, or the node registered
own-told : (w : World) (d : Duty) (n : ℕ) (span : Span) (a : NodeAgent) → GivesOut w → RisesFrom agent_node 0 w.agents →
    IsDuty w d → role_of d ≡ role.Agents → first_of (duty_numbers d) ≡ Some n →
    Covers agent_node (wants_message w) span w.agents → a.node ≡ n → wants_message (effect w d) a ≡ true →
    is_in (told_by d span) n ≡ true
own-told w (duty.Register k) n span a gives rises is own at covers node wants =
    let same : k ≡ n = cc in
    subst (λ j. is_in (with_id span k) j ≡ true) same
    (own-with span k (subst (λ j. 0 < j) is.id_is (number_above agent_node 0 w.agents is.row rises is.there)))
own-told w (duty.Beat k) n span a gives rises is own at covers node wants =
    told-before w (effect w (duty.Beat k)) k n span a _ is (let same : k ≡ n = cc in same) node covers
    (λ now. wants-both w is.row is.fact.0 is.fact.1.0 (wants-parts (effect w (duty.Beat k)) is.row now).2) wants
own-told w (duty.Apply k) n span a gives rises is own at covers node wants =
    told-before w (effect w (duty.Apply k)) k n span a _ is (let same : k ≡ n = cc in same) node covers (λ now. now) wants
own-told w (duty.Pull k) n span a gives rises is own at covers node wants =
    told-before w (effect w (duty.Pull k)) k n span a _ is (let same : k ≡ n = cc in same) node covers
    (λ now. wants-both w is.row is.fact.0 is.fact.1.0 is.fact.1.1.1) wants
own-told w (duty.Exec k x) n span a gives rises is own at covers node wants =
    told-before w (effect w (duty.Exec k x)) k n span a _ is (let same : k ≡ n = cc in same) node covers (λ now. now) wants
own-told w (duty.Report k x) n span a gives rises is own at covers node wants =
    let v = effect w (duty.Report k x) in
    told-before w v k n span a _ is (let same : k ≡ n = cc in same) node covers
    (had-message v w is.row
    (reported-shows w v (w.entries + 1) x (executor_at w k x) is.row (executor-of w k x) (reported-placed w k x gives is)
    refl refl)) wants
own-told w (duty.Forget k x) n span a gives rises is own at covers node wants =
    told-before w (effect w (duty.Forget k x)) k n span a _ is (let same : k ≡ n = cc in same) node covers (λ now. now) wants
own-told w _ n span a gives rises is own at covers node wants = absurd cc

-- The spans.

-- the node of a duty that is due is in that of the duties
own-node : (w : World) (d : Duty) (span : Span) → role_of d ≡ role.Agents → is_due w d ≡ true →
    Covers agent_node (is_busy w) span w.agents →
    (n : ℕ) × (first_of (duty_numbers d) ≡ Some n) × (is_in span n ≡ true)
own-node w d span own due covers =
    let listed = subst (λ r. Has (duties r w) d) own (Has-due w d due) in
    let from = Has-flat_map_cases (agent_duties w) w.agents d listed in
    (from.0.node, of-agent w from.0 d from.2, covers.has from.0 from.1 (some-duty (agent_duties w from.0) d from.2))

-- a span goes on covering where it has the one node whose agent may newly pass the test
covers-alone : (test : World → NodeAgent → Bool) (w v : World) (n : ℕ) (span wide : Span) → IsShown test → TurnsAlone w v n →
    IsWider wide span → ((a : NodeAgent) → Has v.agents a → a.node ≡ n → test v a ≡ true → is_in wide n ≡ true) →
    Covers agent_node (test w) span w.agents → Covers agent_node (test v) wide v.agents
covers-alone test w v n span wide shown alone wider own covers = record {
  has = λ a there passes. go a there passes (a.node == n) refl;
}
  where
    go : (a : NodeAgent) → Has v.agents a → test v a ≡ true → (b : Bool) → (a.node == n) ≡ b → is_in wide a.node ≡ true
    go a there passes true is =
        let same : a.node ≡ n = grind (arith, nat_tests, is) in
        subst (λ k. is_in wide k ≡ true) (sym same) (own a there same passes)
    go a there passes false is =
        let other = alone.other a there (λ same. grind (arith, nat_tests, is)) in
        wider.has a.node (covers.has a other.0 (shown v w a other.1 passes))

pub news-wider : (d : Duty) (span : Span) → IsWider (news_by d span) span
news-wider (duty.Register n) span = wider_with span (with_id span n) n refl
news-wider (duty.Apply n) span = wider_with span (with_id span n) n refl
news-wider (duty.Pull n) span = wider_with span (with_id span n) n refl
news-wider (duty.Exec n x) span = wider_with span (with_id span n) n refl
news-wider (duty.Report n x) span = wider_with span (with_id span n) n refl
news-wider (duty.Forget n x) span = wider_with span (with_id span n) n refl
news-wider _ span = wider_itself span

own-added : (k n : ℕ) (span busy : Span) → k ≡ n → is_in busy n ≡ true → is_in (with_id span k) n ≡ true
own-added k n span busy same within =
    let low = low-end busy n within in
    subst (λ (j : ℕ). is_in (with_id span j) n ≡ true) (sym same) (own-with span n (omega (arith, low)))

-- the node of a duty is in the span after it, where its agent has news
own-heard : (w : World) (d : Duty) (n : ℕ) (span busy : Span) (a : NodeAgent) → IsDuty w d → role_of d ≡ role.Agents →
    first_of (duty_numbers d) ≡ Some n → is_in busy n ≡ true → Covers agent_node (is_unsaid w) span w.agents →
    Has (effect w d).agents a → a.node ≡ n → is_unsaid (effect w d) a ≡ true → is_in (news_by d span) n ≡ true
own-heard w (duty.Register k) n span busy a is own at within covers there node unsaid =
    own-added k n span busy (let same : k ≡ n = cc in same) within
own-heard w (duty.Beat k) n span busy a is own at within covers there node unsaid =
    let same : k ≡ n = cc in
    let of : a.node ≡ is.row.node = node ∙ sym same ∙ sym is.id_is in
    subst (λ j. is_in span j ≡ true) node
    (covers.has a there
    (unsaid-more (effect w (duty.Beat k)) w a (λ live. subst (λ j. is_session_live w.tables j ≡ true) (sym of) is.fact.1.0)
    (λ e has row. row) unsaid))
own-heard w (duty.Apply k) n span busy a is own at within covers there node unsaid =
    own-added k n span busy (let same : k ≡ n = cc in same) within
own-heard w (duty.Pull k) n span busy a is own at within covers there node unsaid =
    own-added k n span busy (let same : k ≡ n = cc in same) within
own-heard w (duty.Exec k x) n span busy a is own at within covers there node unsaid =
    own-added k n span busy (let same : k ≡ n = cc in same) within
own-heard w (duty.Report k x) n span busy a is own at within covers there node unsaid =
    own-added k n span busy (let same : k ≡ n = cc in same) within
own-heard w (duty.Forget k x) n span busy a is own at within covers there node unsaid =
    own-added k n span busy (let same : k ≡ n = cc in same) within
own-heard w _ n span busy a is own at within covers there node unsaid = absurd cc

-- nor is it waited for after a duty of another agent
own-awaited : (w : World) (d : Duty) (n : ℕ) (span busy : Span) (a : NodeAgent) → role_of d ≡ role.Agents →
    first_of (duty_numbers d) ≡ Some n → is_in busy n ≡ true → Covers agent_node may_wait span w.agents →
    Has (effect w d).agents a → a.node ≡ n → may_wait a ≡ true → is_in (news_by d span) n ≡ true
own-awaited w (duty.Register k) n span busy a own at within covers there node waits =
    own-added k n span busy (let same : k ≡ n = cc in same) within
own-awaited w (duty.Beat k) n span busy a own at within covers there node waits =
    subst (λ j. is_in span j ≡ true) node (covers.has a there waits)
own-awaited w (duty.Apply k) n span busy a own at within covers there node waits =
    own-added k n span busy (let same : k ≡ n = cc in same) within
own-awaited w (duty.Pull k) n span busy a own at within covers there node waits =
    own-added k n span busy (let same : k ≡ n = cc in same) within
own-awaited w (duty.Exec k x) n span busy a own at within covers there node waits =
    own-added k n span busy (let same : k ≡ n = cc in same) within
own-awaited w (duty.Report k x) n span busy a own at within covers there node waits =
    own-added k n span busy (let same : k ≡ n = cc in same) within
own-awaited w (duty.Forget k x) n span busy a own at within covers there node waits =
    own-added k n span busy (let same : k ≡ n = cc in same) within
own-awaited w _ n span busy a own at within covers there node waits = absurd cc

covers-after : (w : World) (d : Duty) (spans : AgentSpans) → GivesOut w → RisesFrom agent_node 0 w.agents →
    role_of d ≡ role.Agents → is_due w d ≡ true → AreSpanned w spans w.agents →
    AreSpanned (effect w d) (after_turn d spans) (effect w d).agents
covers-after w d spans gives rises own due covers =
    let v = effect w d in
    let is = IsDuty-due w d due in
    let node = own-node w d spans.duties own due covers.duties in
    let alone = turns-alone w d node.0 gives is own node.1 in
    record {
      duties =
          covers-alone is_busy w v node.0 spans.duties spans.duties had-duty alone (wider_itself spans.duties)
          (λ a there at busy. node.2) covers.duties;
      sleeps =
          covers-alone (is_restless spans.wakes) w v node.0 spans.duties spans.duties (shown-restless spans.wakes) alone
          (wider_itself spans.duties) (λ a there at restless. node.2) covers.sleeps;
      tells =
          covers-alone wants_message w v node.0 spans.tells (told_by d spans.tells) had-message alone
          (told-wider d spans.tells)
          (λ a there at wants. own-told w d node.0 spans.tells a gives rises is own node.1 covers.tells at wants) covers.tells;
      news =
          covers-alone is_unsaid w v node.0 spans.news (news_by d spans.news) had-unsaid alone (news-wider d spans.news)
          (λ a there at unsaid.
          own-heard w d node.0 spans.news spans.duties a is own node.1 node.2 covers.news there at unsaid) covers.news;
      waits =
          covers-alone (λ x. may_wait) w v node.0 spans.waits (news_by d spans.waits) (λ x y a shows waits. waits) alone
          (news-wider d spans.waits)
          (λ a there at waits. own-awaited w d node.0 spans.waits spans.duties a own node.1 node.2 covers.waits there at waits)
          covers.waits;
      steps = known-after w d spans.steps own covers.steps;
    }

-- of a legal history
pub covers-on : (h : List Entry) → IsLegal h → (d : Duty) → role_of d ≡ role.Agents → is_due (replay h) d ≡ true →
    (spans : AgentSpans) → AreSpanned (replay h) spans (replay h).agents →
    AreSpanned (step (replay h) (what.Duty d)).after (after_turn d spans) (step (replay h) (what.Duty d)).after.agents
covers-on h legal d own due spans covers =
    let w = replay h in
    let whole = whole-replay h legal in
    covers-after w d spans whole.1 (rises-between agent_node 0 1 w.tables.next_id w.agents (omega arith) whole.0.agents) own
    due covers
