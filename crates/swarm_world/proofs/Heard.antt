-- An agent's news is looked for only where it may have some.
use Rattle.std.proofs.Common.{◌≡◌, ◌∙◌, ◌++◌, ◌∷◌, ℕ, Bool, true, false, List, [], None, ap, inl, inr, refl, subst, sym}
use Rattle.std.specs.Prelude.{is_some}
use Rattle.swarm_objects.proofs.Tests.{both}
use Rattle.swarm_objects.specs.Loops.Agents.{is_forgotten, is_mode_on, report_duties}
use Rattle.swarm_objects.specs.Loops.Words.{duty_where}
use Rattle.swarm_objects.specs.Nodes.Sessions.{is_session_live}
use Rattle.swarm_objects.specs.Rows.{first_of}
use Rattle.swarm_objects.specs.World.{Tables, World}
use Rattle.swarm_objects.specs.declared.agents.NodeAgent.{NodeAgent}
use Rattle.swarm_objects.specs.declared.duties.Duty.TheVariants as duty
use Rattle.swarm_objects.specs.declared.duties.Duty.{Duty}
use Rattle.swarm_spans.specs.Services.Touches.{AreCovered}
use Rattle.swarm_spans.specs.Spans.{beyond, is_in}
use Rattle.swarm_spans.specs.TasksCovered.{AreTasksCovered}
use Rattle.swarm_spans.specs.declared.span.Span.{Span}
use Rattle.swarm_spans.specs.Timed.{AreTimed}
use Rattle.swarm_world.proofs.Asked.{may_be_told, stays_asked}
use Rattle.swarm_world.specs.Inside.Known.{KnowsAll}
use Rattle.swarm_world.specs.Inside.Looks.{IsHeard, IsPassed, MayHaveNews, has_news_on, is_unsaid, news_duties}
use Rattle.swarm_world.specs.Inside.Marks.{AreMarked}
use Rattle.swarm_world.specs.Inside.Spanned.{after_turn, news_by, steps_by, told_by, with_told}
use Rattle.swarm_world.specs.declared.agent_spans.AgentSpans.{AgentSpans}
use Rattle.swarm_world.specs.declared.agent_spans.Steps.{Steps}
use Rattle.swarm_world.specs.declared.marks.Marks.{Marks}

-- an agent whose node isn't in the span has none
pub out_heard : (w : World) (a : NodeAgent) (live : Bool) (span : Span) → MayHaveNews w a live span →
    false ≡ is_in span a.node →
    None ≡ first_of (report_duties w a live ++ duty_where is_forgotten (λ e. duty.Forget a.node e.task) a.executors)
out_heard w a live span may out = go (news_duties w a live) refl
  where
    go : (ds : List Duty) → news_duties w a live ≡ ds → None ≡ first_of ds
    go [] is = refl
    go (d ∷ ds) is =
        absurd (let both : false ≡ true = out ∙ may (ap (λ (all : List Duty). is_some (first_of all)) is) in cc)

pub stays_heard : (w : World) (a : NodeAgent) (span : Span) → IsHeard w a span span
stays_heard w a span = inl refl

pub left_heard : (w : World) (a : NodeAgent) (live : Bool) (span next : Span) → live ≡ is_session_live w.tables a.node →
    None ≡ first_of (report_duties w a live ++ duty_where is_forgotten (λ e. duty.Forget a.node e.task) a.executors) →
    next ≡ beyond span a.node → IsHeard w a span next
left_heard w a live span next now none is =
    inr (subst (λ b. has_news_on w a b ≡ false) now (ap is_some (sym none)), is)

pub ruleset heard_steps = (out_heard, stays_heard, left_heard)

-- What is known of its steps stays, where they aren't asked.
pub stays_passed : (clock : ℕ) (a : NodeAgent) (s : Steps) → IsPassed clock a s s
stays_passed clock a s = inl refl

pub ruleset within_steps = (stays_heard, stays_passed)

pub ruleset on_steps = (stays_asked, stays_heard, stays_passed)

-- of an agent that is on
pub may_have_news : (w : World) (a : NodeAgent) (live : Bool) (span : Span) → true ≡ is_mode_on a.mode →
    live ≡ is_session_live w.tables a.node → (is_unsaid w a ≡ true → is_in span a.node ≡ true) →
    MayHaveNews w a live span
may_have_news w a live span on is may = λ news.
    may (both (is_mode_on a.mode) (has_news_on w a (is_session_live w.tables a.node)) (sym on)
    (subst (λ b. has_news_on w a b ≡ true) is news))

pub ruleset agent_steps = (may_be_told, may_have_news, stays_asked, stays_heard, stays_passed)

-- Before a duty of the agents' loop.

pub heard_rows : (m n : Marks) (t : Tables) → n.tasks ≡ m.tasks → n.services ≡ m.services → n.timed ≡ m.timed →
    n.known ≡ m.known → AreMarked m t → AreMarked n t
heard_rows m n t tasks services timed known are = record {
  tasks = subst (AreTasksCovered t) (sym tasks) are.tasks;
  services = subst (AreCovered t) (sym services) are.services;
  timed = subst (AreTimed t) (sym timed) are.timed;
  known = subst (KnowsAll t) (sym known) are.known;
}

pub heard_turn : (d : Duty) (m n next : AgentSpans) → n.duties ≡ m.duties → n.tells ≡ m.tells →
    n.news ≡ news_by d m.news → n.waits ≡ news_by d m.waits → n.steps ≡ steps_by d m.steps → n.wakes ≡ m.wakes →
    next ≡ with_told d n → next ≡ after_turn d m
heard_turn d m n next duties tells news waits steps wakes is =
    is
    ∙ (λ i. record {
      duties = duties i;
      tells = told_by d (tells i);
      news = news i;
      waits = waits i;
      steps = steps i;
      wakes = wakes i;
    })

pub ruleset turn_steps = (heard_rows, heard_turn)
