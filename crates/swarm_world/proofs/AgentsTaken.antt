-- The spans of the agents' loop over a turn, whatever became of it.
use Rattle.std.proofs.Common.{◌≡◌, ◌≤◌, ℕ, true, false, arith, List, Result, Ok, Err, refl, subst, sym}
use Rattle.swarm_model.specs.History.{replay}
use Rattle.swarm_objects.specs.ChangeLists.{Makes}
use Rattle.swarm_objects.specs.Duties.{is_due}
use Rattle.swarm_objects.specs.Effects.{after_duty, is_agents}
use Rattle.swarm_objects.specs.Kinds.{role_of}
use Rattle.swarm_objects.specs.declared.calls.Entry.{Entry}
use Rattle.swarm_objects.specs.declared.calls.What.TheVariants as what
use Rattle.swarm_objects.specs.declared.duties.Duty.{Duty}
use Rattle.swarm_objects.specs.declared.loops.Role.{Role}
use Rattle.swarm_objects.specs.declared.loops.Role.TheVariants as role
use Rattle.swarm_objects.specs.declared.rows.Change.{Change}
use Rattle.swarm_spans.proofs.Grown.{wider_itself}
use Rattle.swarm_spans.specs.Spans.{IsWider}
use Rattle.swarm_spans.specs.declared.span.Span.{Span}
use Rattle.swarm_world.proofs.AgentsCovered.{news-wider, told-wider}
use Rattle.swarm_world.proofs.KnownSteps.{steps-less}
use Rattle.swarm_world.specs.Inside.Looks.{before_on}
use Rattle.swarm_world.specs.Inside.Parts.{Enters, IsAt}
use Rattle.swarm_world.specs.Inside.Records.{tables_of}
use Rattle.swarm_world.specs.Inside.Spanned.{AgentsSpanLaw, CoversAgents, after_turn}
use Rattle.swarm_world.specs.Inside.Touches.{AreTouched}
use Rattle.swarm_world.specs.declared.agent_spans.AgentSpans.{AgentSpans}
use Rattle.swarm_world.specs.declared.agent_spans.Steps.{Steps}
use Rattle.swarm_world.specs.declared.parts.Parts.{Parts}

pub agents_role : (r : Role) → is_agents r ≡ true → r ≡ role.Agents
agents_role role.Dispatcher is = absurd cc
agents_role role.Enforcer is = absurd cc
agents_role role.Restart is = absurd cc
agents_role role.Update is = absurd cc
agents_role role.Replicated is = absurd cc
agents_role role.Global is = absurd cc
agents_role role.Job is = absurd cc
agents_role role.Allocator is = absurd cc
agents_role role.Scheduler is = absurd cc
agents_role role.Reaper is = absurd cc
agents_role role.Agents is = refl

-- a duty of the agents' loop
pub agents_taken : {X E : Type 0} (law : AgentsSpanLaw) (version : ℕ) (h : List Entry) (d : Duty) (result : Result X E)
    (p q : Parts) (spans : AgentSpans) → IsAt version p h → role_of d ≡ role.Agents → is_due (replay h) d ≡ true
    → Enters h (what.Duty d) result q → CoversAgents p spans → CoversAgents q (after_turn d spans)
agents_taken law version h d (Ok done) p q spans is own due after =
    law.turn h d p q spans is.legal own due is.stands after
agents_taken law version h d (Err wanting) p q spans is own due after =
    law.same h p q spans (after_turn d spans) is.stands after
    (record {
      duties = wider_itself spans.duties;
      tells = told-wider d spans.tells;
      news = news-wider d spans.news;
      waits = news-wider d spans.waits;
      wakes = refl;
      steps = steps-less d spans.steps;
    })

same_wider : (span wide : Span) → wide ≡ span → IsWider wide span
same_wider span wide same = subst (λ (s : Span). IsWider s span) (sym same) (wider_itself span)

same_steps : (s t : Steps) (node : ℕ) → t ≡ s → before_on t node ≤ before_on s node
same_steps s t node same = subst (λ (u : Steps). before_on u node ≤ before_on s node) (sym same) (omega arith)

-- a duty over the rows
pub rows_taken : {X E : Type 0} (law : AgentsSpanLaw) (version : ℕ) (h : List Entry) (d : Duty) (touched cs : List Change)
    (result : Result X E) (p q : Parts) (spans wide : AgentSpans) → IsAt version p h → is_agents (role_of d) ≡ false
    → is_due (replay h) d ≡ true → Makes (tables_of p.records) cs (after_duty version (tables_of p.records) d)
    → touched ≡ cs → AreTouched (tables_of p.records) spans wide touched → Enters h (what.Duty d) result q
    → CoversAgents p spans → CoversAgents q wide
rows_taken law version h d all cs (Ok done) p q spans wide is other due makes same are after covers =
    law.rows h d version cs p q spans wide is other due makes
    (subst (AreTouched (tables_of p.records) spans wide) same are) after covers
rows_taken law version h d all cs (Err wanting) p q spans wide is other due makes same are after covers =
    law.same h p q spans wide is.stands after
    (record {
      duties = are.duties.wider;
      tells = are.tells.wider;
      news = same_wider spans.news wide.news are.news;
      waits = same_wider spans.waits wide.waits are.waits;
      wakes = are.wakes;
      steps = λ node. same_steps spans.steps wide.steps node are.steps;
    }) covers
