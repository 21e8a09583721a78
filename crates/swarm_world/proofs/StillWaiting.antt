-- Agents that may be waited for: as they are seen, by a span of them, and as the settle test asks them.
use Rattle.std.proofs.Common.{Bool, List, None, Option, Some, [], ap, arith, cond, eqb, false, not, refl, subst, sym, true, ℕ, ◌-◌, ◌<◌, ◌^◌, ◌∙◌, ◌∷◌, ◌≡◌}
use Rattle.std.proofs.lemmas.Bool.Decides.{nat_tests}
use Rattle.std.specs.Ordering.{is_lt}
use Rattle.std.specs.Prelude.{IfSome, find, is_some, ◌||◌}
use Rattle.swarm_agent.specs.Agent.{AgentState, at_node, least_phase}
use Rattle.swarm_agent.specs.Times.{TimesLaw, seen_agent}
use Rattle.swarm_model.specs.Settle.{Wait, executor_wait, is_remote, wait_cmp}
use Rattle.swarm_objects.specs.Loops.Agents.{is_mode_on}
use Rattle.swarm_objects.specs.Rows.{RisesFrom, agent_node, first_of, least_by, node_id, service_id}
use Rattle.swarm_objects.specs.declared.agents.NodeAgent.{NodeAgent}
use Rattle.swarm_settle.proofs.Phases.{first_phase, phases_seen}
use Rattle.swarm_settle.specs.Asked.{AreAgentsAsked, AreAsked, may_wait}
use Rattle.swarm_spans.specs.Timed.{is_unfinished}
use Rattle.swarm_settle.specs.Phases.{kept}
use Rattle.swarm_settle.specs.declared.asked.Asked.{Asked}
use Rattle.swarm_spans.proofs.Grown.{own-with, wider_itself, wider_with}
use Rattle.swarm_spans.proofs.InSpans.{less-left}
use Rattle.swarm_spans.proofs.Narrowing.{narrow_passes}
use Rattle.swarm_spans.specs.Lines.{to_wait}
use Rattle.swarm_spans.specs.Spans.{Covers, CoversTasks, IsWider, beyond, is_in, is_left_out, with_id}
use Rattle.swarm_spans.specs.declared.span.Span.{Span}
use Rattle.swarm_world.proofs.Marked.{agents_rise}
use Rattle.swarm_world.specs.Inside.Marks.{IsMarked}
use Rattle.swarm_world.specs.Inside.Parts.{HasHistory}
use Rattle.swarm_world.specs.Inside.Records.{tables_of}
use Rattle.swarm_world.specs.declared.marks.Marks.{Marks}
use Rattle.swarm_world.specs.declared.parts.Parts.{Parts}

-- As it is seen, an agent waits alike.

executor-waits-seen : (times : TimesLaw) (a : NodeAgent) → executor_wait (seen_agent a) ≡ executor_wait a
executor-waits-seen times a = ap (λ (ws : List Wait). cond (is_mode_on a.mode) ws []) (phases_seen times a.executors)

pub waits-seen : (times : TimesLaw) (a : NodeAgent) → may_wait (seen_agent a) ≡ may_wait a
waits-seen times a =
    ap (λ (ws : List Wait). not (is_mode_on a.mode) || is_some (first_of ws)) (executor-waits-seen times a)

-- An agent that is on and has no phase to come isn't waited for.

least-some : (b : Wait) (ws : List Wait) → least_by wait_cmp (Some b) ws ≡ None → ⊥
least-some b [] none = cc
least-some b (w ∷ ws) none = go (is_lt (wait_cmp w b)) none (least-some w ws) (least-some b ws)
  where
    go : (c : Bool) → least_by wait_cmp (cond c (Some w) (Some b)) ws ≡ None →
        (least_by wait_cmp (Some w) ws ≡ None → ⊥) → (least_by wait_cmp (Some b) ws ≡ None → ⊥) → ⊥
    go true none first second = first none
    go false none first second = second none

least-none : (ws : List Wait) → least_by wait_cmp None ws ≡ None → ws ≡ []
least-none [] none = refl
least-none (w ∷ ws) none = absurd (least-some w ws none)

not-awaited : (times : TimesLaw) (a : AgentState) (node : ℕ) → is_mode_on a.mode ≡ true → least_phase a.executors ≡ None →
    may_wait (seen_agent (at_node node a)) ≡ false
not-awaited times a node on none =
    let first = first_phase times None a node on ∙ ap (kept None) none in
    ap (λ (ws : List Wait). not (is_mode_on a.mode) || is_some (first_of ws))
    (least-none (executor_wait (seen_agent (at_node node a))) first)
    ∙ ap (λ b. not b || false) on

pub phase_to_come : (times : TimesLaw) (a : AgentState) (wake : ℕ) (waits : Bool) → is_mode_on a.mode ≡ true →
    (wake ≡ 2 ^ 64 - 1 → least_phase a.executors ≡ None) → waits ≡ not (eqb wake (2 ^ 64 - 1)) → (node : ℕ) →
    may_wait (seen_agent (at_node node a)) ≡ true → waits ≡ true
phase_to_come times a wake waits on none is node awaited = go (eqb wake (2 ^ 64 - 1)) refl is
  where
    go : (b : Bool) → eqb wake (2 ^ 64 - 1) ≡ b → waits ≡ not b → waits ≡ true
    go false later so = so
    go true never so =
        let last : wake ≡ 2 ^ 64 - 1 = grind (arith, nat_tests, never) in
        absurd (let both : false ≡ true = sym (not-awaited times a node on (none last)) ∙ awaited in cc)

-- By a span, agent by agent.

abbrev pub seen_on : ℕ → AgentState → NodeAgent
seen_on node a = seen_agent (at_node node a)

abbrev pub IsNext : List NodeAgent → Span → ℕ → AgentState → Type 0
IsNext agents span node a = Some (seen_on node a) ≡ find (λ b. is_in span b.node) agents

-- an agent that was asked is in the narrow span, or isn't waited for
pub one_asked : (agents : List NodeAgent) (still next left rest : Span) (node : ℕ) (a : AgentState) →
    RisesFrom agent_node 0 agents → Covers agent_node (is_left_out agent_node may_wait still) left agents →
    IsNext agents left node a → IsWider next still → (0 < node → may_wait (seen_on node a) ≡ true → is_in next node ≡ true) →
    rest ≡ beyond left node → Covers agent_node (is_left_out agent_node may_wait next) rest agents
one_asked agents still next left rest node a rises covers is wider own passes =
    subst (λ s. Covers agent_node (is_left_out agent_node may_wait next) s agents) (sym passes)
    (narrow_passes agent_node may_wait agents still next left (seen_on node a) rises covers (sym is) wider own)

pub fewer_asked : (agents : List NodeAgent) (left rest : Span) (node : ℕ) (a : AgentState) → IsNext agents left node a →
    rest ≡ beyond left node → rest.high - rest.after < left.high - left.after
fewer_asked agents left rest node a is passes = less-left agent_node left rest agents (seen_on node a) (sym is) passes

-- one that may be waited for is put into it
pub put_in : (still next : Span) (node : ℕ) → next ≡ with_id still node → 0 < node → is_in next node ≡ true
put_in still next node is above = subst (λ s. is_in s node ≡ true) (sym is) (own-with still node above)

pub not_put : (still : Span) (node : ℕ) (a : AgentState) (waits : Bool) →
    ((k : ℕ) → may_wait (seen_on k a) ≡ true → waits ≡ true) → false ≡ waits → 0 < node →
    may_wait (seen_on node a) ≡ true → is_in still node ≡ true
not_put still node a waits all none above awaited =
    absurd (let both : false ≡ true = none ∙ all node awaited in cc)

pub ruleset adding_steps = (put_in, wider_with, wider_itself)

-- The marks with this span.

pub waits_marked : (m : Marks) (p : Parts) (waits : Span) → IsMarked m p → Covers agent_node may_wait waits p.agents →
    IsMarked (record m { agents = record m.agents { waits = waits } }) p
waits_marked m p waits marked covers = record {
  rows = record {
    tasks = marked.rows.tasks;
    services = marked.rows.services;
    timed = marked.rows.timed;
    known = marked.rows.known;
  };
  agents = record {
    duties = marked.agents.duties;
    sleeps = marked.agents.sleeps;
    tells = marked.agents.tells;
    news = marked.agents.news;
    waits = covers;
    steps = marked.agents.steps;
  };
}

-- what the settle test asks by them
pub asked_of : (m : Marks) (p : Parts) (asked : Asked) → HasHistory p → IsMarked m p → asked.tasks ≡ m.tasks.to_wait →
    asked.updates ≡ m.timed.updates → asked.remotes ≡ m.timed.remotes → asked.agents ≡ Some m.agents.waits →
    AreAsked (tables_of p.records) p.agents asked
asked_of m p asked is marked tasks updates remotes agents = record {
  tasks = subst (CoversTasks to_wait (tables_of p.records)) (sym tasks) marked.rows.tasks.to_wait;
  updates =
      subst (λ s. Covers service_id is_unfinished s (tables_of p.records).services) (sym updates) marked.rows.timed.updates;
  remotes = subst (λ s. Covers node_id is_remote s (tables_of p.records).nodes) (sym remotes) marked.rows.timed.remotes;
  agents =
      subst (λ (o : Option Span). IfSome o (AreAgentsAsked p.agents)) (sym agents)
      (record { rise = agents_rise p is; covers = marked.agents.waits });
}
