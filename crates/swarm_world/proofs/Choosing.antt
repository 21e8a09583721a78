-- The first duty of a control loop, whichever it is.
use Rattle.std.proofs.Common.{◌≡◌, ◌<◌, ◌∙◌, ◌∷◌, ℕ, true, false, List, [], ap, arith, inl, inr, refl, subst, sym}
use Rattle.std.specs.Prelude.{flat_map, map}
use Rattle.swarm_agent.specs.Times.{TimesLaw, seen, seen_agent}
use Rattle.swarm_model.proofs.Base.FromLists.{IsDuty-due}
use Rattle.swarm_model.proofs.Laws.GivesOutReplay.{whole-replay}
use Rattle.swarm_model.proofs.Laws.Sound.{rises-between}
use Rattle.swarm_model.specs.History.{replay}
use Rattle.swarm_objects.specs.Duties.{duties, is_due}
use Rattle.swarm_objects.specs.Effects.{is_agents, world_with}
use Rattle.swarm_objects.specs.Loops.Agents.{agent_duties, agents}
use Rattle.swarm_objects.specs.Nodes.Sessions.{is_session_live}
use Rattle.swarm_objects.specs.Rows.{Has, RisesFrom, executor_task, first_of}
use Rattle.swarm_objects.specs.World.{Tables, World}
use Rattle.swarm_objects.specs.declared.agents.Executor.{Executor}
use Rattle.swarm_objects.specs.declared.agents.NodeAgent.{NodeAgent}
use Rattle.swarm_objects.specs.declared.duties.Duty.{Duty}
use Rattle.swarm_objects.specs.declared.duties.Duty.TheVariants as duty
use Rattle.swarm_objects.specs.declared.loops.Role.{Role}
use Rattle.swarm_objects.specs.declared.loops.Role.TheVariants as role
use Rattle.swarm_objects.specs.declared.messages.NodeSent.{NodeSent}
use Rattle.swarm_world.proofs.Entering.{by-tables}
use Rattle.swarm_world.proofs.LooksOn.{agents-seen}
use Rattle.swarm_world.proofs.Recorded.{tables_are}
use Rattle.swarm_world.specs.Inside.Looks.{EachRises, looked_at}
use Rattle.swarm_world.specs.Inside.Parts.{HasHistory, StandsFor}
use Rattle.swarm_world.specs.Inside.Records.{tables_of}
use Rattle.swarm_world.specs.declared.parts.Parts.{Parts}

-- The executors of each agent rise.

seen-rises : (times : TimesLaw) (n : ℕ) (es : List Executor) → RisesFrom executor_task n es →
    RisesFrom executor_task n (map seen es)
seen-rises times n [] rises = tt
seen-rises times n (e ∷ es) rises = (
  subst (λ k. n < k) (sym (times.task e)) rises.0,
  subst (λ k. RisesFrom executor_task k (map seen es)) (sym (times.task e)) (seen-rises times e.task es rises.1),
)

each-rises : (times : TimesLaw) (all : List NodeAgent) →
    ((a : NodeAgent) → Has all a → RisesFrom executor_task 0 a.executors) → EachRises (map seen_agent all)
each-rises times [] each = tt
each-rises times (a ∷ all) each =
    (seen-rises times 0 a.executors (each a (inl refl)), each-rises times all (λ b h. each b (inr h)))

pub executors_rise : (times : TimesLaw) (p : Parts) → HasHistory p → EachRises p.agents
executors_rise times p is =
    let w = replay is.history in
    let whole = whole-replay is.history is.legal in
    subst EachRises (sym is.stands.has.agents)
    (each-rises times w.agents
    (λ a h. rises-between executor_task 0 1 w.tables.next_id a.executors (omega arith) (whole.1.agents a h).executors.rises))

-- The agents' loop, and the others.

agents-role : (r : Role) (w : World) → is_agents r ≡ true → duties r w ≡ agents w
agents-role role.Dispatcher w is = absurd cc
agents-role role.Enforcer w is = absurd cc
agents-role role.Restart w is = absurd cc
agents-role role.Update w is = absurd cc
agents-role role.Replicated w is = absurd cc
agents-role role.Global w is = absurd cc
agents-role role.Job w is = absurd cc
agents-role role.Allocator w is = absurd cc
agents-role role.Scheduler w is = absurd cc
agents-role role.Reaper w is = absurd cc
agents-role role.Agents w is = refl

pub first-of-agents : (times : TimesLaw) (p : Parts) (r : Role) (w : World) → is_agents r ≡ true → StandsFor p w →
    first_of (flat_map (agent_duties (looked_at (tables_of p.records) p.sent)) p.agents) ≡ first_of (duties r w)
first-of-agents times p r w is stands =
    ap (λ (t : Tables). first_of (flat_map (agent_duties (looked_at t p.sent)) p.agents))
    (tables_are p.records w stands.has.records)
    ∙ ap (λ (sent : List NodeSent). first_of (flat_map (agent_duties (looked_at w.tables sent)) p.agents)) stands.has.sent
    ∙ ap (λ (all : List NodeAgent). first_of (flat_map (agent_duties (looked_at w.tables w.sent)) all)) stands.has.agents
    ∙ ap (λ (ds : List Duty). first_of ds) (agents-seen times w w.agents)
    ∙ ap (λ (ds : List Duty). first_of ds) (sym (agents-role r w is))

pub first-of-rows : (p : Parts) (r : Role) (w : World) → is_agents r ≡ false → StandsFor p w →
    first_of (duties r (world_with (tables_of p.records))) ≡ first_of (duties r w)
first-of-rows p r w other stands =
    ap (λ (t : Tables). first_of (duties r (world_with t))) (tables_are p.records w stands.has.records)
    ∙ ap (λ (ds : List Duty). first_of ds) (by-tables r w other)

-- A beat that is due is one of a live session.

pub beat-live : (w : World) (node : ℕ) → is_due w (duty.Beat node) ≡ true → is_session_live w.tables node ≡ true
beat-live w node due =
    let is = IsDuty-due w (duty.Beat node) due in
    subst (λ n. is_session_live w.tables n ≡ true) is.id_is is.fact.1.0
