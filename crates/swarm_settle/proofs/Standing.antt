-- The answer depends on what the rows, sessions and agents show.
use Rattle.std.proofs.Common.{Bool, List, None, Option, Some, [], ap, cond, map, refl, sym, ℕ, ◌++◌, ◌∙◌, ◌∷◌, ◌≡◌}
use Rattle.std.specs.Option.{option_map}
use Rattle.std.specs.Prelude.{flat_map, if◌then◌else◌, not, ◌&&◌}
use Rattle.swarm_agent.specs.Times.{TimesLaw, seen_agent}
use Rattle.swarm_model.specs.Settle.{Wait, deadline_of, executor_wait, held_by, idle_answer, is_awaited_there, is_behind, is_remote, paused_by, remote_wait, start_wait, update_wait, wait_cmp, wait_till, waiting_answer}
use Rattle.swarm_objects.proofs.RowLemmas.{row_at-map}
use Rattle.swarm_objects.specs.Loops.Agents.{is_mode_on}
use Rattle.swarm_objects.specs.Nodes.Sessions.{is_session_live}
use Rattle.swarm_objects.specs.Nodes.Words.{is_node_and, is_ready}
use Rattle.swarm_objects.specs.Rows.{agent_node, first_of, is_row_and, is_some_and, least_by, on_row, row_at}
use Rattle.swarm_objects.specs.Tasks.Words.{is_placed}
use Rattle.swarm_objects.specs.World.{Tables, World}
use Rattle.swarm_objects.specs.declared.agents.NodeAgent.{NodeAgent}
use Rattle.swarm_objects.specs.declared.duties.Cause.TheVariants as cause
use Rattle.swarm_objects.specs.declared.duties.Settle.TheVariants as settle
use Rattle.swarm_objects.specs.declared.duties.Settle.{Settle}
use Rattle.swarm_objects.specs.declared.nodes.Node.{Node}
use Rattle.swarm_objects.specs.declared.tasks.Task.{Task}
use Rattle.swarm_sessions.specs.OnRecord.{OnRecord}
use Rattle.swarm_settle.proofs.Phases.{phases_seen}
use Rattle.swarm_settle.specs.Standing.{AgreeOnLive, StandFor, with_sessions, world_with}

-- Sessions.

live_there : (t : Tables) (s : OnRecord) → AgreeOnLive t s → (node : Option ℕ) →
    is_some_and (is_session_live (with_sessions t s)) node ≡ is_some_and (is_session_live t) node
live_there t s agree None = refl
live_there t s agree (Some node) = agree node

pub awaited : (t : Tables) (s : OnRecord) (x : Task) → AgreeOnLive t s →
    is_awaited_there (with_sessions t s) x ≡ is_awaited_there t x
awaited t s x agree =
    ap (λ (b : Bool). is_placed x && is_node_and t is_remote x && b && is_behind x.state x.desired) (live_there t s agree x.node)

-- Agents.

executor_seen : TimesLaw → (a : NodeAgent) → executor_wait (seen_agent a) ≡ executor_wait a
executor_seen law a = ap (λ ws. cond (is_mode_on a.mode) ws []) (phases_seen law a.executors)

executors_seen : TimesLaw → (agents : List NodeAgent) →
    flat_map executor_wait (map seen_agent agents) ≡ flat_map executor_wait agents
executors_seen law [] = refl
executors_seen law (a ∷ agents) =
    ap (λ ws. ws ++ flat_map executor_wait (map seen_agent agents)) (executor_seen law a)
    ∙ ap (λ ws. executor_wait a ++ ws) (executors_seen law agents)

off_seen : (agents : List NodeAgent) (node : ℕ) →
    is_row_and agent_node (λ a. not (is_mode_on a.mode)) (map seen_agent agents) node
    ≡ is_row_and agent_node (λ a. not (is_mode_on a.mode)) agents node
off_seen agents node =
    ap (is_some_and (λ a. not (is_mode_on a.mode))) (row_at-map agent_node node seen_agent agents (λ a. refl))
    ∙ go (row_at agent_node node agents)
  where
    go : (o : Option NodeAgent) →
        is_some_and (λ a. not (is_mode_on a.mode)) (option_map seen_agent o)
        ≡ is_some_and (λ (a : NodeAgent). not (is_mode_on a.mode)) o
    go None = refl
    go (Some a) = refl

-- The answer.

abbrev session_wait_by : Tables → (ℕ → Bool) → Node → List Wait
session_wait_by t off n =
    if is_ready n.state && not n.remote && off n.id then wait_till cause.Session n.id (deadline_of t n.id) else []

-- by the tables, what is waited for of executors, and which nodes have an agent that isn't on
abbrev answer_by : Tables → List Wait → (ℕ → Bool) → Settle
answer_by t executing off =
    on_row settle.Settled (λ a. a)
    (first_of (waiting_answer (least_by wait_cmp None
    (flat_map (start_wait t) t.tasks
    ++ flat_map (update_wait t) t.services
    ++ executing
    ++ flat_map (session_wait_by t off) t.nodes
    ++ flat_map (remote_wait t) t.tasks))
    ++ flat_map (held_by t) t.services
    ++ flat_map paused_by t.services
    ++ settle.Settled ∷ []))

abbrev off_among : List NodeAgent → ℕ → Bool
off_among agents node = is_row_and agent_node (λ a. not (is_mode_on a.mode)) agents node

abbrev answer_with : Tables → List NodeAgent → Settle
answer_with t agents = answer_by t (flat_map executor_wait agents) (off_among agents)

answer_seen : TimesLaw → (t : Tables) (agents : List NodeAgent) → answer_with t (map seen_agent agents) ≡ answer_with t agents
answer_seen law t agents =
    ap (λ ws. answer_by t ws (off_among (map seen_agent agents))) (executors_seen law agents)
    ∙ ap (answer_by t (flat_map executor_wait agents)) (λ i node. off_seen agents node i)

-- the world for whose parts the three stand has the answer of the three
pub stands_answer : TimesLaw → (t : Tables) (s : OnRecord) (agents : List NodeAgent) (answer : Settle) →
    answer ≡ idle_answer (world_with t s agents) → (w : World) → StandFor t s agents w → answer ≡ idle_answer w
stands_answer law t s agents answer is w stands =
    is
    ∙ ap (answer_with (with_sessions t s)) stands.agents
    ∙ answer_seen law (with_sessions t s) w.agents
    ∙ ap (λ v. answer_with v w.agents) (sym stands.tables)
