-- Applying the message in an inbox.
use Rattle.std.proofs.Common.{◌≡◌, ℕ, List, None, Option, Some, refl, sym, ap, ◌∙◌, subst}
use Rattle.plain_agents.proofs.AgentChanges.{change_one, change_same}
use Rattle.plain_agents.specs.OneAgent.{finished}
use Rattle.swarm_objects.proofs.RowChanges.{change_row-None}
use Rattle.swarm_objects.specs.Agents.Messages.{applied}
use Rattle.swarm_objects.specs.Loops.Agents.{after_apply, change_agent, take_in}
use Rattle.swarm_objects.specs.Rows.{RisesFrom, agent_node, change_row, row_at}
use Rattle.swarm_objects.specs.World.{World}
use Rattle.swarm_objects.specs.declared.agents.Executor.{Executor}
use Rattle.swarm_objects.specs.declared.agents.NodeAgent.{NodeAgent}
use Rattle.swarm_objects.specs.declared.messages.Message.{Message}

abbrev taking : World → NodeAgent → NodeAgent
taking w a = take_in w.tables.clock a.inbox a

with_agents : (w : World) (rows : List NodeAgent) (n : ℕ) → rows ≡ change_row agent_node n (taking w) w.agents →
    record w { agents = rows } ≡ after_apply w n
with_agents w rows n e = ap (λ (zs : List NodeAgent). record w { agents = zs }) e

-- the agent isn't there
pub apply_nowhere : (w : World) (n : ℕ) → None ≡ row_at agent_node n w.agents → w ≡ after_apply w n
apply_nowhere w n none = with_agents w w.agents n (sym (change_row-None agent_node n (taking w) w.agents (sym none)))

-- its inbox is empty
pub apply_empty : (w : World) (n : ℕ) (a : NodeAgent) → RisesFrom agent_node 0 w.agents →
    Some a ≡ row_at agent_node n w.agents → ◌≡◌ {A = Option Message} a.inbox None → w ≡ after_apply w n
apply_empty w n a r at none =
    with_agents w w.agents n
    (sym (change_same agent_node n w.agents)
    ∙ change_one agent_node 0 n (λ x. x) (taking w) w.agents a r (sym at)
    (subst (λ (o : Option Message). a ≡ take_in w.tables.clock o a) (sym none) refl))

-- it has a message
pub apply_message : (w : World) (n : ℕ) (a : NodeAgent) (m : Message) (executors : List Executor) →
    RisesFrom agent_node 0 w.agents → Some a ≡ row_at agent_node n w.agents →
    ◌≡◌ {A = Option Message} a.inbox (Some m) → executors ≡ applied w.tables.clock m a.executors →
    change_agent n (finished m.results_in executors) w ≡ after_apply w n
apply_message w n a m executors r at some is =
    with_agents w (change_row agent_node n (finished m.results_in executors) w.agents) n
    (change_one agent_node 0 n (finished m.results_in executors) (taking w) w.agents a r (sym at)
    (subst (λ (o : Option Message). finished m.results_in executors a ≡ take_in w.tables.clock o a) (sym some)
    (ap (λ (es : List Executor). finished m.results_in es a) is)))
