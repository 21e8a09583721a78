-- Rows in order, with ids below the next one: what every world that a call may be handed has.
use Rattle.std.specs.Prelude.{Bool, find, is_none, true, ◌≡◌, All}
use Rattle.std.specs.List.{list_all}
use Rattle.swarm_objects.specs.Rows.{RisesFrom, network_id, node_id, service_id, session_node, task_id, IsBelow, agent_node, executor_task, sent_node, watcher_id}
use Rattle.swarm_objects.specs.Rules.Networks.{subnet_breaks, subnet_rules}
use Rattle.swarm_objects.specs.World.{Tables, World}
use Rattle.swarm_objects.specs.declared.agents.NodeAgent.{NodeAgent}
use Rattle.swarm_objects.specs.declared.networks.Network.{Network}

-- the rows of each table rise
pub record IsOrdered (t : Tables) : Type 0 where
  pub nodes : RisesFrom node_id 0 t.nodes
  pub services : RisesFrom service_id 0 t.services
  pub tasks : RisesFrom task_id 0 t.tasks
  pub networks : RisesFrom network_id 0 t.networks
  pub sessions : RisesFrom session_node 0 t.sessions

-- the id of each row is below the next one
pub record IsBelowNext (t : Tables) : Type 0 where
  pub nodes : IsBelow node_id t.next_id t.nodes
  pub services : IsBelow service_id t.next_id t.services
  pub tasks : IsBelow task_id t.next_id t.tasks
  pub networks : IsBelow network_id t.next_id t.networks

-- a network's subnet breaks no rule
abbrev pub is_subnet : Network → Bool
is_subnet n = is_none (find (subnet_breaks n.base n.length) subnet_rules)

pub record IsSound (t : Tables) : Type 0 where
  pub ordered : IsOrdered t
  pub below : IsBelowNext t
  pub subnets : list_all is_subnet t.networks ≡ true

-- what stands beside the tables rises too, and watchers have ids below the next one
pub record IsOrderedBeside (w : World) : Type 0 where
  pub sent : RisesFrom sent_node 0 w.sent
  pub agents : RisesFrom agent_node 0 w.agents
  pub watchers : RisesFrom watcher_id 0 w.watchers
  pub executors : All (λ (a : NodeAgent). RisesFrom executor_task 0 a.executors) w.agents
  pub below : IsBelow watcher_id w.tables.next_id w.watchers
