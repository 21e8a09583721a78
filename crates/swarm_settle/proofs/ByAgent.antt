-- What is waited for agent by agent is what is waited for of executors, and of sessions node by node.
use Rattle.std.proofs.Common.{Bool, List, None, Option, Some, [], cond, false, inl, inr, refl, subst, sym, true, ◌++◌, ◌∙◌, ◌≡◌, ◌⊎◌}
use Rattle.std.specs.Prelude.{flat_map, not, ◌&&◌}
use Rattle.swarm_model.specs.Settle.{Wait, deadline_of, executor_wait, is_silent, session_wait, wait_cmp, wait_till}
use Rattle.swarm_objects.proofs.RowLemmas.{Has-append_cases, Has-append_left, Has-append_right, Has-flat_map, Has-flat_map_cases, Has-from_row_at, row_at-Some}
use Rattle.swarm_objects.proofs.Tests.{second_so, some-and-cases}
use Rattle.swarm_objects.specs.Loops.Agents.{is_mode_on}
use Rattle.swarm_objects.specs.Nodes.Words.{is_ready}
use Rattle.swarm_objects.specs.Rows.{Has, RisesFrom, agent_node, is_row_and, least_by, node_id, row_at}
use Rattle.swarm_objects.specs.World.{World}
use Rattle.swarm_objects.specs.declared.agents.NodeAgent.{NodeAgent}
use Rattle.swarm_objects.specs.declared.duties.Cause.TheVariants as cause
use Rattle.swarm_objects.specs.declared.nodes.Node.{Node}
use Rattle.swarm_settle.proofs.LeastAmong.{least_among}
use Rattle.swarm_settle.specs.ByAgent.{session_waits_of, wait_of_row, waits_at}

-- a node with something to wait for is silent: its agent is there, and isn't on
silent : (w : World) (n : Node) (x : Wait) → Has (session_wait w n) x → is_silent w n ≡ true
silent w n x h = go (is_silent w n) refl h
  where
    go : (b : Bool) → is_silent w n ≡ b → Has (cond b (wait_till cause.Session n.id (deadline_of w.tables n.id)) []) x →
        is_silent w n ≡ true
    go true e k = e
    go false e k = absurd k

off_agent : (w : World) (n : Node) → is_silent w n ≡ true →
    (a : NodeAgent) × Has w.agents a × (a.node ≡ n.id) × (not (is_mode_on a.mode) ≡ true)
off_agent w n e =
    let row = some-and-cases (λ (a : NodeAgent). not (is_mode_on a.mode)) (row_at agent_node n.id w.agents)
    (second_so (is_ready n.state && not n.remote)
    (is_row_and agent_node (λ (a : NodeAgent). not (is_mode_on a.mode)) w.agents n.id) e) in
    let here = Has-from_row_at agent_node n.id w.agents row.0 row.1 in
    (row.0, here.0, here.1, row.2)

of_node : (w : World) (n : Node) (a : NodeAgent) (x : Wait) → RisesFrom node_id 0 w.tables.nodes → Has w.tables.nodes n →
    a.node ≡ n.id → not (is_mode_on a.mode) ≡ true → Has (session_wait w n) x → Has (session_waits_of w a) x
of_node w n a x rises h same off k = go (is_mode_on a.mode) refl
  where
    row : row_at node_id a.node w.tables.nodes ≡ Some n
    row = subst (λ i. row_at node_id i w.tables.nodes ≡ Some n) (sym same) (row_at-Some node_id 0 w.tables.nodes n rises h)

    go : (b : Bool) → is_mode_on a.mode ≡ b → Has (cond b [] (wait_of_row w (row_at node_id a.node w.tables.nodes))) x
    go true e = let never : false ≡ true = subst (λ b. not b ≡ true) e off in absurd cc
    go false e = subst (λ o. Has (wait_of_row w o) x) (sym row) k

of_nodes : (w : World) (x : Wait) → RisesFrom node_id 0 w.tables.nodes →
    Has (flat_map (session_wait w) w.tables.nodes) x → Has (flat_map (session_waits_of w) w.agents) x
of_nodes w x rises h =
    let node = Has-flat_map_cases (session_wait w) w.tables.nodes x h in
    let agent = off_agent w node.0 (silent w node.0 x node.2) in
    Has-flat_map (session_waits_of w) w.agents agent.0 x agent.1
    (of_node w node.0 agent.0 x rises node.1 agent.2 agent.3 node.2)

of_agent : (w : World) (a : NodeAgent) (x : Wait) → Has (session_waits_of w a) x →
    Has (flat_map (session_wait w) w.tables.nodes) x
of_agent w a x h = go (is_mode_on a.mode) h
  where
    of_row : (o : Option Node) → row_at node_id a.node w.tables.nodes ≡ o → Has (wait_of_row w o) x →
        Has (flat_map (session_wait w) w.tables.nodes) x
    of_row None e k = absurd k
    of_row (Some n) e k =
        Has-flat_map (session_wait w) w.tables.nodes n x (Has-from_row_at node_id a.node w.tables.nodes n e).0 k

    go : (b : Bool) → Has (cond b [] (wait_of_row w (row_at node_id a.node w.tables.nodes))) x →
        Has (flat_map (session_wait w) w.tables.nodes) x
    go true k = absurd k
    go false k = of_row (row_at node_id a.node w.tables.nodes) refl k

pub waits_by_agent : (w : World) (best least : Option Wait) → RisesFrom node_id 0 w.tables.nodes →
    least ≡ least_by wait_cmp best (flat_map (waits_at w) w.agents) →
    least ≡ least_by wait_cmp best (flat_map executor_wait w.agents ++ flat_map (session_wait w) w.tables.nodes)
waits_by_agent w best least rises is =
    is ∙ least_among best (flat_map (waits_at w) w.agents) (phases ++ sessions) to from
  where
    phases : List Wait
    phases = flat_map executor_wait w.agents

    sessions : List Wait
    sessions = flat_map (session_wait w) w.tables.nodes

    to : (x : Wait) → Has (flat_map (waits_at w) w.agents) x → Has (phases ++ sessions) x
    to x h =
        let agent = Has-flat_map_cases (waits_at w) w.agents x h in
        go agent.0 agent.1 (Has-append_cases (executor_wait agent.0) (session_waits_of w agent.0) x agent.2)
      where
        go : (a : NodeAgent) → Has w.agents a → (Has (executor_wait a) x ⊎ Has (session_waits_of w a) x) →
            Has (phases ++ sessions) x
        go a there (inl k) = Has-append_left phases sessions x (Has-flat_map executor_wait w.agents a x there k)
        go a there (inr k) = Has-append_right phases sessions x (of_agent w a x k)

    from : (x : Wait) → Has (phases ++ sessions) x → Has (flat_map (waits_at w) w.agents) x
    from x h = go (Has-append_cases phases sessions x h)
      where
        at : (a : NodeAgent) → Has w.agents a → Has (waits_at w a) x → Has (flat_map (waits_at w) w.agents) x
        at a there k = Has-flat_map (waits_at w) w.agents a x there k

        go : (Has phases x ⊎ Has sessions x) → Has (flat_map (waits_at w) w.agents) x
        go (inl k) =
            let a = Has-flat_map_cases executor_wait w.agents x k in
            at a.0 a.1 (Has-append_left (executor_wait a.0) (session_waits_of w a.0) x a.2)
        go (inr k) =
            let a = Has-flat_map_cases (session_waits_of w) w.agents x (of_nodes w x rises k) in
            at a.0 a.1 (Has-append_right (executor_wait a.0) (session_waits_of w a.0) x a.2)
