-- What is waited for of remote nodes, node by node, is what is waited for task by task.
use Rattle.std.proofs.Common.{Bool, Option, Some, [], cond, false, refl, subst, sym, true, ◌∙◌, ◌≡◌}
use Rattle.std.specs.Prelude.{filter, flat_map, ◌&&◌}
use Rattle.swarm_model.proofs.Laws.Room.{is-on-same}
use Rattle.swarm_model.specs.Settle.{Wait, has_live_session, is_awaited_there, is_behind, is_remote, node_deadline, remote_wait, wait_cmp, wait_till}
use Rattle.swarm_objects.proofs.RowLemmas.{Has-filter, Has-filter_cases, Has-flat_map, Has-flat_map_cases, Has-from_row_at}
use Rattle.swarm_objects.proofs.Tests.{first_so, second_so, some-and-cases}
use Rattle.swarm_objects.specs.Nodes.Words.{is_node_and}
use Rattle.swarm_objects.specs.Rows.{Has, is_row_and, least_by, node_id, row_at}
use Rattle.swarm_objects.specs.Tasks.Words.{is_on, is_placed}
use Rattle.swarm_objects.specs.World.{Tables}
use Rattle.swarm_objects.specs.declared.duties.Cause.TheVariants as cause
use Rattle.swarm_objects.specs.declared.nodes.Node.{Node}
use Rattle.swarm_objects.specs.declared.tasks.Task.{Task}
use Rattle.swarm_settle.proofs.LeastAmong.{least_among}
use Rattle.swarm_settle.specs.ByNode.{remote_waits_on}

-- a task with something to wait for is on a remote node
on_remote : (t : Tables) (x : Task) → is_node_and t is_remote x ≡ true →
    (n : Node) × Has t.nodes n × (n.remote ≡ true) × (is_on n.id x ≡ true)
on_remote t x e =
    let node = some-and-cases (is_row_and node_id is_remote t.nodes) x.node e in
    let row = some-and-cases is_remote (row_at node_id node.0 t.nodes) node.2 in
    let here = Has-from_row_at node_id node.0 t.nodes row.0 row.1 in
    (row.0, here.0, row.2, is-on-same x.node row.0.id (subst (λ i. x.node ≡ Some i) (sym here.1) node.1))

awaited_on : (t : Tables) (x : Task) (w : Wait) → Has (remote_wait t x) w → is_node_and t is_remote x ≡ true
awaited_on t x w h = go (is_awaited_there t x) refl h
  where
    go : (b : Bool) → is_awaited_there t x ≡ b →
        Has (cond b (wait_till cause.Remote x.id (node_deadline t x)) []) w → is_node_and t is_remote x ≡ true
    go true e k =
        second_so (is_placed x) (is_node_and t is_remote x)
        (first_so (is_placed x && is_node_and t is_remote x) (has_live_session t x)
        (first_so (is_placed x && is_node_and t is_remote x && has_live_session t x) (is_behind x.state x.desired) e))
    go false e k = absurd k

of_tasks : (t : Tables) (w : Wait) → Has (flat_map (remote_waits_on t) t.nodes) w →
    Has (flat_map (remote_wait t) t.tasks) w
of_tasks t w h =
    let node = Has-flat_map_cases (remote_waits_on t) t.nodes w h in
    go node.0 node.0.remote node.2
  where
    go : (n : Node) (b : Bool) → Has (cond b (flat_map (remote_wait t) (filter (is_on n.id) t.tasks)) []) w →
        Has (flat_map (remote_wait t) t.tasks) w
    go n true k =
        let task = Has-flat_map_cases (remote_wait t) (filter (is_on n.id) t.tasks) w k in
        Has-flat_map (remote_wait t) t.tasks task.0 w (Has-filter_cases (is_on n.id) t.tasks task.0 task.1).0 task.2
    go n false k = absurd k

of_nodes : (t : Tables) (w : Wait) → Has (flat_map (remote_wait t) t.tasks) w →
    Has (flat_map (remote_waits_on t) t.nodes) w
of_nodes t w h =
    let task = Has-flat_map_cases (remote_wait t) t.tasks w h in
    let node = on_remote t task.0 (awaited_on t task.0 w task.2) in
    let there = filter (is_on node.0.id) t.tasks in
    let within : Has (flat_map (remote_wait t) there) w =
    Has-flat_map (remote_wait t) there task.0 w (Has-filter (is_on node.0.id) t.tasks task.0 task.1 node.3) task.2 in
    Has-flat_map (remote_waits_on t) t.nodes node.0 w node.1
    (subst (λ b. Has (cond b (flat_map (remote_wait t) there) []) w) (sym node.2) within)

pub remote_by_node : (t : Tables) (best least : Option Wait) →
    least ≡ least_by wait_cmp best (flat_map (remote_waits_on t) t.nodes) →
    least ≡ least_by wait_cmp best (flat_map (remote_wait t) t.tasks)
remote_by_node t best least is =
    is
    ∙ least_among best (flat_map (remote_waits_on t) t.nodes) (flat_map (remote_wait t) t.tasks) (of_tasks t) (of_nodes t)
