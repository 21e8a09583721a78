use Rattle.std.proofs.Common.{◌≡◌, ◌++◌, drop, take}
use Rattle.swarm_objects.specs.Nodes.Sessions.{ready_node}
use Rattle.swarm_objects.specs.Rows.{change_row, node_id}
use Rattle.plain_agents.proofs.agents.set_ready.Given as goal

abbrev pub invariant-loop-row : goal.invariant-loop-row
invariant-loop-row l =
    let change = change_row node_id l.node (ready_node l.version) in
    take l.row-index l.nodes ++ change (drop l.row-index l.nodes) ≡ change l.initial.nodes
