use Rattle.std.proofs.Common.{◌≡◌, ◌++◌, drop, take}
use Rattle.swarm_objects.specs.Nodes.Opening.{with_resources}
use Rattle.swarm_objects.specs.Rows.{change_row, node_id}
use Rattle.swarm_plain.proofs.remote.set_resources.Given as goal

abbrev pub invariant-loop-row : goal.invariant-loop-row
invariant-loop-row l =
    let change = change_row node_id l.node (with_resources l.version l.cpu l.mem) in
    take l.row-index l.nodes ++ change (drop l.row-index l.nodes) ≡ change l.initial.nodes
