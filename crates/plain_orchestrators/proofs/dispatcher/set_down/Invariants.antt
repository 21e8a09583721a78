use Rattle.std.proofs.Common.{◌≡◌, ◌++◌, drop, take}
use Rattle.swarm_objects.specs.Loops.Dispatcher.{fallen}
use Rattle.swarm_objects.specs.Rows.{change_row, node_id}
use Rattle.plain_orchestrators.proofs.dispatcher.set_down.Given as goal

abbrev pub invariant-loop-node : goal.invariant-loop-node
invariant-loop-node l =
    let change = change_row node_id l.id (fallen l.version l.now) in
    take l.node-index l.nodes ++ change (drop l.node-index l.nodes) ≡ change l.initial.nodes
