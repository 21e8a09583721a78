use Rattle.std.proofs.Common.{◌≡◌, drop}
use Rattle.std.specs.List.{list_any}
use Rattle.swarm_objects.specs.Nodes.Holdings.{is_host_port_used, tasks_placed_on}
use Rattle.swarm_filters.proofs.filters.is_one_used.Given as goal

abbrev pub invariant-loop-port : goal.invariant-loop-port
invariant-loop-port g l =
    let placed = tasks_placed_on (g.R.Rows.tables l.rows) l.node in
    list_any (is_host_port_used placed) (drop l.port-index l.ports) ≡ list_any (is_host_port_used placed) l.ports
