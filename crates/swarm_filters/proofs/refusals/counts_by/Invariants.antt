use Rattle.swarm_filters.proofs.Tallies.{IsTally}
use Rattle.swarm_objects.specs.Nodes.Filters.{is_tested_on, refused_by}
use Rattle.swarm_filters.proofs.refusals.counts_by.Given as goal

abbrev pub invariant-loop-node : goal.invariant-loop-node
invariant-loop-node g l =
    let t = g.R.Rows.tables l.rows in
    IsTally (λ n. is_tested_on l.task.place n.id) (refused_by t l.task) t.nodes l.counts l.node-iterator
