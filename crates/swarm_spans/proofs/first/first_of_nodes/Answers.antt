use Rattle.swarm_spans.proofs.Firsts.{less_nodes}
use Rattle.swarm_spans.proofs.first.first_of_nodes.Goals as goal

pub loop-node-smaller : goal.loop-node-smaller
loop-node-smaller g c =
    less_nodes (g.R.Rows.tables c.args.rows.now) c.loop-node.span c.pass.new.self c.in-Some.node.now
    c.in-Some.ensures c.pass.ensures
