use Rattle.std.proofs.Common.{subst, sym}
use Rattle.swarm_spans.proofs.DownNodes.{one_on_down}
use Rattle.swarm_spans.proofs.Firsts.{less_nodes}
use Rattle.swarm_spans.proofs.adding.tasks_on_down.Goals as goal
use Rattle.swarm_spans.specs.Grown.{AddingOnDown}

pub loop-node-preserved : goal.loop-node-preserved
loop-node-preserved g c =
    subst (λ s. AddingOnDown (g.R.Rows.tables c.args.rows.now) s c.add_tasks_where_down.new.span) (sym c.pass.ensures)
    (one_on_down (g.R.Rows.tables c.args.rows.now) c.loop-node.left c.loop-node.span c.add_tasks_where_down.new.span
    c.in-Some.node.now c.requires.usable c.loop-node.invariant c.in-Some.ensures c.add_tasks_where_down.ensures.wider
    c.add_tasks_where_down.ensures.all)

pub loop-node-smaller : goal.loop-node-smaller
loop-node-smaller g c =
    less_nodes (g.R.Rows.tables c.args.rows.now) c.loop-node.left c.pass.new.self c.in-Some.node.now
    c.in-Some.ensures c.pass.ensures
