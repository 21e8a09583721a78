use Rattle.swarm_spans.proofs.Nexts.{node_found, no_node, no_node_more}
use Rattle.swarm_spans.proofs.next.next_node_in.Goals as goal

pub returns-in_default : goal.returns-in_default
returns-in_default g c =
    no_node (g.R.Rows.tables c.args.rows.now) c.args.span.now c.loop-after.after c.skip.result c.loop-after.invariant
    c.skip.ensures.none c.in_default.ensures

pub returns-then-has : goal.returns-then-has
returns-then-has g c =
    node_found (g.R.Rows.tables c.args.rows.now) c.args.span.now c.loop-after.after c.skip.result c.in-Some.node.now c.requires
    c.loop-after.invariant c.skip.ensures.none c.in-Some.ensures c.if-has.ensures

pub returns : goal.returns
returns g c =
    no_node_more (g.R.Rows.tables c.args.rows.now) c.args.span.now c.loop-after.after c.loop-after.invariant c.loop-after-test.false
