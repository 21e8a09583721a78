use Rattle.std.proofs.Common.{subst, sym}
use Rattle.swarm_objects.specs.Rows.{node_id}
use Rattle.swarm_spans.proofs.Firsts.{less_nodes}
use Rattle.swarm_spans.proofs.Narrowing.{narrow_begins, narrow_ends, narrow_passes}
use Rattle.swarm_spans.proofs.passing.narrow_nodes.Goals as goal
use Rattle.swarm_spans.specs.Spans.{Covers, is_left_out}

pub loop-node-init : goal.loop-node-init
loop-node-init g c =
    narrow_begins node_id g.T.NodeTest.test _ c.args.span.now (g.R.Rows.tables c.args.rows.now).nodes c.requires.covers

pub loop-node-preserved : goal.loop-node-preserved
loop-node-preserved g c =
    let rows = (g.R.Rows.tables c.args.rows.now).nodes in
    subst (λ s. Covers node_id (is_left_out node_id g.T.NodeTest.test c.add_node.new.span) s rows) (sym c.pass.ensures)
    (narrow_passes node_id g.T.NodeTest.test rows c.loop-node.narrow c.add_node.new.span c.loop-node.left
    c.in-Some.node.now c.requires.usable.sound.ordered.nodes c.loop-node.invariant (sym c.in-Some.ensures)
    c.add_node.ensures.wider c.add_node.ensures.own)

pub loop-node-smaller : goal.loop-node-smaller
loop-node-smaller g c =
    less_nodes (g.R.Rows.tables c.args.rows.now) c.loop-node.left c.pass.new.self c.in-Some.node.now
    c.in-Some.ensures c.pass.ensures

pub returns : goal.returns
returns g c =
    narrow_ends node_id g.T.NodeTest.test c.loop-node.narrow c.loop-node.left (g.R.Rows.tables c.args.rows.now).nodes
    c.loop-node.invariant c.in_default.ensures
