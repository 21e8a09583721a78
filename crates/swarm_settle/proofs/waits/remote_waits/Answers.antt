use Rattle.swarm_model.specs.Settle.{is_remote}
use Rattle.swarm_objects.specs.Rows.{node_id}
use Rattle.swarm_settle.proofs.Asking.{remote_asked}
use Rattle.swarm_settle.proofs.ByNode.{remote_by_node}
use Rattle.swarm_settle.proofs.GoingOver.{begins, covers_giving, ends, goes_on}
use Rattle.swarm_settle.proofs.waits.remote_waits.Goals as goal
use Rattle.swarm_settle.specs.ByNode.{remote_waits_on}
use Rattle.swarm_settle.specs.Standing.{with_sessions}
use Rattle.swarm_spans.proofs.Firsts.{less_nodes}

pub loop-node-init : goal.loop-node-init
loop-node-init g c =
    let t = with_sessions (g.R.Rows.tables c.args.rows.now) c.args.sessions.now in
    begins node_id (remote_waits_on t) t.nodes c.args.asked c.args.best
    (covers_giving node_id is_remote (remote_waits_on t) c.args.asked t.nodes (remote_asked t) c.requires.asked)

pub loop-node-preserved : goal.loop-node-preserved
loop-node-preserved g c =
    let t = with_sessions (g.R.Rows.tables c.args.rows.now) c.args.sessions.now in
    goes_on node_id (remote_waits_on t) t.nodes c.loop-node.left c.pass.new.self c.args.best c.loop-node.least
    c.remote_waits_on-least.result c.in-Some.node.now c.requires.usable.sound.ordered.nodes c.loop-node.invariant
    c.in-Some.ensures c.remote_waits_on-least.ensures c.pass.ensures

pub loop-node-smaller : goal.loop-node-smaller
loop-node-smaller g c =
    less_nodes (g.R.Rows.tables c.args.rows.now) c.loop-node.left c.pass.new.self c.in-Some.node.now c.in-Some.ensures
    c.pass.ensures

pub returns : goal.returns
returns g c =
    let t = with_sessions (g.R.Rows.tables c.args.rows.now) c.args.sessions.now in
    remote_by_node t c.args.best c.loop-node.least
    (ends node_id (remote_waits_on t) t.nodes c.loop-node.left c.args.best c.loop-node.least c.loop-node.invariant
    c.in_default.ensures)
