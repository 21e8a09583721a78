use Rattle.std.proofs.Common.{sym, ◌∙◌}
use Rattle.swarm_objects.specs.Rows.{row_at, session_node}
use Rattle.swarm_world.proofs.OnNodes.{never-none, own-admitted}
use Rattle.swarm_world.proofs.agent_duties.live_session.Goals as goal

pub returns : goal.returns
returns c =
    let r = c.args.records.now in
    own-admitted r.store.tables.clock (row_at session_node c.args.node r.sessions.rows) c.in-Some.session
    (sym c.in-Some.is ∙ c.get.ensures) c.requires

pub unreachable-requires : goal.unreachable-requires
unreachable-requires c =
    let r = c.args.records.now in
    never-none r.store.tables.clock (row_at session_node c.args.node r.sessions.rows) (sym c.in_default.is ∙ c.get.ensures)
    c.requires
