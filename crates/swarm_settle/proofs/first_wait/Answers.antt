use Rattle.std.proofs.Common.{refl, ◌∙◌}
use Rattle.std.specs.Prelude.{flat_map}
use Rattle.swarm_model.specs.Settle.{executor_wait, remote_wait, session_wait, start_wait, update_wait, wait_cmp}
use Rattle.swarm_objects.specs.Rows.{least_by}
use Rattle.swarm_settle.proofs.LeastWaits.{least_append, least_five}
use Rattle.swarm_settle.proofs.first_wait.Goals as goal
use Rattle.swarm_settle.specs.Standing.{with_sessions, world_with}

pub returns : goal.returns
returns g c =
    let t = g.R.Rows.tables c.args.rows.now in
    let r = with_sessions t c.args.sessions.now in
    let w = world_with t c.args.sessions.now c.args.agents.now in
    let updated = c.update_waits-updated.result in
    let phases = flat_map executor_wait c.args.agents.now in
    let sessions = flat_map (session_wait w) t.nodes in
    least_five wait_cmp (flat_map (start_wait t) t.tasks) (flat_map (update_wait t) t.services) phases sessions
    (flat_map (remote_wait r) t.tasks) c.start_waits-started.result updated (least_by wait_cmp updated phases)
    c.agent_waits-heard.result c.remote_waits.result c.start_waits-started.ensures c.update_waits-updated.ensures refl
    (c.agent_waits-heard.ensures ∙ least_append wait_cmp updated phases sessions) c.remote_waits.ensures
