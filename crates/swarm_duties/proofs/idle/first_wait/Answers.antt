use Rattle.std.specs.Prelude.{flat_map}
use Rattle.swarm_settle.proofs.LeastWaits.{least_five}
use Rattle.swarm_model.specs.Settle.{executor_wait, remote_wait, session_wait, start_wait, update_wait, wait_cmp}
use Rattle.swarm_plain.specs.Plain.{tables_of, world_of}
use Rattle.swarm_duties.proofs.idle.first_wait.Goals as goal

pub returns : goal.returns
returns c =
    let p = c.args.plain.now in
    least_five wait_cmp (flat_map (start_wait (tables_of p)) p.tasks) (flat_map (update_wait (tables_of p)) p.services)
    (flat_map executor_wait p.agents) (flat_map (session_wait (world_of p)) p.nodes)
    (flat_map (remote_wait (tables_of p)) p.tasks) c.start_waits-started.result c.update_waits-updated.result
    c.executor_waits-executed.result c.session_waits-heard.result c.remote_waits.result c.start_waits-started.ensures
    c.update_waits-updated.ensures c.executor_waits-executed.ensures c.session_waits-heard.ensures c.remote_waits.ensures
