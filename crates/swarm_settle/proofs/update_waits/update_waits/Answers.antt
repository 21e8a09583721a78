use Rattle.swarm_model.specs.Settle.{update_wait}
use Rattle.swarm_objects.specs.Rows.{service_id}
use Rattle.swarm_settle.proofs.Asking.{near_there, update_asked}
use Rattle.swarm_settle.proofs.GoingOver.{begins, covers_giving, ends, goes_on}
use Rattle.swarm_settle.proofs.update_waits.update_waits.Goals as goal
use Rattle.swarm_spans.specs.Timed.{is_unfinished}
use Rattle.swarm_spans.proofs.Firsts.{less_services}

pub loop-service-init : goal.loop-service-init
loop-service-init g c =
    let t = g.R.Rows.tables c.args.rows.now in
    begins service_id (update_wait t) t.services c.args.asked c.args.best
    (covers_giving service_id is_unfinished (update_wait t) c.args.asked t.services (update_asked t) c.requires.asked)

pub update_wait-least-requires-clause-service : goal.update_wait-least-requires-clause-service
update_wait-least-requires-clause-service g c =
    near_there (g.R.Rows.tables c.args.rows.now) c.loop-service.left c.in-Some.service.now c.requires.usable
    c.in-Some.ensures

pub loop-service-preserved : goal.loop-service-preserved
loop-service-preserved g c =
    let t = g.R.Rows.tables c.args.rows.now in
    goes_on service_id (update_wait t) t.services c.loop-service.left c.pass.new.self c.args.best c.loop-service.least
    c.update_wait-least.result c.in-Some.service.now c.requires.usable.sound.ordered.services c.loop-service.invariant
    c.in-Some.ensures c.update_wait-least.ensures c.pass.ensures

pub loop-service-smaller : goal.loop-service-smaller
loop-service-smaller g c =
    less_services (g.R.Rows.tables c.args.rows.now) c.loop-service.left c.pass.new.self c.in-Some.service.now
    c.in-Some.ensures c.pass.ensures

pub returns : goal.returns
returns g c =
    let t = g.R.Rows.tables c.args.rows.now in
    ends service_id (update_wait t) t.services c.loop-service.left c.args.best c.loop-service.least
    c.loop-service.invariant c.in_default.ensures
