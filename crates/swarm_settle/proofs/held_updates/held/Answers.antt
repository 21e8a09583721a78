use Rattle.std.proofs.Common.{sym, ◌∙◌}
use Rattle.swarm_model.specs.Settle.{held_by}
use Rattle.swarm_objects.specs.Rows.{service_id}
use Rattle.swarm_settle.proofs.Asking.{held_asked}
use Rattle.swarm_settle.proofs.GoingOver.{covers_giving, first_given, none_given, none_left}
use Rattle.swarm_settle.proofs.held_updates.held.Goals as goal
use Rattle.swarm_spans.specs.Timed.{is_unfinished}
use Rattle.swarm_spans.proofs.Firsts.{less_services}

pub loop-service-init : goal.loop-service-init
loop-service-init g c =
    let t = g.R.Rows.tables c.args.rows.now in
    covers_giving service_id is_unfinished (held_by t) c.args.asked t.services (held_asked t) c.requires.asked

pub loop-service-preserved : goal.loop-service-preserved
loop-service-preserved g c =
    let t = g.R.Rows.tables c.args.rows.now in
    none_given service_id (held_by t) t.services c.loop-service.left c.pass.new.self c.in-Some.service.now
    c.held_by-answer.result c.requires.usable.sound.ordered.services c.loop-service.invariant c.in-Some.ensures
    c.held_by-answer.ensures (sym c.is_some.ensures ∙ c.if-is_some.false) c.pass.ensures

pub loop-service-smaller : goal.loop-service-smaller
loop-service-smaller g c =
    less_services (g.R.Rows.tables c.args.rows.now) c.loop-service.left c.pass.new.self c.in-Some.service.now
    c.in-Some.ensures c.pass.ensures

pub returns-then-is_some : goal.returns-then-is_some
returns-then-is_some g c =
    let t = g.R.Rows.tables c.args.rows.now in
    first_given service_id (held_by t) t.services c.loop-service.left c.in-Some.service.now c.held_by-answer.result
    c.loop-service.invariant c.in-Some.ensures c.held_by-answer.ensures (sym c.is_some.ensures ∙ c.if-is_some.true)

pub returns : goal.returns
returns g c =
    let t = g.R.Rows.tables c.args.rows.now in
    none_left service_id (held_by t) t.services c.loop-service.left c.loop-service.invariant c.in_default.ensures
