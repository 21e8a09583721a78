use Rattle.std.proofs.Common.{subst, sym}
use Rattle.swarm_objects.specs.Rows.{service_id}
use Rattle.swarm_spans.proofs.Firsts.{less_services}
use Rattle.swarm_spans.proofs.Narrowing.{narrow_begins, narrow_ends, narrow_passes}
use Rattle.swarm_spans.proofs.passing.narrow_services.Goals as goal
use Rattle.swarm_spans.specs.Spans.{Covers, is_left_out}
use Rattle.swarm_spans.specs.Timed.{is_unfinished}

pub loop-service-init : goal.loop-service-init
loop-service-init g c =
    narrow_begins service_id is_unfinished _ c.args.span.now (g.R.Rows.tables c.args.rows.now).services c.requires.covers

pub loop-service-preserved : goal.loop-service-preserved
loop-service-preserved g c =
    let rows = (g.R.Rows.tables c.args.rows.now).services in
    subst (λ s. Covers service_id (is_left_out service_id is_unfinished c.add_service.new.span) s rows) (sym c.pass.ensures)
    (narrow_passes service_id is_unfinished rows c.loop-service.narrow c.add_service.new.span c.loop-service.left
    c.in-Some.service.now c.requires.usable.sound.ordered.services c.loop-service.invariant (sym c.in-Some.ensures)
    c.add_service.ensures.wider c.add_service.ensures.own)

pub loop-service-smaller : goal.loop-service-smaller
loop-service-smaller g c =
    less_services (g.R.Rows.tables c.args.rows.now) c.loop-service.left c.pass.new.self c.in-Some.service.now
    c.in-Some.ensures c.pass.ensures

pub returns : goal.returns
returns g c =
    narrow_ends service_id is_unfinished c.loop-service.narrow c.loop-service.left (g.R.Rows.tables c.args.rows.now).services
    c.loop-service.invariant c.in_default.ensures
