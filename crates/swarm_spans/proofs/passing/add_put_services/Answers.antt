use Rattle.swarm_objects.specs.Rows.{service_id}
use Rattle.swarm_objects.specs.declared.rows.Change.TheVariants as change
use Rattle.swarm_spans.proofs.Timing.{put_grows}
use Rattle.swarm_spans.proofs.Touches.{none-touched, one-touched}
use Rattle.swarm_spans.proofs.passing.add_put_services.Goals as goal
use Rattle.swarm_spans.specs.Timed.{AddsService, is_unfinished}

pub loop-change-init : goal.loop-change-init
loop-change-init c = none-touched AddsService c.args.changes.now c.args.span.now

pub loop-change-preserved : goal.loop-change-preserved
loop-change-preserved c =
    one-touched AddsService (put_grows service_id change.PutService is_unfinished) c.args.changes.now
    c.loop-change.left.now c.in-Some.others.now c.args.span.now c.loop-change.span c.add_put_service.new.span
    c.in-Some.change.now c.loop-change.invariant c.in-Some.ensures.cases.0 c.add_put_service.ensures.wider
    c.add_put_service.ensures.adds
