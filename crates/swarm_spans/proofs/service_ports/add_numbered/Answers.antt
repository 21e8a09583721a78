use Rattle.swarm_spans.proofs.Services.Numbers.{touching_ends, touching_goes_on}
use Rattle.swarm_spans.proofs.service_ports.add_numbered.Goals as goal

pub loop-change-preserved : goal.loop-change-preserved
loop-change-preserved g c =
    touching_goes_on (g.R.Rows.tables c.args.rows.now) c.args.changes.now c.loop-change.left.now c.in-Some.others.now
    c.args.span.now c.loop-change.span c.touch_ports.new.span c.in-Some.change.now c.loop-change.invariant
    c.in-Some.ensures.cases.0 c.touch_ports.ensures.wider c.touch_ports.ensures.has

pub returns-clause-has : goal.returns-clause-has
returns-clause-has g c =
    touching_ends (g.R.Rows.tables c.args.rows.now) c.args.changes.now c.loop-change.left.now c.args.span.now
    c.loop-change.span c.requires c.loop-change.invariant c.in_default.ensures.cases
