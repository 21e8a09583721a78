use Rattle.swarm_spans.proofs.Services.Spans.{covered_on, covered_stays}
use Rattle.swarm_spans.proofs.service_spans.ServiceSpans.touch.Goals as goal

pub returns-clause-stays : goal.returns-clause-stays
returns-clause-stays g c =
    covered_stays (g.R.Rows.tables c.args.rows.now) c.args.changes.now c.args.self.now c.add_shifted.new.span
    c.widen.new.span c.widen-2.new.span c.widen_for_nodes.new.span c.widen_for_nodes-2.new.span c.widen-3.new.span
    c.add_numbered.new.span c.add_shifted-2.new.span c.add_remains.new.span c.requires.usable c.requires.covers
    c.widen.ensures c.widen-2.ensures c.widen_for_nodes.ensures c.widen_for_nodes-2.ensures c.widen-3.ensures
    c.add_numbered.ensures.wider c.add_shifted-2.ensures.wider c.add_remains.ensures.wider

pub returns-clause-goes_on : goal.returns-clause-goes_on
returns-clause-goes_on g c =
    covered_on (g.R.Rows.tables c.args.rows.now) c.args.changes.now c.args.self.now c.add_shifted.new.span
    c.widen.new.span c.widen-2.new.span c.widen_for_nodes.new.span c.widen_for_nodes-2.new.span c.widen-3.new.span
    c.add_numbered.new.span c.add_shifted-2.new.span c.add_remains.new.span c.requires.usable c.requires.covers
    c.add_shifted.ensures.has c.widen.ensures c.widen-2.ensures c.widen_for_nodes.ensures
    c.widen_for_nodes-2.ensures c.widen-3.ensures c.add_numbered.ensures.wider c.add_numbered.ensures.has
    c.add_shifted-2.ensures.wider
    c.add_shifted-2.ensures.has c.add_remains.ensures.wider c.add_remains.ensures.has
