use Rattle.swarm_spans.proofs.Timing.{timed_on, timed_stays}
use Rattle.swarm_spans.proofs.timed_spans.TimedSpans.touch.Goals as goal

pub returns-clause-stays : goal.returns-clause-stays
returns-clause-stays c =
    timed_stays c.args.self.now c.add_put_services.new.span c.add_put_nodes.new.span c.add_put_nodes-2.new.span
    c.add_put_services.ensures.wider c.add_put_nodes.ensures.wider c.add_put_nodes-2.ensures.wider

pub returns-clause-goes_on : goal.returns-clause-goes_on
returns-clause-goes_on c =
    timed_on c.args.changes.now c.args.self.now c.add_put_services.new.span c.add_put_nodes.new.span
    c.add_put_nodes-2.new.span c.add_put_services.ensures.wider c.add_put_services.ensures.adds
    c.add_put_nodes.ensures.wider c.add_put_nodes.ensures.adds c.add_put_nodes-2.ensures.wider
    c.add_put_nodes-2.ensures.adds
