use Rattle.swarm_spans.proofs.Timing.{timed_nodes}
use Rattle.swarm_spans.proofs.timed_spans.TimedSpans.touch_new_nodes.Goals as goal

pub returns : goal.returns
returns c =
    timed_nodes c.args.first c.args.self.now c.onwards-new.result c.join.new.self c.join-2.new.self c.onwards-new.ensures
    c.join.ensures.wider c.join.ensures.all c.join-2.ensures.wider c.join-2.ensures.all
