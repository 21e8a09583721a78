use Rattle.swarm_spans.proofs.Timing.{timed_services}
use Rattle.swarm_spans.proofs.timed_spans.TimedSpans.touch_new_services.Goals as goal

pub returns : goal.returns
returns c =
    timed_services c.args.first c.args.self.now c.onwards.result c.join.new.self c.onwards.ensures c.join.ensures.wider
    c.join.ensures.all
