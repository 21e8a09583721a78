use Rattle.swarm_spans.proofs.Timing.{timed_full}
use Rattle.swarm_spans.proofs.timed_spans.TimedSpans.full.Goals as goal

pub returns : goal.returns
returns c = timed_full c.full-every.result c.full-every.ensures
