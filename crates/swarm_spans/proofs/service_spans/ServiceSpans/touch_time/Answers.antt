use Rattle.swarm_spans.proofs.Services.Spans.{time_goes_on}
use Rattle.swarm_spans.proofs.service_spans.ServiceSpans.touch_time.Goals as goal

pub returns : goal.returns
returns c = record {
  goes_on = λ t usable updated.
      time_goes_on t c.args.self.now c.widen.new.span c.args.updates.now usable updated c.widen.ensures;
}
