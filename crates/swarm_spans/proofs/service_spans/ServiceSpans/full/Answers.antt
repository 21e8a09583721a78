use Rattle.swarm_spans.proofs.Services.Spans.{all_full}
use Rattle.swarm_spans.proofs.service_spans.ServiceSpans.full.Goals as goal

pub returns : goal.returns
returns c = record {
  covers =
      all_full c.full.result c.full-2.result c.full-3.result c.full-4.result c.full-5.result c.full-6.result
      c.full-7.result c.full-8.result c.full.ensures c.full-2.ensures c.full-3.ensures c.full-4.ensures
      c.full-5.ensures c.full-6.ensures c.full-7.ensures c.full-8.ensures;
}
