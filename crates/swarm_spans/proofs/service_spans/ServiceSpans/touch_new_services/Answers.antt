use Rattle.swarm_spans.proofs.Coming.{services_come_to}
use Rattle.swarm_spans.proofs.service_spans.ServiceSpans.touch_new_services.Goals as goal

pub returns : goal.returns
returns c = record {
  goes_on =
      services_come_to c.args.self.now c.args.first c.onwards-new.result c.widen.new.span c.widen-2.new.span c.widen-3.new.span
      c.widen-4.new.span c.widen-5.new.span c.full-self.result c.widen-6.new.span c.onwards-new.ensures c.widen.ensures
      c.widen-2.ensures c.widen-3.ensures c.widen-4.ensures c.widen-5.ensures c.full-self.ensures c.widen-6.ensures;
}
