use Rattle.swarm_spans.proofs.Coming.{services_come}
use Rattle.swarm_spans.proofs.task_spans.TaskSpans.touch_new_services.Goals as goal

pub returns : goal.returns
returns c = record {
  goes_on =
      services_come c.args.self.now c.join.new.self c.join.ensures.wider c.join.ensures.all;
}
