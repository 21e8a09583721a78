use Rattle.swarm_spans.proofs.NewNodes.{nodes_come}
use Rattle.swarm_spans.proofs.task_spans.TaskSpans.touch_new_nodes.Goals as goal

pub returns : goal.returns
returns c = record {
  goes_on = nodes_come c.args.self.now c.join.new.self c.join.ensures.wider c.join.ensures.all;
}
