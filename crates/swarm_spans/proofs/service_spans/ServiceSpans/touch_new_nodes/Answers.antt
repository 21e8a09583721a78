use Rattle.swarm_spans.proofs.NewNodes.{nodes_come_to}
use Rattle.swarm_spans.proofs.service_spans.ServiceSpans.touch_new_nodes.Goals as goal

pub returns : goal.returns
returns c = record { goes_on = nodes_come_to c.args.self.now c.full-every.result c.full-every.ensures }
