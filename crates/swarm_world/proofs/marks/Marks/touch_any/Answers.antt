use Rattle.std.proofs.Common.{sym, ◌∙◌}
use Rattle.swarm_world.proofs.Coming.{made_marked}
use Rattle.swarm_world.proofs.NewNodes.{nodes_marked}
use Rattle.swarm_world.proofs.marks.Marks.touch_any.Goals as goal

pub returns-then-make_services : goal.returns-then-make_services
returns-then-make_services c =
    made_marked c.args.self.now c.touch_services.new.self c.args.ops.now c.args.parts.now c.next_id-first.result
    c.next_id-first.ensures (sym c.if-make_services.true ∙ c.make_services.ensures)
    c.touch_services.ensures.tasks c.touch_services.ensures.services c.touch_services.ensures.timed c.touch_services.ensures.agents
    c.touch_services.ensures.known

pub returns-then-make_nodes : goal.returns-then-make_nodes
returns-then-make_nodes c =
    nodes_marked c.args.self.now c.touch_nodes.new.self c.args.ops.now c.args.parts.now c.next_id-first.result
    c.next_id-first.ensures (sym c.if-make_nodes.true ∙ c.make_nodes.ensures) c.touch_nodes.ensures.tasks
    c.touch_nodes.ensures.services c.touch_nodes.ensures.timed c.touch_nodes.ensures.agents c.touch_nodes.ensures.known

pub returns-else-make_nodes : goal.returns-else-make_nodes
returns-else-make_nodes c = λ h q legal stands marked has after. c.touch_all.ensures q has
