use Rattle.std.proofs.Common.{refl}
use Rattle.swarm_objects.specs.Agents.NodeAgents.{started_agent}
use Rattle.swarm_objects.specs.declared.calls.Call.TheVariants as call
use Rattle.swarm_world.proofs.Faulting.{faulted, not_faulted}
use Rattle.swarm_world.proofs.parts.Parts.start_node.Goals as goal

pub returns-in-Ok : goal.returns-in-Ok
returns-in-Ok c = λ version h stands.
    faulted version h (call.NodeStart c.args.name.now) c.args.name.now started_agent c.args.self.now
    _ c.in-Ok.node stands refl c.in-Ok.ensures c.power.ensures refl refl refl refl

pub returns-in-Err : goal.returns-in-Err
returns-in-Err c = λ version h stands.
    not_faulted version h (call.NodeStart c.args.name.now) c.args.name.now started_agent c.args.self.now
    c.in-Err.refusal stands refl c.in-Err.ensures
