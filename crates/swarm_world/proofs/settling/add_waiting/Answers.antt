use Rattle.std.proofs.Common.{sym}
use Rattle.swarm_world.proofs.StillWaiting.{not_put}
use Rattle.swarm_world.proofs.settling.add_waiting.Goals as goal

pub returns-else-may_wait-clause-own : goal.returns-else-may_wait-clause-own
returns-else-may_wait-clause-own c =
    not_put c.args.span.now c.args.node c.args.agent.now c.may_wait.result c.may_wait.ensures (sym c.if-may_wait.false)
