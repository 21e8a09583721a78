use Rattle.swarm_agent.proofs.Naming.{left-out-none}
use Rattle.swarm_agent.proofs.messages.leave_out.Goals as goal

pub returns-else-message-clause-ok : goal.returns-else-message-clause-ok
returns-else-message-clause-ok c = left-out-none c.args.message.now c.args.executors.now c.if-message.false
