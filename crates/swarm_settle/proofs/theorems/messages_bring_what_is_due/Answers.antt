use Rattle.swarm_objects.proofs.Hearing.{message-tells}
use Rattle.swarm_settle.proofs.theorems.messages_bring_what_is_due.Goals as goal

pub returns : goal.returns
returns c = message-tells
