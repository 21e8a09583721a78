use Rattle.swarm_model.proofs.Laws.DeadSessions.{dead-sessions}
use Rattle.swarm_model.proofs.theorems.dead_sessions_change_nothing.Goals as goal

pub returns : goal.returns
returns c = dead-sessions
