use Rattle.std.proofs.Common.{drop}
use Rattle.swarm_agent.proofs.Naming.{SoFar}
use Rattle.swarm_agent.proofs.messages.named_tasks.Given as goal

abbrev pub invariant-loop-change : goal.invariant-loop-change
invariant-loop-change l = SoFar l.named (drop l.change-index l.changes) l.changes
