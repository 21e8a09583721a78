use Rattle.std.proofs.Common.{length, ◌≡◌}
use Rattle.swarm_agent.specs.Inside.Undo.{undone}
use Rattle.swarm_agent.proofs.messages.undo.Given as goal

abbrev pub invariant-loop-former : goal.invariant-loop-former
invariant-loop-former l = undone l.log.items l.executors ≡ undone l.initial.log.items l.initial.executors

abbrev pub decreases-loop-former : goal.decreases-loop-former
decreases-loop-former l = length l.log.items
