use Rattle.std.proofs.Common.{◌≡◌, take}
use Rattle.std.specs.Prelude.{fold}
use Rattle.swarm_objects.specs.Agents.Messages.{apply_change}
use Rattle.plain_agents.proofs.executors.applied.Given as goal

abbrev pub invariant-loop-change : goal.invariant-loop-change
invariant-loop-change l = l.after ≡ fold (apply_change l.clock) l.executors (take l.change-index l.change-items)
