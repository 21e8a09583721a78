use Rattle.std.proofs.Common.{◌≡◌, take}
use Rattle.std.specs.Prelude.{flat_map}
use Rattle.swarm_objects.specs.Agents.Messages.{change_of}
use Rattle.swarm_plain.proofs.messages.changes_of.Given as goal

abbrev pub invariant-loop-task : goal.invariant-loop-task
invariant-loop-task l = l.changes ≡ flat_map (change_of l.sent l.due) (take l.task-index l.task-items)
