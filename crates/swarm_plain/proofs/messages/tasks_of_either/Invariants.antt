use Rattle.std.proofs.Common.{◌≡◌, ◌++◌, take}
use Rattle.std.specs.Prelude.{map}
use Rattle.swarm_objects.specs.Agents.Messages.{assigned_task}
use Rattle.swarm_objects.specs.Rows.{rising}
use Rattle.swarm_plain.proofs.messages.tasks_of_either.Given as goal

abbrev pub invariant-loop-told : goal.invariant-loop-told
invariant-loop-told l = l.tasks ≡ rising (map assigned_task (take l.told-index l.sent))

abbrev pub invariant-loop-one : goal.invariant-loop-one
invariant-loop-one l = l.tasks ≡ rising (map assigned_task (l.sent ++ take l.one-index l.due))
