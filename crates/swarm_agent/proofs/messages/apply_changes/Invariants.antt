use Rattle.std.proofs.Common.{◌≡◌, take}
use Rattle.std.specs.Prelude.{fold}
use Rattle.swarm_agent.specs.Inside.Undo.{undone}
use Rattle.swarm_objects.specs.Agents.Messages.{apply_change}
use Rattle.swarm_agent.proofs.messages.apply_changes.Given as goal

abbrev pub invariant-loop-change : goal.invariant-loop-change
invariant-loop-change l = record {
  made : l.executors ≡ fold (apply_change 0) l.initial.executors (take l.change-index l.changes);
  back : undone l.log.items l.executors ≡ undone l.initial.log.items l.initial.executors;
}
