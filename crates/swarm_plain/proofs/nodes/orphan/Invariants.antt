use Rattle.std.proofs.Common.{◌≡◌, ◌++◌, drop, take}
use Rattle.std.specs.Prelude.{map, if◌then◌else◌}
use Rattle.swarm_model.specs.Calls.Nodes.{is_left_behind}
use Rattle.swarm_objects.specs.Changes.{in_state}
use Rattle.swarm_objects.specs.declared.tasks.Task.{Task}
use Rattle.swarm_objects.specs.declared.tasks.TaskState.TheVariants as state
use Rattle.swarm_plain.proofs.nodes.orphan.Given as goal

abbrev pub invariant-loop-task : goal.invariant-loop-task
invariant-loop-task l =
    let change = λ (x : Task). if is_left_behind l.node x then in_state l.version l.now state.Orphaned x else x in
    take l.task-index l.tasks ++ map change (drop l.task-index l.tasks) ≡ map change l.initial.tasks
