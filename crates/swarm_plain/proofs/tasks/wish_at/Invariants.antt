use Rattle.std.proofs.Common.{◌≡◌, ◌++◌, drop, map, take}
use Rattle.std.specs.Prelude.{if◌then◌else◌}
use Rattle.swarm_plain.specs.Inside.OfPlace.{is_meant_at}
use Rattle.swarm_objects.specs.Changes.{wanted}
use Rattle.swarm_objects.specs.declared.tasks.Task.{Task}
use Rattle.swarm_plain.proofs.tasks.wish_at.Given as goal

abbrev pub invariant-loop-task : goal.invariant-loop-task
invariant-loop-task l =
    let meant = is_meant_at l.which l.service l.number in
    let change = map (λ (x : Task). if meant x then wanted l.version l.desired x else x) in
    take l.task-index l.tasks ++ change (drop l.task-index l.tasks) ≡ change l.initial.tasks
