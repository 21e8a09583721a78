use Rattle.std.proofs.Common.{◌<◌, length, sym, ◌∙◌, ap, arith, None}
use Rattle.std.specs.List.{last_or}
use Rattle.std.specs.Option.{option_copied}
use Rattle.swarm_objects.specs.Tasks.Places.{is_in_place}
use Rattle.swarm_plain.proofs.Passes.{last_passed, none_passed}
use Rattle.swarm_plain.proofs.places.newest.Goals as goal
use Rattle.swarm_plain.proofs.places.newest.Goals.{else-is_in_place, then-is_in_place}

pub loop-task-preserved : goal.loop-task-preserved
loop-task-preserved c =
    let p = is_in_place c.args.service.now c.args.place in
    let tasks = c.args.tasks.now in
    let i = c.loop-task.task-index in
    let x = c.task-item.result in
    let lt : c.loop-task.task-index < length tasks = omega arith in
    elim c.if-is_in_place.branch [
      | then-is_in_place w ↦ (let passes = sym c.is_in_place.ensures ∙ w.if-is_in_place.true in
          ap option_copied w.newest-is ∙ last_passed p tasks i x lt c.task-item.is passes)
      | else-is_in_place w ↦ (let fails = sym c.is_in_place.ensures ∙ w.if-is_in_place.false in
          ap option_copied w.newest-is ∙ c.loop-task.invariant
          ∙ ap (last_or None) (none_passed p tasks i x lt c.task-item.is fails))
    ]
