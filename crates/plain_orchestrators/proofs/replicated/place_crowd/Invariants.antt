use Rattle.std.proofs.Common.{◌≡◌, drop}
use Rattle.std.specs.Prelude.{filter, fold, map, max}
use Rattle.swarm_objects.specs.Loops.Replicated.{crowd, place_crowd}
use Rattle.swarm_objects.specs.Tasks.Places.{is_in_place, place_at}
use Rattle.swarm_objects.specs.Tasks.Words.{is_live}
use Rattle.swarm_plain.specs.Plain.{tables_of}
use Rattle.plain_orchestrators.proofs.replicated.place_crowd.Given as goal

abbrev pub invariant-loop-task : goal.invariant-loop-task
invariant-loop-task l =
    let t = tables_of l.plain in
    let stands = is_in_place l.service (place_at l.service.spec.mode l.number) in
    let left = filter is_live (filter stands (drop l.task-index l.task-items)) in
    fold max l.most (map (λ x. crowd t l.service x.node) left)
    ≡ place_crowd t l.service l.number
