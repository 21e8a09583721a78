use Rattle.std.proofs.Common.{◌≡◌, ◌++◌, take}
use Rattle.std.specs.Prelude.{flat_map}
use Rattle.swarm_objects.specs.Loops.Jobs.{next_duty}
use Rattle.swarm_plain.specs.Plain.{tables_of}
use Rattle.plain_orchestrators.proofs.jobs.put_next.Given as goal

abbrev pub invariant-loop-service : goal.invariant-loop-service
invariant-loop-service l =
    let t = tables_of l.plain in
    l.duties ≡ l.initial.duties ++ flat_map (λ s. next_duty t s s.spec.mode) (take l.service-index l.service-items)
