use Rattle.std.proofs.Common.{◌≡◌, ◌++◌, take}
use Rattle.std.specs.Prelude.{flat_map}
use Rattle.swarm_objects.specs.Loops.Replicated.{create_duty}
use Rattle.swarm_plain.specs.Plain.{tables_of}
use Rattle.plain_orchestrators.proofs.replicated.put_creates.Given as goal

abbrev pub invariant-loop-service : goal.invariant-loop-service
invariant-loop-service l =
    let t = tables_of l.plain in
    l.duties ≡ l.initial.duties ++ flat_map (λ s. create_duty t s s.spec.mode) (take l.service-index l.service-items)
