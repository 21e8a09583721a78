use Rattle.std.proofs.Common.{◌≡◌, take}
use Rattle.std.specs.Prelude.{flat_map}
use Rattle.swarm_objects.specs.Loops.Update.{update_duties}
use Rattle.swarm_plain.specs.Plain.{tables_of}
use Rattle.plain_updates.proofs.updates.update_duties.Given as goal

abbrev pub invariant-loop-service : goal.invariant-loop-service
invariant-loop-service l =
    l.duties ≡ flat_map (λ s. update_duties (tables_of l.plain) s s.spec.mode) (take l.service-index l.service-items)
