use Rattle.std.proofs.Common.{◌≡◌, drop}
use Rattle.std.specs.List.{list_any}
use Rattle.swarm_objects.specs.Duties.{is_due}
use Rattle.swarm_objects.specs.Kinds.{same_duty}
use Rattle.swarm_objects.specs.Loops.Replicated.{create_duty}
use Rattle.swarm_objects.specs.declared.duties.Duty.TheVariants as duty
use Rattle.swarm_objects.specs.declared.services.Service.{Service}
use Rattle.swarm_plain.specs.Plain.{tables_of, world_of}
use Rattle.plain_orchestrators.proofs.replicated.is_replicated_create_due.Given as goal

abbrev pub invariant-loop-service : goal.invariant-loop-service
invariant-loop-service l =
    let d = duty.ReplicatedCreate l.id l.slot in
    let has = λ (s : Service). list_any (same_duty d) (create_duty (tables_of l.plain) s s.spec.mode) in
    list_any has (drop l.service-index l.service-items) ≡ is_due (world_of l.plain) d
