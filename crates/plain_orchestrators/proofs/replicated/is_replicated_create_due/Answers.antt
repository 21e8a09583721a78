use Rattle.plain_orchestrators.proofs.ReplicatedDue.{create_due}
use Rattle.swarm_plain.specs.Plain.{world_of}
use Rattle.plain_orchestrators.proofs.replicated.is_replicated_create_due.Goals as goal

pub loop-service-init : goal.loop-service-init
loop-service-init c =
    rw c.as_slice-service-items.ensures (create_due (world_of c.args.plain.now) c.args.id c.args.slot)
