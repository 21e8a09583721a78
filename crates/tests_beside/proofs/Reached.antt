-- The loops may be asked in every world that a legal history makes.
use Rattle.swarm_duties.proofs.Reached.{usable as usable_world}
use Rattle.swarm_duties.specs.Reached.{IsReached}
use Rattle.swarm_objects.proofs.EffectLaws.{usable_law}
use Rattle.swarm_objects.specs.Usable.{IsUsable}
use Rattle.swarm_plain.specs.Plain.{tables_of, world_of}
use Rattle.swarm_plain.specs.declared.Plain.{Plain}

pub usable : (p : Plain) → IsReached (world_of p) → IsUsable (tables_of p)
usable p is =
    let world = usable_world (world_of p) is in
    usable_law (world_of p) world.sound world.small
