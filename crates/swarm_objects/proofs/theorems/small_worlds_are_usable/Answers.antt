use Rattle.swarm_objects.proofs.EffectLaws.{usable_law}
use Rattle.swarm_objects.proofs.theorems.small_worlds_are_usable.Goals as goal

pub returns : goal.returns
returns c = usable_law
