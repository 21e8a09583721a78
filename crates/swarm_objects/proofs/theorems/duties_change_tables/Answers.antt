use Rattle.swarm_objects.proofs.EffectLaws.{tables_law}
use Rattle.swarm_objects.proofs.theorems.duties_change_tables.Goals as goal

pub returns : goal.returns
returns c = tables_law
