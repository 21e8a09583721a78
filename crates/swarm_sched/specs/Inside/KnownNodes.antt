-- What is remembered from one placement to the next.
use Rattle.swarm_objects.specs.World.{Tables}
use Rattle.swarm_sched.specs.Inside.Classes.{AreClasses}
use Rattle.swarm_sched.specs.Inside.Known.{Knows}
use Rattle.swarm_sched.specs.Inside.KnownRefusals.{KnowsRefusals}
use Rattle.swarm_sched.specs.declared.known_nodes.KnownNodes.{KnownNodes}

-- whatever is remembered is so
pub record KnowsNodes (t : Tables) (k : KnownNodes) : Type 0 where
  pub totals : Knows t k.totals
  pub classes : AreClasses t k.classes
  pub refusals : KnowsRefusals t k.refusals
  pub placed : KnowsRefusals t k.placed
