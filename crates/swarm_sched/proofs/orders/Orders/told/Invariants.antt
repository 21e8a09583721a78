use Rattle.swarm_sched.proofs.orders.Orders.told.Given as goal
use Rattle.swarm_sched.specs.Inside.ClassTable.{AreTold}

abbrev pub invariant-loop-class : goal.invariant-loop-class
invariant-loop-class l = AreTold l.loads l.load l.values l.class l.orders
