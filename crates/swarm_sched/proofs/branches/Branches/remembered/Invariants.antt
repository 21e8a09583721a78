use Rattle.std.specs.Prelude.{⊤}
use Rattle.swarm_sched.proofs.branches.Branches.remembered.Given as goal

abbrev pub invariant-loop-known : goal.invariant-loop-known
invariant-loop-known g l = ⊤
