use Rattle.std.proofs.Common.{◌≡◌}
use Rattle.swarm_store.proofs.tracked.Tracked.take_back.Given as goal

abbrev pub invariant-loop : goal.invariant-loop
invariant-loop g l = l.self.start ≡ l.initial.self.start

abbrev pub decreases-loop : goal.decreases-loop
decreases-loop g l = l.self.changed
