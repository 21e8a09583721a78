use Rattle.std.proofs.Common.{◌≡◌}
use Rattle.swarm_store.proofs.service_rows.Services.take_back.Given as goal

abbrev pub invariant-loop : goal.invariant-loop
invariant-loop l = l.self.start ≡ l.initial.self.start

abbrev pub decreases-loop : goal.decreases-loop
decreases-loop l = l.self.changed
