use Rattle.std.proofs.Common.{◌≡◌}
use Rattle.tests_calls.proofs.pools.all_ports.Given as goal

abbrev pub invariant-loop-number : goal.invariant-loop-number
invariant-loop-number l = (l.pool.first ≡ 30000) × (l.pool.last ≡ 32767)
