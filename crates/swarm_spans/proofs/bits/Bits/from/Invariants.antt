use Rattle.std.specs.Prelude.{false, ℕ, ◌<◌, ◌≡◌, ◌≤◌}
use Rattle.swarm_spans.proofs.bits.Bits.from.Given as goal
use Rattle.swarm_spans.specs.Bits.{has_bit}

abbrev pub invariant-loop : goal.invariant-loop
invariant-loop l = (l.first ≤ l.id) × ((id : ℕ) → l.first ≤ id → id < l.id → has_bit l.self id ≡ false)
