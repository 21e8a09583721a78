use Rattle.std.proofs.Common.{◌≡◌, ℕ, cond, length}
use Rattle.std.specs.Option.{option_map}
use Rattle.std.specs.Prelude.{nat_lt, slice_get}
use Rattle.store_ports.proofs.counts.clear_counts.Given as goal

-- those so far are 0, and the others what they were
abbrev pub invariant-loop-at : goal.invariant-loop-at
invariant-loop-at l = record {
  count : length l.counts.items ≡ length l.initial.counts.items;
  each : (n : ℕ) → slice_get l.counts.items n
      ≡ cond (nat_lt n l.at) (option_map (λ _. 0) (slice_get l.initial.counts.items n)) (slice_get l.initial.counts.items n);
}
