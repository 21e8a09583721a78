use Rattle.std.proofs.Common.{get_or, length, [], ℕ, ◌≡◌}
use Rattle.swarm_sched.proofs.ranks.Ranks.empty.Given as goal

abbrev pub invariant-loop-class : goal.invariant-loop-class
invariant-loop-class l = record {
  none : (class : ℕ) → get_or l.classes.items class [] ≡ [];
  all : length l.classes.items ≡ l._class;
}
