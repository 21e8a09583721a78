use Rattle.std.proofs.Common.{◌≡◌, ◌<◌, false, ℕ}
use Rattle.swarm_spread.specs.Sums.{is_alike}
use Rattle.swarm_spread.proofs.levels.first_alike.Given as goal

abbrev pub invariant-loop-other : goal.invariant-loop-other
invariant-loop-other l = (earlier : ℕ) → earlier < l.other → is_alike l.parents l.paths l.depth earlier l.place ≡ false
