use Rattle.std.proofs.Common.{◌-◌}
use Rattle.swarm_spread.proofs.levels.+empty_levels.Given as goal

abbrev pub decreases-empty_levels : goal.decreases-empty_levels
decreases-empty_levels l = l.count - l.depth
