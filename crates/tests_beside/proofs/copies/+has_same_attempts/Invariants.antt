use Rattle.std.proofs.Common.{length}
use Rattle.tests_beside.proofs.copies.+has_same_attempts.Given as goal

abbrev pub decreases-has_same_attempts : goal.decreases-has_same_attempts
decreases-has_same_attempts l = length l.left.now
