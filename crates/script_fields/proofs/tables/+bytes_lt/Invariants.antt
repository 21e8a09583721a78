use Rattle.std.proofs.Common.{length}
use Rattle.script_fields.proofs.tables.+bytes_lt.Given as goal

abbrev pub decreases-bytes_lt : goal.decreases-bytes_lt
decreases-bytes_lt l = length l.left.now
