use Rattle.std.proofs.Common.{◌-◌, length}
use Rattle.swarm_objects.proofs.lists.+put_row_from.Given as goal

-- the rows from the place on
abbrev pub decreases-put_row_from : goal.decreases-put_row_from
decreases-put_row_from g l = length l.rows.now - l.from
