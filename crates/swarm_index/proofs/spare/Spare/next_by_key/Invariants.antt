use Rattle.std.proofs.Common.{◌≡◌, drop}
use Rattle.std.specs.Prelude.{filter}
use Rattle.swarm_index.specs.Keys.{has_key, value_of}
use Rattle.swarm_objects.specs.Rows.{row_above}
use Rattle.swarm_index.proofs.spare.Spare.next_by_key.Given as goal

-- what is left decides
abbrev pub invariant-loop-row : goal.invariant-loop-row
invariant-loop-row g l =
    let key = has_key g.R.Row.key_of l.which (value_of l.key) in
    row_above g.R.Row.id_of l.after (filter key (drop l.row-index l.row-items)) ≡ row_above g.R.Row.id_of l.after (filter key l.row-items)
