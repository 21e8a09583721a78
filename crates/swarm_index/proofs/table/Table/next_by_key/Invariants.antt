use Rattle.std.proofs.Common.{◌≡◌, ◌-◌, ◌^◌}
use Rattle.std.specs.Prelude.{filter}
use Rattle.swarm_index.specs.Keys.{has_key, value_of}
use Rattle.swarm_objects.specs.Rows.{row_above}
use Rattle.swarm_index.proofs.table.Table.next_by_key.Given as goal

-- no row up to the id that was passed last is it
abbrev pub invariant-loop-id : goal.invariant-loop-id
invariant-loop-id g l =
    let rows = filter (has_key g.R.Row.key_of l.which (value_of l.key)) l.self in
    row_above g.R.Row.id_of l.passed rows ≡ row_above g.R.Row.id_of l.after rows

abbrev pub decreases-loop-id : goal.decreases-loop-id
decreases-loop-id g l = 2 ^ 64 - l.passed
