use Rattle.std.proofs.Common.{◌≡◌, ◌+◌, drop}
use Rattle.swarm_objects.specs.Rows.{rows_before}
use Rattle.swarm_index.proofs.spare.lesser_ids.Given as goal

-- the rows so far have lesser ids
abbrev pub invariant-loop-row : goal.invariant-loop-row
invariant-loop-row g l = record {
  count : l.count ≡ l.row-index;
  left : rows_before g.R.Row.id_of l.id l.rows ≡ l.count + rows_before g.R.Row.id_of l.id (drop l.row-index l.rows);
}
