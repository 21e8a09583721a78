use Rattle.std.proofs.Common.{◌≡◌, ◌+◌, drop}
use Rattle.swarm_objects.specs.Rows.{rows_before}
use Rattle.swarm_objects.proofs.lists.lesser_keys.Given as goal

-- the rows so far have lesser keys
abbrev pub invariant-loop-row : goal.invariant-loop-row
invariant-loop-row g l = record {
  count : l.count ≡ l.row-index;
  left : rows_before g.T.Keyed.key_of l.key l.rows ≡ l.count + rows_before g.T.Keyed.key_of l.key (drop l.row-index l.rows);
}
