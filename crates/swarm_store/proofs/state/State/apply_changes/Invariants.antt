use Rattle.std.proofs.Common.{◌≡◌, ◌+◌, ◌≤◌, length}
use Rattle.swarm_objects.specs.ChangeLists.{CanApplyAll, apply_changes}
use Rattle.swarm_store.proofs.state.State.apply_changes.Given as goal
use Rattle.swarm_store.specs.Inside.State.{Stands, changed_rows, tables_now, tables_start}

-- the changes that are left decide
abbrev pub invariant-loop-change : goal.invariant-loop-change
invariant-loop-change l = record {
  stands : Stands (tables_now l.self);
  can : CanApplyAll (tables_now l.self) l.left.items;
  left : apply_changes (tables_now l.self) l.left.items ≡ apply_changes (tables_now l.fn.self) l.fn.changes;
  start : tables_start l.self ≡ tables_start l.fn.self;
  changed : changed_rows l.self + length l.left.items ≤ changed_rows l.fn.self + length l.fn.changes;
}

abbrev pub decreases-loop-change : goal.decreases-loop-change
decreases-loop-change l = length l.left.items
