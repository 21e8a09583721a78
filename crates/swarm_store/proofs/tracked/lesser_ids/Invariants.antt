use Rattle.std.proofs.Common.{◌≡◌, ◌+◌, drop}
use Rattle.swarm_objects.specs.Rows.{rows_before}
use Rattle.swarm_store.specs.Inside.Tracking.{before_id}
use Rattle.swarm_store.proofs.tracked.lesser_ids.Given as goal

-- the ids so far are less
abbrev pub invariant-loop-earlier : goal.invariant-loop-earlier
invariant-loop-earlier g l = record {
  count : l.count ≡ l.earlier-index;
  left : rows_before before_id l.id l.before ≡ l.count + rows_before before_id l.id (drop l.earlier-index l.before);
}
