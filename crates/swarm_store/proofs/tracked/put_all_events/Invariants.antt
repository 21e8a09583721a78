use Rattle.std.proofs.Common.{◌≡◌, ◌≤◌, ◌+◌, ◌++◌, Bool, drop, length, vec_capacity}
use Rattle.std.specs.Prelude.{flat_map}
use Rattle.swarm_store.specs.Inside.Tracking.{DecidesRows, image_events}
use Rattle.swarm_store.proofs.tracked.put_all_events.Given as goal

-- the rows that are left tell what is still to be put
abbrev pub invariant-loop-image : goal.invariant-loop-image
invariant-loop-image g l = record {
  left : (same : g.row.R.Denot → g.row.R.Denot → Bool) → DecidesRows g.R.Row.id_of same →
      l.events.items ++ flat_map (image_events l.version l.kind g.R.Row.id_of same l.rows.rows) (drop l.image-index l.before)
      ≡ l.initial.events.items ++ flat_map (image_events l.version l.kind g.R.Row.id_of same l.rows.rows) l.before;
  most : length l.events.items ≤ length l.initial.events.items + l.image-index;
  places : vec_capacity l.events ≡ vec_capacity l.initial.events;
}
