use Rattle.std.proofs.Common.{◌≡◌, ◌++◌, Bool, ◌+◌, length}
use Rattle.swarm_model.specs.Changed.{events_of}
use Rattle.swarm_objects.specs.Rows.{IsRising}
use Rattle.swarm_plain.specs.Inside.Merging.{DecidesRows}
use Rattle.events_text.proofs.changed.put_changes.Given as goal

-- the rows that are left tell what is still to be put
abbrev pub invariant-loop-id : goal.invariant-loop-id
invariant-loop-id g l = record {
  old : IsRising g.T.Keyed.key_of l.old;
  new : IsRising g.T.Keyed.key_of l.new;
  told : (same : g.row.T.Denot → g.row.T.Denot → Bool) → DecidesRows g.T.Keyed.key_of same →
      l.events ++ events_of l.entry l.kind g.T.Keyed.key_of same l.old l.new
      ≡ l.initial.events ++ events_of l.entry l.kind g.T.Keyed.key_of same l.fn.old l.fn.new;
}

abbrev pub decreases-loop-id : goal.decreases-loop-id
decreases-loop-id g l = length l.old + length l.new
