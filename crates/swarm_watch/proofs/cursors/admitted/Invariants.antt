use Rattle.std.proofs.Common.{◌≡◌, take}
use Rattle.std.specs.Prelude.{filter}
use Rattle.swarm_objects.specs.Watches.{filter_admits}
use Rattle.swarm_watch.proofs.cursors.admitted.Given as goal

abbrev pub invariant-loop-event : goal.invariant-loop-event
invariant-loop-event l = l.admitted ≡ filter (filter_admits l.asked) (take l.event-index l.events)
