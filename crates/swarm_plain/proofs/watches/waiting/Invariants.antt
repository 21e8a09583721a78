use Rattle.std.proofs.Common.{◌≡◌, take}
use Rattle.std.specs.Prelude.{filter}
use Rattle.swarm_model.specs.Calls.Watches.{waits_for}
use Rattle.swarm_plain.proofs.watches.waiting.Given as goal

abbrev pub invariant-loop-event : goal.invariant-loop-event
invariant-loop-event l = l.waiting ≡ filter (waits_for l.watcher) (take l.event-index l.events)
