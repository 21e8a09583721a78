use Rattle.std.proofs.Common.{◌≡◌, ◌++◌, take, flat_map, string_bytes}
use Rattle.swarm_print.specs.Lists.{event_line}
use Rattle.swarm_print.proofs.lists.put_events.Given as goal

abbrev pub invariant-loop-event : goal.invariant-loop-event
invariant-loop-event l = string_bytes l.text ≡ string_bytes l.initial.text ++ flat_map event_line (take l.event-index l.events)
