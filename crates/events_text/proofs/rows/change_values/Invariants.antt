use Rattle.std.proofs.Common.{◌≡◌, map, take}
use Rattle.serde_json.specs.View.{view}
use Rattle.events_text.specs.Changes.{change_data}
use Rattle.swarm_plain.specs.Plain.{tables_of}
use Rattle.events_text.proofs.rows.change_values.Given as goal

abbrev pub invariant-loop-event : goal.invariant-loop-event
invariant-loop-event l = map view l.values ≡ map (change_data (tables_of l.old) (tables_of l.new)) (take l.event-index l.events)
