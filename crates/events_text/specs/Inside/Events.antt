-- The event of what happened to one row.
use Rattle.std.specs.Prelude.{ℕ, List, Option, map}
use Rattle.std.specs.Option.{option_to_list}
use Rattle.swarm_model.specs.Changed.{event}
use Rattle.swarm_objects.specs.declared.ids.Kind.{Kind}
use Rattle.swarm_objects.specs.declared.watches.Event.{Event}
use Rattle.swarm_objects.specs.declared.watches.Verb.{Verb}

-- none, if nothing did
abbrev pub events_at : ℕ → Kind → ℕ → Option Verb → List Event
events_at entry k id happened = map (event entry k id) (option_to_list happened)
