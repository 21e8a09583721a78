-- What every world of a legal history has, as every world that a call may be handed.
use Rattle.std.specs.Prelude.{List}
use Rattle.swarm_model.specs.History.{IsLegal}
use Rattle.swarm_model.specs.Laws.Steps.{EachWorld}
use Rattle.swarm_objects.specs.Bounds.{IsSmall}
use Rattle.swarm_objects.specs.Sound.{IsOrderedBeside, IsSound}
use Rattle.swarm_objects.specs.World.{empty_world}
use Rattle.swarm_objects.specs.declared.calls.Entry.{Entry}

abbrev pub SoundLaw : Type 0
SoundLaw = (h : List Entry) → IsLegal h → EachWorld (λ w. IsSound w.tables) empty_world h

abbrev pub OrderLaw : Type 0
OrderLaw = (h : List Entry) → IsLegal h → EachWorld IsOrderedBeside empty_world h

abbrev pub SizeLaw : Type 0
SizeLaw = (h : List Entry) → IsLegal h → EachWorld IsSmall empty_world h
