-- Worlds that match their specifications, whichever history made them.
use Rattle.std.specs.Prelude.{List, ◌≡◌}
use Rattle.swarm_model.specs.History.{IsLegal, replay}
use Rattle.swarm_model.specs.Laws.Matches.{Matches}
use Rattle.swarm_objects.specs.World.{World}
use Rattle.swarm_objects.specs.declared.calls.Entry.{Entry}

-- each legal history that makes this world matches
abbrev pub IsMatched : World → Type 0
IsMatched w = (h : List Entry) → IsLegal h → w ≡ replay h → Matches h
