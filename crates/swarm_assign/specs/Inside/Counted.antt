-- The map of what was sent to each node.
use Rattle.std.specs.Prelude.{List, None, Option, Some, [], ℕ, ◌<◌, ◌∷◌, ⊤}
use Rattle.swarm_assign.specs.Told.{Told}
use Rattle.swarm_objects.specs.MapEntries.{entry_key}
use Rattle.swarm_objects.specs.Rows.{IsRising}
use Rattle.swarm_objects.specs.declared.messages.Assigned.{Assigned}
use Rattle.swarm_objects.specs.declared.messages.Message.{Message}
use Rattle.swarm_objects.specs.declared.messages.NodeSent.{NodeSent}

-- something was sent to each
abbrev pub EachTold : List (ℕ × Told) → Type 0
EachTold [] = ⊤
EachTold (e ∷ es) = (0 < e.1.count) × EachTold es

-- by rising node
pub record AreTold (entries : List (ℕ × Told)) : Type 0 where
  pub rising : IsRising entry_key entries
  pub told : EachTold entries

-- what one node was sent, after the message where there is one
abbrev pub told_after : ℕ → List Assigned → Option Message → Option NodeSent → Option NodeSent
told_after node due None sent = sent
told_after node due (Some m) sent = Some (record { node = node; count = m.results_in; tasks = due })
