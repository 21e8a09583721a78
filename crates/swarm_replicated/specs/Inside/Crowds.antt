-- What is known of a service's live tasks on nodes.
use Rattle.std.specs.List.{All}
use Rattle.std.specs.Option.{IfSome}
use Rattle.std.specs.Prelude.{List, Option, Some, ℕ, ◌≡◌}
use Rattle.swarm_objects.specs.Loops.Replicated.{crowd}
use Rattle.swarm_objects.specs.World.{Tables}
use Rattle.swarm_objects.specs.declared.services.Service.{Service}
use Rattle.swarm_replicated.specs.declared.crowds.Known.{Known}

-- tables, and the service whose tasks are counted in them
pub record Counted : Type 0 where
  pub tables : Tables
  pub service : Service

abbrev pub crowd_in : Counted → Option ℕ → ℕ
crowd_in c node = crowd c.tables c.service node

-- what is remembered of a node is so
abbrev pub IsKnown : Counted → Known → Type 0
IsKnown c k = k.crowd ≡ crowd_in c (Some k.node)

abbrev pub AreKnown : Counted → List (Option Known) → Type 0
AreKnown c all = All (λ o. IfSome o (IsKnown c)) all
