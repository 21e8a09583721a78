-- What the spans of a world cover.
use Rattle.std.specs.Prelude.{Bool, List, false, true, ◌⊎◌}
use Rattle.swarm_model.specs.History.{replay, step}
use Rattle.swarm_objects.specs.World.{Tables}
use Rattle.swarm_objects.specs.declared.calls.Call.{Call}
use Rattle.swarm_objects.specs.declared.calls.Entry.{Entry}
use Rattle.swarm_objects.specs.declared.calls.Op.TheVariants as op
use Rattle.swarm_objects.specs.declared.calls.Op.{Op}
use Rattle.swarm_objects.specs.declared.calls.What.TheVariants as what
use Rattle.swarm_spans.specs.Services.Touches.{AreCovered}
use Rattle.swarm_spans.specs.TasksCovered.{AreTasksCovered}
use Rattle.swarm_spans.specs.Timed.{AreTimed}
use Rattle.swarm_world.specs.Inside.Known.{KnowsAll}
use Rattle.swarm_world.specs.Inside.Parts.{StandsFor}
use Rattle.swarm_world.specs.Inside.Records.{tables_of}
use Rattle.swarm_world.specs.Inside.Spanned.{CoversAgents}
use Rattle.swarm_world.specs.declared.marks.Marks.{Marks}
use Rattle.swarm_world.specs.declared.parts.Parts.{Parts}

-- each row with a duty of a line is in the line's span, and each for which time passes in its own; and what is
-- remembered is so
pub record AreMarked (m : Marks) (t : Tables) : Type 0 where
  pub tasks : AreTasksCovered t m.tasks
  pub services : AreCovered t m.services
  pub timed : AreTimed t m.timed
  pub known : KnowsAll t m.known

-- and each node of an agent in those of the agents' loop
pub record IsMarked (m : Marks) (p : Parts) : Type 0 where
  pub rows : AreMarked m (tables_of p.records)
  pub agents : CoversAgents p m.agents

-- they stand for the world after the call; or for the one before it, where memory was wanting
abbrev pub IsAfterCall : List Entry → Call → Parts → Type 0
IsAfterCall h c p = StandsFor p (step (replay h) (what.Call c)).after ⊎ StandsFor p (replay h)

abbrev pub makes_service : Op → Bool
makes_service (op.CreateService name d) = true
makes_service _ = false

abbrev pub makes_node : Op → Bool
makes_node (op.CreateNode name draft) = true
makes_node _ = false
