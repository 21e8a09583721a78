-- What is remembered of the rows.
use Rattle.std.specs.Prelude.{ℕ, ◌≡◌, ◌≤◌}
use Rattle.swarm_objects.specs.World.{Tables}
use Rattle.swarm_replicated.specs.KnownPlaces.{IsAfter, Knows}
use Rattle.swarm_sched.specs.Inside.Known.{AreMoved}
use Rattle.swarm_sched.specs.Inside.KnownNodes.{KnowsNodes}
use Rattle.swarm_spans.specs.TasksCovered.{at_time}
use Rattle.swarm_update.specs.KnownSurvey.{Knows as KnowsSurvey}
use Rattle.swarm_world.specs.declared.known.Foreseen.{Foreseen}
use Rattle.swarm_world.specs.declared.known.Known.{Known}

-- whatever is remembered is so
pub record KnowsAll (t : Tables) (k : Known) : Type 0 where
  pub nodes : KnowsNodes t k.nodes
  pub places : Knows t k.places
  pub survey : KnowsSurvey t k.survey

-- and whatever will be
pub record AreForeseen (t : Tables) (f : Foreseen) : Type 0 where
  pub nodes : AreMoved t f.nodes
  pub places : IsAfter t f.places

-- what is remembered after it is so as time goes by
abbrev pub PassesTime : Known → Known → Type 0
PassesTime before after =
    (t : Tables) (clock : ℕ) → t.clock ≤ clock → KnowsAll t before → KnowsAll (at_time clock t) after

-- what is remembered after it is so whatever becomes of services and of the time
abbrev pub ForgetsServices : Known → Known → Type 0
ForgetsServices before after =
    (t u : Tables) → u.tasks ≡ t.tasks → u.nodes ≡ t.nodes → KnowsAll t before → KnowsAll u after
