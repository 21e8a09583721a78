-- What is remembered of the rows goes on being so where they stay.
use Rattle.std.proofs.Common.{◌≡◌, ◌≤◌, ℕ, Some, refl, sym}
use Rattle.std.specs.Prelude.{find}
use Rattle.swarm_objects.proofs.RowLemmas.{row_at-Some}
use Rattle.swarm_objects.proofs.Tests.{find_has}
use Rattle.swarm_objects.specs.Rows.{row_at, service_id}
use Rattle.swarm_objects.specs.Usable.{IsUsable}
use Rattle.swarm_objects.specs.World.{Tables}
use Rattle.swarm_objects.specs.declared.services.Service.{Service}
use Rattle.swarm_replicated.proofs.Keeping.{knows_same as places_same}
use Rattle.swarm_replicated.specs.KnownPlaces.{Knows}
use Rattle.swarm_replicated.specs.declared.known_places.KnownPlaces.{KnownPlaces}
use Rattle.swarm_sched.proofs.KnownAlike.{knows_alike}
use Rattle.swarm_spans.specs.Spans.{is_in}
use Rattle.swarm_spans.specs.TasksCovered.{at_time}
use Rattle.swarm_spans.specs.declared.span.Span.{Span}
use Rattle.swarm_update.proofs.Leaving.{knows_same}
use Rattle.swarm_update.specs.KnownSurvey.{Knows as KnowsSurvey}
use Rattle.swarm_update.specs.declared.known_survey.KnownSurvey.{KnownSurvey}
use Rattle.swarm_world.specs.Inside.Known.{KnowsAll, PassesTime}
use Rattle.swarm_world.specs.declared.known.Known.{Known}

-- a service that is found in a span is a row
pub row_of_next : (t : Tables) (span : Span) (s : Service) → IsUsable t
    → Some s ≡ find (λ x. is_in span x.id) t.services → row_at service_id s.id t.services ≡ Some s
row_of_next t span s usable e =
    row_at-Some service_id 0 t.services s usable.sound.ordered.services
    (find_has (λ x. is_in span x.id) t.services s (sym e)).0

pub ruleset row_steps = (row_of_next)

-- where the tasks, the nodes, the services and the clock stay
pub knows_rows_alike : (t u : Tables) (k : Known) → u.tasks ≡ t.tasks → u.nodes ≡ t.nodes → u.services ≡ t.services
    → u.clock ≡ t.clock → KnowsAll t k → KnowsAll u k
knows_rows_alike t u k tasks nodes services clock knows = record {
  nodes = knows_alike t u k.nodes tasks nodes knows.nodes;
  places = places_same t u k.places services tasks knows.places;
  survey = knows_same t u k.survey services tasks clock knows.survey;
}

-- where time goes by
pub known_later : (k : Known) (survey : KnownSurvey)
    → ((t : Tables) (clock : ℕ) → t.clock ≤ clock → KnowsSurvey t k.survey → KnowsSurvey (at_time clock t) survey)
    → PassesTime k (record k { survey = survey })
known_later k survey later t clock le knows = record {
  nodes = knows_alike t (at_time clock t) k.nodes refl refl knows.nodes;
  places = places_same t (at_time clock t) k.places refl refl knows.places;
  survey = later t clock le knows.survey;
}

-- where a line remembered something
pub with_places : (t : Tables) (k : Known) (places : KnownPlaces) → KnowsAll t k → Knows t places
    → KnowsAll t (record k { places = places })
with_places t k places knows so = record { nodes = knows.nodes; places = so; survey = knows.survey }

pub with_survey : (t : Tables) (k : Known) (survey : KnownSurvey) → KnowsAll t k → KnowsSurvey t survey
    → KnowsAll t (record k { survey = survey })
with_survey t k survey knows so = record { nodes = knows.nodes; places = knows.places; survey = so }

pub ruleset known_steps = (with_places, with_survey)
