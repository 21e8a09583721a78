-- No two live tasks of a place have one template.
use Rattle.std.specs.Prelude.{Bool, ◌&&◌, ◌||◌, ◌==◌, not, false, ◌≡◌, List}
use Rattle.swarm_model.specs.History.{IsLegal}
use Rattle.swarm_model.specs.Laws.Steps.{EachWorld}
use Rattle.swarm_objects.specs.Rules.Services.{has_alike}
use Rattle.swarm_objects.specs.Same.{same_place, same_template}
use Rattle.swarm_objects.specs.Services.Words.{is_job, is_service_and}
use Rattle.swarm_objects.specs.Tasks.Words.{is_live}
use Rattle.swarm_objects.specs.World.{Tables, empty_world}
use Rattle.swarm_objects.specs.declared.calls.Entry.{Entry}
use Rattle.swarm_objects.specs.declared.tasks.Task.{Task}

-- One task a template.

-- the task's service is there and is no job
abbrev pub is_of_no_job : Tables → Task → Bool
is_of_no_job t x = is_service_and t (λ s. not (is_job s.spec.mode)) x

-- both are live tasks of one place with one template, of one iteration where the service is a job or is gone
abbrev pub are_alike : Tables → Task → Task → Bool
are_alike t a b =
    a.service == b.service && same_place a.place b.place && (a.iteration == b.iteration || is_of_no_job t b)
    && is_live a && is_live b && same_template a.template b.template

abbrev pub NoTwoAlike : Tables → Type 0
NoTwoAlike t = has_alike (are_alike t) t.tasks ≡ false

abbrev pub OneTemplateLaw : Type 0
OneTemplateLaw = (h : List Entry) → IsLegal h → EachWorld (λ w. NoTwoAlike w.tables) empty_world h
