use Rattle.std.proofs.Common.{ap, ◌∙◌, List}
use Rattle.std.specs.List.{list_any}
use Rattle.std.specs.Prelude.{filter, ◌&&◌}
use Rattle.swarm_objects.specs.Services.Words.{is_live_clean}
use Rattle.swarm_objects.specs.Tasks.Places.{is_in_place}
use Rattle.swarm_objects.specs.Tasks.Words.{is_running}
use Rattle.swarm_objects.specs.declared.tasks.Place.{Place}
use Rattle.swarm_objects.specs.declared.tasks.Task.{Task}
use Rattle.swarm_plain.proofs.Passes.{any_both}
use Rattle.swarm_plain.specs.Plain.{tables_of}
use Rattle.plain_updates.proofs.updates.has_running_clean.Goals as goal

pub returns : goal.returns
returns c =
    let s = c.args.service.now in
    let place = c.place_at-place.result in
    let runs = λ (x : Task). is_live_clean s x && is_running x in
    let tasks = (tables_of c.args.plain.now).tasks in
    c.any_running.ensures
    ∙ ap (λ (xs : List Task). list_any (λ (x : Task). is_in_place s place x && runs x) xs) c.as_slice.ensures
    ∙ any_both (is_in_place s place) runs tasks
    ∙ ap (λ (p : Place). list_any runs (filter (is_in_place s p) tasks)) c.place_at-place.ensures
