use Rattle.std.proofs.Common.{◌∙◌}
use Rattle.swarm_objects.specs.Services.Runs.{is_flying}
use Rattle.swarm_objects.specs.Tasks.Places.{is_in_place}
use Rattle.swarm_plain.proofs.Passes.{any_both}
use Rattle.swarm_plain.specs.Plain.{tables_of}
use Rattle.plain_updates.proofs.runs.is_in_flight.Goals as goal

pub returns : goal.returns
returns c =
    let t = tables_of c.args.plain.now in
    let s = c.args.service.now in
    c.any_flying.ensures ∙ any_both (is_in_place s c.args.item.now.place) (is_flying t s) t.tasks
