use Rattle.std.proofs.Common.{rules, ◌≡◌, ◌∙◌}
use Rattle.std.specs.Prelude.{count_by, ◌&&◌}
use Rattle.swarm_objects.proofs.Filters.{count_both}
use Rattle.swarm_objects.specs.Loops.Reaper.{is_past}
use Rattle.swarm_objects.specs.Tasks.Places.{is_in_place}
use Rattle.swarm_objects.specs.declared.tasks.Task.{Task}
use Rattle.plain_orchestrators.proofs.reaper.past_count.Goals as goal

pub returns : goal.returns
returns c =
    let in_place = is_in_place c.args.service.now c.args.place in
    let both = λ (x : Task). in_place x && is_past x in
    let counted : c.count.result ≡ count_by both c.args.tasks.now = search rules in
    counted ∙ count_both in_place is_past c.args.tasks.now
