use Rattle.std.proofs.Common.{ap, set, sym, ◌∙◌}
use Rattle.swarm_objects.specs.Rows.{task_id}
use Rattle.plain_placement.specs.Allocating.{given_addresses}
use Rattle.plain_placement.proofs.AllocatorEffects.{changed_none, changed_one}
use Rattle.plain_placement.proofs.allocator.address.Goals as goal

pub returns-in-Some : goal.returns-in-Some
returns-in-Some c =
    let tasks = c.args.tasks.now in
    let at = c.in-Some.at in
    let given = given_addresses c.args.version c.args.now c.args.addresses in
    ap (λ x. set tasks at x) (c.take_addresses.ensures ∙ ap given (sym c.index-tasks-at.is))
    ∙ changed_one task_id c.args.id given tasks at c.index-tasks-at.result c.requires (sym c.in-Some.ensures)
    c.index-tasks-at.is

pub returns-in_default : goal.returns-in_default
returns-in_default c =
    changed_none task_id c.args.id (given_addresses c.args.version c.args.now c.args.addresses) c.args.tasks.now
    (sym c.in_default.ensures)
