use Rattle.std.proofs.Common.{◌∙◌}
use Rattle.swarm_objects.specs.Rows.{executor_task}
use Rattle.swarm_agent.proofs.RowPlaces.{left_above}
use Rattle.swarm_agent.proofs.searching.rows_above.Goals as goal

pub returns : goal.returns
returns c =
    c.rows_from.ensures
    ∙ left_above executor_task c.args.after c.passing.result c.args.rows.now c.requires c.passing.ensures.bound
    c.passing.ensures.parted
