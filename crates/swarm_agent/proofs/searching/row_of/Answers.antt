use Rattle.std.proofs.Common.{ap, ◌∙◌}
use Rattle.std.specs.Prelude.{slice_get}
use Rattle.swarm_agent.proofs.RowPlaces.{found_there}
use Rattle.swarm_agent.specs.Inside.Lookup.{of_task}
use Rattle.swarm_agent.proofs.searching.row_of.Goals as goal

pub returns : goal.returns
returns c =
    c.executor_at.ensures
    ∙ ap (λ n. of_task c.args.task (slice_get c.args.rows.now n)) c.lesser.ensures.count
    ∙ found_there c.args.task c.args.rows.now c.requires
