use Rattle.swarm_objects.specs.Rows.{executor_task}
use Rattle.swarm_agent.proofs.RowPlaces.{parted_before}
use Rattle.swarm_agent.proofs.searching.lesser.Goals as goal

pub returns-clause-count : goal.returns-clause-count
returns-clause-count c =
    parted_before executor_task c.args.task c.parting.result c.args.rows.now c.parting.ensures.bound
    c.parting.ensures.parted
