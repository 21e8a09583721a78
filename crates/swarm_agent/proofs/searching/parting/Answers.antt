use Rattle.std.proofs.Common.{ltb, rules}
use Rattle.std.proofs.lemmas.List.Sorted.{IsPartitionPoint-from_clause}
use Rattle.swarm_objects.proofs.Halves.{lesser_first}
use Rattle.swarm_objects.specs.Rows.{executor_task}
use Rattle.swarm_agent.proofs.searching.parting.Goals as goal

pub returns-clause-parted : goal.returns-clause-parted
returns-clause-parted c =
    IsPartitionPoint-from_clause (λ row. ltb (executor_task row) c.args.task) _ _ c.partition_point.ensures.partitioned
    (lesser_first executor_task c.args.task c.args.rows.now c.requires) (λ a r q k. search rules)
