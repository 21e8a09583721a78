use Rattle.std.proofs.Common.{leb, rules}
use Rattle.std.proofs.lemmas.List.Sorted.{IsPartitionPoint-from_clause, IsPartitionedBy-leb}
use Rattle.swarm_objects.proofs.Halves.{any_start}
use Rattle.swarm_objects.specs.Rows.{executor_task}
use Rattle.swarm_agent.proofs.searching.passing.Goals as goal

pub returns-clause-parted : goal.returns-clause-parted
returns-clause-parted c =
    IsPartitionPoint-from_clause (λ row. leb (executor_task row) c.args.after) _ _ c.partition_point.ensures.partitioned
    (IsPartitionedBy-leb executor_task c.args.rows.now c.args.after (any_start executor_task c.args.rows.now c.requires))
    (λ a r q k. search rules)
