use Rattle.std.proofs.Common.{ltb, rules}
use Rattle.std.proofs.lemmas.List.Sorted.{IsPartitionPoint-from_clause}
use Rattle.swarm_objects.proofs.Halves.{lesser_first}
use Rattle.swarm_objects.specs.Rows.{session_node}
use Rattle.swarm_sessions.proofs.searching.parting.Goals as goal

pub returns-clause-parted : goal.returns-clause-parted
returns-clause-parted c =
    IsPartitionPoint-from_clause (λ row. ltb (session_node row) c.args.node) _ _ c.partition_point.ensures.partitioned
    (lesser_first session_node c.args.node c.args.rows.now c.requires) (λ a r q k. search rules)
