use Rattle.std.proofs.Common.{ltb, rules}
use Rattle.std.proofs.lemmas.List.Sorted.{IsPartitionPoint-from_clause}
use Rattle.swarm_objects.proofs.Halves.{lesser_first}
use Rattle.swarm_plain.proofs.halving.lesser.Goals as goal

pub returns-clause-parted : goal.returns-clause-parted
returns-clause-parted g c =
    let key = g.T.Keyed.key_of in
    IsPartitionPoint-from_clause (λ row. ltb (key row) c.args.key) _ _ c.partition_point.ensures.partitioned
    (lesser_first key c.args.key c.args.rows.now c.requires) (λ a r q k. search rules)
