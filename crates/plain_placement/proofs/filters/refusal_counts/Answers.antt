use Rattle.swarm_plain.specs.Plain.{tables_of}
use Rattle.plain_placement.proofs.Filtering.{six_counts}
use Rattle.plain_placement.proofs.filters.refusal_counts.Goals as goal

pub returns : goal.returns
returns c =
    six_counts (tables_of c.args.plain.now) c.args.task.now c.refusals.result c.refusals-2.result c.refusals-3.result
    c.refusals-4.result c.refusals-5.result c.refusals-6.result c.refusals.ensures c.refusals-2.ensures
    c.refusals-3.ensures c.refusals-4.ensures c.refusals-5.ensures c.refusals-6.ensures
