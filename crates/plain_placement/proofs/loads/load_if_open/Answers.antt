use Rattle.std.proofs.Common.{sym, ◌∙◌}
use Rattle.swarm_plain.specs.Plain.{tables_of}
use Rattle.plain_placement.proofs.Loading.{unsuited}
use Rattle.plain_placement.proofs.loads.load_if_open.Goals as goal

pub returns-else-suits : goal.returns-else-suits
returns-else-suits c =
    unsuited (tables_of c.args.plain.now) c.args.task.now c.args.node.now (sym c.suits.ensures ∙ c.if-suits.false)
