use Rattle.std.proofs.Common.{sym, ◌∙◌}
use Rattle.swarm_plain.proofs.Halves.{found_here, found_nowhere, found_other}
use Rattle.swarm_plain.proofs.halving.find_row.Goals as goal

pub returns-then-has_key : goal.returns-then-has_key
returns-then-has_key g c =
    found_here g.T.Keyed.key_of c.args.key c.lesser.result c.args.rows.now c.in-Some.row.now c.requires
    c.lesser.ensures.bound c.lesser.ensures.parted c.in-Some.ensures (sym c.has_key.ensures ∙ c.if-has_key.true)

pub returns-else-has_key : goal.returns-else-has_key
returns-else-has_key g c =
    found_other g.T.Keyed.key_of c.args.key c.lesser.result c.args.rows.now c.in-Some.row.now c.requires
    c.lesser.ensures.bound c.lesser.ensures.parted c.in-Some.ensures (sym c.has_key.ensures ∙ c.if-has_key.false)

pub returns-in-None : goal.returns-in-None
returns-in-None g c =
    found_nowhere g.T.Keyed.key_of c.args.key c.lesser.result c.args.rows.now c.requires c.lesser.ensures.bound
    c.lesser.ensures.parted c.in-None.ensures
