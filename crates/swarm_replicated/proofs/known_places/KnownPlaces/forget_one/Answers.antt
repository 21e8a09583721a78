use Rattle.std.proofs.Common.{rules, sym, ◌∙◌}
use Rattle.swarm_replicated.proofs.Keeping.{one-touched, other-touched}
use Rattle.swarm_replicated.proofs.known_places.KnownPlaces.forget_one.Goals as goal

pub returns-in_default-clause-goes_on : goal.returns-in_default-clause-goes_on
returns-in_default-clause-goes_on g c =
    other-touched (g.R.Rows.tables c.args.rows.now) c.args.self.now c.args.service c.args.changes.now c.requires.usable
    (sym c.entry.ensures ∙ c.in_default.is) c.requires.touched c.requires.knows

pub returns-clause-goes_on : goal.returns-clause-goes_on
returns-clause-goes_on g c =
    one-touched (g.R.Rows.tables c.args.rows.now) c.args.self.now c.args.service c.slot_of.result
    c.args.changes.now c.requires.usable c.slot_of.ensures (search rules) c.requires.touched c.requires.knows
