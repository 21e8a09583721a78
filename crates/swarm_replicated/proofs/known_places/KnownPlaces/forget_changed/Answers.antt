use Rattle.std.proofs.Common.{subst, true, ◌≡◌}
use Rattle.swarm_objects.specs.ChangeLists.{apply_changes}
use Rattle.swarm_replicated.proofs.Keeping.{none-touched}
use Rattle.swarm_replicated.proofs.known_places.KnownPlaces.forget_changed.Goals as goal
use Rattle.swarm_replicated.specs.Inside.Reach.{reach_only}
use Rattle.swarm_replicated.specs.Inside.Touches.{touches_only}

pub returns-in-Nothing-clause-goes_on : goal.returns-in-Nothing-clause-goes_on
returns-in-Nothing-clause-goes_on g c =
    none-touched (g.R.Rows.tables c.args.rows.now) c.args.self.now c.touched_together.result c.args.changes.now
    c.requires.usable c.in-Nothing.is c.touched_together.ensures c.requires.knows

pub forget_one-requires-clause-touched : goal.forget_one-requires-clause-touched
forget_one-requires-clause-touched g c =
    subst (λ r. reach_only (touches_only (g.R.Rows.tables c.args.rows.now)) r c.args.changes.now ≡ true)
    c.in-One.is c.touched_together.ensures

pub returns-in-More-clause-stays : goal.returns-in-More-clause-stays
returns-in-More-clause-stays g c = c.forget_all.ensures (g.R.Rows.tables c.args.rows.now)

pub returns-in-More-clause-goes_on : goal.returns-in-More-clause-goes_on
returns-in-More-clause-goes_on g c =
    c.forget_all.ensures (apply_changes (g.R.Rows.tables c.args.rows.now) c.args.changes.now)
