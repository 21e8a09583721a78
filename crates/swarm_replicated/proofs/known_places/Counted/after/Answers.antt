use Rattle.std.proofs.Common.{subst, sym, true, ◌≡◌}
use Rattle.swarm_replicated.proofs.Recounting.{none-other}
use Rattle.swarm_replicated.proofs.known_places.Counted.after.Goals as goal
use Rattle.swarm_replicated.specs.Inside.PlaceChanges.{spares}
use Rattle.swarm_replicated.specs.Inside.Reach.{reach_only}

pub returns-in-Nothing-clause-counted : goal.returns-in-Nothing-clause-counted
returns-in-Nothing-clause-counted g c =
    none-other (g.R.Rows.tables c.args.rows.now) c.in-Some.service.now c.args.self c.places_together.result
    c.args.changes.now c.requires.usable c.requires.counted (sym c.in-Some.ensures) c.in-Nothing.is
    c.places_together.ensures

pub after_place-requires-clause-spared : goal.after_place-requires-clause-spared
after_place-requires-clause-spared g c =
    subst (λ r. reach_only (spares (g.R.Rows.tables c.args.rows.now) c.in-Some.service.now) r c.args.changes.now ≡ true)
    c.in-One.is c.places_together.ensures
