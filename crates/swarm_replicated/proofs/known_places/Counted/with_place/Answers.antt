use Rattle.swarm_replicated.proofs.Remembering.{with-place}
use Rattle.swarm_replicated.proofs.known_places.Counted.with_place.Goals as goal

pub returns-clause-counted : goal.returns-clause-counted
returns-clause-counted g c =
    with-place (g.R.Rows.tables c.args.rows.now) c.args.service.now c.args.self c.args.number c.in_ok-held.held
    c.in_ok-gap.gap c.requires.counted c.requires.free c.in_ok-held.ensures.1 c.in_ok-gap.ensures
