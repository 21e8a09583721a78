use Rattle.swarm_replicated.proofs.Remembering.{without-place}
use Rattle.swarm_replicated.proofs.known_places.Counted.without_place.Goals as goal

pub returns-clause-counted : goal.returns-clause-counted
returns-clause-counted c left rises none counted =
    without-place c.args.self c.args.number c.in_ok-held.held c.gap_without-gap.result left c.in_ok-held.ensures.1
    (c.gap_without-gap.ensures left rises none) none counted
