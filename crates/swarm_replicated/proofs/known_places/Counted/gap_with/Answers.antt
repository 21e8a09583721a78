use Rattle.swarm_objects.specs.Tasks.Places.{held_places}
use Rattle.swarm_replicated.proofs.Remembering.{gap-kept, held-rise}
use Rattle.swarm_replicated.proofs.known_places.Counted.gap_with.Goals as goal

pub returns-else-number-self : goal.returns-else-number-self
returns-else-number-self g c =
    let t = g.R.Rows.tables c.args.rows.now in
    gap-kept c.args.self (held_places t c.args.service.now) c.args.number (held-rise t c.args.service.now)
    c.requires.counted c.if-number-self.false
