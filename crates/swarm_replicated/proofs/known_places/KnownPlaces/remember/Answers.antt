use Rattle.std.proofs.Common.{rules}
use Rattle.swarm_replicated.proofs.Keeping.{slot-filled}
use Rattle.swarm_replicated.proofs.known_places.KnownPlaces.remember.Goals as goal

pub returns-in-Some : goal.returns-in-Some
returns-in-Some c t knows after =
    slot-filled t c.args.self.now c.slot_of.result c.in-Some.counted c.slot_of.ensures (search rules) knows
    (search rules)
