use Rattle.std.proofs.Common.{◌∙◌}
use Rattle.plain_updates.proofs.WaitingPlaces.{any_replaced}
use Rattle.swarm_plain.specs.Plain.{tables_of}
use Rattle.plain_updates.proofs.updates.has_waiting_place.Goals as goal

pub returns : goal.returns
returns c = c.any_replacement.ensures ∙ any_replaced (tables_of c.args.plain.now) c.args.service.now
