use Rattle.std.proofs.Common.{◌∙◌}
use Rattle.swarm_plain.proofs.Suspects.{suspects}
use Rattle.swarm_plain.specs.Plain.{tables_of}
use Rattle.swarm_plain.proofs.held.has_dirty_place.Goals as goal

pub returns : goal.returns
returns c = c.any_suspect.ensures ∙ suspects (tables_of c.args.plain.now) c.args.service.now
