use Rattle.swarm_plain.specs.Plain.{tables_of}
use Rattle.role_words.proofs.Tallying.{tells_rows}
use Rattle.swarm_plain.proofs.held.tally.Goals as goal

pub returns : goal.returns
returns c =
    tells_rows c.args.from (tables_of c.args.plain.now) c.args.service.now c.as_slice.result.now c.tally_of.result
    c.as_slice.ensures c.tally_of.ensures
