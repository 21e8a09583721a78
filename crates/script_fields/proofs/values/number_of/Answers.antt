use Rattle.script_fields.proofs.Readings.{parsed_number}
use Rattle.script_fields.proofs.values.number_of.Goals as goal

pub returns : goal.returns
returns c = parsed_number c.parsed.result c.args.word.now c.parsed.ensures.some c.parsed.ensures.none
