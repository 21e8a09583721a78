use Rattle.script_maker.proofs.Reading.{script_is_read}
use Rattle.script_maker.proofs.theorems.scripts_are_in_the_grammar.Goals as goal

pub returns : goal.returns
returns c = script_is_read
