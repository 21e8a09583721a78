use Rattle.std.proofs.Common.{arith, length, ap}
use Rattle.script_grammar.specs.Entries.{journal_grammar}
use Rattle.script_grammar.specs.Machines.{reads}
use Rattle.script_reader.proofs.Counts.{words_few}
use Rattle.script_reader.proofs.entries.read_words.Goals as goal

pub loop-word-init : goal.loop-word-init
loop-word-init c = (
  ap (reads journal_grammar 1 journal_grammar.start) c.new-words.ensures,
  omega (arith, words_few c.args.text.now, ap length c.new-words.ensures),
)
