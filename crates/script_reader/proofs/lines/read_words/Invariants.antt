use Rattle.std.proofs.Common.{◌≡◌, ◌+◌, ◌≤◌, length}
use Rattle.script_grammar.specs.Lines.{script_grammar}
use Rattle.script_grammar.specs.Machines.{meaning, reads}
use Rattle.script_grammar.specs.Words.{words_of}
use Rattle.script_reader.proofs.lines.read_words.Given as goal

abbrev pub invariant-loop-word : goal.invariant-loop-word
invariant-loop-word l =
    (reads script_grammar l.place l.state l.words ≡ meaning script_grammar (words_of l.text)) ×
    (l.place + length l.words ≤ 2 + length l.text)

abbrev pub decreases-loop-word : goal.decreases-loop-word
decreases-loop-word l = length l.words
