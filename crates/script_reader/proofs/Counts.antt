-- How many words a text has.
use Rattle.std.proofs.Common.{◌≤◌, ◌+◌, ℕ, List, length, arith, nat_eq}
use Rattle.std.proofs.lemmas.List.Splits.{length-slice_split}
use Rattle.std.proofs.lemmas.List.Sums.{count_by-le-length}
use Rattle.script_grammar.specs.Words.{words_of}

-- at most one more than it has bytes
pub words_few : (text : List ℕ) → length (words_of text) ≤ 1 + length text
words_few text = omega (arith, length-slice_split (λ b. nat_eq b 32) text, count_by-le-length (λ b. nat_eq b 32) text)
