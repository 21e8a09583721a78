-- When numbers are to join a span: a time for each word of its bits.
use Rattle.std.specs.Prelude.{slice_index_or, ℕ}
use Rattle.swarm_spans.specs.Bits.{word_of}
use Rattle.swarm_spans.specs.declared.wakes.Wakes.{Wakes}

-- at most when the number is to join
abbrev pub wake_at : Wakes → ℕ → ℕ
wake_at w id = slice_index_or w.times (word_of id) 0
