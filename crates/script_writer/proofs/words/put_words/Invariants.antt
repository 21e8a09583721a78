use Rattle.std.proofs.Common.{◌≡◌, ◌++◌, drop, map, string_bytes}
use Rattle.script_writer.specs.Behind.{behind}
use Rattle.script_writer.proofs.words.put_words.Given as goal

abbrev pub invariant-loop-word : goal.invariant-loop-word
invariant-loop-word l =
    string_bytes l.text ++ behind (map (λ w. w.now) (drop l.word-index l.words)) ≡ string_bytes l.initial.text ++ behind (map (λ w. w.now) l.words)
