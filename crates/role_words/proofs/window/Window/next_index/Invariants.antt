use Rattle.role_words.specs.Windows.{NoneBefore}
use Rattle.role_words.proofs.window.Window.next_index.Given as goal

abbrev pub invariant-loop-index : goal.invariant-loop-index
invariant-loop-index l = NoneBefore l.index l.self
