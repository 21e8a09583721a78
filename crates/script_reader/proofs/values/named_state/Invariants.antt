use Rattle.std.proofs.Common.{◌≡◌, drop}
use Rattle.std.specs.Prelude.{find}
use Rattle.std.specs.Str.{bytes_eq}
use Rattle.swarm_objects.specs.Values.Texts.{state_text}
use Rattle.script_reader.proofs.values.named_state.Given as goal

abbrev pub invariant-loop-state : goal.invariant-loop-state
invariant-loop-state l =
    find (λ s. bytes_eq (state_text s) l.word) l.states ≡ find (λ s. bytes_eq (state_text s) l.word) (drop l.state-index l.states)
