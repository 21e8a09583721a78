use Rattle.std.proofs.Common.{◌≡◌, drop}
use Rattle.std.specs.Prelude.{find}
use Rattle.std.specs.Str.{bytes_eq}
use Rattle.swarm_objects.specs.DutyTexts.{loop_word}
use Rattle.script_reader.proofs.duties.named_loop.Given as goal

abbrev pub invariant-loop-role : goal.invariant-loop-role
invariant-loop-role l =
    find (λ r. bytes_eq (loop_word r) l.word) l.roles ≡ find (λ r. bytes_eq (loop_word r) l.word) (drop l.role-index l.roles)
