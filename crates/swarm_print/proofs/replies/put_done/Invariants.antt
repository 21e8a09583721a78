use Rattle.std.proofs.Common.{◌≡◌, ◌++◌, take, string_bytes}
use Rattle.std.specs.List.{flat_map}
use Rattle.swarm_print.specs.Texts.{id_text}
use Rattle.swarm_print.proofs.replies.put_done.Given as goal

abbrev pub invariant-loop-id : goal.invariant-loop-id
invariant-loop-id l = string_bytes l.text ≡ string_bytes l.initial.text ++ flat_map id_text (take l.id-index l.ids)
