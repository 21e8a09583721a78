use Rattle.std.proofs.Common.{◌≡◌, ◌++◌, take, string_bytes}
use Rattle.std.specs.List.{flat_map}
use Rattle.script_writer.specs.Behind.{next_op_text}
use Rattle.script_writer.proofs.operations.put_ops.Given as goal

abbrev pub invariant-loop-op : goal.invariant-loop-op
invariant-loop-op l =
    string_bytes l.text ≡ string_bytes l.initial.text ++ flat_map next_op_text (take l.op-index l.more)
