use Rattle.std.proofs.Common.{◌≡◌, length, drop, []}
use Rattle.swarm_model.specs.Calls.Operations.{apply_ops}
use Rattle.swarm_plain.proofs.Plain.apply_ops.Given as goal
use Rattle.swarm_plain.specs.Operations.{HasRoom}
use Rattle.swarm_plain.specs.Plain.{tables_of, world_of}

-- the operations that are left decide, and there is room for them
abbrev pub invariant-loop-op : goal.invariant-loop-op
invariant-loop-op l = record {
  left : apply_ops l.version l.ops (world_of l.fn.self) [] ≡
      apply_ops l.version (drop l.op-index l.ops) (world_of l.self) l.ids;
  room : HasRoom (length (drop l.op-index l.ops)) (tables_of l.self);
}
