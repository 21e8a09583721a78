use Rattle.std.proofs.Common.{◌≡◌, drop, []}
use Rattle.swarm_model.specs.Calls.Operations.{apply_ops}
use Rattle.swarm_store.proofs.state.State.apply_ops.Given as goal
use Rattle.swarm_store.specs.Inside.Done.{made_all}
use Rattle.swarm_store.specs.Inside.State.{Stands, tables_now, tables_start, world_now}

-- the operations that are left decide
abbrev pub invariant-loop-op : goal.invariant-loop-op
invariant-loop-op l = record {
  left : made_all (apply_ops l.version l.ops (world_now l.fn.self) [])
      ≡ made_all (apply_ops l.version (drop l.op-index l.ops) (world_now l.self) l.ids);
  stands : Stands (tables_now l.self);
  start : tables_start l.self ≡ tables_start l.fn.self;
}
