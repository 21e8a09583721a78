use Rattle.std.proofs.Common.{subst, sym}
use Rattle.swarm_objects.specs.declared.calls.Call.TheVariants as call
use Rattle.swarm_world.proofs.Entering.{are_usable}
use Rattle.swarm_world.proofs.Recorded.{usable_rows}
use Rattle.swarm_world.proofs.Ticking.{until_later, until_ticks}
use Rattle.swarm_world.proofs.marks.Marks.touch_call.Goals as goal
use Rattle.swarm_world.specs.Inside.Marks.{IsAfterCall}
use Rattle.swarm_world.specs.Inside.Records.{tables_of}

pub touch_time-requires : goal.touch_time-requires
touch_time-requires c = record {
  at = c.requires.at;
  marks = c.requires.marks;
  later =
      until_later (tables_of c.args.parts.now.records) c.now.result c.in-Tick.ms c.saturating_add.result
      (usable_rows c.args.parts.now.records (are_usable c.args.parts.now c.requires.at)) c.now.ensures
      c.saturating_add.ensures;
}

pub returns-in-Tick : goal.returns-in-Tick
returns-in-Tick c = λ h q legal stands marked is after.
    c.touch_time.ensures c.in-Tick.ms h q
    (until_ticks (tables_of c.args.parts.now.records) c.now.result c.in-Tick.ms c.saturating_add.result
    (usable_rows c.args.parts.now.records (are_usable c.args.parts.now c.requires.at)) c.now.ensures
    c.saturating_add.ensures) legal stands marked is
    (subst (λ call. IsAfterCall h call q) c.in-Tick.is after)

pub returns-in-Txn : goal.returns-in-Txn
returns-in-Txn c = λ h q legal stands marked is after.
    c.touch_ops.ensures h q legal stands marked is
    (subst (λ ops. IsAfterCall h (call.Txn ops) q) (sym c.as_slice.ensures)
    (subst (λ call. IsAfterCall h call q) c.in-Txn.is after))

pub returns-in_default : goal.returns-in_default
returns-in_default c = λ h q legal stands marked has after. c.touch_all.ensures q has
