use Rattle.std.proofs.Common.{string_bytes}
use Rattle.script_writer.proofs.Fronts.{next_constraint}
use Rattle.script_writer.proofs.rows.put_constraints.Goals as goal

pub loop-constraint-preserved : goal.loop-constraint-preserved
loop-constraint-preserved c =
    next_constraint c.args.constraints.now c.loop-constraint.constraint-index c.constraint-item.result c.loop-constraint-test.true c.constraint-item.is
    (string_bytes c.loop-constraint.text) (string_bytes c.put_constraint.new.text) _ c.in_ok-put_constraint.ensures c.loop-constraint.invariant
