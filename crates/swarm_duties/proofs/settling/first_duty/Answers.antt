use Rattle.std.proofs.Common.{sym, ◌∙◌}
use Rattle.swarm_duties.proofs.Heads.{passed_at}
use Rattle.swarm_objects.specs.Duties.{first_duty}
use Rattle.swarm_objects.specs.Kinds.{roles}
use Rattle.swarm_plain.specs.Plain.{world_of}
use Rattle.swarm_duties.proofs.settling.first_duty.Goals as goal

pub loop-role-preserved : goal.loop-role-preserved
loop-role-preserved c =
    let w = world_of c.args.plain.now in
    passed_at w roles c.loop-role.role-index _ c.in_ok-duty.duty (first_duty w roles) c.loop-role-test.true
    c.in_ok-duty.ensures (sym c.is_some.ensures ∙ c.if-is_some.false) c.loop-role.invariant
