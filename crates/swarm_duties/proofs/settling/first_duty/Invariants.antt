use Rattle.std.proofs.Common.{◌≡◌, drop}
use Rattle.swarm_objects.specs.Duties.{first_duty}
use Rattle.swarm_objects.specs.Kinds.{roles}
use Rattle.swarm_plain.specs.Plain.{world_of}
use Rattle.swarm_duties.proofs.settling.first_duty.Given as goal

-- the first duty of the loops that are left is the first of all
abbrev pub invariant-loop-role : goal.invariant-loop-role
invariant-loop-role l =
    let w = world_of l.plain in first_duty w (drop l.role-index roles) ≡ first_duty w roles
