-- The first duty of a control loop is due.
use Rattle.std.proofs.Common.{◌≡◌, true, List, [], ◌∷◌, Some, inl, sym, subst}
use Rattle.swarm_model.proofs.Base.DutyLists.{due-Has}
use Rattle.swarm_model.proofs.Base.FromLists.{role_of-Has}
use Rattle.swarm_objects.specs.Duties.{duties, is_due}
use Rattle.swarm_objects.specs.Kinds.{role_of}
use Rattle.swarm_objects.specs.Rows.{Has, first_of}
use Rattle.swarm_objects.specs.World.{World}
use Rattle.swarm_objects.specs.declared.duties.Duty.{Duty}
use Rattle.swarm_objects.specs.declared.loops.Role.{Role}

first_has : (ds : List Duty) (d : Duty) → first_of ds ≡ Some d → Has ds d
first_has [] d e = absurd cc
first_has (x ∷ ds) d e = inl cc

pub role_of_first : (r : Role) (w : World) (d : Duty) → first_of (duties r w) ≡ Some d → role_of d ≡ r
role_of_first r w d e = role_of-Has r w d (first_has (duties r w) d e)

-- the first duty of a control loop is due
pub due_of_first : (r : Role) (w : World) (d : Duty) → first_of (duties r w) ≡ Some d → is_due w d ≡ true
due_of_first r w d e =
    due-Has w d (subst (λ z. Has (duties z w) d) (sym (role_of_first r w d e)) (first_has (duties r w) d e))
