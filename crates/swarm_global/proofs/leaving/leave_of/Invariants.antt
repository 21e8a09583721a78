use Rattle.std.proofs.Common.{◌≡◌, map}
use Rattle.std.specs.Prelude.{filter}
use Rattle.swarm_objects.specs.Loops.Global.{is_to_leave, leave_duties}
use Rattle.swarm_objects.specs.Rows.{first_of}
use Rattle.swarm_objects.specs.declared.duties.Duty.TheVariants as duty
use Rattle.swarm_objects.specs.declared.services.Mode.TheVariants as mode
use Rattle.swarm_global.proofs.leaving.leave_of.Given as goal

abbrev pub invariant-loop-node : goal.invariant-loop-node
invariant-loop-node g l =
    let t = g.R.Rows.tables l.rows in
    first_of (map (duty.Leave l.service.id) (filter (is_to_leave t l.service) l.node-iterator))
    ≡ first_of (leave_duties t l.service mode.Global)
