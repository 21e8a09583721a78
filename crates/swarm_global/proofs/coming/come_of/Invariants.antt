use Rattle.std.proofs.Common.{◌≡◌}
use Rattle.swarm_objects.specs.Loops.Global.{come_duties, is_missing}
use Rattle.swarm_objects.specs.Loops.Words.{duty_where}
use Rattle.swarm_objects.specs.Rows.{first_of}
use Rattle.swarm_objects.specs.declared.duties.Duty.TheVariants as duty
use Rattle.swarm_objects.specs.declared.services.Mode.TheVariants as mode
use Rattle.swarm_global.proofs.coming.come_of.Given as goal

abbrev pub invariant-loop-node : goal.invariant-loop-node
invariant-loop-node g l =
    let t = g.R.Rows.tables l.rows in
    first_of (duty_where (is_missing t l.service) (λ n. duty.GlobalCreate l.service.id n.id) l.node-iterator)
    ≡ first_of (come_duties t l.service mode.Global)
