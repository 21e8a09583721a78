use Rattle.std.proofs.Common.{◌≡◌}
use Rattle.std.specs.Prelude.{flat_map}
use Rattle.swarm_objects.specs.Loops.Global.{leave_duties}
use Rattle.swarm_objects.specs.Rows.{first_of}
use Rattle.swarm_objects.specs.declared.services.Service.{Service}
use Rattle.swarm_global.proofs.leaving.first_leave.Given as goal

abbrev pub invariant-loop-service : goal.invariant-loop-service
invariant-loop-service g l =
    let t = g.R.Rows.tables l.rows in
    first_of (flat_map (λ (s : Service). leave_duties t s s.spec.mode) l.service-iterator)
    ≡ first_of (flat_map (λ (s : Service). leave_duties t s s.spec.mode) t.services)
