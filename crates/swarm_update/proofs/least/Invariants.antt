use Rattle.std.proofs.Common.{◌≡◌}
use Rattle.std.specs.Prelude.{flat_map}
use Rattle.swarm_objects.specs.Loops.Update.{update, update_duties}
use Rattle.swarm_objects.specs.Rows.{first_of}
use Rattle.swarm_objects.specs.declared.services.Service.{Service}
use Rattle.swarm_update.proofs.Walking.{AreRows}
use Rattle.swarm_update.proofs.least.Given as goal
use Rattle.swarm_update.specs.KnownSurvey.{Knows}

abbrev pub invariant-loop-service : goal.invariant-loop-service
invariant-loop-service g l =
    let t = g.R.Rows.tables l.rows in
    record {
      first : first_of (flat_map (λ (s : Service). update_duties t s s.spec.mode) l.service-iterator)
          ≡ first_of (update t);
      rows : AreRows t l.service-iterator;
      knows : Knows t l.known;
    }
