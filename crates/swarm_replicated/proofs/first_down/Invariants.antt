use Rattle.std.proofs.Common.{◌≡◌}
use Rattle.std.specs.Prelude.{flat_map}
use Rattle.swarm_objects.specs.Loops.Replicated.{down_duty}
use Rattle.swarm_objects.specs.Rows.{first_of}
use Rattle.swarm_objects.specs.declared.services.Service.{Service}
use Rattle.swarm_replicated.proofs.Services.{AreRows}
use Rattle.swarm_replicated.proofs.first_down.Given as goal

abbrev pub invariant-loop-service : goal.invariant-loop-service
invariant-loop-service g l =
    let t = g.R.Rows.tables l.rows in
    record {
      rows : AreRows t l.service-iterator;
      first :
          first_of (flat_map (λ (s : Service). down_duty t s s.spec.mode) l.service-iterator)
          ≡ first_of (flat_map (λ (s : Service). down_duty t s s.spec.mode) t.services);
    }
