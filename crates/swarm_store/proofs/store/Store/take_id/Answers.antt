use Rattle.std.proofs.Common.{◌+◌, ap}
use Rattle.swarm_objects.specs.World.{Tables}
use Rattle.swarm_store.proofs.Standing.{stands-next}
use Rattle.swarm_store.proofs.store.Store.take_id.Goals as goal
use Rattle.swarm_store.specs.Inside.State.{tables_now}

pub invariant_of-self : goal.invariant_of-self
invariant_of-self c =
    let t = tables_now c.self.inside.state in
    let was = c.self.invariant in
    record {
      same = ap (λ (u : Tables). record u { next_id = t.next_id + 1 }) was.same;
      changed = was.changed;
      stands = stands-next t was.stands;
    }
