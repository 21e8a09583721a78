use Rattle.swarm_store.proofs.Ports.{drop_counts}
use Rattle.swarm_store.proofs.service_rows.Services.remove.Goals as goal

pub invariant_of-self : goal.invariant_of-self
invariant_of-self c =
    drop_counts c.remove-done.result c.args.id c.self.inside.rows.rows c.remove-done.new.self.rows c.self.inside.ports c.leave.new.ports
    c.enter.new.ports c.rise.ensures c.rise-2.ensures c.remove-done.ensures.ok c.remove-done.ensures.err c.self.invariant
    c.leave.ensures c.enter.ensures
