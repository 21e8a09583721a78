use Rattle.swarm_store.proofs.Ports.{back_counts}
use Rattle.swarm_store.proofs.service_rows.Services.take_back_last.Goals as goal

pub invariant_of-self-2 : goal.invariant_of-self-2
invariant_of-self-2 c =
    back_counts c.in-Some.was.id c.in-Some.was.row c.self.inside.rows.rows c.take_back_last.new.self.rows c.self.inside.ports
    c.leave_row.new.ports c.enter.new.ports c.rise.ensures c.rise-2.ensures c.in-Some.ensures.row c.in-Some.ensures.others
    c.self.invariant c.leave_row.ensures c.enter.ensures
