use Rattle.swarm_update.proofs.Walking.{row_is}
use Rattle.swarm_update.proofs.least.Goals as goal

pub update_duty_by-requires-clause-row : goal.update_duty_by-requires-clause-row
update_duty_by-requires-clause-row g c =
    row_is (g.R.Rows.tables c.args.rows.now) c.loop-service.service-iterator c.next.new.self c.in-Some.service.now
    c.in-Some.ensures.steps c.loop-service.invariant.rows c.requires
