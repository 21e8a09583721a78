use Rattle.swarm_spans.proofs.Firsts.{less_services}
use Rattle.swarm_world.proofs.known_lines.first_by_known.Goals as goal

pub loop-service-smaller : goal.loop-service-smaller
loop-service-smaller g c =
    less_services (g.R.Rows.tables c.args.rows.now) c.loop-service.span c.pass.new.self c.in-Some.service.now
    c.in-Some.ensures c.pass.ensures
