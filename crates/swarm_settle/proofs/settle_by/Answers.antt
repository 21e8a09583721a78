use Rattle.std.proofs.Common.{◌≡◌}
use Rattle.swarm_model.specs.Settle.{idle_answer}
use Rattle.swarm_objects.specs.World.{World}
use Rattle.swarm_settle.proofs.Promised.{promised}
use Rattle.swarm_settle.proofs.Standing.{stands_answer}
use Rattle.swarm_settle.proofs.settle_by.Goals as goal
use Rattle.swarm_settle.specs.Standing.{StandFor}

pub returns : goal.returns
returns g c =
    let t = g.R.Rows.tables c.args.rows.now in
    let s = c.args.sessions.now in
    let agents = c.args.agents.now in
    let says : (w : World) → StandFor t s agents w → c.idle_answer.result ≡ idle_answer w =
    stands_answer c.times_that_no_step_looks_at.ensures t s agents c.idle_answer.result c.idle_answer.ensures in
    record { answer = says; matched = promised t s agents c.idle_answer.result says }
