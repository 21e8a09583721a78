use Rattle.std.proofs.Common.{ap, ◌∙◌}
use Rattle.std.specs.Prelude.{flat_map}
use Rattle.swarm_objects.specs.Rows.{first_of}
use Rattle.swarm_sched.proofs.Nearing.{waiting_decide}
use Rattle.swarm_sched.proofs.near.least_near.Goals as goal
use Rattle.swarm_sched.specs.Inside.Nearing.{schedule_at}

pub loop-id-init : goal.loop-id-init
loop-id-init g c =
    let t = g.R.Rows.tables c.args.rows.now in
    ap (λ ids. first_of (flat_map (schedule_at t) ids)) c.as_slice-waiting.ensures
    ∙ waiting_decide t c.args.near.now c.requires.usable c.requires.near
