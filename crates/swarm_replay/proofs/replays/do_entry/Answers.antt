use Rattle.std.proofs.Common.{◌≡◌, false, refl}
use Rattle.swarm_model.specs.History.{may_follow}
use Rattle.swarm_replay.proofs.replays.do_entry.Goals as goal

pub returns-in-Ok : goal.returns-in-Ok
returns-in-Ok c = c.in-Ok.ensures

pub returns-in-Err-Illegal : goal.returns-in-Err-Illegal
returns-in-Err-Illegal c =
    let not_next : may_follow c.args.world.now c.args.what.now ≡ false =
    rw c.in-Err-Illegal.field-0-is at c.in-Err-Illegal.ensures in
    (refl, not_next)
