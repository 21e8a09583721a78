use Rattle.std.proofs.Common.{◌<◌, length, sym, subst, arith}
use Rattle.swarm_model.specs.Script.{is_share, share}
use Rattle.swarm_objects.specs.Kinds.{roles}
use Rattle.swarm_loops.proofs.Dealing.{dealt_all, dealt_at, some_loop}
use Rattle.swarm_loops.proofs.sharing.share.Goals as goal

pub loop-role-preserved : goal.loop-role-preserved
loop-role-preserved c =
    dealt_at (is_share c.args.worker c.args.workers) c.is_share.result roles c.loop-role.role-index c.loop-role.shared
    c.add_if.new.shared (share c.args.worker c.args.workers) _ c.loop-role-test.true c.is_share.ensures
    c.in_ok-add_if.ensures c.loop-role.invariant

pub returns-clause-some : goal.returns-clause-some
returns-clause-some c =
    let is =
    dealt_all (is_share c.args.worker c.args.workers) roles c.loop-role.role-index c.loop-role.shared
    (share c.args.worker c.args.workers) (omega (arith, c.loop-role-test.false)) c.loop-role.invariant in
    subst (λ l. 0 < length l) (sym is) (some_loop c.args.worker c.args.workers c.requires.worker)
