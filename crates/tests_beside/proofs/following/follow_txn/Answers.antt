use Rattle.std.proofs.Common.{subst}
use Rattle.tests_beside.proofs.Standing.{done}
use Rattle.tests_beside.proofs.following.follow_txn.Goals as goal
use Rattle.tests_beside.specs.Made.{Transacted}

pub returns-then-is_done : goal.returns-then-is_done
returns-then-is_done c =
    let version = c.in_ok-version.version in
    let made = subst (λ b. Transacted version c.args.ops.now b c.args.store.now c.transact.new.store) c.if-is_done.true
    c.in_ok-is_done.ensures in
    done version c.args.ops.now c.args.replay.now c.step.new.replay c.args.what.now c.transact.new.store
    c.in_ok-version.ensures c.requires.what (made c.args.replay.now c.requires.stands) c.in_ok-step.ensures
