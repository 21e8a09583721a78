use Rattle.std.proofs.Common.{◌≤◌, ◌+◌, OnOk, arith, length, subst}
use Rattle.swarm_objects.specs.Limits.{most_ops}
use Rattle.swarm_store.proofs.Counting.{few-told}
use Rattle.swarm_store.proofs.Transacting.{few-ops, transacted-any}
use Rattle.swarm_store.proofs.store.Store.txn.Goals as goal
use Rattle.swarm_store.specs.Inside.State.{tables_now}
use Rattle.swarm_store.specs.Stored.{Stored, row_count}

pub returns-clause-done : goal.returns-clause-done
returns-clause-done c = λ w stands.
    transacted-any c.args.version c.args.ops.now w c.args.self.now (tables_now c.self.inside.state) (tables_now c.transact.new.self)
    c.self.inside.changes.items c.transact.new.events.items c.transact.result c.self.view_is stands
    (few-ops most_ops (length c.args.ops.now) (omega (arith, c.if-count-gt-MOST_OPS.false))) c.transact.ensures.done
    c.transact.ensures.ok c.transact.ensures.err

pub returns-clause-few : goal.returns-clause-few
returns-clause-few c =
    subst (λ (s : Stored). OnOk c.transact.result (length c.transact.new.events.items ≤ row_count s.tables + length c.args.ops.now))
    c.self.view_is
    (few-told c.args.version c.args.ops.now (tables_now c.self.inside.state) (tables_now c.transact.new.self)
    c.transact.new.events.items c.transact.result c.transact.ensures.done c.transact.ensures.ok)
