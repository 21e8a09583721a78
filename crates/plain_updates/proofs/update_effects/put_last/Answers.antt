use Rattle.plain_updates.proofs.UpdateSteps.{all_stopped}
use Rattle.plain_updates.proofs.update_effects.put_last.Goals as goal

pub returns-clause-ok : goal.returns-clause-ok
returns-clause-ok c =
    let s = c.args.service.now in
    all_stopped c.args.version s c.args.number s.spec.update.order c.args.tasks.now c.add.new.list
    c.as_mut_slice.result.now
    c.stop_by_order.new.tasks c.args.task c.len-count.result c.in_ok-add.ensures.ok c.len-count.ensures
    c.as_mut_slice.ensures.value c.stop_by_order.ensures
