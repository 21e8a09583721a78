use Rattle.std.proofs.Common.{ap, ◌∙◌}
use Rattle.swarm_objects.specs.declared.templates.Template.{Template}
use Rattle.tests_calls.proofs.Counted.{for_task, has_added, stands_again}
use Rattle.tests_calls.proofs.spread.best_after.Goals as goal

pub drop_task-requires : goal.drop_task-requires
drop_task-requires g c =
    has_added (g.R.Rows.tables c.args.rows.now) c.args.task.now.service c.as_slice.result.now c.args.node c.in_ok-tree.tree
    c.add.new.self c.in_ok-tree.ensures.counts c.add.ensures.count

pub best-found-requires-clause-own : goal.best-found-requires-clause-own
best-found-requires-clause-own g c =
    for_task (g.R.Rows.tables c.args.rows.now) c.args.task.now c.as_slice.result.now c.args.node c.in_ok-tree.tree
    c.add.new.self c.drop_task.new.self c.in_ok-tree.ensures.counts c.add.ensures.count c.drop_task.ensures
    (c.as_slice.ensures ∙ ap (λ (t : Template). t.spread) c.deref.ensures)

pub best-found-requires-clause-stands : goal.best-found-requires-clause-stands
best-found-requires-clause-stands g c =
    stands_again (g.R.Rows.tables c.args.rows.now) c.args.task.now.service c.as_slice.result.now c.args.node
    c.in_ok-tree.tree c.add.new.self c.drop_task.new.self c.in_ok-tree.ensures.counts c.add.ensures.count c.drop_task.ensures
