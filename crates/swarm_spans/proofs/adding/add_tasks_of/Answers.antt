use Rattle.swarm_objects.specs.Tasks.Words.{is_of}
use Rattle.swarm_spans.proofs.Grown.{all_added, one_added}
use Rattle.swarm_spans.proofs.adding.add_tasks_of.Goals as goal

pub loop-task-preserved : goal.loop-task-preserved
loop-task-preserved g c =
    one_added (is_of c.args.service) (g.R.Rows.tables c.args.rows.now) c.loop-task.task-iterator c.next.new.self
    c.args.span.now c.loop-task.span c.add.new.self c.in-Some.task.now c.requires c.loop-task.invariant
    c.in-Some.ensures.steps c.add.ensures

pub returns-clause-all : goal.returns-clause-all
returns-clause-all g c =
    all_added c.args.service (g.R.Rows.tables c.args.rows.now) c.loop-task.task-iterator c.args.span.now
    c.loop-task.span c.loop-task.invariant c.in-None.ensures.steps.0
