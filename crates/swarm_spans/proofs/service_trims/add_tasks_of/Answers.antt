use Rattle.std.specs.Prelude.{filter}
use Rattle.swarm_objects.specs.Tasks.Words.{is_of}
use Rattle.swarm_spans.proofs.Services.Trimming.{all_of, one_of}
use Rattle.swarm_spans.proofs.service_trims.add_tasks_of.Goals as goal

pub loop-task-preserved : goal.loop-task-preserved
loop-task-preserved g c =
    one_of (filter (is_of c.args.service) (g.R.Rows.tables c.args.rows.now).tasks) c.loop-task.task-iterator
    c.next.new.self c.args.span.now c.loop-task.span c.add_past.new.span c.in-Some.task.now c.loop-task.invariant
    c.in-Some.ensures.steps c.add_past.ensures.wider c.add_past.ensures.has

pub returns-clause-has : goal.returns-clause-has
returns-clause-has g c =
    all_of (g.R.Rows.tables c.args.rows.now) c.args.service c.loop-task.task-iterator c.args.span.now c.loop-task.span
    c.requires c.loop-task.invariant c.in-None.ensures.steps.0
