use Rattle.std.specs.Prelude.{filter}
use Rattle.swarm_objects.specs.Tasks.Words.{is_at}
use Rattle.swarm_spans.proofs.Blocked.{all_waiting, one_waiting}
use Rattle.swarm_spans.proofs.adding.add_waiting_beside.Goals as goal

pub loop-task-preserved : goal.loop-task-preserved
loop-task-preserved g c =
    one_waiting (filter (is_at c.args.one.now.service c.args.one.now.place) (g.R.Rows.tables c.args.rows.now).tasks)
    c.loop-task.task-iterator c.next.new.self c.args.span.now c.loop-task.span c.add_to_wait.new.span
    c.in-Some.task.now c.loop-task.invariant c.in-Some.ensures.steps c.add_to_wait.ensures.wider
    c.add_to_wait.ensures.has

pub returns-clause-all : goal.returns-clause-all
returns-clause-all g c =
    all_waiting (g.R.Rows.tables c.args.rows.now) c.args.one.now c.loop-task.task-iterator c.args.span.now
    c.loop-task.span c.requires c.loop-task.invariant c.in-None.ensures.steps.0
