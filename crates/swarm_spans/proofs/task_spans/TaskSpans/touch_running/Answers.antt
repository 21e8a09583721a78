use Rattle.swarm_spans.proofs.TasksRun.{run_goes_on, run_stays}
use Rattle.swarm_spans.proofs.task_spans.TaskSpans.touch_running.Goals as goal

pub returns-clause-stays : goal.returns-clause-stays
returns-clause-stays g c =
    run_stays (g.R.Rows.tables c.args.rows.now) c.args.self.now c.touch_moved.new.span c.touch_moved.ensures.wider
    c.requires.covers

pub returns-clause-goes_on : goal.returns-clause-goes_on
returns-clause-goes_on g c after =
    run_goes_on (g.R.Rows.tables c.args.rows.now) c.args.changes.now c.args.self.now c.touch_moved.new.span
    c.requires.usable after c.requires.running c.requires.covers c.touch_moved.ensures.wider
    c.touch_moved.ensures.touches
