use Rattle.swarm_spans.proofs.PutAnew.{tasks_put, tasks_stay}
use Rattle.swarm_spans.proofs.task_spans.TaskSpans.touch_service.Goals as goal

pub returns-clause-stays : goal.returns-clause-stays
returns-clause-stays g c =
    tasks_stay (g.R.Rows.tables c.args.rows.now) c.args.self.now c.join.new.self c.join-2.new.self c.join-3.new.self
    c.join-4.new.self c.join-5.new.self c.join-6.new.self c.join.ensures.wider c.join-2.ensures.wider
    c.join-3.ensures.wider c.join-4.ensures.wider c.join-5.ensures.wider c.join-6.ensures.wider

pub returns-clause-goes_on : goal.returns-clause-goes_on
returns-clause-goes_on g c =
    tasks_put (g.R.Rows.tables c.args.rows.now) c.args.self.now c.args.service c.add_tasks_of.new.span c.join.new.self
    c.join-2.new.self c.join-3.new.self c.join-4.new.self c.join-5.new.self c.join-6.new.self c.requires
    c.add_tasks_of.ensures.all c.join.ensures.wider c.join.ensures.all c.join-2.ensures.wider
    c.join-2.ensures.all c.join-3.ensures.wider c.join-3.ensures.all c.join-4.ensures.wider c.join-4.ensures.all
    c.join-5.ensures.wider c.join-5.ensures.all c.join-6.ensures.wider c.join-6.ensures.all
