use Rattle.swarm_update.proofs.Marking.{tells_left}
use Rattle.swarm_update.proofs.survey.Survey.make_anew.Goals as goal

pub returns : goal.returns
returns g c =
    tells_left (record { places = c.loop-task.self.places; failures = c.loop-task.failures })
    (g.R.Rows.tables c.args.rows.now) c.args.service.now c.args.run.now c.loop-task.task-iterator
    c.in-None.ensures.steps.0 c.loop-task.invariant.places c.loop-task.invariant.sum
