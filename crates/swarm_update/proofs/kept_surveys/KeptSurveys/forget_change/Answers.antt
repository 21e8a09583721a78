use Rattle.swarm_update.proofs.Forgetting.{told_put}
use Rattle.swarm_update.proofs.kept_surveys.KeptSurveys.forget_change.Goals as goal

pub returns-in-PutTask : goal.returns-in-PutTask
returns-in-PutTask g c =
    told_put (g.R.Rows.tables c.args.rows.now) c.args.change.now c.in-PutTask.task c.args.self.now
    c.forget_in-in-PutTask.new.self c.forget_row.new.self c.in-PutTask.is c.forget_in-in-PutTask.ensures
    c.forget_row.ensures
