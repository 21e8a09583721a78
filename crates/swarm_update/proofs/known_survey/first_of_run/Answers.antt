use Rattle.swarm_update.proofs.Forgetting.{survey_tells}
use Rattle.swarm_update.proofs.known_survey.first_of_run.Goals as goal
use Rattle.swarm_update.specs.KnownSurvey.{slot_in}

pub first_open-requires-clause-tells : goal.first_open-requires-clause-tells
first_open-requires-clause-tells g c =
    survey_tells (g.R.Rows.tables c.args.rows.now) c.args.service.now c.args.run.now
    (slot_in c.look.new.self.kept c.args.service.now.id) c.in-Some.survey.now c.in-Some.ensures c.look.ensures.tells
