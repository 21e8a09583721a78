use Rattle.swarm_update.proofs.Forgetting.{none_kept}
use Rattle.swarm_update.proofs.kept_surveys.KeptSurveys.none.Goals as goal

pub returns : goal.returns
returns c = λ t. none_kept t
