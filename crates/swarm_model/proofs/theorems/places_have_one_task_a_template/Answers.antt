use Rattle.swarm_model.proofs.Laws.OneEach.{one-template}
use Rattle.swarm_model.proofs.theorems.places_have_one_task_a_template.Goals as goal

pub returns : goal.returns
returns c = one-template
