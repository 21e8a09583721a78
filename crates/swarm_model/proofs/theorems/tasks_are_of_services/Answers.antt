use Rattle.swarm_model.proofs.Laws.OfService.{of-services}
use Rattle.swarm_model.proofs.theorems.tasks_are_of_services.Goals as goal

pub returns : goal.returns
returns c = of-services
