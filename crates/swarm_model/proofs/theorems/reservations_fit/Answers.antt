use Rattle.swarm_model.proofs.Laws.Fitting.{all-fits}
use Rattle.swarm_model.proofs.theorems.reservations_fit.Goals as goal

pub returns : goal.returns
returns c = all-fits
