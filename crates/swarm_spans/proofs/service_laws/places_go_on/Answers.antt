use Rattle.swarm_spans.proofs.Services.GoesOn.{come_goes_on, leave_goes_on}
use Rattle.swarm_spans.proofs.service_laws.places_go_on.Goals as goal

pub returns-clause-leave : goal.returns-clause-leave
returns-clause-leave c = leave_goes_on

pub returns-clause-come : goal.returns-clause-come
returns-clause-come c = come_goes_on
