use Rattle.swarm_spans.proofs.Services.GoesOn.{create_goes_on, down_goes_on, next_goes_on}
use Rattle.swarm_spans.proofs.service_laws.slots_go_on.Goals as goal

pub returns-clause-down : goal.returns-clause-down
returns-clause-down c = down_goes_on

pub returns-clause-create : goal.returns-clause-create
returns-clause-create c = create_goes_on

pub returns-clause-next : goal.returns-clause-next
returns-clause-next c = next_goes_on
