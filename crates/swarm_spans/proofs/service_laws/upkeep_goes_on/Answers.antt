use Rattle.swarm_spans.proofs.Services.GoesOn.{port_goes_on}
use Rattle.swarm_spans.proofs.Services.Trimmed.{trim_goes_on}
use Rattle.swarm_spans.proofs.Services.Quiet.{updates_go_on}
use Rattle.swarm_spans.proofs.service_laws.upkeep_goes_on.Goals as goal

pub returns-clause-port : goal.returns-clause-port
returns-clause-port c = port_goes_on

pub returns-clause-update : goal.returns-clause-update
returns-clause-update c = updates_go_on

pub returns-clause-trim : goal.returns-clause-trim
returns-clause-trim c = trim_goes_on
