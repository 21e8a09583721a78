use Rattle.swarm_spans.proofs.Told.{told}
use Rattle.swarm_spans.proofs.laws.events_tell_all.Goals as goal

pub returns : goal.returns
returns c = told
