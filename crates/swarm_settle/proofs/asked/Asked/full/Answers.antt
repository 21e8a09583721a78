use Rattle.swarm_settle.proofs.Asking.{all_asked}
use Rattle.swarm_settle.proofs.asked.Asked.full.Goals as goal

pub returns : goal.returns
returns c =
    all_asked c.full.result c.full-2.result c.full-3.result c.full.ensures c.full-2.ensures c.full-3.ensures
