use Rattle.swarm_index.proofs.PageSteps.{no_first}
use Rattle.swarm_index.proofs.boxes.first_from.Goals as goal

pub returns-in-None : goal.returns-in-None
returns-in-None g c = no_first c.args.pages.now.items c.args.key c.args.at c.in-None.ensures
