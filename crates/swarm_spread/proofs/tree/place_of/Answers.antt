use Rattle.swarm_spread.proofs.PlaceLemmas.{not_found}
use Rattle.swarm_spread.proofs.tree.place_of.Goals as goal

pub returns-in-Err : goal.returns-in-Err
returns-in-Err c =
    not_found c.args.nodes.now c.args.node c.binary_search.result c.in-Err.field-0 c.in-Err.is c.binary_search.ensures.position
    c.requires
