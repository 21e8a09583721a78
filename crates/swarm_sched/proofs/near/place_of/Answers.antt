use Rattle.std.proofs.Common.{rules}
use Rattle.swarm_sched.proofs.Halving.{place_is, searched}
use Rattle.swarm_sched.proofs.near.place_of.Goals as goal

pub returns : goal.returns
returns g c =
    place_is g.T.Numbered.number_of c.args.rows.now c.args.number c.binary_search_by_key.result c.requires
    c.binary_search_by_key.ensures.bound
    (searched g.T.Numbered.number_of c.args.rows.now c.args.number c.binary_search_by_key.result
    c.binary_search_by_key.ensures.position (λ a r q k. search rules))
