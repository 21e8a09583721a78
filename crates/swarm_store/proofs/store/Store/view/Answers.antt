use Rattle.std.proofs.Common.{ap}
use Rattle.swarm_store.proofs.Queries.{shows-any}
use Rattle.swarm_store.proofs.store.Store.view.Goals as goal
use Rattle.swarm_store.specs.Inside.State.{tables_now}
use Rattle.swarm_store.specs.Stored.{Stored}

pub returns : goal.returns
returns c = λ w stands.
    shows-any c.args.query.now w (tables_now c.self.inside.state) c.args.self.now c.shows.result
    (ap (λ (s : Stored). s.tables) c.self.view_is) stands c.shows.ensures
