use Rattle.std.proofs.Common.{◌≡◌, ◌++◌, ap, subst, sym}
use Rattle.swarm_store.proofs.Told.{told-view}
use Rattle.swarm_store.proofs.tracked.Tracked.put_events.Goals as goal
use Rattle.swarm_store.specs.Inside.Span.{Track}
use Rattle.swarm_store.specs.Inside.Tracking.{IsTracked}

pub put_all_events-requires-clause-tracked : goal.put_all_events-requires-clause-tracked
put_all_events-requires-clause-tracked g c =
    let key = g.R.Row.id_of in
    subst (λ before. IsTracked key before c.self.inside.rows) (sym c.as_slice.ensures.value) c.self.invariant.tracked

pub returns-clause-items : goal.returns-clause-items
returns-clause-items g c = λ same decides.
    subst (λ es. c.put_all_events.new.events.items ≡ c.args.events.now.items ++ es)
    (told-view c.args.version c.args.kind g.R.Row.id_of same c.self.inside.rows.rows c.self.inside.before.items
    c.as_slice.result.now c.args.self.now decides c.self.invariant.tracked.ids c.self.invariant.tracked.images c.as_slice.ensures.value
    (ap (λ (v : Track _). v.start) c.self.view_is) (ap (λ (v : Track _). v.rows) c.self.view_is))
    (c.put_all_events.ensures.items same decides)
