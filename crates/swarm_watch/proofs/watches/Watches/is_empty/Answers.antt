use Rattle.std.proofs.Common.{ap, sym, ◌∙◌}
use Rattle.std.specs.Prelude.{IsTrue}
use Rattle.swarm_watch.proofs.Noting.{no_item, nobody_waits}
use Rattle.swarm_watch.specs.Inside.Cursors.{watchings}
use Rattle.swarm_watch.specs.Watchings.{Watchings}
use Rattle.swarm_watch.proofs.watches.Watches.is_empty.Goals as goal

pub returns-clause-quiet : goal.returns-clause-quiet
returns-clause-quiet c = λ (is : IsTrue c.is_empty.result) events.
    nobody_waits c.args.self.now.watchers events
    (sym (ap (λ (v : Watchings). v.watchers) c.self.view_is)
    ∙ ap (watchings c.self.inside.kept.items) (no_item c.self.inside.cursors.items _ c.is_empty.result c.self.inside.cursors.ok.0 c.is_empty.ensures is))
