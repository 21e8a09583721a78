use Rattle.std.proofs.Common.{arith, ap, ◌∙◌}
use Rattle.swarm_objects.specs.Rows.{row_at}
use Rattle.swarm_watch.proofs.Answering.{tidy_pushed}
use Rattle.swarm_watch.specs.Watchings.{Watchings, watching_id}
use Rattle.swarm_watch.proofs.watches.Watches.begin.Goals as goal

pub invariant_of-self : goal.invariant_of-self
invariant_of-self c =
    tidy_pushed _ c.self.inside.cursors.items c.push.new.self.items c.self.inside.kept.items _ c.push.ensures.items c.self.invariant
    (ap (λ (v : Watchings). row_at watching_id c.args.id v.watchers) c.self.view_is ∙ c.requires)
    (omega (arith, c.len.ensures, c.self.inside.kept.ok.0))
