use Rattle.std.proofs.Common.{ap, ◌∙◌}
use Rattle.swarm_timers.proofs.Kept.{first-same}
use Rattle.swarm_timers.specs.Timers.{first_timer}
use Rattle.swarm_timers.proofs.timers.Timers.first.Goals as goal

pub returns : goal.returns
returns c =
    first-same c.self.inside.by_owner.entries c.self.inside.by_time.set c.first.result c.self.invariant c.first.ensures
    ∙ ap first_timer c.self.view_is
