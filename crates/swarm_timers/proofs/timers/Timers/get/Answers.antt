use Rattle.std.proofs.Common.{None, Some, ap, sym, ◌∙◌}
use Rattle.std.specs.Option.{option_copied, option_map}
use Rattle.swarm_timers.proofs.Kept.{get-is}
use Rattle.swarm_timers.proofs.timers.Timers.get.Goals as goal
use Rattle.swarm_objects.specs.Rows.{row_at}
use Rattle.swarm_timers.specs.Timers.{timer_owner, timer_time}

pub returns-in-Some : goal.returns-in-Some
returns-in-Some c =
    get-is c.args.owner c.self.inside.by_owner.entries (Some c.in-Some.at.now)
    (ap option_copied (sym c.in-Some.is) ∙ c.get.ensures.value)
    ∙ ap (λ rows. option_map timer_time (row_at timer_owner c.args.owner rows)) c.self.view_is

pub returns-in-None : goal.returns-in-None
returns-in-None c =
    get-is c.args.owner c.self.inside.by_owner.entries None (ap option_copied (sym c.in-None.is) ∙ c.get.ensures.value)
    ∙ ap (λ rows. option_map timer_time (row_at timer_owner c.args.owner rows)) c.self.view_is
