use Rattle.std.proofs.Common.{ap, ◌∙◌}
use Rattle.swarm_timers.proofs.Kept.{clear-is, same-cleared}
use Rattle.swarm_timers.specs.Timers.{without_time}
use Rattle.swarm_timers.proofs.timers.Timers.clear.Goals as goal

pub invariant_of-self : goal.invariant_of-self
invariant_of-self c =
    same-cleared c.args.owner c.in-Some.at c.self.inside.by_owner.entries c.remove.new.self.entries
    c.self.inside.by_time.set c.remove-in-Some.new.self.set c.self.invariant c.in-Some.ensures.value
    c.in-Some.ensures.entries c.remove-in-Some.ensures

pub returns-in-Some : goal.returns-in-Some
returns-in-Some c =
    clear-is c.args.owner c.self.inside.by_owner.entries c.remove.new.self.entries c.self.invariant.rises
    c.remove.ensures.entries
    ∙ ap (without_time c.args.owner) c.self.view_is

pub returns-in_default : goal.returns-in_default
returns-in_default c =
    clear-is c.args.owner c.self.inside.by_owner.entries c.remove.new.self.entries c.self.invariant.rises
    c.remove.ensures.entries
    ∙ ap (without_time c.args.owner) c.self.view_is
