use Rattle.std.proofs.Common.{ap, refl, ◌∙◌}
use Rattle.swarm_timers.proofs.Kept.{owners-rise, owners-rise-set, same-set, same-undone, set-is}
use Rattle.swarm_timers.specs.Timers.{with_time}
use Rattle.swarm_timers.proofs.timers.Timers.set.Goals as goal

pub invariant_of-self-in-Ok-insert : goal.invariant_of-self-in-Ok-insert
invariant_of-self-in-Ok-insert c =
    same-set c.args.owner c.args.at c.in-Ok-insert.former c.self.inside.by_owner.entries c.insert.new.self.entries
    c.self.inside.by_time.set c.add.new.self.set c.leave_former.new.times.set c.self.invariant c.in-Ok-insert.ensures.old
    c.in-Ok-insert.ensures.entries c.in-Ok.ensures.ok c.leave_former.ensures

pub invariant_of-self-in-Err : goal.invariant_of-self-in-Err
invariant_of-self-in-Err c =
    same-undone c.args.owner c.args.at c.self.inside.by_owner.entries c.insert.new.self.entries c.self.inside.by_time.set
    c.add.new.self.set c.remove.new.self.set c.self.invariant c.in-Err.ensures.err c.in-Err.ensures.absent
    c.in-Ok.ensures.ok c.remove.ensures

pub returns-in-Ok-insert-clause-ok : goal.returns-in-Ok-insert-clause-ok
returns-in-Ok-insert-clause-ok c =
    set-is c.args.owner c.args.at c.self.inside.by_owner.entries c.insert.new.self.entries c.in-Ok-insert.ensures.entries
    ∙ ap (with_time c.args.owner c.args.at) c.self.view_is

pub returns-in_default-clause-rises : goal.returns-in_default-clause-rises
returns-in_default-clause-rises c =
    owners-rise c.self.inside.by_owner.entries c.self.inside.by_owner.entries c.self.inside.by_time.set c.self.invariant refl

pub returns-in-Ok-insert-clause-rises : goal.returns-in-Ok-insert-clause-rises
returns-in-Ok-insert-clause-rises c =
    owners-rise-set c.args.owner c.args.at c.self.inside.by_owner.entries c.insert.new.self.entries
    c.self.inside.by_time.set c.self.invariant c.in-Ok-insert.ensures.entries

pub returns-in-Err-clause-rises : goal.returns-in-Err-clause-rises
returns-in-Err-clause-rises c =
    owners-rise c.self.inside.by_owner.entries c.insert.new.self.entries c.self.inside.by_time.set c.self.invariant
    c.in-Err.ensures.err
