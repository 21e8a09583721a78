use Rattle.std.proofs.Common.{ap, arith, sym, ◌∙◌}
use Rattle.std.specs.Option.{option_map}
use Rattle.swarm_timers.proofs.Firsts.{due-later, due-none, due-now}
use Rattle.swarm_timers.specs.Inside.{timer_at}
use Rattle.swarm_timers.proofs.timers.Timers.due.Goals as goal

pub returns-in_default : goal.returns-in_default
returns-in_default c =
    due-none c.args.now c.args.self.now (ap (option_map timer_at) (sym c.in_default.is) ∙ c.first.ensures)

pub returns-then-at-now : goal.returns-then-at-now
returns-then-at-now c =
    due-now c.args.now c.args.self.now (timer_at (c.in-Some.at, c.in-Some.owner))
    (ap (option_map timer_at) (sym c.in-Some.is) ∙ c.first.ensures) (omega (arith, c.if-at-now.true))

pub returns-else-at-now : goal.returns-else-at-now
returns-else-at-now c =
    due-later c.args.now c.args.self.now (timer_at (c.in-Some.at, c.in-Some.owner))
    (ap (option_map timer_at) (sym c.in-Some.is) ∙ c.first.ensures) (omega (arith, c.if-at-now.false))
