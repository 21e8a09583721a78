use Rattle.swarm_timers.proofs.times.Times.first.Goals as goal

pub returns-in-Some : goal.returns-in-Some
returns-in-Some c = (c.in-Some.ensures.member, λ t o h. c.in-Some.ensures.least (t, o) h)
