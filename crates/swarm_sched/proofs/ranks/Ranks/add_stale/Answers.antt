use Rattle.std.proofs.Common.{subst}
use Rattle.swarm_sched.proofs.Ranking.{stale_more}
use Rattle.swarm_sched.proofs.ranks.Ranks.add_stale.Goals as goal
use Rattle.swarm_sched.specs.Inside.Ranks.{AreStaler}

pub returns-clause-staler : goal.returns-clause-staler
returns-clause-staler c =
    subst (λ r. AreStaler r (record { classes = c.self.inside.classes.items; stale = c.push.new.self.items }))
    c.self.view_is
    (stale_more c.self.inside.classes.items c.self.inside.stale.items c.push.new.self.items c.args.node
    c.in-Ok.ensures.items)
