use Rattle.swarm_sessions.proofs.Placing.{drop_rises}
use Rattle.swarm_sessions.proofs.sessions.Sessions.remove.Goals as goal

pub invariant_of-self : goal.invariant_of-self
invariant_of-self c =
    drop_rises c.args.node c.self.inside.rows.items c.forget.new.rows.items c.self.invariant c.forget.ensures.items
