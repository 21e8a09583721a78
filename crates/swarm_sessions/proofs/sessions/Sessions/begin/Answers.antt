use Rattle.swarm_sessions.proofs.Placing.{put_rises}
use Rattle.swarm_sessions.proofs.sessions.Sessions.begin.Goals as goal

pub invariant_of-self : goal.invariant_of-self
invariant_of-self c =
    put_rises c.put.result c.new_session.result c.self.inside.rows.items c.put.new.rows.items c.self.invariant
    c.put.ensures.ok c.put.ensures.err
