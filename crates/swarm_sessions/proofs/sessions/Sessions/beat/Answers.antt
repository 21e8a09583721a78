use Rattle.std.proofs.Common.{[], refl}
use Rattle.swarm_objects.specs.Loops.Agents.{beaten}
use Rattle.swarm_sessions.proofs.Placing.{change_rises}
use Rattle.swarm_sessions.specs.OnRecord.{tables_with}
use Rattle.swarm_sessions.proofs.sessions.Sessions.beat.Goals as goal

pub invariant_of-self : goal.invariant_of-self
invariant_of-self c =
    change_rises c.args.node (beaten (tables_with [] c.args.now c.args.heartbeat 0)) c.self.inside.rows.items
    c.renew.new.rows.items (λ x. refl) c.self.invariant c.renew.ensures.items
