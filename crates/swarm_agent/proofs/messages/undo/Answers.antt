use Rattle.std.proofs.Common.{◌∙◌}
use Rattle.swarm_agent.proofs.Changes.{undone-last}
use Rattle.swarm_agent.proofs.messages.undo.Goals as goal

pub loop-former-preserved : goal.loop-former-preserved
loop-former-preserved c =
    undone-last c.loop-former.log.items c.pop.new.self.items c.in-Some.former c.loop-former.executors
    c.restore.new.executors (c.in-Some.ensures.items) c.restore.ensures
    ∙ c.loop-former.invariant
