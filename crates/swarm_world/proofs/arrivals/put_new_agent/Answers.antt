use Rattle.std.proofs.Common.{sym, ◌∙◌}
use Rattle.swarm_world.proofs.Arriving.{comes-last}
use Rattle.swarm_world.proofs.arrivals.put_new_agent.Goals as goal
use Rattle.swarm_world.specs.Inside.BesideOps.{creates_agent}

pub returns-then-creates_agent-clause-ok : goal.returns-then-creates_agent-clause-ok
returns-then-creates_agent-clause-ok c =
    comes-last c.args.id _ (creates_agent c.args.op.now) c.args.agents.now c.insert.new.self c.insert.result
    (c.new.ensures.value c.args.id) (sym c.creates_agent.ensures ∙ c.if-creates_agent.true) c.requires c.insert.ensures.ok
