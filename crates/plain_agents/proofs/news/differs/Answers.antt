use Rattle.std.proofs.Common.{sym, ◌∙◌}
use Rattle.swarm_plain.specs.Plain.{tables_of}
use Rattle.plain_agents.proofs.Unsent.{step_same}
use Rattle.plain_agents.proofs.news.differs.Goals as goal

pub returns-then-is_in_step : goal.returns-then-is_in_step
returns-then-is_in_step c =
    sym (step_same (tables_of c.args.plain.now) c.args.node c.args.sent.now c.requires
    (sym c.is_in_step.ensures ∙ c.if-is_in_step.true))
