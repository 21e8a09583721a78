use Rattle.std.proofs.Common.{◌∙◌}
use Rattle.plain_agents.proofs.AgentDues.{report_due}
use Rattle.swarm_plain.specs.Plain.{world_of}
use Rattle.plain_agents.proofs.agents.is_report_due.Goals as goal

pub returns : goal.returns
returns c = c.one_reports.ensures ∙ report_due (world_of c.args.plain.now) c.args.node c.args.task
