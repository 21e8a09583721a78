use Rattle.std.proofs.Common.{subst, true, ◌≡◌}
use Rattle.std.specs.Prelude.{IfSome}
use Rattle.swarm_agent.proofs.Found.{news-there}
use Rattle.swarm_agent.specs.Agent.{AgentState}
use Rattle.swarm_objects.specs.Rows.{executor_task, has_row}
use Rattle.swarm_agent.proofs.agent.Agent.report_due.Goals as goal

pub returns-clause-there : goal.returns-clause-there
returns-clause-there c =
    subst (λ (s : AgentState). IfSome c.first_news.result (λ news. has_row executor_task news.0 s.executors ≡ true)) c.self.view_is
    (news-there c.args.after c.first_news.result c.self.inside.executors c.first_news.ensures.value)
