use Rattle.std.proofs.Common.{sym, ◌∙◌}
use Rattle.swarm_agent.proofs.Counting.{none-news}
use Rattle.swarm_agent.proofs.looks.first_news.Goals as goal

pub returns-then-not-has_unsaid-clause-value : goal.returns-then-not-has_unsaid-clause-value
returns-then-not-has_unsaid-clause-value c =
    none-news c.args.after c.args.executors.now (sym c.has_unsaid.ensures.value ∙ c.if-not-has_unsaid.true)
