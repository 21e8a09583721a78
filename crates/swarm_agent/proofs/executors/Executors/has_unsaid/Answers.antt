use Rattle.std.proofs.Common.{ap, ltb, sym, ◌∙◌}
use Rattle.std.specs.List.{list_any}
use Rattle.swarm_agent.proofs.Counting.{any_unsaid}
use Rattle.swarm_agent.specs.Inside.Saying.{is_unsaid}
use Rattle.swarm_agent.proofs.executors.Executors.has_unsaid.Goals as goal

pub returns-clause-value : goal.returns-clause-value
returns-clause-value c =
    ap (ltb 0) (sym c.self.invariant.said) ∙ any_unsaid c.self.inside.rows.items ∙ ap (list_any is_unsaid) c.self.view_is
