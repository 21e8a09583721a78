use Rattle.std.proofs.Common.{ap, ltb, refl, rules, subst, sym, ◌∙◌}
use Rattle.std.proofs.lemmas.Map.Made.{filter_same_pairs}
use Rattle.std.specs.Prelude.{map}
use Rattle.swarm_agent.specs.Agents.{agent_row, agents_below}
use Rattle.swarm_objects.proofs.MapEntries.{below-entries, filter-rising}
use Rattle.swarm_objects.specs.MapEntries.{entry_key}
use Rattle.swarm_objects.specs.Rows.{IsRising, agent_node}
use Rattle.swarm_agent.proofs.agents.Agents.cut.Goals as goal

pub invariant_of-self : goal.invariant_of-self
invariant_of-self c =
    let left = filter_same_pairs _ (λ e. ltb e.0 c.args.from) _ (λ k v b w f' t. search rules) _ _ c.retain.ensures.filtered in
    subst (IsRising entry_key) (sym left)
    (filter-rising (λ e. ltb e.0 c.args.from) c.self.inside.rows.entries c.self.invariant)

pub returns : goal.returns
returns c =
    let left = filter_same_pairs _ (λ e. ltb e.0 c.args.from) _ (λ k v b w f' t. search rules) _ _ c.retain.ensures.filtered in
    ap (map agent_row) left
    ∙ below-entries agent_node agent_row (λ e. refl) c.args.from c.self.inside.rows.entries
    ∙ ap (agents_below c.args.from) c.self.view_is
