use Rattle.std.proofs.Common.{ap, refl, subst, sym, ◌∙◌}
use Rattle.std.specs.Prelude.{map}
use Rattle.swarm_agent.specs.Agents.{agent_row}
use Rattle.swarm_objects.proofs.MapEntries.{remove-entry, remove-rising}
use Rattle.swarm_objects.specs.MapEntries.{entry_key}
use Rattle.swarm_objects.specs.Rows.{IsRising, agent_node, drop_row}
use Rattle.swarm_agent.proofs.agents.Agents.remove.Goals as goal

pub invariant_of-self : goal.invariant_of-self
invariant_of-self c =
    subst (IsRising entry_key) (sym c.remove.ensures.entries)
    (remove-rising c.args.node c.self.inside.rows.entries c.self.invariant)

pub returns : goal.returns
returns c =
    ap (map agent_row) c.remove.ensures.entries
    ∙ remove-entry agent_node agent_row (λ e. refl) c.args.node c.self.inside.rows.entries c.self.invariant
    ∙ ap (drop_row agent_node c.args.node) c.self.view_is
