use Rattle.std.proofs.Common.{Err, false, refl, subst, sym, true, ◌∙◌, ◌≡◌}
use Rattle.swarm_agent.specs.Agents.{AppliesOn}
use Rattle.swarm_agent.specs.declared.agent.ApplyFault.{ApplyFault}
use Rattle.swarm_model.specs.History.{replay}
use Rattle.swarm_objects.specs.Loops.Agents.{take_in}
use Rattle.swarm_objects.specs.declared.duties.Duty.TheVariants as duty
use Rattle.swarm_world.proofs.OnNodes.{by_agent, never_stale}
use Rattle.swarm_world.proofs.parts.Parts.apply.Goals as goal

pub returns-in-Ok-clause-enters : goal.returns-in-Ok-clause-enters
returns-in-Ok-clause-enters c = λ h stands.
    let clock = (replay h).tables.clock in
    by_agent c.entries_are_noted.ensures h (duty.Apply c.args.node) c.args.node (λ a. take_in clock a.inbox a)
    c.args.self.now _ stands refl (c.in-Ok.ensures.1 clock) refl refl refl refl

pub unreachable-requires : goal.unreachable-requires
unreachable-requires c =
    let p = c.args.self.now in
    let stale = c.in-Err-Stale in
    let refused =
    subst (λ (e : ApplyFault). AppliesOn c.args.node p.agents (Err e) c.apply.new.self) stale.field-0-is stale.ensures in
    let wrong : false ≡ true = sym (never_stale p c.requires.at c.args.node) ∙ refused.0 in
    cc
