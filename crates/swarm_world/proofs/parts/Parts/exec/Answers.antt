use Rattle.std.proofs.Common.{refl, subst, ◌∙◌, ◌<◌, sym}
use Rattle.swarm_agent.specs.Agents.{Changes}
use Rattle.swarm_agent.specs.Times.{on_executors}
use Rattle.swarm_model.specs.History.{replay}
use Rattle.swarm_objects.specs.Bounds.{far_end}
use Rattle.swarm_objects.specs.Agents.Messages.{change_executor}
use Rattle.swarm_objects.specs.Loops.Agents.{stepped}
use Rattle.swarm_objects.specs.declared.duties.Duty.TheVariants as duty
use Rattle.swarm_world.proofs.Entering.{are_usable}
use Rattle.swarm_world.proofs.OnNodes.{by_agent, clock-is}
use Rattle.swarm_world.proofs.Recorded.{usable_rows}
use Rattle.swarm_world.proofs.parts.Parts.exec.Goals as goal

pub exec-requires : goal.exec-requires
exec-requires c = record {
  clock =
      subst (λ k. k < far_end) (sym c.now-now.ensures)
      (usable_rows c.args.self.now.records (are_usable c.args.self.now c.requires.at)).clock;
}

pub returns-clause-stands : goal.returns-clause-stands
returns-clause-stands c = λ h stands.
    let p = c.args.self.now in
    let clock = (replay h).tables.clock in
    by_agent c.entries_are_noted.ensures h (duty.Exec c.args.node c.args.task) c.args.node
    (on_executors (change_executor c.args.task (stepped clock))) p _ stands refl
    (subst (λ k. Changes c.args.node (on_executors (change_executor c.args.task (stepped k))) p.agents c.exec.new.self)
    (c.now-now.ensures ∙ clock-is p (replay h) stands) c.exec.ensures)
    refl refl refl refl
