use Rattle.std.proofs.Common.{refl, sym, ◌∙◌}
use Rattle.swarm_model.specs.History.{replay}
use Rattle.swarm_world.proofs.Entering.{are_usable}
use Rattle.swarm_world.proofs.Recorded.{usable_rows}
use Rattle.swarm_world.proofs.SettleLines.{busy-answer, idle-is, standing}
use Rattle.swarm_world.proofs.parts.Parts.settled_by.Goals as goal

pub settle_by-requires : goal.settle_by-requires
settle_by-requires c = record {
  usable = usable_rows c.args.self.now.records (are_usable c.args.self.now c.requires.at);
  live = λ node. refl;
  asked = c.requires.asked;
}

pub returns-in-Some : goal.returns-in-Some
returns-in-Some c = λ h stands is. sym (busy-answer (replay h) c.in-Some.duty (sym is ∙ c.in-Some.is))

pub returns-in-None : goal.returns-in-None
returns-in-None c = λ h stands is.
    c.settle_by.ensures.answer (replay h) (standing c.args.self.now (replay h) stands)
    ∙ sym (idle-is (replay h) (sym is ∙ c.in-None.is))
