use Rattle.std.proofs.Common.{ap, sym, ◌∙◌}
use Rattle.swarm_model.specs.History.{replay}
use Rattle.swarm_objects.specs.Duties.{first_duty}
use Rattle.swarm_world.proofs.SettleLines.{found-first, passed-first}
use Rattle.swarm_world.proofs.marks.Marks.find_among.Goals as goal

pub returns-in-Some-find-clause-first : goal.returns-in-Some-find-clause-first
returns-in-Some-find-clause-first c = λ h stands.
    sym
    (found-first (replay h) c.in-Some.role.now c.in-Some.more.now c.in-Some-find.duty
    (sym (c.find.ensures.first h stands) ∙ c.in-Some-find.is))
    ∙ ap (first_duty (replay h)) (sym c.in-Some.ensures.cases.0)
    ∙ c.loop-role.invariant.first h stands

pub loop-role-preserved : goal.loop-role-preserved
loop-role-preserved c = record {
  first = λ h stands.
      sym
      (passed-first (replay h) c.in-Some.role.now c.in-Some.more.now (sym (c.find.ensures.first h stands) ∙ c.in-None.is))
      ∙ ap (first_duty (replay h)) (sym c.in-Some.ensures.cases.0)
      ∙ c.loop-role.invariant.first h stands;
  marks = c.find.ensures.marks;
}
