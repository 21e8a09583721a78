use Rattle.std.proofs.Common.{List, ap, subst, sym, ◌∙◌}
use Rattle.swarm_model.specs.History.{replay}
use Rattle.swarm_model.specs.Settle.{settle_answer}
use Rattle.swarm_objects.specs.declared.calls.Entry.{Entry}
use Rattle.swarm_world.proofs.world.World.look.Goals as goal
use Rattle.swarm_world.specs.Inside.Marks.{IsMarked}
use Rattle.swarm_world.specs.Inside.Parts.{StandsFor}
use Rattle.swarm_world.specs.declared.parts.Parts.{Parts}

pub settle-requires-clause-at : goal.settle-requires-clause-at
settle-requires-clause-at c =
    let H = c.self.inside.history.items in
    record {
      history = H;
      legal = c.self.invariant.legal;
      stands = subst (λ (p : Parts). StandsFor p (replay H)) (sym c.deref-parts.ensures) c.self.invariant.stands;
    }

pub settle-requires-clause-marks : goal.settle-requires-clause-marks
settle-requires-clause-marks c =
    subst (λ (p : Parts). IsMarked c.deref_mut.result.now p) (sym c.deref-parts.ensures)
    (subst (λ m. IsMarked m c.self.inside.parts.value) (sym c.deref_mut.ensures.value) c.self.invariant.marks)

pub invariant_of-self : goal.invariant_of-self
invariant_of-self c =
    let kept = c.self.invariant in
    record {
      legal = kept.legal;
      stands = kept.stands;
      marks = subst (λ (p : Parts). IsMarked c.settle.new.self p) c.deref-parts.ensures c.settle.ensures.marks;
      spare = kept.spare;
    }

pub returns-clause-answer : goal.returns-clause-answer
returns-clause-answer c =
    let H = c.self.inside.history.items in
    let stands = subst (λ (p : Parts). StandsFor p (replay H)) (sym c.deref-parts.ensures) c.self.invariant.stands in
    c.settle.ensures.answer H stands ∙ ap (λ (h : List Entry). settle_answer (replay h)) c.self.view_is
