use Rattle.std.proofs.Common.{List, subst, sym}
use Rattle.swarm_model.specs.History.{replay}
use Rattle.swarm_objects.specs.declared.calls.Entry.{Entry}
use Rattle.swarm_world.proofs.Entering.{own_found}
use Rattle.swarm_world.specs.Inside.Marks.{IsMarked}
use Rattle.swarm_world.specs.Inside.Parts.{StandsFor}
use Rattle.swarm_world.specs.Work.{Turns}
use Rattle.swarm_world.specs.declared.parts.Parts.{Parts}
use Rattle.swarm_world.proofs.world.World.turn.Goals as goal

pub find-found-requires-clause-at : goal.find-found-requires-clause-at
find-found-requires-clause-at c =
    let H = c.self.inside.history.items in
    record {
      history = H;
      legal = c.self.invariant.legal;
      stands = subst (λ (p : Parts). StandsFor p (replay H)) (sym c.deref-parts.ensures) c.self.invariant.stands;
    }

pub find-found-requires-clause-marks : goal.find-found-requires-clause-marks
find-found-requires-clause-marks c =
    subst (λ (p : Parts). IsMarked c.deref_mut.result.now p) (sym c.deref-parts.ensures)
    (subst (λ m. IsMarked m c.self.inside.parts.value) (sym c.deref_mut.ensures.value) c.self.invariant.marks)

pub invariant_of-self : goal.invariant_of-self
invariant_of-self c =
    let kept = c.self.invariant in
    record {
      legal = kept.legal;
      stands = kept.stands;
      marks = subst (λ (p : Parts). IsMarked c.find-found.new.self p) c.deref-parts.ensures c.find-found.ensures.marks;
      spare = kept.spare;
    }

pub take-requires : goal.take-requires
take-requires c =
    let H = c.self.inside.history.items in
    let stands = subst (λ (p : Parts). StandsFor p (replay H)) (sym c.deref-parts.ensures) c.self.invariant.stands in
    record { first = own_found c.args.role (replay H) c.find-found.result (c.find-found.ensures.first H stands) }

pub returns-clause-turns : goal.returns-clause-turns
returns-clause-turns c =
    let H = c.self.inside.history.items in
    let stands = subst (λ (p : Parts). StandsFor p (replay H)) (sym c.deref-parts.ensures) c.self.invariant.stands in
    subst (λ (h : List Entry). Turns c.args.by c.args.role h c.take.new.self c.take.result) c.self.view_is
    (c.take.ensures.turns c.args.role (c.find-found.ensures.first H stands))
