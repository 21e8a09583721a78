use Rattle.std.proofs.Common.{List, None, Some, refl, subst, sym, ◌∙◌}
use Rattle.swarm_model.specs.History.{replay}
use Rattle.swarm_objects.specs.Kinds.{role_of, roles}
use Rattle.swarm_objects.specs.declared.calls.Entry.{Entry}
use Rattle.swarm_world.proofs.Entering.{found_first}
use Rattle.swarm_settle.proofs.Rest.{names-none}
use Rattle.swarm_world.proofs.SettleLines.{named-first}
use Rattle.swarm_world.specs.Inside.Marks.{IsMarked}
use Rattle.swarm_world.specs.Inside.Parts.{StandsFor}
use Rattle.swarm_world.specs.Work.{Advances}
use Rattle.swarm_world.specs.declared.parts.Parts.{Parts}
use Rattle.swarm_world.proofs.world.World.advance.Goals as goal

pub find_among-requires-clause-at : goal.find_among-requires-clause-at
find_among-requires-clause-at c =
    let H = c.self.inside.history.items in
    record {
      history = H;
      legal = c.self.invariant.legal;
      stands = subst (λ (p : Parts). StandsFor p (replay H)) (sym c.deref-parts.ensures) c.self.invariant.stands;
    }

pub find_among-requires-clause-marks : goal.find_among-requires-clause-marks
find_among-requires-clause-marks c =
    subst (λ (p : Parts). IsMarked c.deref_mut.result.now p) (sym c.deref-parts.ensures)
    (subst (λ m. IsMarked m c.self.inside.parts.value) (sym c.deref_mut.ensures.value) c.self.invariant.marks)

pub invariant_of-self : goal.invariant_of-self
invariant_of-self c =
    let kept = c.self.invariant in
    record {
      legal = kept.legal;
      stands = kept.stands;
      marks = subst (λ (p : Parts). IsMarked c.find_among.new.self p) c.deref-parts.ensures c.find_among.ensures.marks;
      spare = kept.spare;
    }

pub take-requires : goal.take-requires
take-requires c =
    let H = c.self.inside.history.items in
    let stands = subst (λ (p : Parts). StandsFor p (replay H)) (sym c.deref-parts.ensures) c.self.invariant.stands in
    record {
      first = found_first (replay H) roles c.in-Some.duty (sym (c.find_among.ensures.first H stands) ∙ c.in-Some.is);
    }

pub returns-in_default-clause-advances : goal.returns-in_default-clause-advances
returns-in_default-clause-advances c =
    let H = c.self.inside.history.items in
    let stands = subst (λ (p : Parts). StandsFor p (replay H)) (sym c.deref-parts.ensures) c.self.invariant.stands in
    let none = names-none (replay H) (sym (c.find_among.ensures.first H stands) ∙ c.in_default.is) in
    subst (λ (h : List Entry). Advances c.args.by h H None) c.self.view_is (refl, none)

pub returns-clause-advances : goal.returns-clause-advances
returns-clause-advances c =
    let H = c.self.inside.history.items in
    let d = c.in-Some.duty in
    let stands = subst (λ (p : Parts). StandsFor p (replay H)) (sym c.deref-parts.ensures) c.self.invariant.stands in
    let named = named-first (replay H) d (sym (c.find_among.ensures.first H stands) ∙ c.in-Some.is) in
    subst (λ (h : List Entry). Advances c.args.by h c.take.new.self (Some c.take.result)) c.self.view_is
    (d, named, c.take.ensures.turns (role_of d) (sym (found_first (replay H) roles d (sym (c.find_among.ensures.first H stands) ∙ c.in-Some.is))))
