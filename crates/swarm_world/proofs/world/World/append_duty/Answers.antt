use Rattle.std.proofs.Common.{List, Some, [], ap, arith, false, length, subst, sym, ◌++◌, ◌∙◌, ◌∷◌, ◌≡◌, ◌+◌}
use Rattle.swarm_model.specs.History.{IsLegal, replay}
use Rattle.swarm_objects.specs.Duties.{duties}
use Rattle.swarm_objects.specs.Kinds.{role_of}
use Rattle.swarm_objects.specs.Rows.{first_of}
use Rattle.swarm_objects.specs.declared.calls.Entry.{Entry}
use Rattle.swarm_world.proofs.Entering.{are_usable, due_of_first, turning}
use Rattle.swarm_world.proofs.Recorded.{usable_rows}
use Rattle.swarm_world.specs.Inside.Marks.{IsMarked}
use Rattle.swarm_world.specs.Inside.Parts.{IsAt, StandsFor}
use Rattle.swarm_world.specs.Work.{duty_by}
use Rattle.swarm_world.specs.declared.parts.Parts.{Parts}
use Rattle.swarm_world.proofs.world.World.append_duty.Goals as goal

pub take-requires-clause-at : goal.take-requires-clause-at
take-requires-clause-at c =
    let kept = c.self.invariant in
    let H = c.self.inside.history.items in
    let d = c.args.duty in
    let first : first_of (duties (role_of d) (replay H)) ≡ Some d =
    ap (λ (h : List Entry). first_of (duties (role_of d) (replay h))) c.self.view_is ∙ c.requires.first in
    record {
      history = H;
      legal = kept.legal;
      stands = subst (λ (p : Parts). StandsFor p (replay H)) (sym c.deref_mut-parts.ensures.value) kept.stands;
      due = due_of_first (role_of d) (replay H) d first;
    }

pub take-requires-clause-marks : goal.take-requires-clause-marks
take-requires-clause-marks c =
    (subst (λ (p : Parts). IsMarked c.deref_mut-marks.result.now p) (sym c.deref_mut-parts.ensures.value)
    (subst (λ m. IsMarked m c.self.inside.parts.value) (sym c.deref_mut-marks.ensures.value) c.self.invariant.marks)).rows

pub invariant_of-self-2 : goal.invariant_of-self-2
invariant_of-self-2 c =
    let kept = c.self.invariant in
    let H = c.self.inside.history.items in
    let d = c.args.duty in
    let running : (replay H).halted ≡ false =
    ap (λ (h : List Entry). (replay h).halted) c.self.view_is ∙ c.requires.running in
    let count = ap (λ (h : List Entry). length h) c.self.view_is in
    let first : first_of (duties (role_of d) (replay H)) ≡ Some d =
    ap (λ (h : List Entry). first_of (duties (role_of d) (replay h))) c.self.view_is ∙ c.requires.first in
    let turned =
    turning H c.args.by (role_of d) d kept.legal running (omega (arith, count, c.requires.room)) first in
    let more =
    c.in-Ok-push.ensures.items ∙ ap (λ (l : List Entry). l ++ duty_by c.args.by d ∷ []) c.reserve.ensures.items in
    let marks =
    subst (λ (p : Parts). IsMarked c.deref_mut-marks.result.now p) (sym c.deref_mut-parts.ensures.value)
    (subst (λ m. IsMarked m c.self.inside.parts.value) (sym c.deref_mut-marks.ensures.value) kept.marks) in
    let at : IsAt (c.len-count.result + 1) c.deref_mut-parts.result.now H =
    record {
      legal = kept.legal;
      number = omega (arith, c.len-count.ensures, c.reserve.ensures.len);
      stands = subst (λ (p : Parts). StandsFor p (replay H)) (sym c.deref_mut-parts.ensures.value) kept.stands;
    } in
    let now : StandsFor c.take.new.self (replay (H ++ duty_by c.args.by d ∷ [])) =
    subst (StandsFor c.take.new.self) (sym turned.world) (c.in-Ok-take.ensures.enters H at) in
    record {
      legal = subst IsLegal (sym more) turned.legal;
      stands = subst (StandsFor c.take.new.self) (ap replay (sym more)) now;
      marks =
          record {
            rows =
                c.take.ensures.marks
                (usable_rows c.take.new.self.records
                (are_usable c.take.new.self
                (record { history = H ++ duty_by c.args.by d ∷ []; legal = turned.legal; stands = now })));
            agents = c.take.ensures.agents H at (due_of_first (role_of d) (replay H) d first) marks.agents;
          };
      spare = λ h. omega (arith, c.in-Ok.ensures.ok, c.in-Ok-push.ensures.len, c.in-Ok-push.ensures.capacity);
    }

pub invariant_of-self-in_default-take : goal.invariant_of-self-in_default-take
invariant_of-self-in_default-take c =
    let kept = c.self.invariant in
    let H = c.self.inside.history.items in
    let d = c.args.duty in
    let first : first_of (duties (role_of d) (replay H)) ≡ Some d =
    ap (λ (h : List Entry). first_of (duties (role_of d) (replay h))) c.self.view_is ∙ c.requires.first in
    let marks =
    subst (λ (p : Parts). IsMarked c.deref_mut-marks.result.now p) (sym c.deref_mut-parts.ensures.value)
    (subst (λ m. IsMarked m c.self.inside.parts.value) (sym c.deref_mut-marks.ensures.value) kept.marks) in
    let at : IsAt (c.len-count.result + 1) c.deref_mut-parts.result.now H =
    record {
      legal = kept.legal;
      number = omega (arith, c.len-count.ensures, c.reserve.ensures.len);
      stands = subst (λ (p : Parts). StandsFor p (replay H)) (sym c.deref_mut-parts.ensures.value) kept.stands;
    } in
    let now : StandsFor c.take.new.self (replay H) = c.in_default-take.ensures.enters H at in
    record {
      legal = subst IsLegal (sym c.reserve.ensures.items) kept.legal;
      stands = subst (StandsFor c.take.new.self) (ap replay (sym c.reserve.ensures.items)) now;
      marks =
          record {
            rows =
                c.take.ensures.marks
                (usable_rows c.take.new.self.records
                (are_usable c.take.new.self (record { history = H; legal = kept.legal; stands = now })));
            agents = c.take.ensures.agents H at (due_of_first (role_of d) (replay H) d first) marks.agents;
          };
      spare = λ h. omega (arith, c.in-Ok.ensures.ok, c.reserve.ensures.len);
    }

pub returns-clause-legal : goal.returns-clause-legal
returns-clause-legal c =
    let kept = c.self.invariant in
    let H = c.self.inside.history.items in
    let d = c.args.duty in
    let running : (replay H).halted ≡ false =
    ap (λ (h : List Entry). (replay h).halted) c.self.view_is ∙ c.requires.running in
    let count = ap (λ (h : List Entry). length h) c.self.view_is in
    let first : first_of (duties (role_of d) (replay H)) ≡ Some d =
    ap (λ (h : List Entry). first_of (duties (role_of d) (replay h))) c.self.view_is ∙ c.requires.first in
    let turned =
    turning H c.args.by (role_of d) d kept.legal running (omega (arith, count, c.requires.room)) first in
    let more =
    c.in-Ok-push.ensures.items ∙ ap (λ (l : List Entry). l ++ duty_by c.args.by d ∷ []) c.reserve.ensures.items in
    subst IsLegal (sym more) turned.legal
