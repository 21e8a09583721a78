use Rattle.std.proofs.Common.{List, [], ap, false, subst, sym, ◌++◌, ◌∙◌, ◌∷◌, ◌≡◌}
use Rattle.swarm_model.specs.History.{IsLegal, replay}
use Rattle.swarm_objects.specs.declared.calls.Call.TheVariants as call
use Rattle.swarm_objects.specs.declared.calls.Entry.{Entry}
use Rattle.swarm_world.proofs.Entering.{ending}
use Rattle.swarm_world.specs.Inside.Parts.{StandsFor}
use Rattle.swarm_world.specs.Work.{call_by}
use Rattle.swarm_world.specs.declared.parts.Parts.{Parts}
use Rattle.swarm_world.proofs.world.World.halt.Goals as goal

pub invariant_of-self : goal.invariant_of-self
invariant_of-self c =
    let kept = c.self.invariant in
    let H = c.self.inside.history.items in
    let running : (replay H).halted ≡ false = ap (λ (h : List Entry). (replay h).halted) c.self.view_is ∙ c.requires in
    let gone = ending H c.args.by kept.legal running in
    let more = c.in-Ok.ensures.items in
    let now =
    c.halt.ensures H kept.legal
    (subst (λ (p : Parts). StandsFor p (replay H)) (sym c.deref_mut.ensures.value) kept.stands) in
    record {
      legal = subst IsLegal (sym more) gone.legal;
      stands = subst (StandsFor c.halt.new.self) (sym gone.world ∙ ap replay (sym more)) now;
      marks =
          c.touch_all.ensures c.halt.new.self (record {
            history = H ++ call_by c.args.by call.Halt ∷ [];
            legal = gone.legal;
            stands = subst (StandsFor c.halt.new.self) (sym gone.world) now;
          });
      spare = λ h. absurd (let halts = now.has.halted in cc);
    }

pub returns-clause-legal : goal.returns-clause-legal
returns-clause-legal c =
    let kept = c.self.invariant in
    let H = c.self.inside.history.items in
    let running : (replay H).halted ≡ false = ap (λ (h : List Entry). (replay h).halted) c.self.view_is ∙ c.requires in
    let gone = ending H c.args.by kept.legal running in
    subst IsLegal (sym c.in-Ok.ensures.items) gone.legal
