use Rattle.std.proofs.Common.{List, ap, arith, false, inl, inr, length, refl, subst, sym, ◌∙◌, ◌≡◌}
use Rattle.swarm_model.specs.History.{IsLegal, replay}
use Rattle.swarm_objects.specs.declared.calls.Entry.{Entry}
use Rattle.swarm_objects.specs.declared.replies.Refusal.TheVariants.{Full}
use Rattle.swarm_objects.specs.declared.replies.Reply.TheVariants.{Refused}
use Rattle.swarm_world.proofs.Entering.{full, not_halt}
use Rattle.swarm_world.proofs.Lawful.{lawful}
use Rattle.swarm_world.specs.Work.{Calls}
use Rattle.swarm_world.proofs.world.World.call.Goals as goal

pub returns-in_default : goal.returns-in_default
returns-in_default c =
    let kept = c.self.invariant in
    let H = c.self.inside.history.items in
    let running : (replay H).halted ≡ false =
    ap (λ (h : List Entry). (replay h).halted) c.self.view_is ∙ sym c.is_halted.ensures ∙ c.if-is_halted.false in
    let count : c.len-count.result ≡ length H = omega (arith, c.len-count.ensures) in
    let f = full H kept.legal running (omega (arith, c.len-count.ensures)) in
    record {
      calls =
          subst (λ (h : List Entry). Calls c.args.by c.args.call h h (Refused (Full c.len-count.result))) c.self.view_is
          (inr (refl, inr (inl (ap (λ n. Refused (Full n)) count, f, not_halt c.args.call c.in_default.not-Halt))));
      lawful = lawful _ (subst IsLegal c.self.view_is kept.legal);
    }
