use Rattle.std.proofs.Common.{List, ap, arith, false, length, refl, subst, sym, ◌∙◌, ◌≡◌}
use Rattle.swarm_model.specs.History.{replay}
use Rattle.swarm_objects.specs.Duties.{duties}
use Rattle.swarm_objects.specs.declared.calls.Entry.{Entry}
use Rattle.swarm_objects.specs.declared.loops.Role.{Role}
use Rattle.swarm_world.proofs.Entering.{full, none_first, role_of_first}
use Rattle.swarm_world.specs.Work.{Turns}
use Rattle.swarm_world.proofs.world.World.take.Goals as goal

pub returns-then-count-ge-MOST_ENTRIES-clause-turns : goal.returns-then-count-ge-MOST_ENTRIES-clause-turns
returns-then-count-ge-MOST_ENTRIES-clause-turns c = λ r is.
    let kept = c.self.invariant in
    let H = c.self.inside.history.items in
    let running : (replay H).halted ≡ false =
    ap (λ (h : List Entry). (replay h).halted) c.self.view_is ∙ sym c.is_halted.ensures ∙ c.if-is_halted.false in
    let f = full H kept.legal running (omega (arith, c.len-count.ensures)) in
    rw (← c.self.view_is) (refl, f, omega (arith, c.len-count.ensures))

pub returns-in-Some-clause-turns : goal.returns-in-Some-clause-turns
returns-in-Some-clause-turns c = λ r is.
    let own = role_of_first r (replay c.args.self.now) c.in-Some.duty (sym is ∙ c.in-Some.is) in
    subst (λ (q : Role). Turns c.args.by q c.args.self.now c.append_duty.new.self c.append_duty.result) own
    c.append_duty.ensures.turns

pub returns-in-None-clause-turns : goal.returns-in-None-clause-turns
returns-in-None-clause-turns c = λ r is.
    let H = c.self.inside.history.items in
    let running : (replay c.args.self.now).halted ≡ false = sym c.is_halted.ensures ∙ c.if-is_halted.false in
    let none = none_first (duties r (replay c.args.self.now)) (sym c.in-None.is ∙ is) in
    let count = ap (λ (h : List Entry). length h) c.self.view_is in
    (refl, (running, omega (arith, count, c.len-count.ensures, c.if-count-ge-MOST_ENTRIES.false)), none)
