use Rattle.std.proofs.Common.{ap, arith, subst, sym, ◌∙◌, ◌≤◌, length}
use Rattle.std.specs.List.{position}
use Rattle.std.specs.Prelude.{◌==◌}
use Rattle.swarm_watch.proofs.Places.{StandsAt, found_at, gone_is, nobody_gone, place_within, refilled, swept_without}
use Rattle.swarm_watch.specs.Inside.Cursors.{IsSwept, cursor_id, watchings}
use Rattle.swarm_watch.proofs.cursors.end.Goals as goal

pub returns-in_default-clause-gone : goal.returns-in_default-clause-gone
returns-in_default-clause-gone c =
    nobody_gone c.args.cursors.now.items c.args.kept.now.items c.args.id
    (ap (λ xs. position (λ y. cursor_id y == c.args.id) xs) (sym c.as_slice.ensures.value) ∙ sym c.place_of.ensures ∙ c.in_default.is)

pub give_up-requires-clause-start : goal.give_up-requires-clause-start
give_up-requires-clause-start c =
    let at : StandsAt c.args.cursors.now.items c.in-Some.place c.args.id c.remove-cursor.result =
    found_at _ _ c.args.id _ _ c.as_slice.ensures.value (sym c.place_of.ensures ∙ c.in-Some.is) c.remove-cursor.ensures.value in
    let le : c.remove-cursor.result.from ≤ length c.args.kept.now.items = place_within _ _ _ _ _ c.requires at in
    omega (arith, c.args.kept.now.ok.0)

pub give_up-requires-clause-swept : goal.give_up-requires-clause-swept
give_up-requires-clause-swept c =
    subst (λ xs. IsSwept xs c.args.kept.now.items c.remove-cursor.result.from)
    (sym (c.as_mut_slice.ensures.value ∙ c.remove-cursor.ensures.items))
    (swept_without c.args.cursors.now.items c.args.kept.now.items c.in-Some.place c.args.id c.remove-cursor.result c.requires
    (found_at _ _ c.args.id _ _ c.as_slice.ensures.value (sym c.place_of.ensures ∙ c.in-Some.is) c.remove-cursor.ensures.value))

pub returns-clause-gone : goal.returns-clause-gone
returns-clause-gone c =
    ap (watchings c.give_up.new.kept.items)
    (refilled c.remove-cursor.new.self.len c.remove-cursor.new.self.items c.give_up.new.cursors
    (c.give_up.auto.cursors ∙ ap length c.as_mut_slice.ensures.value) (omega (arith, c.remove-cursor.new.self.ok.0)))
    ∙ c.give_up.ensures.same
    ∙ ap (watchings c.args.kept.now.items) (c.as_mut_slice.ensures.value ∙ c.remove-cursor.ensures.items)
    ∙ gone_is c.args.cursors.now.items c.args.kept.now.items c.in-Some.place c.args.id c.remove-cursor.result c.requires
    (found_at _ _ c.args.id _ _ c.as_slice.ensures.value (sym c.place_of.ensures ∙ c.in-Some.is) c.remove-cursor.ensures.value)
