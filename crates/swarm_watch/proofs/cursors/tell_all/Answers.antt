use Rattle.std.proofs.Common.{arith, sym, ◌∙◌}
use Rattle.swarm_watch.proofs.Places.{nobody_told, tell_swept, tell_told, tell_within}
use Rattle.swarm_watch.proofs.cursors.tell_all.Goals as goal

pub returns-in_default-clause-told : goal.returns-in_default-clause-told
returns-in_default-clause-told c =
    nobody_told c.args.cursors.now c.args.kept.now.items c.args.id (sym c.place_of.ensures ∙ c.in_default.is)

pub give_up-requires-clause-start : goal.give_up-requires-clause-start
give_up-requires-clause-start c =
    tell_within c.args.cursors.now c.args.kept.now.items c.in-Some.place c.args.id _ _ c.requires
    (sym c.place_of.ensures ∙ c.in-Some.is) (omega (arith, c.args.kept.now.ok.0))

pub give_up-requires-clause-swept : goal.give_up-requires-clause-swept
give_up-requires-clause-swept c =
    tell_swept c.args.cursors.now c.args.kept.now.items c.in-Some.place c.args.id c.len.result _ c.requires
    (sym c.place_of.ensures ∙ c.in-Some.is) (omega (arith, c.len.ensures, c.args.kept.now.ok.0))

pub returns-clause-told : goal.returns-clause-told
returns-clause-told c =
    c.give_up.ensures.same
    ∙ tell_told c.args.cursors.now c.args.kept.now.items c.in-Some.place c.args.id c.len.result _ c.requires
    (sym c.place_of.ensures ∙ c.in-Some.is) (omega (arith, c.len.ensures, c.args.kept.now.ok.0))
