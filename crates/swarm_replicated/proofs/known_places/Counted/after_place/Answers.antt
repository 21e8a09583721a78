use Rattle.std.proofs.Common.{false, sym, true, ◌∙◌}
use Rattle.swarm_replicated.proofs.Recounting.{place-less, place-more, place-same}
use Rattle.swarm_replicated.proofs.known_places.Counted.after_place.Goals as goal

pub returns-then-later-clause-counted : goal.returns-then-later-clause-counted
returns-then-later-clause-counted g c =
    place-same (g.R.Rows.tables c.args.rows.now) c.args.service.now c.args.self c.args.number c.args.changes.now true
    c.requires.usable c.requires.counted c.requires.row c.requires.spared (sym c.is_held_place.ensures ∙ c.if-is_held_place.true)
    (sym c.in_ok-later.ensures ∙ c.if-later.true)

pub returns-then-is_held_place-clause-counted : goal.returns-then-is_held_place-clause-counted
returns-then-is_held_place-clause-counted g c =
    place-less (g.R.Rows.tables c.args.rows.now) c.args.service.now c.args.self c.without_place.result c.args.number
    c.args.changes.now c.requires.usable c.requires.counted c.requires.row c.requires.spared
    (sym c.is_held_place.ensures ∙ c.if-is_held_place.true) (sym c.in_ok-later.ensures ∙ c.if-later.false)
    c.without_place.ensures.service c.without_place.ensures.counted

pub returns-then-later-2-clause-counted : goal.returns-then-later-2-clause-counted
returns-then-later-2-clause-counted g c =
    place-more (g.R.Rows.tables c.args.rows.now) c.args.service.now c.args.self c.with_place.result c.args.number
    c.args.changes.now c.requires.usable c.requires.row c.requires.spared (sym c.in_ok-later.ensures ∙ c.if-later-2.true)
    c.with_place.ensures.service c.with_place.ensures.counted

pub returns-clause-counted : goal.returns-clause-counted
returns-clause-counted g c =
    place-same (g.R.Rows.tables c.args.rows.now) c.args.service.now c.args.self c.args.number c.args.changes.now false
    c.requires.usable c.requires.counted c.requires.row c.requires.spared (sym c.is_held_place.ensures ∙ c.if-is_held_place.false)
    (sym c.in_ok-later.ensures ∙ c.if-later-2.false)
