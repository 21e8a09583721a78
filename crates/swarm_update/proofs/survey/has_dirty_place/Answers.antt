use Rattle.std.proofs.Common.{None, Some, sym, ◌∙◌}
use Rattle.swarm_update.specs.declared.marks.Question.TheVariants as question
use Rattle.swarm_update.proofs.Answering.{any_dirty, found, missing}
use Rattle.swarm_update.proofs.survey.has_dirty_place.Goals as goal

pub returns-in-Some : goal.returns-in-Some
returns-in-Some g c =
    let t = g.R.Rows.tables c.args.rows.now in
    let s = c.args.service.now in
    any_dirty t s (Some c.in-Some.field-0)
    (found c.args.places.now t s question.Dirty c.first.result c.in-Some.field-0 c.requires.shows
    c.first.ensures.some c.in-Some.is)

pub returns-in-None-2 : goal.returns-in-None-2
returns-in-None-2 g c =
    let t = g.R.Rows.tables c.args.rows.now in
    let s = c.args.service.now in
    any_dirty t s None
    (missing c.args.places.now t s question.Dirty c.requires.shows (c.first.ensures.none c.in-None.is)
    (sym c.has_far.ensures ∙ c.if-has_far.false))
