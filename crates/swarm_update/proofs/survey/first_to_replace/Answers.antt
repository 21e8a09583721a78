use Rattle.std.proofs.Common.{sym, ◌∙◌}
use Rattle.swarm_update.specs.declared.marks.Question.TheVariants as question
use Rattle.swarm_update.proofs.Answering.{found, missing}
use Rattle.swarm_update.proofs.survey.first_to_replace.Goals as goal

pub returns-in-Some : goal.returns-in-Some
returns-in-Some g c =
    found c.args.places.now (g.R.Rows.tables c.args.rows.now) c.args.service.now question.Replace c.first.result
    c.in-Some.number c.requires.shows c.first.ensures.some c.in-Some.is

pub returns-in-None-2 : goal.returns-in-None-2
returns-in-None-2 g c =
    missing c.args.places.now (g.R.Rows.tables c.args.rows.now) c.args.service.now question.Replace
    c.requires.shows (c.first.ensures.none c.in-None.is) (sym c.has_far.ensures ∙ c.if-has_far.false)
