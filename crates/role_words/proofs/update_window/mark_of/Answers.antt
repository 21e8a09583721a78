use Rattle.std.proofs.Common.{◌∙◌}
use Rattle.role_words.proofs.Updating.{mark_shown}
use Rattle.role_words.proofs.update_window.mark_of.Goals as goal

pub returns-clause-mark : goal.returns-clause-mark
returns-clause-mark g c =
    let t = g.R.Rows.tables c.args.rows.now in
    c.mark_at.ensures
    ∙ mark_shown c.go_to.new.window t c.args.service.now t.tasks c.args.number c.go_to.ensures.shows
    c.go_to.ensures.covers
