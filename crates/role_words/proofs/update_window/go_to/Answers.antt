use Rattle.std.proofs.Common.{ap, subst, sym, ◌∙◌}
use Rattle.role_words.specs.UpdateMarks.{covers, ShowsUpdates}
use Rattle.role_words.proofs.Updating.{covers_first, shows_window}
use Rattle.role_words.proofs.update_window.go_to.Goals as goal

pub returns-then-not-covers-clause-shows : goal.returns-then-not-covers-clause-shows
returns-then-not-covers-clause-shows g c =
    let t = g.R.Rows.tables c.args.rows.now in
    let s = c.args.service.now in
    subst (λ w. ShowsUpdates w t s t.tasks) (sym c.go_on.ensures) (shows_window t s c.args.number)

pub returns-then-not-covers-clause-covers : goal.returns-then-not-covers-clause-covers
returns-then-not-covers-clause-covers g c =
    let t = g.R.Rows.tables c.args.rows.now in
    ap (λ w. covers w c.args.number) c.go_on.ensures ∙ covers_first t c.args.service.now c.args.number
