use Rattle.std.proofs.Common.{subst, sym}
use Rattle.role_words.specs.UpdateMarks.{ShowsUpdates}
use Rattle.role_words.proofs.Updating.{shows_window}
use Rattle.role_words.proofs.update_window.update_places.Goals as goal

pub returns : goal.returns
returns g c =
    let t = g.R.Rows.tables c.args.rows.now in
    let s = c.args.service.now in
    subst (λ w. ShowsUpdates w t s t.tasks) (sym c.window_of.ensures) (shows_window t s 0)
