use Rattle.std.proofs.Common.{ap, arith, subst, sym, ◌++◌, ◌<◌, ◌^◌, ◌∙◌, ◌∷◌, []}
use Rattle.role_words.specs.Windows.{noted, IsFresh, Shows}
use Rattle.role_words.proofs.Noting.{shows_more, stays_fresh}
use Rattle.role_words.proofs.window.Window.note.Goals as goal

pub returns-clause-shows : goal.returns-clause-shows
returns-clause-shows c tasks shows =
    let s = c.args.service.now in
    let x = c.args.task.now in
    let fits : c.place_number.result < 2 ^ 64 = omega arith in
    subst (λ w. Shows w s (tasks ++ x ∷ []))
    (sym (c.note_number.ensures ∙ ap (λ k. noted s x k c.args.self.now) c.place_number.ensures))
    (shows_more c.args.self.now s x tasks (subst (λ k. k < 2 ^ 64) c.place_number.ensures fits) shows)

pub returns-clause-fresh : goal.returns-clause-fresh
returns-clause-fresh c first fresh =
    subst (λ w. IsFresh w first) (sym c.note_number.ensures)
    (stays_fresh c.args.self.now c.args.service.now c.args.task.now c.place_number.result first fresh)
