use Rattle.std.proofs.Common.{subst, sym, []}
use Rattle.role_words.specs.Windows.{Shows}
use Rattle.role_words.proofs.Noting.{shows_none}
use Rattle.role_words.proofs.window.Window.new.Goals as goal

pub returns-clause-shows : goal.returns-clause-shows
returns-clause-shows c s = subst (λ w. Shows w s []) (sym c.blank.ensures) (shows_none s c.args.first)
