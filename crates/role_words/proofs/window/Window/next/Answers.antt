use Rattle.std.proofs.Common.{Some, subst, sym, ◌+◌}
use Rattle.std.specs.Option.{IfSome}
use Rattle.role_words.specs.Windows.{IsNext, Steps}
use Rattle.role_words.proofs.Stepping.{steps_out, steps_to}
use Rattle.role_words.proofs.window.Window.next.Goals as goal

pub returns-in-Some : goal.returns-in-Some
returns-in-Some c s tasks shows =
    let w = c.args.self.now in
    subst (λ x. Steps w (record w { index = c.in-Some.index + 1 }) (Some x) s tasks) (sym c.slot_at.ensures)
    (steps_to w s tasks c.in-Some.index
    (subst (λ o. IfSome o (λ i. IsNext w i)) c.in-Some.is c.next_index.ensures.some) shows)

pub returns-in-None : goal.returns-in-None
returns-in-None c s tasks shows = steps_out c.args.self.now s tasks (c.next_index.ensures.none c.in-None.is) shows
