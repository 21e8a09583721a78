use Rattle.std.proofs.Common.{◌≡◌, ◌∙◌, ap, sym, subst, [], ◌∷◌, ◌++◌, ◌<◌}
use Rattle.std.specs.List.{Any}
use Rattle.turn_cell.specs.Passes.{number_of}
use Rattle.uses_turn_cell.proofs.Numbers.{one_has}
use Rattle.uses_turn_cell.proofs.log_of.Goals as goal

pub close-callers-requires-clause-all : goal.close-callers-requires-clause-all
close-callers-requires-clause-all c = λ n below.
    subst (Any (λ p. number_of p ≡ n))
    (sym (c.in_ok-add.ensures.ok ∙ ap (λ passes. passes ++ c.args.second ∷ []) (c.in_ok-passes.ensures)))
    (one_has number_of c.args.first c.args.second c.requires.first.1 c.requires.second.1 n (subst (λ seats. n < seats) c.requires.seats below))
