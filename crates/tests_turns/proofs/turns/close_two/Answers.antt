use Rattle.std.proofs.Common.{◌≡◌, [], ◌∷◌, sym, ◌∙◌, subst, arith}
use Rattle.std.specs.List.{Any}
use mathlib.Core.Logic.{dite}
use native.Mathlib.Decide.{ℕ_discrete}
use Rattle.turn_cell.specs.Passes.{number_of}
use Rattle.turn_cell.proofs.Passes.{Any-push, Any-append_left}
use Rattle.tests_turns.proofs.turns.close_two.Goals as goal

pub close-callers-requires-clause-all : goal.close-callers-requires-clause-all
close-callers-requires-clause-all c = λ n below.
    let numbers = c.requires.numbers in
    let two = c.requires.cell.0 in
    let one = c.push.new.self in
    subst (Any (λ p. number_of p ≡ n)) (sym c.in-Ok-push.ensures.ok) (dite (ℕ_discrete n 0)
    (λ zero. Any-push (λ p. number_of p ≡ n) one c.args.first (numbers.0 ∙ sym zero))
    (λ other. Any-append_left (λ p. number_of p ≡ n) one (c.args.first ∷ [])
    (subst (Any (λ p. number_of p ≡ n)) (sym c.in-Ok.ensures.ok) (Any-push (λ p. number_of p ≡ n) c.new-passes.result c.args.second (let second = numbers.1 in omega arith)))))
