-- The numbers of two callers.
use Rattle.std.proofs.Common.{◌≡◌, ◌<◌, ℕ, [], ◌∷◌, sym, ◌∙◌, arith}
use Rattle.std.specs.List.{Any}
use mathlib.Core.Logic.{dite}
use native.Mathlib.Decide.{ℕ_discrete}
use Rattle.turn_cell.proofs.Passes.{Any-push, Any-append_left}

-- of two with the numbers 0 and 1, one has each number below 2
pub one_has : {X : Type 0} (number : X → ℕ) (x y : X) → number x ≡ 0 → number y ≡ 1 → (n : ℕ) → n < 2 →
    Any (λ z. number z ≡ n) (x ∷ y ∷ [])
one_has number x y is_first is_second n below =
    dite (ℕ_discrete n 0)
    (λ zero. Any-append_left (λ z. number z ≡ n) (x ∷ []) (y ∷ []) (Any-push (λ z. number z ≡ n) [] x (is_first ∙ sym zero)))
    (λ other. Any-push (λ z. number z ≡ n) (x ∷ []) y (let second = is_second in omega arith))
