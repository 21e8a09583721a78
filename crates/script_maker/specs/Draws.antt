-- Numbers drawn one after the other from a state.
use Rattle.std.specs.Prelude.{ℕ, zero, suc, ◌+◌, ◌*◌, ◌/◌, ◌%◌}

abbrev pub next_state : ℕ → ℕ
next_state x = (1103515245 * x + 12345) % 2147483648

-- the state after so many draws
unfoldable pub state_after : ℕ → ℕ → ℕ
state_after zero x = x
state_after (suc n) x = next_state (state_after n x)

-- what a state gives, below the limit
abbrev pub given : ℕ → ℕ → ℕ
given x limit = (x / 65536) % limit

-- the n-th draw, from 1
abbrev pub draw : ℕ → ℕ → ℕ → ℕ
draw x n limit = given (state_after n x) limit
