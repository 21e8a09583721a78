-- How many lines end in some bytes.
use Rattle.std.proofs.Common.{◌≡◌, ℕ, ◌+◌, ◌≤◌, List, [], ◌∷◌, ◌++◌, length, Bool, true, false, cond, refl, arith, ◌∙◌, ap, filter}
use Rattle.std.proofs.lemmas.List.{length-append}
use Rattle.std.proofs.lemmas.List.Elements.{filter-append}
use Rattle.swarm_input.specs.Lines.{bytes_of, is_newline, line_ends}
use Rattle.swarm_input.specs.Held.{has_newline_in}
use Rattle.swarm_input.specs.declared.input.ScriptLine.{ScriptLine}
use Rattle.swarm_input.proofs.LinesOf.{or_left, or_right}

ends_none : (bytes : List ℕ) → has_newline_in bytes ≡ false → line_ends bytes ≡ 0
ends_none [] none = refl
ends_none (b ∷ bytes) none =
    ap (λ (t : Bool). length (cond t (b ∷ filter is_newline bytes) (filter is_newline bytes))) (or_left (is_newline b) (has_newline_in bytes) none)
    ∙ ends_none bytes (or_right (is_newline b) (has_newline_in bytes) none)

pub ends-append : (xs ys : List ℕ) → line_ends (xs ++ ys) ≡ line_ends xs + line_ends ys
ends-append xs ys = ap (λ (l : List ℕ). length l) (filter-append is_newline xs ys) ∙ length-append (filter is_newline xs) (filter is_newline ys)

ends_with : (t : Bool) (text : List ℕ) → has_newline_in text ≡ false → line_ends (cond t (text ++ 10 ∷ []) text) ≤ 1
ends_with true text none = omega (arith, ends-append text (10 ∷ []), ends_none text none)
ends_with false text none = omega (arith, ends_none text none)

-- at most one line ends in those of a line
pub ends_line : (line : ScriptLine) → has_newline_in line.text ≡ false → line_ends (bytes_of line) ≤ 1
ends_line line none = ends_with line.newline line.text none
