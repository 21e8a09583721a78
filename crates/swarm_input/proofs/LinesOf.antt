-- The lines of an input, from its front.
use Rattle.std.proofs.Common.{◌≡◌, ℕ, ◌+◌, ◌<◌, ◌≤◌, List, [], ◌∷◌, ◌++◌, length, Bool, true, false, cond, ◌||◌, ◌&&◌, refl, Err, arith, ◌∙◌, ap, nat_le}
use Rattle.std.proofs.lemmas.Bool.Decides.{nat_tests}
use Rattle.std.proofs.lemmas.List.{length-append}
use Rattle.script_grammar.specs.Lines.{meaning_of, is_long}
use Rattle.script_grammar.specs.declared.lines.LineFault.TheVariants.{Long}
use Rattle.swarm_input.specs.Lines.{is_newline, lines_of, onto_line, bytes_of}
use Rattle.swarm_input.specs.Script.{meaning_at, is_long_at, is_beyond, most_bytes, in_text}
use Rattle.swarm_input.specs.Held.{has_newline_in}
use Rattle.swarm_input.specs.declared.faults.Fault.TheVariants.{Size, Text}
use Rattle.swarm_input.specs.declared.input.ScriptLine.{ScriptLine}

-- A text without newline.

pub or_left : (a b : Bool) → (a || b) ≡ false → a ≡ false
or_left true b e = cc
or_left false b e = refl

pub or_right : (a b : Bool) → (a || b) ≡ false → b ≡ false
or_right true b e = cc
or_right false b e = e

-- up to a newline stands the first line
pub lines_closed : (text more : List ℕ) → has_newline_in text ≡ false → lines_of (text ++ 10 ∷ more) ≡ record { text = text; newline = true } ∷ lines_of more
lines_closed [] more e = refl
lines_closed (b ∷ text) more e =
    let other : is_newline b ≡ false = or_left (is_newline b) (has_newline_in text) e in
    ap (λ (t : Bool). cond t (record { text = []; newline = true } ∷ lines_of (text ++ 10 ∷ more)) (onto_line b (lines_of (text ++ 10 ∷ more)))) other ∙
    ap (onto_line b) (lines_closed text more (or_right (is_newline b) (has_newline_in text) e))

-- without a newline it is all one line
pub lines_open : (b : ℕ) (text : List ℕ) → has_newline_in (b ∷ text) ≡ false → lines_of (b ∷ text) ≡ record { text = b ∷ text; newline = false } ∷ []
lines_open b [] e =
    ap (λ (t : Bool). cond t (record { text = []; newline = true } ∷ []) (onto_line b [])) (or_left (is_newline b) false e)
lines_open b (c ∷ text) e =
    ap (λ (t : Bool). cond t (record { text = []; newline = true } ∷ lines_of (c ∷ text)) (onto_line b (lines_of (c ∷ text)))) (or_left (is_newline b) (has_newline_in (c ∷ text)) e) ∙
    ap (onto_line b) (lines_open c text (or_right (is_newline b) (has_newline_in (c ∷ text)) e))

-- the size of the first line's text
first_size : List ScriptLine → ℕ
first_size [] = 0
first_size (line ∷ lines) = length line.text

first_onto : (b : ℕ) (lines : List ScriptLine) → first_size (onto_line b lines) ≡ first_size lines + 1
unfolding first_size
first_onto b [] = refl
first_onto b (line ∷ lines) = omega arith

first_open : (text more : List ℕ) → has_newline_in text ≡ false → length text ≤ first_size (lines_of (text ++ more))
first_open [] more e = omega arith
first_open (b ∷ text) more e =
    let step : first_size (lines_of (b ∷ (text ++ more))) ≡ first_size (lines_of (text ++ more)) + 1 =
    ap (λ (t : Bool). first_size (cond t (record { text = []; newline = true } ∷ lines_of (text ++ more)) (onto_line b (lines_of (text ++ more))))) (or_left (is_newline b) (has_newline_in text) e) ∙
    first_onto b (lines_of (text ++ more)) in
    omega (arith, step, first_open text more (or_right (is_newline b) (has_newline_in text) e))

-- there is a first line, with at least this text
pub record BeginsLong (n : ℕ) (bytes : List ℕ) : Type 0 where
  pub line : ScriptLine
  pub more : List ScriptLine
  pub lines : lines_of bytes ≡ line ∷ more
  pub size : n ≤ length line.text

begins_of : (n : ℕ) (bytes : List ℕ) (lines : List ScriptLine) → lines_of bytes ≡ lines → 0 < n → n ≤ first_size lines → BeginsLong n bytes
unfolding first_size
begins_of n bytes [] e some size = absurd (omega arith)
begins_of n bytes (line ∷ more) e some size = record { line = line; more = more; lines = e; size = size }

pub begins_long : (text more : List ℕ) → has_newline_in text ≡ false → 0 < length text → BeginsLong (length text) (text ++ more)
begins_long text more e some = begins_of (length text) (text ++ more) (lines_of (text ++ more)) refl some (first_open text more e)

-- What a line that is too long says.

pub meaning_long : (before : ℕ) (line : ScriptLine) → 8193 ≤ length line.text → before + 8193 ≤ 16777217 → meaning_at before line ≡ Err (Text Long)
meaning_long before line long near =
    let test : is_long_at before line ≡ true = grind (arith, nat_tests) in
    ap (λ (t : Bool). cond t (Err (Text Long)) (cond (is_beyond before line) (Err Size) (in_text (meaning_of line.text)))) test

is_not_long : (a b : Bool) → (a ≡ true → b ≡ false) → (a && b) ≡ false
is_not_long true b h = h refl
is_not_long false b h = refl

pub meaning_beyond : (before : ℕ) (line : ScriptLine) → (8193 ≤ length line.text → 16777217 < before + 8193) → 16777216 < before + length (bytes_of line) → meaning_at before line ≡ Err Size
meaning_beyond before line far beyond =
    let long : is_long_at before line ≡ false = is_not_long (is_long line.text) (nat_le (before + 8193) (most_bytes + 1)) (λ h. grind (arith, nat_tests, far)) in
    let size : is_beyond before line ≡ true = grind (arith, nat_tests) in
    ap (λ (t : Bool). cond t (Err (Text Long)) (cond (is_beyond before line) (Err Size) (in_text (meaning_of line.text)))) long ∙
    ap (λ (t : Bool). cond t (Err Size) (in_text (meaning_of line.text))) size

pub meaning_within : (before : ℕ) (line : ScriptLine) → length line.text ≤ 8192 → before + length (bytes_of line) ≤ 16777216 → meaning_at before line ≡ in_text (meaning_of line.text)
meaning_within before line short within =
    let long : is_long_at before line ≡ false = is_not_long (is_long line.text) (nat_le (before + 8193) (most_bytes + 1)) (λ h. grind (arith, nat_tests)) in
    let size : is_beyond before line ≡ false = grind (arith, nat_tests) in
    ap (λ (t : Bool). cond t (Err (Text Long)) (cond (is_beyond before line) (Err Size) (in_text (meaning_of line.text)))) long ∙
    ap (λ (t : Bool). cond t (Err Size) (in_text (meaning_of line.text))) size

bytes_count : (line : ScriptLine) (b : Bool) → length line.text ≤ length (cond b (line.text ++ 10 ∷ []) line.text)
bytes_count line true = omega (arith, length-append line.text (10 ∷ []))
bytes_count line false = omega arith

pub text_in_bytes : (line : ScriptLine) → length line.text ≤ length (bytes_of line)
text_in_bytes line = bytes_count line line.newline
