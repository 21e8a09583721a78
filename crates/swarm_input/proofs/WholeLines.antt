-- Lines behind whole ones, and the next line.
use Rattle.std.proofs.Common.{◌≡◌, ℕ, ◌<◌, List, [], ◌∷◌, ◌++◌, length, Bool, true, false, cond, refl, sym, ◌∙◌, ap, append_assoc, arith, filter}
use Rattle.std.proofs.lemmas.List.{append-nil}
use Rattle.swarm_input.specs.Lines.{lines_of, bytes_of, has_newline, whole_lines, IsWhole}
use Rattle.swarm_input.specs.Held.{has_newline_in}
use Rattle.swarm_input.specs.LineBuffer.{IsNextLine}
use Rattle.swarm_input.specs.declared.input.ScriptLine.{ScriptLine}
use Rattle.swarm_input.proofs.LinesOf.{lines_closed, lines_open}

-- A line behind whole ones.

alone_with : (t : Bool) (text : List ℕ) → has_newline_in text ≡ false → 0 < length (cond t (text ++ 10 ∷ []) text) → lines_of (cond t (text ++ 10 ∷ []) text) ≡ record { text = text; newline = t } ∷ []
alone_with true text none some = lines_closed text [] none
alone_with false [] none some = absurd (omega arith)
alone_with false (b ∷ text) none some = lines_open b text none

pub alone : (line : ScriptLine) → has_newline_in line.text ≡ false → 0 < length (bytes_of line) → lines_of (bytes_of line) ≡ line ∷ []
alone line none some = alone_with line.newline line.text none some

closed_with : (t : Bool) (text more : List ℕ) → t ≡ true → has_newline_in text ≡ false → lines_of (cond t (text ++ 10 ∷ []) text ++ more) ≡ record { text = text; newline = t } ∷ lines_of more
closed_with true text more e none = ap lines_of (append_assoc text (10 ∷ []) more) ∙ lines_closed text more none
closed_with false text more e none = cc

pub closed : (line : ScriptLine) (more : List ℕ) → line.newline ≡ true → has_newline_in line.text ≡ false → lines_of (bytes_of line ++ more) ≡ line ∷ lines_of more
closed line more e none = closed_with line.newline line.text more e none

pub whole_none : IsWhole []
whole_none = record { lines = λ more. refl; whole = λ more. refl }

step_lines : (read : List ℕ) (line : ScriptLine) → IsWhole read → has_newline_in line.text ≡ false → 0 < length (bytes_of line) → lines_of (read ++ bytes_of line) ≡ lines_of read ++ line ∷ []
step_lines read line w none some = w.lines (bytes_of line) ∙ ap (λ (ls : List ScriptLine). lines_of read ++ ls) (alone line none some)

kept_first : (t : Bool) (line : ScriptLine) (lines : List ScriptLine) → t ≡ true → cond t (line ∷ lines) lines ≡ line ∷ lines
kept_first true line lines e = refl
kept_first false line lines e = cc

pub step_whole : (read : List ℕ) (line : ScriptLine) → IsWhole read → has_newline_in line.text ≡ false → 0 < length (bytes_of line) → line.newline ≡ true → IsWhole (read ++ bytes_of line)
step_whole read line w none some e =
    let first = step_lines read line w none some in
    record {
      lines = λ more.
          ap lines_of (append_assoc read (bytes_of line) more) ∙ w.lines (bytes_of line ++ more) ∙ ap (λ (ls : List ScriptLine). lines_of read ++ ls) (closed line more e none) ∙
          sym (append_assoc (lines_of read) (line ∷ []) (lines_of more)) ∙ ap (λ (ls : List ScriptLine). ls ++ lines_of more) (sym first);
      whole = λ more.
          ap whole_lines (append_assoc read (bytes_of line) more) ∙ w.whole (bytes_of line ++ more) ∙ ap (λ (ls : List ScriptLine). lines_of read ++ filter has_newline ls) (closed line more e none) ∙
          ap (λ (ls : List ScriptLine). lines_of read ++ ls) (kept_first line.newline line (whole_lines more) e) ∙
          sym (append_assoc (lines_of read) (line ∷ []) (whole_lines more)) ∙ ap (λ (ls : List ScriptLine). ls ++ whole_lines more) (sym first);
    }

-- The next line.

pub none_whole : (bytes : List ℕ) → has_newline_in bytes ≡ false → whole_lines bytes ≡ []
none_whole [] e = refl
none_whole (b ∷ bytes) e = ap (filter has_newline) (lines_open b bytes e)

next_with : (t : Bool) (line : ScriptLine) (rest : List ℕ) → line.newline ≡ t → has_newline_in line.text ≡ false → 0 < length (bytes_of line) → (line.newline ≡ false → rest ≡ []) →
    lines_of (bytes_of line ++ rest) ≡ line ∷ lines_of rest
next_with true line rest e none some last = closed line rest e none
next_with false line rest e none some last =
    ap (λ (l : List ℕ). lines_of (bytes_of line ++ l)) (last e) ∙ ap lines_of (append-nil (bytes_of line)) ∙ alone line none some ∙ ap (λ (l : List ℕ). line ∷ lines_of l) (sym (last e))

pub next_lines : (old new : List ℕ) (line : ScriptLine) → IsNextLine old new line → 0 < length (bytes_of line) → lines_of old ≡ line ∷ lines_of new
next_lines old new line next some = ap lines_of next.bytes ∙ next_with line.newline line new refl next.one some next.last

-- Bytes in parts.

pub three : (a b c d : List ℕ) → a ++ (b ++ (c ++ d)) ≡ (a ++ (b ++ c)) ++ d
three a b c d = ap (λ (l : List ℕ). a ++ l) (sym (append_assoc b c d)) ∙ sym (append_assoc a (b ++ c) d)

pub finished_or : (t : Bool) (P : Type 0) → (t ≡ false → P) → (t ≡ true → P) → P
finished_or true P f g = g refl
finished_or false P f g = f refl
