-- Readings of lines, one after the other, and how far a script is read.
use Rattle.std.proofs.Common.{◌≡◌, ℕ, ◌+◌, ◌<◌, List, [], ◌∷◌, ◌++◌, length, Bool, true, false, cond, refl, Option, Some, None, Result, Ok, Err, sym, ◌∙◌, ap, subst, arith}
use Rattle.std.proofs.lemmas.List.{append-nil}
use Rattle.script_grammar.specs.declared.lines.Line.{Line}
use Rattle.swarm_input.proofs.WholeLines.{alone}
use Rattle.swarm_input.specs.Held.{has_newline_in}
use Rattle.swarm_input.specs.LineBuffer.{LineBuffer}
use Rattle.swarm_input.specs.Lines.{IsWhole, bytes_of, is_newline, lines_of, onto_line}
use Rattle.swarm_input.specs.Script.{Reading, meaning_at, read_on, reading, reading_at, reading_of}
use Rattle.swarm_input.specs.declared.faults.Fault.{Fault}
use Rattle.swarm_input.specs.declared.input.ScriptLine.{ScriptLine}
use Rattle.swarm_lines.specs.ScriptSteps.{Reached}

-- Further lines.

abbrev pub sizes : List ScriptLine → ℕ
sizes [] = 0
sizes (line ∷ lines) = length (bytes_of line) + sizes lines

-- a reading before another
abbrev pub onto : List Line → Reading → Reading
onto said more = record more { said = said ++ more.said }

abbrev pub good : List Line → Reading
good said = record { said = said; bad = None }

plus_zero : (n : ℕ) → n ≡ n + 0
plus_zero n = omega arith

plus_more : (n k m : ℕ) → (n + k) + m ≡ n + (k + m)
plus_more n k m = omega arith

plus_one : (n : ℕ) (line : Line) (lines : List Line) → (n + 1) + length lines ≡ n + length (line ∷ lines)
plus_one n line lines = omega arith

pub record FirstSaid (m : Result Line Fault) (said : List Line) (more : Reading) : Type 0 where
  pub line : Line
  pub rest : List Line
  pub meaning : m ≡ Ok line
  pub said_is : said ≡ line ∷ rest
  pub more_is : more ≡ good rest

some_none : (x : ℕ × Fault) → Some x ≡ None → ⊥
some_none x e = cc

first_said : (n : ℕ) (m : Result Line Fault) (more : Reading) (said : List Line) → read_on n m more ≡ good said → FirstSaid m said more
first_said n (Ok line) more said e = record {
  line = line;
  rest = more.said;
  meaning = refl;
  said_is = sym (ap (λ (r : Reading). r.said) e);
  more_is = ap (λ (b : Option (ℕ × Fault)). record { said = more.said; bad = b }) (ap (λ (r : Reading). r.bad) e);
}
first_said n (Err fault) more said e = absurd (some_none (n, fault) (ap (λ (r : Reading). r.bad) e))

-- lines that are all in the grammar, and others after them
pub reading-append : (n before : ℕ) (ls ms : List ScriptLine) (said : List Line) → reading_at n before ls ≡ good said →
    reading_at n before (ls ++ ms) ≡ onto said (reading_at (n + length said) (before + sizes ls) ms)
reading-append n before [] ms said e =
    let none : [] ≡ said = ap (λ (r : Reading). r.said) e in
    subst (λ (l : List Line). reading_at n before ms ≡ onto l (reading_at (n + length l) (before + 0) ms)) none
    (ap (λ k. reading_at k before ms) (plus_zero n) ∙ ap (λ k. reading_at (n + 0) k ms) (plus_zero before))
reading-append n before (line ∷ ls) ms said e =
    let first = first_said n (meaning_at before line) (reading_at (n + 1) (before + length (bytes_of line)) ls) said e in
    let others = reading-append (n + 1) (before + length (bytes_of line)) ls ms first.rest first.more_is in
    subst (λ (l : List Line). reading_at n before (line ∷ (ls ++ ms)) ≡ onto l (reading_at (n + length l) (before + (length (bytes_of line) + sizes ls)) ms)) (sym first.said_is)
    (ap (λ m. read_on n m (reading_at (n + 1) (before + length (bytes_of line)) (ls ++ ms))) first.meaning ∙ ap (λ (r : Reading). record r { said = first.line ∷ r.said }) others ∙
    ap (λ k. onto (first.line ∷ first.rest) (reading_at k ((before + length (bytes_of line)) + sizes ls) ms)) (plus_one n first.line first.rest) ∙
    ap (λ k. onto (first.line ∷ first.rest) (reading_at (n + length (first.line ∷ first.rest)) k ms)) (plus_more before (length (bytes_of line)) (sizes ls)))

-- Sizes.

size_with : (t : Bool) (b : ℕ) (text : List ℕ) → length (cond t ((b ∷ text) ++ 10 ∷ []) (b ∷ text)) ≡ length (cond t (text ++ 10 ∷ []) text) + 1
size_with true b text = omega arith
size_with false b text = omega arith

one_onto : (b : ℕ) (lines : List ScriptLine) → sizes (onto_line b lines) ≡ sizes lines + 1
one_onto b [] = refl
one_onto b (line ∷ lines) = omega (arith, size_with line.newline b line.text)

sizes_step : (t : Bool) (b : ℕ) (bytes : List ℕ) → sizes (lines_of bytes) ≡ length bytes → sizes (cond t (record { text = []; newline = true } ∷ lines_of bytes) (onto_line b (lines_of bytes))) ≡ length bytes + 1
sizes_step true b bytes h = omega arith
sizes_step false b bytes h = omega (arith, one_onto b (lines_of bytes))

-- the lines of bytes have all of them
sizes-lines : (bytes : List ℕ) → sizes (lines_of bytes) ≡ length bytes
sizes-lines [] = refl
sizes-lines (b ∷ bytes) = omega (arith, sizes_step (is_newline b) b bytes (sizes-lines bytes))

-- Further bytes.

pub read_more : (read rest : List ℕ) (said : List Line) → IsWhole read → reading read ≡ good said → reading (read ++ rest) ≡ onto said (reading_at (length said + 1) (length read) (lines_of rest))
read_more read rest said w e =
    let n : 1 + length said ≡ length said + 1 = omega arith in
    let before : 0 + sizes (lines_of read) ≡ length read = omega (arith, sizes-lines read) in
    ap reading_of (w.lines rest) ∙ reading-append 1 0 (lines_of read) (lines_of rest) said e ∙ ap (λ k. onto said (reading_at k (0 + sizes (lines_of read)) (lines_of rest))) n ∙
    ap (λ k. onto said (reading_at (length said + 1) k (lines_of rest))) before

-- a line in the grammar
pub read_line : (read : List ℕ) (line : ScriptLine) (said : List Line) (says : Line) → IsWhole read → reading read ≡ good said → has_newline_in line.text ≡ false → 0 < length (bytes_of line) →
    meaning_at (length read) line ≡ Ok says → reading (read ++ bytes_of line) ≡ good (said ++ says ∷ [])
read_line read line said says w e none some meaning =
    read_more read (bytes_of line) said w e ∙ ap (λ (ls : List ScriptLine). onto said (reading_at (length said + 1) (length read) ls)) (alone line none some) ∙
    ap (λ m. onto said (read_on (length said + 1) m (record { said = []; bad = None }))) meaning

-- a line outside the grammar
pub read_bad : (read rest : List ℕ) (line : ScriptLine) (more : List ScriptLine) (said : List Line) (fault : Fault) → IsWhole read → reading read ≡ good said → lines_of rest ≡ line ∷ more →
    meaning_at (length read) line ≡ Err fault → reading (read ++ rest) ≡ record { said = said; bad = Some (length said + 1, fault) }
read_bad read rest line more said fault w e lines meaning =
    read_more read rest said w e ∙ ap (λ (ls : List ScriptLine). onto said (reading_at (length said + 1) (length read) ls)) lines ∙
    ap (λ m. onto said (read_on (length said + 1) m (reading_at (length said + 1 + 1) (length read + length (bytes_of line)) more))) meaning ∙
    ap (λ (l : List Line). record { said = l; bad = Some (length said + 1, fault) }) (append-nil said)

-- The part that is read.

-- what is said so far is the beginning of what the script says
pub record SaysMore (input : List ℕ) (said : List Line) : Type 0 where
  pub more : List Line
  pub lines : (reading input).said ≡ said ++ more

pub all_read : (read rest : List ℕ) (said : List Line) → reading read ≡ good said → rest ≡ [] → reading (read ++ rest) ≡ good said
all_read read rest said e none = ap (λ (l : List ℕ). reading (read ++ l)) none ∙ ap reading (append-nil read) ∙ e

says_by : (t : Bool) (input read rest : List ℕ) (said : List Line) → input ≡ read ++ rest → reading read ≡ good said → (t ≡ false → IsWhole read) → (t ≡ true → rest ≡ []) → SaysMore input said
says_by true input read rest said parts e whole none = record {
  more = [];
  lines = ap (λ (l : List ℕ). (reading l).said) parts ∙ ap (λ (r : Reading). r.said) (all_read read rest said e (none refl)) ∙ sym (append-nil said);
}
says_by false input read rest said parts e whole none = record {
  more = (reading_at (length said + 1) (length read) (lines_of rest)).said;
  lines = ap (λ (l : List ℕ). (reading l).said) parts ∙ ap (λ (r : Reading). r.said) (read_more read rest said (whole refl) e);
}

pub says_more : (input : List ℕ) (said : List Line) (n : ℕ) (held : LineBuffer) (left : List ℕ) → Reached input said n held left → SaysMore input said
says_more input said n held left r = says_by held.finished input r.read (held.bytes ++ left) said r.bytes r.reading_is r.unfinished r.finished
