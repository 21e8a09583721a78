-- A line that is cut off the held bytes.
use Rattle.std.proofs.Common.{◌≡◌, ℕ, ◌+◌, ◌-◌, ◌<◌, ◌≤◌, List, [], ◌∷◌, ◌++◌, length, take, drop, Bool, true, false, cond, not, ◌||◌, refl, Option, Some, None, arith, append_assoc, ◌∙◌, ap, sym, subst, is_some, is_none, IfSome, IfNone}
use Rattle.std.proofs.lemmas.List.{append-nil, take_all, take-append-le, length-take, length-append}
use Rattle.swarm_input.specs.Lines.{bytes_of}
use Rattle.swarm_input.specs.Held.{CutsBytes, HeldBytes, IsNewlineAt, has_newline_in, line_size}
use Rattle.swarm_input.specs.LineBuffer.{CutsLine, Cuts, IsLineAt, IsOpen, LineBuffer}
use Rattle.swarm_input.proofs.Cutting.{none_of}
use Rattle.swarm_input.specs.declared.input.ScriptLine.{ScriptLine}

or_none : (b : Bool) → (b || false) ≡ (b || not true)
or_none true = refl
or_none false = refl

-- the bytes up to a newline, with it
front_is : (at : ℕ) (bytes : List ℕ) → IsNewlineAt bytes at → take (at + 1) bytes ≡ take at bytes ++ 10 ∷ []
front_is at bytes ends =
    let front = take at bytes ++ 10 ∷ [] in
    let size : length front ≡ at + 1 = omega (arith, length-append (take at bytes) (10 ∷ []), length-take at bytes, ends.inside) in
    ap (take (at + 1)) (ends.newline ∙ sym (append_assoc (take at bytes) (10 ∷ []) (drop (at + 1) bytes)))
    ∙ take-append-le (at + 1) front (drop (at + 1) bytes) (omega (arith, size))
    ∙ take_all (at + 1) front (omega (arith, size))

drop_all : (bytes : List ℕ) → drop (length bytes) bytes ≡ []
drop_all [] = refl
drop_all (b ∷ bytes) = drop_all bytes

-- so many of the held bytes are a line's
pub size_within : (bytes : List ℕ) (place : Option ℕ) → IfSome place (λ at. IsNewlineAt bytes at) → line_size (length bytes) place ≤ length bytes
size_within bytes None ends = omega arith
size_within bytes (Some at) ends = omega (arith, ends.inside)

-- where they are none, there is no line
pub no_line : (bytes : List ℕ) (place : Option ℕ) → line_size (length bytes) place ≡ 0 → (bytes ≡ []) × (place ≡ None)
no_line [] None e = (refl, refl)
no_line (b ∷ bytes) None e = absurd (omega (arith, e))
no_line bytes (Some at) e = absurd (omega (arith, e))

pub cuts_bytes : (old new : HeldBytes) (place : Option ℕ) (line : List ℕ) →
    IfSome place (λ at. IsNewlineAt old.bytes at) → IfNone place (has_newline_in old.bytes ≡ false) →
    0 < line_size (length old.bytes) place → line ≡ take (line_size (length old.bytes) place) old.bytes →
    new.bytes ≡ drop (line_size (length old.bytes) place) old.bytes → new.finished ≡ (old.finished || is_none place) →
    CutsBytes old new place line
cuts_bytes old new (Some at) line ends none some is rest finished =
    let text = take at old.bytes in
    let size : length (text ++ 10 ∷ []) ≡ at + 1 = omega (arith, length-append text (10 ∷ []), length-take at old.bytes, ends.inside) in
    let is' : line ≡ text ++ 10 ∷ [] = is ∙ front_is at old.bytes ends in
    record {
      line = record { text = text; newline = true };
      bytes_is = is';
      held = ends.newline ∙ sym (append_assoc text (10 ∷ []) (drop (at + 1) old.bytes)) ∙ ap (λ l. (text ++ 10 ∷ []) ++ l) (sym rest);
      one = ends.one;
      newline = refl;
      size = ap (λ (l : List ℕ). length l) is' ∙ size;
      last = λ e. cc;
      finished = finished ∙ or_none old.finished;
      some = omega (arith, ap (λ (l : List ℕ). length l) is', size);
    }
cuts_bytes old new None line ends none some is rest finished =
    let is' : line ≡ old.bytes = is ∙ take_all (length old.bytes) old.bytes (omega arith) in
    let rest' : new.bytes ≡ [] = rest ∙ drop_all old.bytes in
    record {
      line = record { text = old.bytes; newline = false };
      bytes_is = is';
      held = sym (append-nil old.bytes) ∙ ap (λ l. old.bytes ++ l) (sym rest');
      one = none;
      newline = refl;
      size = ap (λ (l : List ℕ). length l) is';
      last = λ e. rest';
      finished = finished;
      some = omega (arith, ap (λ (l : List ℕ). length l) is', some);
    }

is_last : (place : Option ℕ) (last : Bool) → is_some place ≡ not last → last ≡ is_none place
is_last None true e = refl
is_last None false e = cc
is_last (Some at) true e = cc
is_last (Some at) false e = refl

-- the same by the numbers and the test that were worked out
pub cuts_at : (old new : HeldBytes) (place : Option ℕ) (line : List ℕ) (held count : ℕ) (last : Bool) →
    IfSome place (λ at. IsNewlineAt old.bytes at) → IfNone place (has_newline_in old.bytes ≡ false) →
    held ≡ length old.bytes → count ≡ line_size held place → 0 < count → line ≡ take count old.bytes →
    new.bytes ≡ drop count old.bytes → new.finished ≡ (old.finished || last) → is_some place ≡ not last → CutsBytes old new place line
cuts_at old new place line held count last ends none all is some line_is rest finished last_is =
    let size : count ≡ line_size (length old.bytes) place = is ∙ ap (λ n. line_size n place) all in
    cuts_bytes old new place line ends none (omega (arith, some, size)) (line_is ∙ ap (λ n. take n old.bytes) size)
    (rest ∙ ap (λ n. drop n old.bytes) size) (finished ∙ ap (λ (b : Bool). old.finished || b) (is_last place last last_is))

-- The line of a script.

pub newline_of : (held : LineBuffer) (place : Option ℕ) → IfSome place (λ at. IsLineAt held at) → IfSome place (λ at. IsNewlineAt held.bytes at)
newline_of held None line = tt
newline_of held (Some at) line = line.ends

pub open_of : (held : LineBuffer) (place : Option ℕ) → IfNone place (IsOpen held) → IfNone place (has_newline_in held.bytes ≡ false)
open_of held None none = none.none
open_of held (Some at) none = tt

-- its bytes without its newline are its text
text_is : (newline : Bool) (text : List ℕ) → take (length (cond newline (text ++ 10 ∷ []) text) - cond newline 1 0) (cond newline (text ++ 10 ∷ []) text) ≡ text
text_is true text =
    let size : length (text ++ 10 ∷ []) - 1 ≡ length text = omega (arith, length-append text (10 ∷ [])) in
    ap (λ n. take n (text ++ 10 ∷ [])) size ∙ take-append-le (length text) text (10 ∷ []) (omega arith) ∙ take_all (length text) text (omega arith)
text_is false text = take_all (length text - 0) text (omega arith)

same_line : (line cut : ScriptLine) (bytes : List ℕ) (newline : Bool) → bytes ≡ bytes_of cut → cut.newline ≡ newline → line.newline ≡ newline →
    line.text ≡ take (length bytes - cond newline 1 0) bytes → cut ≡ line
same_line line cut bytes newline is e here text =
    let same : cut.text ≡ line.text =
    sym (text_is cut.newline cut.text) ∙ ap (λ (l : List ℕ). take (length l - cond cut.newline 1 0) l) (sym is)
    ∙ ap (λ (b : Bool). take (length bytes - cond b 1 0) bytes) e ∙ sym text in
    ap (λ (t : List ℕ). record { text = t; newline = cut.newline }) same
    ∙ ap (λ (b : Bool). record { text = line.text; newline = b }) (e ∙ sym here)

text_size : (newline : Bool) (text : List ℕ) → length (cond newline (text ++ 10 ∷ []) text) ≡ length text + cond newline 1 0
text_size true text = omega (arith, length-append text (10 ∷ []))
text_size false text = omega arith

is_short : (held : LineBuffer) (place : Option ℕ) (line : ScriptLine) (size : ℕ) → IfSome place (λ at. IsLineAt held at) → IfNone place (IsOpen held) →
    line.newline ≡ is_some place → size ≡ line_size (length held.bytes) place → length (bytes_of line) ≡ size → length line.text ≤ 8192
is_short held (Some at) line size ends none e is all =
    let text : length (bytes_of line) ≡ length line.text + 1 = text_size line.newline line.text ∙ ap (λ (b : Bool). length line.text + cond b 1 0) e in
    omega (arith, ends.short, is, all, text)
is_short held None line size ends none e is all =
    let text : length (bytes_of line) ≡ length line.text + 0 = text_size line.newline line.text ∙ ap (λ (b : Bool). length line.text + cond b 1 0) e in
    omega (arith, none.short, is, all, text)

is_within : (held : LineBuffer) (place : Option ℕ) (size : ℕ) → IfSome place (λ at. IsLineAt held at) → IfNone place (IsOpen held) →
    size ≡ line_size (length held.bytes) place → held.read + size ≤ 16777216
is_within held (Some at) size ends none is = omega (arith, ends.within, is)
is_within held None size ends none is = omega (arith, none.within, is)

-- what was cut off is the next line
pub cuts_line : (old new : HeldBytes) (read : ℕ) (place : Option ℕ) (bytes : List ℕ) (line : ScriptLine) → CutsBytes old new place bytes →
    IfSome place (λ at. IsLineAt (record { bytes = old.bytes; read = read; finished = old.finished }) at) →
    IfNone place (IsOpen (record { bytes = old.bytes; read = read; finished = old.finished })) →
    line.newline ≡ is_some place → line.text ≡ take (length bytes - cond (is_some place) 1 0) bytes →
    Cuts (record { bytes = old.bytes; read = read; finished = old.finished }) (record { bytes = new.bytes; read = read + length bytes; finished = new.finished }) place (Some line)
cuts_line old new read place bytes line cuts ends none newline text =
    let before : LineBuffer = record { bytes = old.bytes; read = read; finished = old.finished } in
    let after : LineBuffer = record { bytes = new.bytes; read = read + length bytes; finished = new.finished } in
    let size : length (bytes_of cuts.line) ≡ length bytes = ap (λ (l : List ℕ). length l) (sym cuts.bytes_is) in
    let whole : CutsLine before after cuts.line = record {
      bytes = cuts.held;
      one = cuts.one;
      last = cuts.last;
      finished = cuts.finished;
      short = is_short before place cuts.line (length bytes) ends none cuts.newline cuts.size size;
      read = ap (λ n. read + n) (sym size);
      some = omega (arith, size, cuts.some);
      within = is_within before place (length bytes) ends none cuts.size;
    } in
    (subst (λ (l : ScriptLine). CutsLine before after l) (same_line line cuts.line bytes (is_some place) cuts.bytes_is cuts.newline newline text) whole, none_of place line.newline newline)
