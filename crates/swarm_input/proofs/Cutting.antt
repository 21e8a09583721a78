-- A line that is cut off the held bytes is the next one of the source.
use Rattle.std.proofs.Common.{◌≡◌, ℕ, ◌+◌, is_some, List, [], ◌∷◌, ◌++◌, length, Bool, true, false, not, ◌||◌, refl, Option, Some, None, append_assoc, ◌∙◌, ap, sym, subst}
use Rattle.std.specs.Io.KnownBytes.{Consumes, IsAtEnd, prepend_known}
use Rattle.swarm_input.specs.Lines.{bytes_of}
use Rattle.swarm_input.specs.Held.{has_newline_in}
use Rattle.swarm_input.specs.LineBuffer.{LineBuffer, TakesOn, ReadsLine, IsNothingLeft, HasFound, HandsOut, Cuts}
use Rattle.swarm_input.specs.declared.input.ScriptLine.{ScriptLine}

nothing : (xs ys : List ℕ) → xs ++ ys ≡ [] → (xs ≡ []) × (ys ≡ [])
nothing [] ys e = (refl, e)
nothing (x ∷ xs) ys e = cc

-- nothing is held and nothing is left
pub nothing_left : (bytes taken : List ℕ) (left left_after : Option (List ℕ)) → Consumes left left_after taken → bytes ++ taken ≡ [] → IsAtEnd left_after → IsNothingLeft (prepend_known bytes left)
nothing_left bytes taken None left_after source e end = tt
nothing_left bytes taken (Some xs) None source e end = absurd source
nothing_left bytes taken (Some xs) (Some ys) source e end =
    let parts = nothing bytes taken e in
    ap (λ (l : List ℕ). l ++ xs) parts.0 ∙ source ∙ ap (λ (l : List ℕ). l ++ ys) parts.1 ∙ end

at_end : (held : LineBuffer) (left : Option (List ℕ)) (place : Option ℕ) → HasFound held left place → place ≡ None → IsAtEnd left
at_end held left None found e = found.1
at_end held left (Some at) found e = cc

pub reads_line : (old mid new taken : List ℕ) (left left_after : Option (List ℕ)) (line : ScriptLine) → Consumes left left_after taken → mid ≡ old ++ taken → mid ≡ bytes_of line ++ new →
    (line.newline ≡ false → (new ≡ []) × IsAtEnd left_after) → has_newline_in line.text ≡ false → ReadsLine (prepend_known old left) (prepend_known new left_after) line
reads_line old mid new taken None left_after line source bytes cut last one = tt
reads_line old mid new taken (Some xs) None line source bytes cut last one = absurd source
reads_line old mid new taken (Some xs) (Some ys) line source bytes cut last one = record {
  bytes = ap (λ (l : List ℕ). old ++ l) source ∙ sym (append_assoc old taken ys) ∙ ap (λ (l : List ℕ). l ++ ys) (sym bytes ∙ cut) ∙ append_assoc (bytes_of line) new ys;
  one = one;
  last = λ e. ap (λ (l : List ℕ). l ++ ys) (last e).0 ∙ (last e).1;
}

-- where no newline is, it was not seen
pub none_of : (place : Option ℕ) (b : Bool) → b ≡ is_some place → b ≡ false → place ≡ None
none_of None b e h = refl
none_of (Some at) b e h = cc

pub or_not : (a b c : Bool) → a ≡ (b || c) → b ≡ false → a ≡ c
or_not a true c e h = cc
or_not a false c e h = e

pub gives : (old mid new : LineBuffer) (left left_after : Option (List ℕ)) (place : Option ℕ) (line : Option ScriptLine) → old.finished ≡ false → TakesOn old mid left left_after → HasFound mid left_after place →
    Cuts mid new place line → HandsOut old new left left_after line
gives old mid new left left_after place None unfinished takes found cuts = (
  subst (λ (h : LineBuffer). TakesOn old h left left_after) (sym cuts.0) takes,
  λ e. nothing_left old.bytes takes.taken left left_after takes.source (sym takes.bytes ∙ cuts.1) (at_end mid left_after place found cuts.2),
)
gives old mid new left left_after place (Some line) unfinished takes found cuts =
    let cut = cuts.0 in
    record {
      reads = reads_line old.bytes mid.bytes new.bytes takes.taken left left_after line takes.source takes.bytes cut.bytes (λ e. (cut.last e, at_end mid left_after place found (cuts.1 e))) cut.one;
      unfinished = unfinished;
      finished = or_not new.finished mid.finished (not line.newline) cut.finished (takes.finished ∙ unfinished);
      short = cut.short;
      read = cut.read ∙ ap (λ n. n + length (bytes_of line)) takes.read;
      some = cut.some;
      within = cut.within;
    }
