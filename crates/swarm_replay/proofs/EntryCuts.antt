-- What is seen of a journal's next line in the held bytes, and its bytes cut off.
use Rattle.std.proofs.Common.{◌≡◌, ℕ, ◌+◌, ◌<◌, ◌≤◌, List, ◌++◌, length, take, drop, true, false, not, Option, Some, None, IfSome, IfNone, arith, ◌∙◌, ap, sym, subst}
use Rattle.std.specs.List.{position}
use Rattle.std.specs.Io.KnownBytes.{IsAtEnd, prepend_known}
use Rattle.std.proofs.lemmas.List.{length-take, length-append}
use Rattle.swarm_input.specs.Lines.{is_newline, lines_of, bytes_of}
use Rattle.swarm_input.specs.Held.{CutsNext, HeldBytes, IsNewlineAt, TakesMore, has_newline_in, line_size}
use Rattle.swarm_replay.specs.Inside.JournalBuffer.{BeginsTooLong, EndsAt, FindsEnd, GivesNext, IsBegun}
use Rattle.swarm_input.proofs.Cutting.{none_of, nothing_left, or_not, reads_line}
use Rattle.swarm_input.proofs.LinesOf.{begins_long, text_in_bytes}
use Rattle.swarm_input.proofs.Sights.{closed_size, lines_at, newline_at}

pub ends_at : (at : ℕ) (bytes : List ℕ) → position is_newline bytes ≡ Some at → at < 8224 → EndsAt bytes at
ends_at at bytes e short = record { ends = newline_at at bytes e; short = short }

-- The next line is too long.

pub long_closed : (at : ℕ) (bytes : List ℕ) → position is_newline bytes ≡ Some at → 8224 ≤ at → (left : Option (List ℕ)) →
    BeginsTooLong (prepend_known bytes left)
long_closed at bytes e long None = tt
long_closed at bytes e long (Some more) =
    let found = newline_at at bytes e in
    let text = take at bytes in
    record {
      line = record { text = text; newline = true };
      more = lines_of (drop (at + 1) bytes ++ more);
      lines = lines_at at bytes more found;
      long = omega (arith, closed_size text, length-take at bytes, found.inside);
    }

pub long_open : (bytes : List ℕ) → has_newline_in bytes ≡ false → 8224 < length bytes → (left : Option (List ℕ)) →
    BeginsTooLong (prepend_known bytes left)
long_open bytes none long None = tt
long_open bytes none long (Some more) =
    let line = begins_long bytes more none (omega arith) in
    record {
      line = line.line;
      more = line.more;
      lines = line.lines;
      long = omega (arith, line.size, text_in_bytes line.line);
    }

-- Cutting.

pub newline_of : (bytes : List ℕ) (place : Option ℕ) → IfSome place (λ at. EndsAt bytes at) → IfSome place (λ at. IsNewlineAt bytes at)
newline_of bytes None ends = tt
newline_of bytes (Some at) ends = ends.ends

pub open_of : (bytes : List ℕ) (place : Option ℕ) → IfNone place (IsBegun bytes) → IfNone place (has_newline_in bytes ≡ false)
open_of bytes None begun = begun.none
open_of bytes (Some at) begun = tt

-- what is cut off leaves no more than there was
pub leaves_few : (old new : HeldBytes) (place : Option ℕ) (line : Option (List ℕ)) → CutsNext old new place line →
    length old.bytes ≤ 12320 → length new.bytes ≤ 12320
leaves_few old new place None cuts few = omega (arith, ap (λ (h : HeldBytes). length h.bytes) cuts.0, few)
leaves_few old new place (Some line) cuts few =
    omega (arith, ap (λ (l : List ℕ). length l) cuts.held, length-append (bytes_of cuts.line) new.bytes, few)

-- What is cut off is the next line of the source.

is_short : (held : HeldBytes) (left : Option (List ℕ)) (place : Option ℕ) (size : ℕ) → FindsEnd held left place →
    size ≡ line_size (length held.bytes) place → size ≤ 8224
is_short held left None size found is = omega (arith, found.0.short, is)
is_short held left (Some at) size found is = omega (arith, found.short, is)

at_end : (held : HeldBytes) (left : Option (List ℕ)) (place : Option ℕ) → FindsEnd held left place → place ≡ None →
    IsAtEnd left
at_end held left None found e = found.1
at_end held left (Some at) found e = cc

pub gives_next : (old mid new : HeldBytes) (left left_after : Option (List ℕ)) (place : Option ℕ)
    (bytes : Option (List ℕ)) → old.finished ≡ false → TakesMore old mid left left_after →
    FindsEnd mid left_after place → CutsNext mid new place bytes → GivesNext old new left left_after bytes
gives_next old mid new left left_after place None unfinished takes found cuts = (
  subst (λ (h : HeldBytes). TakesMore old h left left_after) (sym cuts.0) takes,
  λ e. nothing_left old.bytes takes.taken left left_after takes.source (sym takes.bytes ∙ cuts.1)
      (at_end mid left_after place found cuts.2),
)
gives_next old mid new left left_after place (Some bytes) unfinished takes found cuts =
    record {
      line = cuts.line;
      bytes_is = cuts.bytes_is;
      reads = reads_line old.bytes mid.bytes new.bytes takes.taken left left_after cuts.line takes.source takes.bytes cuts.held
          (λ e. (cuts.last e, at_end mid left_after place found (none_of place cuts.line.newline cuts.newline e))) cuts.one;
      unfinished = unfinished;
      finished = or_not new.finished mid.finished (not cuts.line.newline) cuts.finished (takes.finished ∙ unfinished);
      short = is_short mid left_after place (length bytes) found cuts.size;
      some = cuts.some;
    }
