-- The head line of a journal.
use Rattle.std.proofs.Common.{◌≡◌, ℕ, ◌+◌, ◌≤◌, ◌<◌, List, [], ◌++◌, length, codes, Bool, true, false, refl, Option, Some, None, inl, inr, sym, ◌∙◌, ap, subst, append_assoc, arith}
use Rattle.std.specs.Io.KnownBytes.{Consumes}
use Rattle.std.proofs.lemmas.Slice.Eq.{bytes_eq-Decides}
use Rattle.std.specs.Str.{bytes_eq}
use Rattle.swarm_input.specs.Held.{HeldBytes, TakesMore, has_newline_in, unread}
use Rattle.swarm_replay.specs.Journal.{is_head}
use Rattle.swarm_input.specs.Lines.{bytes_of, lines_of}
use Rattle.swarm_replay.specs.Inside.JournalBuffer.{BeginsTooLong, GivesBytes, GivesNext}
use Rattle.swarm_replay.specs.Inside.ReplaySteps.{EndsAtHead, TakesAHead}
use Rattle.swarm_input.specs.declared.input.ScriptLine.{ScriptLine}
use Rattle.swarm_replay.specs.declared.verdicts.EntryFault.TheVariants.{Head}
use Rattle.swarm_replay.specs.declared.verdicts.Verdict.TheVariants.{BadLine, ReadFault}
use Rattle.swarm_input.specs.Streams.{TakesLines}
use Rattle.swarm_input.proofs.Counts.{ends_line}
use Rattle.swarm_input.proofs.WholeLines.{next_lines}

abbrev pub nothing_held : HeldBytes
nothing_held = record { bytes = []; finished = false }

-- it is the head line
pub head_given : (old new : HeldBytes) (left after : Option (List ℕ)) (line : List ℕ) → GivesBytes old new left after line →
    bytes_eq line (codes "swarm journal 1\n") ≡ true → GivesBytes old new left after (codes "swarm journal 1\n")
head_given old new left after line gives e =
    subst (λ (l : List ℕ). GivesBytes old new left after l) ((bytes_eq-Decides line (codes "swarm journal 1\n")).0 e) gives

-- of a source that doesn't tell its bytes nothing is said
pub takes_unseen : (after : Option (List ℕ)) (most : ℕ) → TakesLines None after most 8224
takes_unseen after most = record {
  lines = [];
  ahead = [];
  taken = tt;
  ends = omega arith;
  size = omega arith;
  few = omega arith;
}

takes_line : (old new : HeldBytes) (left after : Option (List ℕ)) (line : List ℕ) → old ≡ nothing_held →
    GivesBytes old new left after line → length new.bytes ≤ 12320 → TakesAHead left after
takes_line old new None after line start gives more = takes_unseen after 1
takes_line old new (Some input) None line start gives more = absurd gives.reads
takes_line old new (Some input) (Some rest) line start gives more =
    let bytes = bytes_of gives.line in
    record {
      lines = bytes;
      ahead = new.bytes;
      taken = ap (λ (h : HeldBytes). h.bytes ++ input) (sym start) ∙ gives.reads.bytes ∙ sym (append_assoc bytes new.bytes rest);
      ends = ends_line gives.line gives.reads.one;
      size = omega (arith, ap (λ (l : List ℕ). length l) gives.bytes_is, gives.short);
      few = more;
    }

pub takes_held : (old new : HeldBytes) (left after : Option (List ℕ)) → old ≡ nothing_held → TakesMore old new left after →
    length new.bytes ≤ 12320 → TakesAHead left after
takes_held old new left after start takes more =
    let same : new.bytes ≡ takes.taken = takes.bytes ∙ ap (λ (h : HeldBytes). h.bytes ++ takes.taken) start in
    record {
      lines = [];
      ahead = takes.taken;
      taken = takes.source;
      ends = omega arith;
      size = omega arith;
      few = omega (arith, ap (λ (l : List ℕ). length l) same, more);
    }

other_line : (old new : HeldBytes) (left after : Option (List ℕ)) (line : List ℕ) → old ≡ nothing_held →
    GivesBytes old new left after line → bytes_eq line (codes "swarm journal 1\n") ≡ false →
    EndsAtHead (BadLine 1 Head) left after new
other_line old new None after line start gives e = (refl, tt)
other_line old new (Some input) None line start gives e = absurd gives.reads
other_line old new (Some input) (Some rest) line start gives e =
    let some : 0 < length (bytes_of gives.line) = omega (arith, ap (λ (l : List ℕ). length l) gives.bytes_is, gives.some) in (
      refl,
      inr (record {
        line = gives.line;
        more = lines_of (new.bytes ++ rest);
        lines = ap (λ (h : HeldBytes). lines_of (h.bytes ++ input)) (sym start)
            ∙ next_lines (old.bytes ++ input) (new.bytes ++ rest) gives.line gives.reads some;
        other = ap (λ (l : List ℕ). bytes_eq l (codes "swarm journal 1\n")) (sym gives.bytes_is) ∙ e;
      }),
    )

-- it is another line
pub head_other : (old new : HeldBytes) (left after : Option (List ℕ)) (line : List ℕ) → old ≡ nothing_held →
    GivesBytes old new left after line → bytes_eq line (codes "swarm journal 1\n") ≡ false → length new.bytes ≤ 12320 →
    EndsAtHead (BadLine 1 Head) left after new × TakesAHead left after
head_other old new left after line start gives e more =
    (other_line old new left after line start gives e, takes_line old new left after line start gives more)

no_line : (old new : HeldBytes) (left after : Option (List ℕ)) → old ≡ nothing_held → GivesNext old new left after None →
    EndsAtHead (BadLine 1 Head) left after new
no_line old new None after start gives = (refl, tt)
no_line old new (Some input) None start gives = absurd gives.0.source
no_line old new (Some input) (Some rest) start gives = (
  refl,
  inl (
      ap (λ (h : HeldBytes). h.bytes ++ input) (sym start)
      ∙ gives.1 (ap (λ (h : HeldBytes). h.finished) start)
      ),
)

-- there is no line
pub head_none : (old new : HeldBytes) (left after : Option (List ℕ)) → old ≡ nothing_held → GivesNext old new left after None →
    length new.bytes ≤ 12320 → EndsAtHead (BadLine 1 Head) left after new × TakesAHead left after
head_none old new left after start gives more =
    (no_line old new left after start gives, takes_held old new left after start gives.0 more)

not_head : (line : ScriptLine) (b : Bool) → is_head line ≡ b → 8224 < length (bytes_of line) → is_head line ≡ false
not_head line false e long = e
not_head line true e long =
    let same : bytes_of line ≡ codes "swarm journal 1\n" = (bytes_eq-Decides (bytes_of line) (codes "swarm journal 1\n")).0 e in
    absurd (omega (arith, ap (λ (l : List ℕ). length l) same, long))

too_long : (old new : HeldBytes) (left after : Option (List ℕ)) → old ≡ nothing_held → BeginsTooLong (unread old left) →
    EndsAtHead (BadLine 1 Head) left after new
too_long old new None after start means = (refl, tt)
too_long old new (Some input) after start means = (
  refl,
  inr (record {
    line = means.line;
    more = means.more;
    lines = ap (λ (h : HeldBytes). lines_of (h.bytes ++ input)) (sym start) ∙ means.lines;
    other = not_head means.line (is_head means.line) refl means.long;
  }),
)

-- it is too long
pub head_long : (old new : HeldBytes) (left after : Option (List ℕ)) → old ≡ nothing_held → TakesMore old new left after →
    BeginsTooLong (unread old left) → length new.bytes ≤ 12320 →
    EndsAtHead (BadLine 1 Head) left after new × TakesAHead left after
head_long old new left after start takes means more =
    (too_long old new left after start means, takes_held old new left after start takes more)

-- the source failed
pub head_failed : (old new : HeldBytes) (left after : Option (List ℕ)) → old ≡ nothing_held → TakesMore old new left after →
    has_newline_in new.bytes ≡ false → length new.bytes ≤ 12320 →
    EndsAtHead ReadFault left after new × TakesAHead left after
head_failed old new left after start takes none more =
    let same : new.bytes ≡ takes.taken = takes.bytes ∙ ap (λ (h : HeldBytes). h.bytes ++ takes.taken) start in
    ((subst (λ (l : List ℕ). Consumes left after l) (sym same) takes.source, none), takes_held old new left after start takes more)
