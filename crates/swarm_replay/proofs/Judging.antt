-- A journal that is replayed: one entry more, a fault, the end.
use Rattle.std.proofs.Common.{◌≡◌, ℕ, ◌+◌, ◌≤◌, ◌<◌, List, [], ◌∷◌, ◌++◌, length, codes, Bool, true, false, not, cond, ◌&&◌, refl, Option, Some, None, Ok, Err, inr, sym, ◌∙◌, ap, subst, append_assoc, arith}
use Rattle.std.specs.List.{flat_map, list_all}
use Rattle.std.specs.Io.KnownBytes.{Consumes}
use Rattle.std.specs.Str.{bytes_eq}
use Rattle.std.proofs.lemmas.Grind.{flat_map-append}
use Rattle.std.proofs.lemmas.List.{append-nil, length-append}
use Rattle.std.proofs.lemmas.List.Folds.{list_all-append}
use Rattle.swarm_model.proofs.Base.Histories.{IsLegalFrom-snoc, replay-snoc}
use Rattle.swarm_model.specs.History.{may_follow, step_world}
use Rattle.swarm_objects.specs.World.{World, empty_world}
use Rattle.swarm_objects.specs.declared.calls.Entry.{Entry}
use Rattle.script_grammar.specs.Entries.{entry_meaning}
use Rattle.script_grammar.specs.HasText.{has_text}
use Rattle.script_grammar.specs.declared.lines.LineFault.TheVariants.{Long}
use Rattle.script_grammar.specs.Texts.{entry_text}
use Rattle.swarm_input.specs.Held.{HeldBytes, TakesMore, has_newline_in, unread}
use Rattle.swarm_replay.specs.Journal.{JournalReading, entry_at, in_journal, is_head, journal_of, journal_reading, journal_text}
use Rattle.swarm_input.specs.Lines.{bytes_of, lines_of, whole_lines, IsWhole}
use Rattle.swarm_replay.specs.Replay.{BeginsWith, IsVerdictOf}
use Rattle.swarm_replay.specs.Inside.JournalBuffer.{GivesBytes, GivesNext, MeansStop}
use Rattle.swarm_replay.specs.Inside.ReplaySteps.{IsReplaying, ReachesBy, ReachesEntries, stopped}
use Rattle.swarm_replay.specs.declared.entry_lines.Stop.{Stop}
use Rattle.swarm_replay.specs.declared.entry_lines.Stop.TheVariants.{Failed, Long as TooLong, NoMemory as NoRoom}
use Rattle.swarm_input.specs.declared.input.ScriptLine.{ScriptLine}
use Rattle.swarm_replay.specs.declared.verdicts.EntryFault.{EntryFault}
use Rattle.swarm_replay.specs.declared.verdicts.EntryFault.TheVariants.{Head, Text}
use Rattle.swarm_replay.specs.declared.verdicts.Verdict.TheVariants.{Legal, BadLine, ReadFault, NoMemory}
use Rattle.swarm_replay.proofs.JournalReadings.{all_read, entry_within, good, long_says, nothing_before, read_bad, read_entry, read_more}
use Rattle.swarm_input.specs.Streams.{TakesLines}
use Rattle.swarm_replay.proofs.Heads.{takes_unseen}
use Rattle.swarm_input.proofs.Counts.{ends-append, ends_line}
use Rattle.swarm_input.proofs.WholeLines.{alone, step_whole, whole_none, finished_or, none_whole, three}

-- The head.

head_reads : (line : ScriptLine) → bytes_of line ≡ codes "swarm journal 1\n" → has_newline_in line.text ≡ false →
    0 < length (bytes_of line) → journal_reading (bytes_of line) ≡ good []
head_reads line is one some =
    let head : is_head line ≡ true = ap (λ (l : List ℕ). bytes_eq l (codes "swarm journal 1\n")) is in
    ap journal_of (alone line one some)
    ∙ ap (λ (b : Bool). cond b (good []) (record { entries = []; bad = Some (1, Head) })) head

reaches_head : (input left : Option (List ℕ)) (old new : HeldBytes) → old ≡ record { bytes = []; finished = false } →
    GivesBytes old new input left (codes "swarm journal 1\n") → ReachesBy input [] new left
reaches_head None left old new start gives = tt
reaches_head (Some input) None old new start gives = absurd gives.reads
reaches_head (Some input) (Some left) old new start gives =
    let line = gives.line in
    let some : 0 < length (bytes_of line) = omega (arith, ap (λ (l : List ℕ). length l) gives.bytes_is, gives.some) in
    let open' : new.finished ≡ false → line.newline ≡ true = λ e. not_false line.newline (sym gives.finished ∙ e) in
    record {
      read = bytes_of line;
      bytes = ap (λ (h : HeldBytes). h.bytes ++ input) (sym start) ∙ gives.reads.bytes;
      reading_is = head_reads line (sym gives.bytes_is) gives.reads.one some;
      text = sym gives.bytes_is ∙ sym (append-nil (codes "swarm journal 1\n"));
      few = omega (arith, ap (λ (l : List ℕ). length l) gives.bytes_is, gives.short);
      ends = omega (arith, ends_line line gives.reads.one);
      unfinished = λ e. step_whole [] line whole_none gives.reads.one some (open' e);
      finished = λ e. gives.reads.last (not_true line.newline (sym gives.finished ∙ e));
    }
  where
    not_false : (b : Bool) → not b ≡ false → b ≡ true
    not_false true e = refl
    not_false false e = cc

    not_true : (b : Bool) → not b ≡ true → b ≡ false
    not_true true e = cc
    not_true false e = refl

-- the head line was read, and nothing is done yet
pub starts : (input left : Option (List ℕ)) (old new : HeldBytes) (w : World) → old ≡ record { bytes = []; finished = false } →
    GivesBytes old new input left (codes "swarm journal 1\n") → w ≡ empty_world → IsReplaying input [] w 0 new left
starts input left old new w start gives world = record {
  legal = tt;
  world = world;
  count_is = refl;
  texts = refl;
  reached = reaches_head input left old new start gives;
}

-- What was taken.

pub takes_more : (input : Option (List ℕ)) (H : List Entry) (held new : HeldBytes) (left after : Option (List ℕ)) (most : ℕ) →
    ReachesBy input H held left → length H + 1 ≤ most → TakesMore held new left after → length new.bytes ≤ 12320 →
    TakesLines input after most 8224
takes_more None H held new left after most at few takes more = takes_unseen after most
takes_more (Some input) H held new None after most at few takes more = absurd at
takes_more (Some input) H held new (Some left) None most at few takes more = absurd takes.source
takes_more (Some input) H held new (Some left) (Some rest) most at few takes more = record {
  lines = at.read;
  ahead = held.bytes ++ takes.taken;
  taken = at.bytes ∙ ap (λ (l : List ℕ). at.read ++ (held.bytes ++ l)) takes.source ∙ three at.read held.bytes takes.taken rest;
  ends = omega (arith, at.ends, few);
  size = omega (arith, at.few, few);
  few = omega (arith, ap (λ (l : List ℕ). length l) takes.bytes, more);
}

pub takes_line : (input : Option (List ℕ)) (H : List Entry) (held new : HeldBytes) (left after : Option (List ℕ))
    (bytes : List ℕ) (most : ℕ) → ReachesBy input H held left → length H + 2 ≤ most → GivesBytes held new left after bytes →
    length new.bytes ≤ 12320 → TakesLines input after most 8224
takes_line None H held new left after bytes most at few gives more = takes_unseen after most
takes_line (Some input) H held new None after bytes most at few gives more = absurd at
takes_line (Some input) H held new (Some left) None bytes most at few gives more = absurd gives.reads
takes_line (Some input) H held new (Some left) (Some rest) bytes most at few gives more =
    let line = bytes_of gives.line in
    record {
      lines = at.read ++ line;
      ahead = new.bytes;
      taken = at.bytes ∙ ap (λ (l : List ℕ). at.read ++ l) gives.reads.bytes
          ∙ three at.read line new.bytes rest
          ∙ ap (λ (l : List ℕ). l ++ rest) (sym (append_assoc at.read line new.bytes));
      ends = omega (arith, ends-append at.read line, ends_line gives.line gives.reads.one, at.ends, few);
      size = omega (
        arith,
        length-append at.read line,
        ap (λ (l : List ℕ). length l) gives.bytes_is,
        gives.short,
        at.few,
        few,
      );
      few = omega (arith, more);
    }

-- One entry more.

journal-snoc : (H : List Entry) (e : Entry) → journal_text (H ++ e ∷ []) ≡ journal_text H ++ entry_text e
journal-snoc H e =
    let head = codes "swarm journal 1\n" in
    ap (λ l. head ++ l) (flat_map-append entry_text H (e ∷ []) ∙ ap (λ l. flat_map entry_text H ++ l) (append-nil (entry_text e)))
    ∙ sym (append_assoc head (flat_map entry_text H) (entry_text e))

pub says_entry : (H : List Entry) (line : ScriptLine) (e : Entry) → length H ≤ 300000 → entry_meaning (bytes_of line) ≡ Ok e →
    entry_at (2 + length H) line ≡ Ok e
says_entry H line e few says = entry_within (2 + length H) line (omega (arith, few)) ∙ ap in_journal says

not_false : (b : Bool) → not b ≡ false → b ≡ true
not_false true e = refl
not_false false e = cc

not_true : (b : Bool) → not b ≡ true → b ≡ false
not_true true e = cc
not_true false e = refl

reaches_next : (input : Option (List ℕ)) (H : List Entry) (e : Entry) (held new : HeldBytes)
    (left after : Option (List ℕ)) (bytes : List ℕ) → ReachesBy input H held left → length H ≤ 300000 →
    GivesBytes held new left after bytes → entry_meaning bytes ≡ Ok e → bytes ≡ entry_text e →
    ReachesBy input (H ++ e ∷ []) new after
reaches_next None H e held new left after bytes at few gives says text = tt
reaches_next (Some input) H e held new None after bytes at few gives says text = absurd at
reaches_next (Some input) H e held new (Some left) None bytes at few gives says text = absurd gives.reads
reaches_next (Some input) H e held new (Some left) (Some rest) bytes at few gives says text =
    let line = gives.line in
    let whole = at.unfinished gives.unfinished in
    let some : 0 < length (bytes_of line) = omega (arith, ap (λ (l : List ℕ). length l) gives.bytes_is, gives.some) in
    let means = says_entry H line e few (subst (λ (l : List ℕ). entry_meaning l ≡ Ok e) gives.bytes_is says) in
    record {
      read = at.read ++ bytes_of line;
      bytes = at.bytes ∙ ap (λ (l : List ℕ). at.read ++ l) gives.reads.bytes
          ∙ sym (append_assoc at.read (bytes_of line) (new.bytes ++ rest));
      reading_is = read_entry at.read line H e whole at.reading_is gives.reads.one some means;
      text = ap (λ (l : List ℕ). l ++ bytes_of line) at.text
          ∙ ap (λ (l : List ℕ). journal_text H ++ l) (sym gives.bytes_is ∙ text)
          ∙ sym (journal-snoc H e);
      few = omega (
        arith,
        length-append at.read (bytes_of line),
        length-append H (e ∷ []),
        at.few,
        ap (λ (l : List ℕ). length l) gives.bytes_is,
        gives.short,
      );
      ends = omega (
        arith,
        ends-append at.read (bytes_of line),
        length-append H (e ∷ []),
        at.ends,
        ends_line line gives.reads.one,
      );
      unfinished = λ q. step_whole at.read line whole gives.reads.one some (not_false line.newline (sym gives.finished ∙ q));
      finished = λ q. gives.reads.last (not_true line.newline (sym gives.finished ∙ q));
    }

and_true : (a b : Bool) → a ≡ true → b ≡ true → (a && (b && true)) ≡ true
and_true true true e h = refl
and_true true false e h = cc
and_true false b e h = cc

pub goes_on : (input left after : Option (List ℕ)) (w v : World) (count : ℕ) (held new : HeldBytes) (bytes : List ℕ)
    (H : List Entry) (e : Entry) → IsReplaying input H w count held left → count < 300001 →
    GivesBytes held new left after bytes →
    entry_meaning bytes ≡ Ok e → bytes ≡ entry_text e → has_text e ≡ true → may_follow w e.what ≡ true → v ≡ step_world w e →
    IsReplaying input (H ++ e ∷ []) v (count + 1) new after
goes_on input left after w v count held new bytes H e at few gives means one has may is =
    let so_few : length H ≤ 300000 = omega (arith, at.count_is, few) in
    record {
      legal = IsLegalFrom-snoc empty_world H e at.legal (subst (λ (u : World). may_follow u e.what ≡ true) at.world may);
      world = is ∙ ap (λ (u : World). step_world u e) at.world ∙ sym (replay-snoc empty_world H e);
      count_is = omega (arith, at.count_is, length-append H (e ∷ []));
      texts = list_all-append has_text H (e ∷ []) ∙ and_true (list_all has_text H) (has_text e) at.texts has;
      reached = reaches_next input H e held new left after bytes at.reached so_few gives means one;
    }

-- The end of the reading.

-- the entries so far are the first
begins_by : (t : Bool) (input read rest : List ℕ) (H : List Entry) → input ≡ read ++ rest → journal_reading read ≡ good H →
    (t ≡ false → IsWhole read) → (t ≡ true → rest ≡ []) → BeginsWith (journal_reading input) H
begins_by true input read rest H parts is whole none = (
  [],
  ap (λ (l : List ℕ). (journal_reading l).entries) parts
      ∙ ap (λ (r : JournalReading). r.entries) (all_read read rest H is (none refl))
      ∙ sym (append-nil H),
)
begins_by false input read rest H parts is whole none =
    let more = read_more read rest H (whole refl) is in (
      _,
      ap (λ (l : List ℕ). (journal_reading l).entries) parts ∙ ap (λ (r : JournalReading). r.entries) more,
    )

pub begins : (input : List ℕ) (H : List Entry) (held : HeldBytes) (left : List ℕ) → ReachesEntries input H held left →
    BeginsWith (journal_reading input) H
begins input H held left at =
    begins_by held.finished input at.read (held.bytes ++ left) H at.bytes at.reading_is at.unfinished at.finished

-- memory is wanting
pub no_memory : (input : Option (List ℕ)) (H : List Entry) (held : HeldBytes) (left after : Option (List ℕ))
    (taken : List ℕ) → ReachesBy input H held left → Consumes left after taken → IsVerdictOf NoMemory input after H
no_memory None H held left after taken at takes = tt
no_memory (Some input) H held None after taken at takes = absurd at
no_memory (Some input) H held (Some left) None taken at takes = absurd takes
no_memory (Some input) H held (Some left) (Some rest) taken at takes = begins input H held left at

-- there is no further line
pub whole_journal : (input : List ℕ) (H : List Entry) (held : HeldBytes) (left : List ℕ) (rest : List ℕ) (count : ℕ) →
    ReachesEntries input H held left → held.bytes ++ left ≡ [] → IsVerdictOf (Legal count) (Some input) (Some rest) H
whole_journal input H held left rest count at none = (
  ap journal_reading at.bytes ∙ all_read at.read (held.bytes ++ left) H at.reading_is none,
  at.bytes ∙ ap (λ (l : List ℕ). at.read ++ l) none ∙ append-nil at.read ∙ at.text,
)

pub no_line : (input : Option (List ℕ)) (H : List Entry) (count : ℕ) (held new : HeldBytes) (left after : Option (List ℕ)) →
    ReachesBy input H held left → GivesNext held new left after None → IsVerdictOf (Legal count) input after H
no_line None H count held new left after at gives = tt
no_line (Some input) H count held new None after at gives = absurd at
no_line (Some input) H count held new (Some left) None at gives = absurd gives.0.source
no_line (Some input) H count held new (Some left) (Some rest) at gives =
    whole_journal input H held left rest count at
    (finished_or held.finished (held.bytes ++ left ≡ []) gives.1 at.finished)

-- a line outside the grammar
pub bad_line : (input : List ℕ) (H : List Entry) (held : HeldBytes) (left rest : List ℕ) (line : ScriptLine)
    (more : List ScriptLine) (fault : EntryFault) (number : ℕ) → ReachesEntries input H held left →
    lines_of (held.bytes ++ left) ≡ line ∷ more → entry_at (2 + length H) line ≡ Err fault → number ≡ length H + 2 →
    IsVerdictOf (BadLine number fault) (Some input) (Some rest) H
bad_line input H held left rest line more fault number at lines says is =
    let whole = finished_or held.finished (IsWhole at.read) at.unfinished
    (λ e. absurd (nothing_before (held.bytes ++ left) line more (at.finished e) lines)) in
    let same : 2 + length H ≡ number = omega (arith, is) in
    ap journal_reading at.bytes
    ∙ read_bad at.read (held.bytes ++ left) line more H fault whole at.reading_is lines says
    ∙ ap (λ (k : ℕ). record { entries = H; bad = Some (k, fault) }) same

-- the source failed
pub failed : (input : List ℕ) (H : List Entry) (held new : HeldBytes) (left rest : List ℕ) (at : ReachesEntries input H held left) →
    TakesMore held new (Some left) (Some rest) → has_newline_in new.bytes ≡ false → IsWhole at.read →
    IsVerdictOf ReadFault (Some input) (Some rest) H
failed input H held new left rest at takes none whole =
    let lines : whole_lines (at.read ++ new.bytes) ≡ lines_of at.read =
    whole.whole new.bytes
    ∙ ap (λ (ls : List ScriptLine). lines_of at.read ++ ls) (none_whole new.bytes none)
    ∙ append-nil (lines_of at.read) in
    record {
      taken = at.read ++ new.bytes;
      bytes = at.bytes
          ∙ ap (λ (l : List ℕ). at.read ++ (held.bytes ++ l)) takes.source
          ∙ three at.read held.bytes takes.taken rest
          ∙ ap (λ (l : List ℕ). (at.read ++ l) ++ rest) (sym takes.bytes);
      lines = inr (ap journal_of lines ∙ at.reading_is);
    }

-- the next line can't be read
pub no_read : (input : Option (List ℕ)) (H : List Entry) (number : ℕ) (held new : HeldBytes)
    (left after : Option (List ℕ)) (stop : Stop) → ReachesBy input H held left → number ≡ length H + 2 →
    length H ≤ 300000 → TakesMore held new left after → MeansStop stop (unread held left) new →
    IsVerdictOf (stopped number stop) input after H
no_read None H number held new left after stop at is few takes means = tt
no_read (Some input) H number held new None after stop at is few takes means = absurd at
no_read (Some input) H number held new (Some left) None stop at is few takes means = absurd takes.source
no_read (Some input) H number held new (Some left) (Some rest) Failed at is few takes means =
    failed input H held new left rest at takes means.0 (at.unfinished (sym takes.finished ∙ means.1))
no_read (Some input) H number held new (Some left) (Some rest) TooLong at is few takes means =
    bad_line input H held left rest means.line means.more (Text Long) number at means.lines
    (entry_within (2 + length H) means.line (omega (arith, few)) ∙ ap in_journal (long_says (bytes_of means.line) means.long))
    is
no_read (Some input) H number held new (Some left) (Some rest) NoRoom at is few takes means =
    begins input H held left at
