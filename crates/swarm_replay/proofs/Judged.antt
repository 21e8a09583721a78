-- How a replay ends, and what its verdict says of the input and of the entries that were done.
use Rattle.std.proofs.Common.{◌≡◌, ℕ, ◌+◌, ◌≤◌, ◌<◌, min, List, [], ◌∷◌, ◌++◌, length, Bool, true, false, cond, refl, Option, Some, None, Result, Ok, Err, inl, inr, sym, ◌∙◌, ap, subst, arith, append_assoc}
use Rattle.std.specs.List.{list_all}
use Rattle.std.specs.Io.KnownBytes.{Consumes}
use Rattle.std.proofs.lemmas.List.{length-append}
use Rattle.swarm_model.specs.History.{IsLegal, may_follow, replay}
use Rattle.swarm_objects.specs.Outside.{Rose}
use Rattle.swarm_objects.specs.World.{World}
use Rattle.swarm_objects.specs.declared.calls.Entry.{Entry}
use Rattle.script_grammar.specs.Entries.{entry_meaning}
use Rattle.script_grammar.specs.HasText.{has_text}
use Rattle.swarm_input.specs.Held.{HeldBytes, TakesMore, has_newline_in, unread}
use Rattle.swarm_replay.specs.Journal.{most_lines, entries_at, entry_at, in_journal, journal_of, journal_reading}
use Rattle.swarm_input.specs.Lines.{bytes_of, is_newline, lines_of, onto_line}
use Rattle.swarm_replay.specs.Replay.{IsVerdictOf, Judges, lines_for}
use Rattle.swarm_input.specs.Streams.{TakesLines, stream_of}
use Rattle.swarm_replay.specs.Inside.JournalBuffer.{GivesBytes, GivesNext, MeansStop}
use Rattle.swarm_replay.specs.Inside.ReplaySteps.{EndsAtHead, EndsFull, HasNoHead, IsJudgedOn, IsReplaying, ReachesBy, TakesAHead, TakesEntry, stopped}
use Rattle.swarm_replay.specs.declared.entry_lines.Stop.{Stop}
use Rattle.swarm_replay.specs.declared.entry_lines.Stop.TheVariants.{Failed, Long as TooLong, NoMemory as NoRoom}
use Rattle.swarm_input.specs.declared.input.ScriptLine.{ScriptLine}
use Rattle.swarm_replay.specs.declared.verdicts.EntryFault.TheVariants.{Head, Size, Text}
use Rattle.swarm_replay.specs.declared.verdicts.Verdict.{Verdict}
use Rattle.swarm_replay.specs.declared.verdicts.Verdict.TheVariants.{Legal, Illegal, BadLine, ReadFault, NoMemory}
use Rattle.swarm_replay.proofs.Judging.{bad_line, begins, failed, no_line, no_read, takes_line, takes_more, whole_journal}
use Rattle.swarm_replay.proofs.JournalReadings.{entry_beyond, entry_within, read_next}
use Rattle.swarm_input.proofs.WholeLines.{next_lines, none_whole}

-- An ending after some entries.

pub judged : (verdict : Verdict) (input after : Option (List ℕ)) (k l : ℕ) (H : List Entry) → IsLegal H →
    list_all has_text H ≡ true → Judges verdict H → IsVerdictOf verdict input after H →
    TakesLines input after (min most_lines (lines_for verdict H)) 8224 →
    (verdict ≡ ReadFault → Rose k l) → (k < l → verdict ≡ ReadFault) → IsJudgedOn verdict H (stream_of input after k l)
judged verdict input after k l H legal texts judges lines takes cause risen = record {
  legal = legal;
  texts = texts;
  judges = judges;
  lines = lines;
  takes = takes;
  cause = cause;
  risen = risen;
}

-- The lines that a verdict rests on.

both : (a b n : ℕ) → n ≤ a → n ≤ b → n ≤ min a b
both a b n less fewer = omega (arith, less, fewer)

done_lines : (verdict : Verdict) (H : List Entry) → length H + 1 ≤ lines_for verdict H
done_lines (Legal count) H = omega arith
done_lines (Illegal number) H = omega arith
done_lines (BadLine number Head) H = omega arith
done_lines (BadLine number Size) H = omega arith
done_lines (BadLine number (Text fault)) H = omega arith
done_lines ReadFault H = omega arith
done_lines NoMemory H = omega arith

-- the head and the lines of the entries
pub few_done : (verdict : Verdict) (H : List Entry) → length H ≤ 300001 → length H + 1 ≤ min most_lines (lines_for verdict H)
few_done verdict H few = both most_lines (lines_for verdict H) (length H + 1) (omega (arith, few)) (done_lines verdict H)

-- and the one that decides
few_decided : (verdict : Verdict) (H : List Entry) (count : ℕ) (w v : World) (bytes : List ℕ) → length H ≤ 300000 →
    TakesEntry count w bytes (Err verdict) v → length H + 2 ≤ min most_lines (lines_for verdict H)
few_decided (Illegal number) H count w v bytes few takes = both most_lines (length H + 2) (length H + 2) (omega (arith, few)) (omega arith)
few_decided (BadLine number (Text fault)) H count w v bytes few takes = both most_lines (length H + 2) (length H + 2) (omega (arith, few)) (omega arith)
few_decided (BadLine number Head) H count w v bytes few takes = absurd takes
few_decided (BadLine number Size) H count w v bytes few takes = absurd takes
few_decided NoMemory H count w v bytes few takes = both most_lines (length H + 2) (length H + 2) (omega (arith, few)) (omega arith)
few_decided ReadFault H count w v bytes few takes = absurd takes
few_decided (Legal number) H count w v bytes few takes = absurd takes

pub no_rise : (k l : ℕ) → l ≡ k → k < l → ⊥
no_rise k l same less = omega (arith, same, less)

-- there is no further line
pub ends : (input left after : Option (List ℕ)) (w : World) (count k l : ℕ) (held new : HeldBytes) (H : List Entry) →
    IsReplaying input H w count held left → count ≤ 300001 → GivesNext held new left after None →
    length new.bytes ≤ 12320 → l ≡ k → IsJudgedOn (Legal count) H (stream_of input after k l)
ends input left after w count k l held new H at few gives more same =
    let so_few : length H ≤ 300001 = omega (arith, at.count_is, few) in
    judged (Legal count) input after k l H at.legal at.texts at.count_is
    (no_line input H count held new left after at.reached gives)
    (takes_more input H held new left after (min most_lines (lines_for (Legal count) H)) at.reached
    (few_done (Legal count) H so_few) gives.0 more)
    (λ e. cc) (λ h. absurd (no_rise k l same h))

-- what a stop says of entries
stop_judges : (number : ℕ) (stop : Stop) (H : List Entry) → Judges (stopped number stop) H
stop_judges number Failed H = tt
stop_judges number TooLong H = tt
stop_judges number NoRoom H = tt

stop_failed : (number : ℕ) (stop : Stop) → stopped number stop ≡ ReadFault → stop ≡ Failed
stop_failed number Failed e = refl
stop_failed number TooLong e = cc
stop_failed number NoRoom e = cc

-- the next line can't be read
pub stops : (input left after : Option (List ℕ)) (w : World) (count k l : ℕ) (held new : HeldBytes) (stop : Stop)
    (H : List Entry) → IsReplaying input H w count held left → count < 300001 → TakesMore held new left after →
    MeansStop stop (unread held left) new → length new.bytes ≤ 12320 → (stop ≡ Failed → Rose k l) → (k < l → stop ≡ Failed) →
    IsJudgedOn (stopped (count + 2) stop) H (stream_of input after k l)
stops input left after w count k l held new stop H at few takes means more cause risen =
    let so_few : length H ≤ 300000 = omega (arith, at.count_is, few) in
    judged (stopped (count + 2) stop) input after k l H at.legal at.texts (stop_judges (count + 2) stop H)
    (no_read input H (count + 2) held new left after stop at.reached (omega (arith, at.count_is)) so_few takes means)
    (takes_more input H held new left after (min most_lines (lines_for (stopped (count + 2) stop) H)) at.reached
    (few_done (stopped (count + 2) stop) H (omega (arith, so_few))) takes more)
    (λ e. cause (stop_failed (count + 2) stop e)) (λ h. ap (stopped (count + 2)) (risen h))

-- the line of an entry ends the reading
line_verdict : (input : Option (List ℕ)) (H : List Entry) (w v : World) (count : ℕ) (held new : HeldBytes)
    (left after : Option (List ℕ)) (bytes : List ℕ) (verdict : Verdict) → ReachesBy input H held left →
    length H ≤ 300000 → count ≡ length H → w ≡ replay H → GivesBytes held new left after bytes →
    TakesEntry count w bytes (Err verdict) v → IsVerdictOf verdict input after H
line_verdict None H w v count held new left after bytes verdict at few is world gives takes = tt
line_verdict (Some input) H w v count held new None after bytes verdict at few is world gives takes = absurd at
line_verdict (Some input) H w v count held new (Some left) None bytes verdict at few is world gives takes = absurd gives.reads
line_verdict (Some input) H w v count held new (Some left) (Some rest) bytes (Illegal number) at few is world gives takes =
    let line = gives.line in
    let e = takes.1.0 in
    let some : 0 < length (bytes_of line) = omega (arith, ap (λ (l : List ℕ). length l) gives.bytes_is, gives.some) in
    let means : entry_at (2 + length H) line ≡ Ok e =
    entry_within (2 + length H) line (omega (arith, few))
    ∙ ap in_journal (subst (λ (l : List ℕ). entry_meaning l ≡ Ok e) gives.bytes_is takes.1.1) in
    let lines = next_lines (held.bytes ++ left) (new.bytes ++ rest) line gives.reads some in
    record {
      entry = e;
      more = _;
      entries = ap (λ (l : List ℕ). (journal_reading l).entries) at.bytes
          ∙ read_next at.read (held.bytes ++ left) line (lines_of (new.bytes ++ rest)) H e (at.unfinished gives.unfinished)
          at.reading_is lines means;
      breaks = subst (λ (u : World). may_follow u e.what ≡ false) world takes.1.2;
    }
line_verdict (Some input) H w v count held new (Some left) (Some rest) bytes (BadLine number (Text fault)) at few is world gives takes =
    let line = gives.line in
    let some : 0 < length (bytes_of line) = omega (arith, ap (λ (l : List ℕ). length l) gives.bytes_is, gives.some) in
    let means : entry_at (2 + length H) line ≡ Err (Text fault) =
    entry_within (2 + length H) line (omega (arith, few))
    ∙ ap in_journal (subst (λ (l : List ℕ). entry_meaning l ≡ Err fault) gives.bytes_is takes.1) in
    bad_line input H held left rest line (lines_of (new.bytes ++ rest)) (Text fault) number at
    (next_lines (held.bytes ++ left) (new.bytes ++ rest) line gives.reads some) means (omega (arith, takes.0, is))
line_verdict (Some input) H w v count held new (Some left) (Some rest) bytes (BadLine number Head) at few is world gives takes = absurd takes
line_verdict (Some input) H w v count held new (Some left) (Some rest) bytes (BadLine number Size) at few is world gives takes = absurd takes
line_verdict (Some input) H w v count held new (Some left) (Some rest) bytes NoMemory at few is world gives takes =
    begins input H held left at
line_verdict (Some input) H w v count held new (Some left) (Some rest) bytes ReadFault at few is world gives takes = absurd takes
line_verdict (Some input) H w v count held new (Some left) (Some rest) bytes (Legal number) at few is world gives takes = absurd takes

line_judges : (H : List Entry) (w v : World) (count : ℕ) (bytes : List ℕ) (verdict : Verdict) → count ≡ length H →
    w ≡ replay H → TakesEntry count w bytes (Err verdict) v → Judges verdict H
line_judges H w v count bytes (Illegal number) is world takes =
    let e = takes.1.0 in
    (omega (arith, takes.0, is), (e, subst (λ (u : World). may_follow u e.what ≡ false) world takes.1.2))
line_judges H w v count bytes (BadLine number fault) is world takes = tt
line_judges H w v count bytes NoMemory is world takes = tt
line_judges H w v count bytes ReadFault is world takes = tt
line_judges H w v count bytes (Legal number) is world takes = absurd takes

line_failed : (w v : World) (count : ℕ) (bytes : List ℕ) (verdict : Verdict) → TakesEntry count w bytes (Err verdict) v →
    verdict ≡ ReadFault → ⊥
line_failed w v count bytes (Illegal number) takes e = cc
line_failed w v count bytes (BadLine number fault) takes e = cc
line_failed w v count bytes NoMemory takes e = cc
line_failed w v count bytes ReadFault takes e = takes
line_failed w v count bytes (Legal number) takes e = takes

pub line_ends : (input left after : Option (List ℕ)) (w v : World) (count k l : ℕ) (held new : HeldBytes)
    (bytes : List ℕ) (verdict : Verdict) (H : List Entry) → IsReplaying input H w count held left → count < 300001 →
    GivesBytes held new left after bytes → length new.bytes ≤ 12320 → TakesEntry count w bytes (Err verdict) v → l ≡ k →
    IsJudgedOn verdict H (stream_of input after k l)
line_ends input left after w v count k l held new bytes verdict H at few gives more takes same =
    let so_few : length H ≤ 300000 = omega (arith, at.count_is, few) in
    judged verdict input after k l H at.legal at.texts
    (line_judges H w v count bytes verdict at.count_is at.world takes)
    (line_verdict input H w v count held new left after bytes verdict at.reached so_few at.count_is at.world gives takes)
    (takes_line input H held new left after bytes (min most_lines (lines_for verdict H)) at.reached
    (few_decided verdict H count w v bytes so_few takes) gives more)
    (λ e. absurd (line_failed w v count bytes verdict takes e)) (λ h. absurd (no_rise k l same h))

-- The reading ends at the head.

other_head : (input : List ℕ) → HasNoHead (Some input) → journal_reading input ≡ record { entries = []; bad = Some (1, Head) }
other_head input (inl none) = ap journal_reading none
other_head input (inr other) =
    ap journal_of other.lines
    ∙ ap (λ (b : Bool). cond b (entries_at 2 other.more) (record { entries = []; bad = Some (1, Head) })) other.other

head_verdict : (input after : Option (List ℕ)) (new : HeldBytes) (verdict : Verdict) (taken : List ℕ) → EndsAtHead verdict input after new →
    Consumes input after taken → IsVerdictOf verdict input after []
head_verdict None after new verdict taken ends' takes = tt
head_verdict (Some input) None new verdict taken ends' takes = absurd takes
head_verdict (Some input) (Some rest) new (BadLine number Head) taken ends' takes =
    other_head input ends'.1 ∙ ap (λ (k : ℕ). record { entries = []; bad = Some (k, Head) }) (sym ends'.0)
head_verdict (Some input) (Some rest) new (BadLine number Size) taken ends' takes = absurd ends'
head_verdict (Some input) (Some rest) new (BadLine number (Text fault)) taken ends' takes = absurd ends'
head_verdict (Some input) (Some rest) new ReadFault taken ends' takes = record {
  taken = new.bytes;
  bytes = ends'.0;
  lines = inl (none_whole new.bytes ends'.1, refl);
}
head_verdict (Some input) (Some rest) new NoMemory taken ends' takes = ((journal_reading input).entries, refl)
head_verdict (Some input) (Some rest) new (Legal count) taken ends' takes = absurd ends'
head_verdict (Some input) (Some rest) new (Illegal number) taken ends' takes = absurd ends'

head_judges : (input after : Option (List ℕ)) (new : HeldBytes) (verdict : Verdict) → EndsAtHead verdict input after new → Judges verdict []
head_judges input after new (BadLine number fault) ends' = tt
head_judges input after new ReadFault ends' = tt
head_judges input after new NoMemory ends' = tt
head_judges input after new (Legal count) ends' = absurd ends'
head_judges input after new (Illegal number) ends' = absurd ends'

head_takes : (input after : Option (List ℕ)) (most : ℕ) → 1 ≤ most → TakesAHead input after → TakesLines input after most 8224
head_takes input after most some takes = record {
  lines = takes.lines;
  ahead = takes.ahead;
  taken = takes.taken;
  ends = omega (arith, takes.ends, some);
  size = omega (arith, takes.size, some);
  few = takes.few;
}

pub head_ends : (input after : Option (List ℕ)) (new : HeldBytes) (verdict : Verdict) (k l : ℕ) → EndsAtHead verdict input after new →
    TakesAHead input after → (verdict ≡ ReadFault → Rose k l) →
    (k < l → verdict ≡ ReadFault) → IsJudgedOn verdict [] (stream_of input after k l)
head_ends input after new verdict k l ends' takes cause risen =
    judged verdict input after k l [] tt refl (head_judges input after new verdict ends')
    (head_verdict input after new verdict (takes.lines ++ takes.ahead) ends' takes.taken)
    (head_takes input after (min most_lines (lines_for verdict [])) (few_done verdict [] (omega arith)) takes) cause risen

-- The reading ends after as many entries as there can be.

record SomeLine (bytes : List ℕ) : Type 0 where
  line : ScriptLine
  more : List ScriptLine
  lines : lines_of bytes ≡ line ∷ more

some_line : (bytes : List ℕ) → 0 < length bytes → SomeLine bytes
some_line [] some = absurd (omega arith)
some_line (b ∷ bytes) some = go (is_newline b) refl (lines_of bytes) refl
  where
    go : (t : Bool) → is_newline b ≡ t → (ls : List ScriptLine) → lines_of bytes ≡ ls → SomeLine (b ∷ bytes)
    go true e ls is = record {
      line = record { text = []; newline = true };
      more = lines_of bytes;
      lines = ap (λ (c : Bool). cond c (record { text = []; newline = true } ∷ lines_of bytes) (onto_line b (lines_of bytes))) e;
    }
    go false e [] is = record {
      line = record { text = b ∷ []; newline = false };
      more = [];
      lines = ap (λ (c : Bool). cond c (record { text = []; newline = true } ∷ lines_of bytes) (onto_line b (lines_of bytes))) e
          ∙ ap (onto_line b) is;
    }
    go false e (first ∷ ls) is = record {
      line = record first { text = b ∷ first.text };
      more = ls;
      lines = ap (λ (c : Bool). cond c (record { text = []; newline = true } ∷ lines_of bytes) (onto_line b (lines_of bytes))) e
          ∙ ap (onto_line b) is;
    }

nothing_held : (held taken rest : List ℕ) → held ++ taken ≡ [] → rest ≡ [] → held ++ (taken ++ rest) ≡ []
nothing_held held taken rest e none = sym (append_assoc held taken rest) ∙ ap (λ (l : List ℕ). l ++ rest) e ∙ none

full_verdict : (input : Option (List ℕ)) (H : List Entry) (count : ℕ) (held new : HeldBytes)
    (left after : Option (List ℕ)) (verdict : Verdict) → ReachesBy input H held left → length H ≡ 300001 → count ≡ length H →
    EndsFull count verdict held new left after → IsVerdictOf verdict input after H
full_verdict None H count held new left after verdict at many is ends' = tt
full_verdict (Some input) H count held new None after verdict at many is ends' = absurd at
full_verdict (Some input) H count held new (Some left) None (BadLine number Size) at many is ends' = absurd ends'.1.source
full_verdict (Some input) H count held new (Some left) None (BadLine number Head) at many is ends' = absurd ends'
full_verdict (Some input) H count held new (Some left) None (BadLine number (Text fault)) at many is ends' = absurd ends'
full_verdict (Some input) H count held new (Some left) None (Legal number) at many is ends' = absurd ends'.1.source
full_verdict (Some input) H count held new (Some left) None (Illegal number) at many is ends' = absurd ends'
full_verdict (Some input) H count held new (Some left) None ReadFault at many is ends' = absurd ends'.0.source
full_verdict (Some input) H count held new (Some left) None NoMemory at many is ends' = absurd ends'.source
full_verdict (Some input) H count held new (Some left) (Some rest) (BadLine number Size) at many is ends' =
    let takes = ends'.1 in
    let bytes : held.bytes ++ left ≡ new.bytes ++ rest =
    ap (λ (l : List ℕ). held.bytes ++ l) takes.source
    ∙ sym (append_assoc held.bytes takes.taken rest)
    ∙ ap (λ (l : List ℕ). l ++ rest) (sym takes.bytes) in
    let size : length (held.bytes ++ left) ≡ length new.bytes + length rest =
    omega (arith, ap (λ (l : List ℕ). length l) bytes, length-append new.bytes rest) in
    let some = some_line (held.bytes ++ left) (omega (arith, size, ends'.2)) in
    bad_line input H held left rest some.line some.more Size number at some.lines
    (entry_beyond (2 + length H) some.line (omega (arith, many))) (omega (arith, ends'.0, is))
full_verdict (Some input) H count held new (Some left) (Some rest) (BadLine number Head) at many is ends' = absurd ends'
full_verdict (Some input) H count held new (Some left) (Some rest) (BadLine number (Text fault)) at many is ends' = absurd ends'
full_verdict (Some input) H count held new (Some left) (Some rest) (Illegal number) at many is ends' = absurd ends'
full_verdict (Some input) H count held new (Some left) (Some rest) (Legal number) at many is ends' =
    let takes = ends'.1 in
    whole_journal input H held left rest number at (elim ends'.2 [
      | inl last ↦ at.finished last
      | inr none ↦ ap (λ (l : List ℕ). held.bytes ++ l) takes.source
          ∙ nothing_held held.bytes takes.taken rest (sym takes.bytes ∙ none.0) none.1
    ])
full_verdict (Some input) H count held new (Some left) (Some rest) ReadFault at many is ends' =
    failed input H held new left rest at ends'.0 (ap has_newline_in ends'.1) (at.unfinished ends'.2)
full_verdict (Some input) H count held new (Some left) (Some rest) NoMemory at many is ends' = begins input H held left at

full_judges : (H : List Entry) (count : ℕ) (held new : HeldBytes) (left after : Option (List ℕ)) (verdict : Verdict) →
    count ≡ length H → EndsFull count verdict held new left after → Judges verdict H
full_judges H count held new left after (BadLine number fault) is ends' = tt
full_judges H count held new left after (Legal number) is ends' = ends'.0 ∙ is
full_judges H count held new left after (Illegal number) is ends' = absurd ends'
full_judges H count held new left after ReadFault is ends' = tt
full_judges H count held new left after NoMemory is ends' = tt

full_takes : (count : ℕ) (held new : HeldBytes) (left after : Option (List ℕ)) (verdict : Verdict) →
    EndsFull count verdict held new left after → TakesMore held new left after
full_takes count held new left after (BadLine number Size) ends' = ends'.1
full_takes count held new left after (BadLine number Head) ends' = absurd ends'
full_takes count held new left after (BadLine number (Text fault)) ends' = absurd ends'
full_takes count held new left after (Legal number) ends' = ends'.1
full_takes count held new left after (Illegal number) ends' = absurd ends'
full_takes count held new left after ReadFault ends' = ends'.0
full_takes count held new left after NoMemory ends' = ends'

pub full_ends : (input left after : Option (List ℕ)) (w : World) (count k l : ℕ) (held new : HeldBytes) (verdict : Verdict)
    (H : List Entry) → IsReplaying input H w count held left → count ≡ 300001 → EndsFull count verdict held new left after →
    length new.bytes ≤ 12320 → (verdict ≡ ReadFault → Rose k l) → (k < l → verdict ≡ ReadFault) →
    IsJudgedOn verdict H (stream_of input after k l)
full_ends input left after w count k l held new verdict H at many ends' more cause risen =
    let size : length H ≡ 300001 = omega (arith, at.count_is, many) in
    judged verdict input after k l H at.legal at.texts
    (full_judges H count held new left after verdict at.count_is ends')
    (full_verdict input H count held new left after verdict at.reached size at.count_is ends')
    (takes_more input H held new left after (min most_lines (lines_for verdict H)) at.reached
    (few_done verdict H (omega (arith, size))) (full_takes count held new left after verdict ends') more)
    cause risen

-- Faults that are the same.

pub same_verdict : (a b : Verdict) → ◌≡◌ {A = Result (Unit {0}) Verdict} (Err a) (Err b) → a ≡ b
same_verdict a b e = cc

pub same_stop : (a b : Stop) → ◌≡◌ {A = Result (Option (List ℕ)) Stop} (Err a) (Err b) → a ≡ b
same_stop a b e = cc
