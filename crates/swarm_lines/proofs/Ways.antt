-- The ways of a reading: one line more, a fault, the end.
use Rattle.std.proofs.Common.{◌≡◌, ℕ, ◌+◌, ◌≤◌, inl, inr, List, [], ◌∷◌, ◌++◌, length, Bool, true, false, not, refl, Option, Some, None, Ok, Err, sym, ◌∙◌, ap, subst, append_assoc, arith}
use Rattle.std.specs.Io.KnownBytes.{Consumes}
use Rattle.std.proofs.lemmas.List.{append-nil, length-append}
use Rattle.script_grammar.specs.Lines.{meaning_of}
use Rattle.script_grammar.specs.declared.lines.Line.{Line}
use Rattle.swarm_input.proofs.LinesOf.{meaning_within}
use Rattle.swarm_input.proofs.WholeLines.{finished_or, next_lines, none_whole, step_whole, three, whole_none}
use Rattle.swarm_input.specs.LineBuffer.{GivesLine, HandsOut, LineBuffer, MeansFault, TakesOn, to_read}
use Rattle.swarm_input.specs.Lines.{IsWhole, bytes_of, lines_of, whole_lines}
use Rattle.swarm_input.specs.Script.{Reading, in_text, meaning_at, most_bytes, reading, reading_of}
use Rattle.swarm_input.specs.declared.faults.Fault.{Fault}
use Rattle.swarm_input.specs.declared.input.ReadFault.TheVariants.{Failed, Bad, NoMemory}
use Rattle.swarm_input.specs.declared.input.ReadFault.{ReadFault}
use Rattle.swarm_input.specs.declared.input.ScriptLine.{ScriptLine}
use Rattle.swarm_lines.proofs.Joining.{done_some, last_done, last_joins, line_joins, part_joins, stop_joins, stop_some}
use Rattle.swarm_lines.proofs.Readings.{all_read, good, read_bad, read_line, says_more}
use Rattle.swarm_lines.specs.Endings.{ending_of, whole_ending}
use Rattle.swarm_lines.specs.Inside.LineSteps.{DoesLine, MakesLine, SaysLine}
use Rattle.swarm_lines.specs.ScriptSteps.{IsReading, KeepsDone, KeepsFirstLines, KeepsFirstLinesOfScript, KeepsGoodLines, KeepsScript, Reached, ReachedBy}
use Rattle.swarm_lines.specs.declared.endings.Ending.{Ending}
use Rattle.swarm_lines.specs.declared.endings.Ending.TheVariants.{Done, Refused, ReadFault as SourceFault, OutFault, JournalFault, NoMemory as NoRoom, NoMemoryAt, BadLine, Full}
use Rattle.swarm_model.specs.Own.{Step, own}
use Rattle.swarm_objects.specs.declared.calls.Entry.{Entry}

-- The beginning.

reached_start : (left : Option (List ℕ)) → ReachedBy left [] 0 (record { bytes = []; read = 0; finished = false }) left
reached_start None = tt
reached_start (Some input) = record {
  read = [];
  bytes = refl;
  size = refl;
  few = omega arith;
  reading_is = refl;
  count = refl;
  unfinished = λ e. whole_none;
  finished = λ e. cc;
}

pub begins : (left : Option (List ℕ)) (now : List Entry) → own 0 now ≡ [] →
    IsReading left now 0 (record { bytes = []; read = 0; finished = false }) left
begins left now none = record { said = []; reached = reached_start left; keeps = none }

-- What was taken.

abbrev pub TakesWithin : Option (List ℕ) → Option (List ℕ) → Type 0
TakesWithin before after = (taken : List ℕ) × Consumes before after taken × (length taken ≤ most_bytes + 1)

-- bytes were taken, and no line was given
pub takes_on : (input : Option (List ℕ)) (said : List Line) (n : ℕ) (old new : LineBuffer) (now after : Option (List ℕ)) →
    ReachedBy input said n old now → TakesOn old new now after → new.read + length new.bytes ≤ 16777217 →
    TakesWithin input after
takes_on None said n old new now after r takes few = ([], tt, omega arith)
takes_on (Some input) said n old new None after r takes few = absurd r
takes_on (Some input) said n old new (Some left) None r takes few = absurd takes.source
takes_on (Some input) said n old new (Some left) (Some rest) r takes few = (
  r.read ++ (old.bytes ++ takes.taken),
  r.bytes ∙ ap (λ (l : List ℕ). r.read ++ (old.bytes ++ l)) takes.source ∙ three r.read old.bytes takes.taken rest,
  omega (arith, length-append r.read (old.bytes ++ takes.taken), ap (λ (l : List ℕ). length l) takes.bytes, r.size, takes.read, few),
)

-- a line was given
pub takes_line : (input : Option (List ℕ)) (said : List Line) (n : ℕ) (old new : LineBuffer)
    (now after : Option (List ℕ)) (line : ScriptLine) → ReachedBy input said n old now →
    GivesLine old new now after line → new.read + length new.bytes ≤ 16777217 → TakesWithin input after
takes_line None said n old new now after line r gives few = ([], tt, omega arith)
takes_line (Some input) said n old new None after line r gives few = absurd r
takes_line (Some input) said n old new (Some left) None line r gives few = absurd gives.reads
takes_line (Some input) said n old new (Some left) (Some rest) line r gives few = (
  r.read ++ (bytes_of line ++ new.bytes),
  r.bytes ∙ ap (λ (l : List ℕ). r.read ++ l) gives.reads.bytes ∙ three r.read (bytes_of line) new.bytes rest,
  omega (arith, length-append r.read (bytes_of line ++ new.bytes), length-append (bytes_of line) new.bytes, r.size, gives.read, few),
)

-- Some first lines.

some_said : (input : List ℕ) (said : List Line) (n : ℕ) (held : LineBuffer) (left : List ℕ) (H : List Entry) →
    Reached input said n held left → KeepsDone said H → KeepsFirstLines (reading input) H
some_said input said n held left H r keeps =
    let more = says_more input said n held left r in
    record { done = said; left = more.more; lines = more.lines; keeps = done_some said more.more H keeps }

pub some : (input : Option (List ℕ)) (said : List Line) (n : ℕ) (held : LineBuffer) (left : Option (List ℕ))
    (H : List Entry) → ReachedBy input said n held left → KeepsDone said H → KeepsFirstLinesOfScript input H
some None said n held left H r keeps = tt
some (Some input) said n held None H r keeps = absurd r
some (Some input) said n held (Some left) H r keeps = some_said input said n held left H r keeps

-- The end.

of_all : (refused : Bool) (input rest : List ℕ) (said : List Line) (H : List Entry) → reading input ≡ good said →
    KeepsDone said H → KeepsScript (whole_ending refused) (Some input) (Some rest) H
of_all true input rest said H whole keeps =
    (ap (λ (s : Reading). s.bad) whole, subst (λ (l : List Line). KeepsDone l H) (sym (ap (λ (s : Reading). s.said) whole)) keeps)
of_all false input rest said H whole keeps =
    (ap (λ (s : Reading). s.bad) whole, subst (λ (l : List Line). KeepsDone l H) (sym (ap (λ (s : Reading). s.said) whole)) keeps)

-- there is no further line
pub end : (input : Option (List ℕ)) (said : List Line) (n : ℕ) (old new : LineBuffer) (now after : Option (List ℕ))
    (H : List Entry) (refused : Bool) → ReachedBy input said n old now → KeepsDone said H →
    HandsOut old new now after None → KeepsScript (whole_ending refused) input after H
end None said n old new now after H refused r keeps gives = tt
end (Some input) said n old new None after H refused r keeps gives = absurd r
end (Some input) said n old new (Some left) None H refused r keeps gives = absurd gives.0.source
end (Some input) said n old new (Some left) (Some rest) H refused r keeps gives =
    let none : old.bytes ++ left ≡ [] = finished_or old.finished (old.bytes ++ left ≡ []) gives.1 r.finished in
    of_all refused input rest said H
    (ap reading r.bytes ∙ all_read r.read (old.bytes ++ left) said r.reading_is none) keeps

-- A line outside the grammar.

nothing : (line : ScriptLine) (more : List ScriptLine) → [] ≡ line ∷ more → ⊥
nothing line more e = cc

no_lines : (bytes : List ℕ) (line : ScriptLine) (more : List ScriptLine) → bytes ≡ [] → lines_of bytes ≡ line ∷ more → ⊥
no_lines bytes line more e lines = nothing line more (sym (ap lines_of e) ∙ lines)

bad : (input : List ℕ) (said : List Line) (n : ℕ) (held : LineBuffer) (left : List ℕ) (H : List Entry)
    (line : ScriptLine) (more : List ScriptLine) (fault : Fault) → Reached input said n held left → KeepsDone said H →
    lines_of (held.bytes ++ left) ≡ line ∷ more → meaning_at held.read line ≡ Err fault →
    KeepsGoodLines (n + 1) fault (reading input) H
bad input said n held left H line more fault at keeps lines meaning =
    let whole : IsWhole at.read = finished_or held.finished (IsWhole at.read) at.unfinished (λ e. absurd (no_lines (held.bytes ++ left) line more (at.finished e) lines)) in
    let is : reading input ≡ record { said = said; bad = Some (n + 1, fault) } =
    ap reading at.bytes ∙ read_bad at.read (held.bytes ++ left) line more said fault whole at.reading_is lines (ap (λ k. meaning_at k line) at.size ∙ meaning) ∙
    ap (λ k. record { said = said; bad = Some (k + 1, fault) }) at.count in
    (ap (λ (s : Reading). s.bad) is, subst (λ (l : List Line). KeepsDone l H) (sym (ap (λ (s : Reading). s.said) is)) keeps)

-- a fault of the reader
pub reader_fault : (input : Option (List ℕ)) (said : List Line) (n : ℕ) (old new : LineBuffer)
    (now after : Option (List ℕ)) (H : List Entry) (fault : ReadFault) → ReachedBy input said n old now →
    KeepsDone said H → TakesOn old new now after → MeansFault fault old.read (to_read old now) new →
    KeepsScript (ending_of (n + 1) fault) input after H
reader_fault None said n old new now after H fault r keeps takes means = tt
reader_fault (Some input) said n old new None after H fault r keeps takes means = absurd r
reader_fault (Some input) said n old new (Some left) None H fault r keeps takes means = absurd takes.source
reader_fault (Some input) said n old new (Some left) (Some rest) H (Bad fault) r keeps takes means =
    bad input said n old left H means.line means.more fault r keeps means.lines means.meaning
reader_fault (Some input) said n old new (Some left) (Some rest) H NoMemory r keeps takes means =
    some_said input said n old left H r keeps
reader_fault (Some input) said n old new (Some left) (Some rest) H Failed r keeps takes means =
    let whole = r.unfinished (sym takes.finished ∙ means.1) in
    let lines : whole_lines (r.read ++ new.bytes) ≡ lines_of r.read = whole.whole new.bytes ∙ ap (λ (ls : List ScriptLine). lines_of r.read ++ ls) (none_whole new.bytes means.0) ∙ append-nil (lines_of r.read) in
    let is : reading_of (whole_lines (r.read ++ new.bytes)) ≡ good said = ap reading_of lines ∙ r.reading_is in
    record {
      taken = r.read ++ new.bytes;
      bytes = r.bytes ∙ ap (λ (l : List ℕ). r.read ++ (old.bytes ++ l)) takes.source ∙ three r.read old.bytes takes.taken rest ∙ ap (λ (l : List ℕ). (r.read ++ l) ++ rest) (sym takes.bytes);
      lines = (ap (λ (s : Reading). s.bad) is, subst (λ (l : List Line). KeepsDone l H) (sym (ap (λ (s : Reading). s.said) is)) keeps);
    }

-- The next line.

meaning_of_line : (old new : LineBuffer) (left rest : Option (List ℕ)) (line : ScriptLine) →
    GivesLine old new left rest line → meaning_at old.read line ≡ in_text (meaning_of line.text)
meaning_of_line old new left rest line gives =
    meaning_within old.read line gives.short (omega (arith, gives.read, gives.within))

-- the text of the next line is outside the grammar, or memory is wanting
pub text_fault : (input : Option (List ℕ)) (said : List Line) (n : ℕ) (old new : LineBuffer)
    (now after : Option (List ℕ)) (H : List Entry) (line : ScriptLine) (ending : Ending) →
    ReachedBy input said n old now → KeepsDone said H → GivesLine old new now after line →
    SaysLine (n + 1) (in_text (meaning_of line.text)) (Err ending) → KeepsScript ending input after H
text_fault None said n old new now after H line ending r keeps gives says = tt
text_fault (Some input) said n old new None after H line ending r keeps gives says = absurd r
text_fault (Some input) said n old new (Some left) None H line ending r keeps gives says = absurd gives.reads
text_fault (Some input) said n old new (Some left) (Some rest) H line (BadLine m fault) r keeps gives says =
    let meaning = meaning_of_line old new (Some left) (Some rest) line gives ∙ says.1 in
    subst (λ k. KeepsGoodLines k fault (reading input) H) (sym says.0)
    (bad input said n old left H line (lines_of (new.bytes ++ rest)) fault r keeps (next_lines (old.bytes ++ left) (new.bytes ++ rest) line gives.reads gives.some) meaning)
text_fault (Some input) said n old new (Some left) (Some rest) H line NoRoom r keeps gives says =
    some_said input said n old left H r keeps
text_fault (Some input) said n old new (Some left) (Some rest) H line Done r keeps gives says = absurd says
text_fault (Some input) said n old new (Some left) (Some rest) H line Refused r keeps gives says = absurd says
text_fault (Some input) said n old new (Some left) (Some rest) H line SourceFault r keeps gives says = absurd says
text_fault (Some input) said n old new (Some left) (Some rest) H line OutFault r keeps gives says = absurd says
text_fault (Some input) said n old new (Some left) (Some rest) H line JournalFault r keeps gives says = absurd says
text_fault (Some input) said n old new (Some left) (Some rest) H line Full r keeps gives says = absurd says
text_fault (Some input) said n old new (Some left) (Some rest) H line (NoMemoryAt m fault) r keeps gives says = absurd says

not_false : (b c : Bool) → c ≡ not b → c ≡ false → b ≡ true
not_false true c e f = refl
not_false false c e f = let g : true ≡ false = sym e ∙ f in cc

not_true : (b c : Bool) → c ≡ not b → c ≡ true → b ≡ false
not_true true c e f = let g : false ≡ true = sym e ∙ f in cc
not_true false c e f = refl

next_reached : (input : List ℕ) (said : List Line) (n : ℕ) (old new : LineBuffer) (left rest : List ℕ)
    (line : ScriptLine) (says : Line) → Reached input said n old left → GivesLine old new (Some left) (Some rest) line →
    in_text (meaning_of line.text) ≡ Ok says → new.read + length new.bytes ≤ 16777217 →
    Reached input (said ++ says ∷ []) (n + 1) new rest
next_reached input said n old new left rest line says at gives means few =
    let whole = at.unfinished gives.unfinished in
    let next = gives.reads in
    let meaning : meaning_at (length at.read) line ≡ Ok says = ap (λ k. meaning_at k line) at.size ∙ meaning_of_line old new (Some left) (Some rest) line gives ∙ means in
    record {
      read = at.read ++ bytes_of line;
      bytes = at.bytes ∙ ap (λ (l : List ℕ). at.read ++ l) next.bytes ∙ sym (append_assoc at.read (bytes_of line) (new.bytes ++ rest));
      size = omega (arith, length-append at.read (bytes_of line), at.size, gives.read);
      few = omega (arith, few);
      reading_is = read_line at.read line said says whole at.reading_is next.one gives.some meaning;
      count = omega (arith, length-append said (says ∷ []), at.count);
      unfinished = λ e. step_whole at.read line whole next.one gives.some (not_false line.newline new.finished gives.finished e);
      finished = λ e. next.last (not_true line.newline new.finished gives.finished e);
    }

reached_more : (input : Option (List ℕ)) (said : List Line) (n : ℕ) (old new : LineBuffer) (now after : Option (List ℕ))
    (line : ScriptLine) (says : Line) → ReachedBy input said n old now → GivesLine old new now after line →
    in_text (meaning_of line.text) ≡ Ok says → new.read + length new.bytes ≤ 16777217 →
    ReachedBy input (said ++ says ∷ []) (n + 1) new after
reached_more None said n old new now after line says r gives means few = tt
reached_more (Some input) said n old new None after line says r gives means few = absurd r
reached_more (Some input) said n old new (Some left) None line says r gives means few = absurd gives.reads
reached_more (Some input) said n old new (Some left) (Some rest) line says r gives means few =
    next_reached input said n old new left rest line says r gives means few

-- a line more
pub next : (input : Option (List ℕ)) (H G : List Entry) (n : ℕ) (old new : LineBuffer) (now after : Option (List ℕ))
    (line : ScriptLine) (says : Line) (part : List Step) → IsReading input H n old now →
    GivesLine old new now after line → in_text (meaning_of line.text) ≡ Ok says →
    new.read + length new.bytes ≤ 16777217 → MakesLine says H G part → IsReading input G (n + 1) new after
next input H G n old new now after line says part r gives means few made = record {
  said = r.said ++ says ∷ [];
  reached = reached_more input r.said n old new now after line says r.reached gives means few;
  keeps = line_joins r.said says H G part made.came r.keeps made.keeps;
}

-- what the script says, where a line more is read
more_lines : (input : List ℕ) (said : List Line) (n : ℕ) (old new : LineBuffer) (left rest : List ℕ) (line : ScriptLine)
    (says : Line) → Reached input said n old left → GivesLine old new (Some left) (Some rest) line →
    in_text (meaning_of line.text) ≡ Ok says → new.read + length new.bytes ≤ 16777217 →
    (more : List Line) × ((reading input).said ≡ said ++ says ∷ more)
more_lines input said n old new left rest line says r gives means few =
    let more = says_more input (said ++ says ∷ []) (n + 1) new rest (next_reached input said n old new left rest line says r gives means few) in
    (more.more, more.lines ∙ append_assoc said (says ∷ []) more.more)

-- the end of the run within a line or after it, where what the script says goes on so
ends_line : (ending : Ending) (input rest : List ℕ) (said : List Line) (says : Line) (more : List Line) (H G : List Entry)
    (out out_after : Option (List ℕ)) → (reading input).said ≡ said ++ says ∷ more → KeepsDone said H →
    DoesLine (Err ending) says H G out out_after → KeepsScript ending (Some input) (Some rest) G
ends_line OutFault input rest said says more H G out out_after lines keeps does = record {
  done = said;
  last = says;
  left = more;
  lines = lines;
  earlier = own 0 H;
  later = does.0;
  keeps = last_joins said says H G does.0 does.1.came keeps does.1.keeps;
}
ends_line NoRoom input rest said says more H G out out_after lines keeps does = elim does.2 [
  | inl whole ↦ record {
    done = said ++ says ∷ [];
    left = more;
    lines = lines ∙ sym (append_assoc said (says ∷ []) more);
    keeps = done_some (said ++ says ∷ []) more G (line_joins said says H G does.0 does.1 keeps whole);
  }
  | inr part ↦ record {
    done = said;
    left = says ∷ more;
    lines = lines;
    keeps = part_joins said says more H G does.0 does.1 keeps part;
  }
]
ends_line Full input rest said says more H G out out_after lines keeps does = record {
  done = said;
  next = says;
  left = more;
  lines = lines;
  keeps = stop_joins said says H G does.0 does.1 keeps does.2;
}
ends_line Done input rest said says more H G out out_after lines keeps does = absurd does
ends_line Refused input rest said says more H G out out_after lines keeps does = absurd does
ends_line SourceFault input rest said says more H G out out_after lines keeps does = absurd does
ends_line JournalFault input rest said says more H G out out_after lines keeps does = absurd does
ends_line (NoMemoryAt number fault) input rest said says more H G out out_after lines keeps does = absurd does
ends_line (BadLine number fault) input rest said says more H G out out_after lines keeps does = absurd does

pub line_ends : (ending : Ending) (input : Option (List ℕ)) (said : List Line) (n : ℕ) (old new : LineBuffer)
    (now after : Option (List ℕ)) (H G : List Entry) (line : ScriptLine) (says : Line) (out out_after : Option (List ℕ)) →
    ReachedBy input said n old now → KeepsDone said H → GivesLine old new now after line →
    in_text (meaning_of line.text) ≡ Ok says → new.read + length new.bytes ≤ 16777217 →
    DoesLine (Err ending) says H G out out_after → KeepsScript ending input after G
line_ends ending None said n old new now after H G line says out out_after r keeps gives means few does = tt
line_ends ending (Some input) said n old new None after H G line says out out_after r keeps gives means few does = absurd r
line_ends ending (Some input) said n old new (Some left) None H G line says out out_after r keeps gives means few does =
    absurd gives.reads
line_ends ending (Some input) said n old new (Some left) (Some rest) H G line says out out_after r keeps gives means few does =
    let more = more_lines input said n old new left rest line says r gives means few in
    ends_line ending input rest said says more.0 H G out out_after more.1 keeps does

-- and it keeps some first lines
some_by : (ending : Ending) (input rest : List ℕ) (G : List Entry) → KeepsScript ending (Some input) (Some rest) G →
    (says : Line) (H : List Entry) (out out_after : Option (List ℕ)) → DoesLine (Err ending) says H G out out_after →
    KeepsFirstLines (reading input) G
some_by OutFault input rest G keeps says H out out_after does = record {
  done = keeps.done ++ keeps.last ∷ [];
  left = keeps.left;
  lines = keeps.lines ∙ sym (append_assoc keeps.done (keeps.last ∷ []) keeps.left);
  keeps = done_some (keeps.done ++ keeps.last ∷ []) keeps.left G
      (last_done keeps.done keeps.last keeps.earlier keeps.later G keeps.keeps);
}
some_by NoRoom input rest G keeps says H out out_after does = keeps
some_by Full input rest G keeps says H out out_after does = record {
  done = keeps.done;
  left = keeps.next ∷ keeps.left;
  lines = keeps.lines;
  keeps = stop_some keeps.done keeps.next keeps.left G keeps.keeps;
}
some_by Done input rest G keeps says H out out_after does = absurd does
some_by Refused input rest G keeps says H out out_after does = absurd does
some_by SourceFault input rest G keeps says H out out_after does = absurd does
some_by JournalFault input rest G keeps says H out out_after does = absurd does
some_by (NoMemoryAt number fault) input rest G keeps says H out out_after does = absurd does
some_by (BadLine number fault) input rest G keeps says H out out_after does = absurd does

pub line_some : (ending : Ending) (input after : Option (List ℕ)) (H G : List Entry) (says : Line)
    (out out_after : Option (List ℕ)) → DoesLine (Err ending) says H G out out_after →
    KeepsScript ending input after G → KeepsFirstLinesOfScript input G
line_some ending None after H G says out out_after does keeps = tt
line_some ending (Some input) None H G says out out_after does keeps = absurd keeps
line_some ending (Some input) (Some left) H G says out out_after does keeps =
    some_by ending input left G keeps says H out out_after does
