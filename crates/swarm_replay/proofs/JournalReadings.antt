-- Readings of a journal's lines, one after the other.
use Rattle.std.proofs.Common.{◌≡◌, ℕ, ◌+◌, ◌≤◌, ◌<◌, List, [], ◌∷◌, ◌++◌, length, Bool, true, false, cond, refl, Option, Some, None, Result, Ok, Err, sym, ◌∙◌, ap, subst, arith, nat_lt}
use Rattle.std.proofs.lemmas.Bool.Decides.{nat_tests}
use Rattle.std.proofs.lemmas.List.{append-nil}
use Rattle.swarm_objects.specs.declared.calls.Entry.{Entry}
use Rattle.script_grammar.specs.Entries.{entry_meaning}
use Rattle.script_grammar.specs.declared.lines.LineFault.TheVariants.{Long}
use Rattle.swarm_input.specs.Held.{has_newline_in}
use Rattle.swarm_replay.specs.Journal.{JournalReading, entries_at, entries_on, entry_at, in_journal, is_head, journal_of, journal_reading, most_lines}
use Rattle.swarm_input.specs.Lines.{bytes_of, lines_of, IsWhole}
use Rattle.swarm_input.specs.declared.input.ScriptLine.{ScriptLine}
use Rattle.swarm_replay.specs.declared.verdicts.EntryFault.{EntryFault}
use Rattle.swarm_replay.specs.declared.verdicts.EntryFault.TheVariants.{Head, Size}
use Rattle.swarm_input.proofs.WholeLines.{alone}

abbrev pub good : List Entry → JournalReading
good entries = record { entries = entries; bad = None }

-- a reading before another
abbrev pub onto : List Entry → JournalReading → JournalReading
onto entries more = record more { entries = entries ++ more.entries }

plus_zero : (n : ℕ) → n ≡ n + 0
plus_zero n = omega arith

plus_one : (n : ℕ) (e : Entry) (es : List Entry) → (n + 1) + length es ≡ n + length (e ∷ es)
plus_one n e es = omega arith

some_none : (x : ℕ × EntryFault) → Some x ≡ None → ⊥
some_none x e = cc

record FirstEntry (m : Result Entry EntryFault) (entries : List Entry) (more : JournalReading) : Type 0 where
  entry : Entry
  rest : List Entry
  meaning : m ≡ Ok entry
  entries_is : entries ≡ entry ∷ rest
  more_is : more ≡ good rest

first_entry : (n : ℕ) (m : Result Entry EntryFault) (more : JournalReading) (entries : List Entry) →
    entries_on n m more ≡ good entries → FirstEntry m entries more
first_entry n (Ok entry) more entries e = record {
  entry = entry;
  rest = more.entries;
  meaning = refl;
  entries_is = sym (ap (λ (r : JournalReading). r.entries) e);
  more_is = ap (λ (b : Option (ℕ × EntryFault)). record { entries = more.entries; bad = b })
      (ap (λ (r : JournalReading). r.bad) e);
}
first_entry n (Err fault) more entries e = absurd (some_none (n, fault) (ap (λ (r : JournalReading). r.bad) e))

-- lines that are all in the grammar, and others after them
entries-append : (n : ℕ) (ls ms : List ScriptLine) (entries : List Entry) → entries_at n ls ≡ good entries →
    entries_at n (ls ++ ms) ≡ onto entries (entries_at (n + length entries) ms)
entries-append n [] ms entries e =
    let none : [] ≡ entries = ap (λ (r : JournalReading). r.entries) e in
    subst (λ (l : List Entry). entries_at n ms ≡ onto l (entries_at (n + length l) ms)) none
    (ap (λ k. entries_at k ms) (plus_zero n))
entries-append n (line ∷ ls) ms entries e =
    let first = first_entry n (entry_at n line) (entries_at (n + 1) ls) entries e in
    let others = entries-append (n + 1) ls ms first.rest first.more_is in
    subst (λ (l : List Entry). entries_at n (line ∷ (ls ++ ms)) ≡ onto l (entries_at (n + length l) ms)) (sym first.entries_is)
    (ap (λ m. entries_on n m (entries_at (n + 1) (ls ++ ms))) first.meaning
    ∙ ap (λ (r : JournalReading). record r { entries = first.entry ∷ r.entries }) others
    ∙ ap (λ k. onto (first.entry ∷ first.rest) (entries_at k ms)) (plus_one n first.entry first.rest))

journal-append : (ls ms : List ScriptLine) (entries : List Entry) → journal_of ls ≡ good entries →
    journal_of (ls ++ ms) ≡ onto entries (entries_at (2 + length entries) ms)
journal-append [] ms entries e = absurd (some_none (1, Head) (ap (λ (r : JournalReading). r.bad) e))
journal-append (line ∷ ls) ms entries e = go (is_head line) e
  where
    go : (b : Bool) → cond b (entries_at 2 ls) (record { entries = []; bad = Some (1, Head) }) ≡ good entries →
        cond b (entries_at 2 (ls ++ ms)) (record { entries = []; bad = Some (1, Head) })
        ≡ onto entries (entries_at (2 + length entries) ms)
    go true h = entries-append 2 ls ms entries h
    go false h = absurd (some_none (1, Head) (ap (λ (r : JournalReading). r.bad) h))

-- Further bytes.

pub read_more : (read rest : List ℕ) (H : List Entry) → IsWhole read → journal_reading read ≡ good H →
    journal_reading (read ++ rest) ≡ onto H (entries_at (2 + length H) (lines_of rest))
read_more read rest H w e = ap journal_of (w.lines rest) ∙ journal-append (lines_of read) (lines_of rest) H e

pub all_read : (read rest : List ℕ) (H : List Entry) → journal_reading read ≡ good H → rest ≡ [] →
    journal_reading (read ++ rest) ≡ good H
all_read read rest H e none =
    ap (λ (l : List ℕ). journal_reading (read ++ l)) none ∙ ap journal_reading (append-nil read) ∙ e

-- the line of an entry
pub read_entry : (read : List ℕ) (line : ScriptLine) (H : List Entry) (e : Entry) → IsWhole read →
    journal_reading read ≡ good H → has_newline_in line.text ≡ false → 0 < length (bytes_of line) →
    entry_at (2 + length H) line ≡ Ok e → journal_reading (read ++ bytes_of line) ≡ good (H ++ e ∷ [])
read_entry read line H e w is none some meaning =
    read_more read (bytes_of line) H w is
    ∙ ap (λ (ls : List ScriptLine). onto H (entries_at (2 + length H) ls)) (alone line none some)
    ∙ ap (λ m. onto H (entries_on (2 + length H) m (good []))) meaning

-- a line outside the grammar
pub read_bad : (read rest : List ℕ) (line : ScriptLine) (more : List ScriptLine) (H : List Entry) (fault : EntryFault) →
    IsWhole read → journal_reading read ≡ good H → lines_of rest ≡ line ∷ more → entry_at (2 + length H) line ≡ Err fault →
    journal_reading (read ++ rest) ≡ record { entries = H; bad = Some (2 + length H, fault) }
read_bad read rest line more H fault w is lines meaning =
    read_more read rest H w is
    ∙ ap (λ (ls : List ScriptLine). onto H (entries_at (2 + length H) ls)) lines
    ∙ ap (λ m. onto H (entries_on (2 + length H) m (entries_at (2 + length H + 1) more))) meaning
    ∙ ap (λ (l : List Entry). record { entries = l; bad = Some (2 + length H, fault) }) (append-nil H)

-- the line of an entry, among others
pub read_next : (read rest : List ℕ) (line : ScriptLine) (more : List ScriptLine) (H : List Entry) (e : Entry) →
    IsWhole read → journal_reading read ≡ good H → lines_of rest ≡ line ∷ more → entry_at (2 + length H) line ≡ Ok e →
    (journal_reading (read ++ rest)).entries ≡ H ++ e ∷ (entries_at (2 + length H + 1) more).entries
read_next read rest line more H e w is lines meaning =
    ap (λ (r : JournalReading). r.entries)
    (read_more read rest H w is
    ∙ ap (λ (ls : List ScriptLine). onto H (entries_at (2 + length H) ls)) lines
    ∙ ap (λ m. onto H (entries_on (2 + length H) m (entries_at (2 + length H + 1) more))) meaning)

-- What a line says by its number.

pub entry_within : (n : ℕ) (line : ScriptLine) → n ≤ 300002 → entry_at n line ≡ in_journal (entry_meaning (bytes_of line))
entry_within n line few =
    let test : nat_lt most_lines n ≡ false = grind (arith, nat_tests) in
    ap (λ (t : Bool). cond t (Err Size) (in_journal (entry_meaning (bytes_of line)))) test

pub entry_beyond : (n : ℕ) (line : ScriptLine) → 300002 < n → entry_at n line ≡ Err Size
entry_beyond n line many =
    let test : nat_lt most_lines n ≡ true = grind (arith, nat_tests) in
    ap (λ (t : Bool). cond t (Err Size) (in_journal (entry_meaning (bytes_of line)))) test

-- a line that is too long
pub long_says : (line : List ℕ) → 8224 < length line → entry_meaning line ≡ Err Long
long_says line long =
    let test : nat_lt 8224 (length line) ≡ true = grind (arith, nat_tests) in
    rw test refl

pub nothing_before : (bytes : List ℕ) (line : ScriptLine) (more : List ScriptLine) → bytes ≡ [] →
    lines_of bytes ≡ line ∷ more → ⊥
nothing_before bytes line more none lines = other (sym (ap lines_of none) ∙ lines)
  where
    other : [] ≡ line ∷ more → ⊥
    other e = cc
