-- What lines of scripts and of journals say is what they mean.
use Rattle.std.proofs.Common.{◌≡◌, ℕ, List, [], Bool, true, false, cond, refl, sym, subst, append-nil, Ok, Err}
use Rattle.std.specs.Prelude.{MatchBool, Result, not}
use Rattle.swarm_objects.specs.declared.calls.Entry.{Entry}
use Rattle.script_grammar.specs.declared.lines.LineFault.{LineFault}
use Rattle.script_grammar.specs.declared.lines.LineFault.TheVariants as fault
use Rattle.script_grammar.specs.declared.lines.Line.TheVariants as line
use Rattle.script_grammar.specs.Words.{words_of}
use Rattle.script_grammar.specs.Entries.{EntrySays, SaysUnended, before_newline, closed, ends_line, entry_meaning, is_long_entry, journal_grammar}
use Rattle.script_grammar.specs.Lines.{LineSays, is_blank, is_long, is_printable, meaning_of, script_grammar}
use Rattle.script_grammar.specs.Machines.{IsSaid, Says, meaning}
use Rattle.script_grammar.proofs.SaysLaw.{says_words}
use Rattle.script_grammar.proofs.Completes.{line_completes, entry_completes}

-- Lines of scripts.

pub says_line : (words : List (List ℕ)) → Says script_grammar words (meaning script_grammar words)
says_line words = says_words script_grammar line_completes words

line_by : (long printed blank : Bool) (words : List (List ℕ)) → let r = cond long (Err fault.Long) (cond printed (Err fault.Byte) (cond blank (Ok line.Blank) (meaning script_grammar words))) in
    MatchBool long (r ≡ Err fault.Long) (MatchBool printed (r ≡ Err fault.Byte) (MatchBool blank (r ≡ Ok line.Blank) (Says script_grammar words r)))
line_by true printed blank words = refl
line_by false true blank words = refl
line_by false false true words = refl
line_by false false false words = says_line words

pub line_says : (text : List ℕ) → LineSays text (meaning_of text)
line_says text = line_by (is_long text) (not (is_printable text)) (is_blank text) (words_of text)

-- Entries.

pub says_entry : (words : List (List ℕ)) → Says journal_grammar words (meaning journal_grammar words)
says_entry words = says_words journal_grammar entry_completes words

-- an entry is a beginning of itself
unended : (words : List (List ℕ)) (r : Result Entry LineFault) → Says journal_grammar words r → SaysUnended words (closed false r)
unended words (Ok e) h = ([], e, subst (λ ws. IsSaid journal_grammar ws e) (sym (append-nil words)) h)
unended words (Err (fault.Word k)) h = h
unended words (Err fault.Cut) h = h.0
unended words (Err fault.Long) h = absurd h
unended words (Err fault.Byte) h = absurd h
unended words (Err fault.NoMemory) h = absurd h

entry_by : (long printed newline : Bool) (words : List (List ℕ)) → let r = cond long (Err fault.Long) (cond printed (Err fault.Byte) (closed newline (meaning journal_grammar words))) in
    MatchBool long (r ≡ Err fault.Long) (MatchBool printed (r ≡ Err fault.Byte) (MatchBool newline (Says journal_grammar words r) (SaysUnended words r)))
entry_by true printed newline words = refl
entry_by false true newline words = refl
entry_by false false true words = says_entry words
entry_by false false false words = unended words (meaning journal_grammar words) (says_entry words)

pub entry_says : (line : List ℕ) → EntrySays line (entry_meaning line)
entry_says line = entry_by (is_long_entry line) (not (is_printable (before_newline line))) (ends_line line) (words_of (before_newline line))
