-- The lines of a journal's entries.
use Rattle.std.specs.Prelude.{MatchBool, ◌-◌, drop, take, true, false, ◌≡◌, ℕ, nat_lt, List, [], length, codes, Bool, not, if◌then◌else◌, Option, Some, None, Result, Ok, Err}
use Rattle.std.specs.Str.{bytes_eq}
use Rattle.std.specs.Option.{option_map}
use Rattle.swarm_objects.specs.Limits.{longest_entry}
use Rattle.swarm_objects.specs.declared.calls.Call.{Call}
use Rattle.swarm_objects.specs.declared.calls.Entry.{Entry}
use Rattle.swarm_objects.specs.declared.calls.What.TheVariants as what
use Rattle.swarm_objects.specs.declared.duties.Duty.{Duty}
use Rattle.script_grammar.specs.declared.duties.DutyState.TheVariants as duty_state
use Rattle.script_grammar.specs.declared.lines.EntryState.{EntryState}
use Rattle.script_grammar.specs.declared.lines.EntryState.TheVariants as entry_state
use Rattle.script_grammar.specs.declared.lines.LineFault.{LineFault}
use Rattle.script_grammar.specs.declared.lines.LineFault.TheVariants as fault
use Rattle.script_grammar.specs.declared.states.Form.TheVariants as form
use Rattle.script_grammar.specs.declared.states.State.TheVariants as state
use Rattle.script_grammar.specs.Words.{number_of, words_of, ◌>>=◌}
use Rattle.script_grammar.specs.Calls.{step, whole}
use Rattle.script_grammar.specs.Duties.{duty_step, duty_whole}
use Rattle.script_grammar.specs.Lines.{is_printable}
use Rattle.script_grammar.specs.Machines.{Begins, Machine, Says, meaning}

-- one word more
abbrev pub entry_step : EntryState → List ℕ → Option EntryState
entry_step entry_state.Opening word = number_of word >>= λ by. Some (entry_state.Caller by)
entry_step (entry_state.Caller by) word =
    if bytes_eq word (codes "duty") then Some (entry_state.Duty by duty_state.Opening)
    else (step form.Journal (state.Opening []) word >>= λ s. Some (entry_state.Call by s))
entry_step (entry_state.Call by s) word = step form.Journal s word >>= λ t. Some (entry_state.Call by t)
entry_step (entry_state.Duty by d) word = duty_step d word >>= λ e. Some (entry_state.Duty by e)

abbrev pub call_entry : ℕ → Call → Entry
call_entry by c = record { by = by; what = what.Call c }

abbrev pub duty_entry : ℕ → Duty → Entry
duty_entry by d = record { by = by; what = what.Duty d }

-- the entry, where it is whole
abbrev pub entry_whole : EntryState → Option Entry
entry_whole entry_state.Opening = None
entry_whole (entry_state.Caller by) = None
entry_whole (entry_state.Call by s) = option_map (call_entry by) (whole s)
entry_whole (entry_state.Duty by d) = option_map (duty_entry by) (duty_whole d)

-- the grammar of a journal's entries
abbrev pub journal_grammar : Machine EntryState Entry
journal_grammar = record { start = entry_state.Opening; step = entry_step; whole = entry_whole }

-- over the most bytes, with the newline
abbrev pub is_long_entry : List ℕ → Bool
is_long_entry line = nat_lt longest_entry (length line)

-- its last byte is a newline
abbrev pub ends_line : List ℕ → Bool
ends_line line = bytes_eq (drop (length line - 1) line) (codes "\n")

-- without the newline at its end, where it has one
abbrev pub before_newline : List ℕ → List ℕ
before_newline line = if ends_line line then take (length line - 1) line else line

-- an entry without its newline is cut; a wrong word goes before that
abbrev pub closed : Bool → Result Entry LineFault → Result Entry LineFault
closed true result = result
closed false (Ok e) = Err fault.Cut
closed false (Err f) = Err f

-- what the line of an entry says, given with its newline where it has one
abbrev pub entry_meaning : List ℕ → Result Entry LineFault
entry_meaning line =
    if is_long_entry line then Err fault.Long
    else if not (is_printable (before_newline line)) then Err fault.Byte
    else closed (ends_line line) (meaning journal_grammar (words_of (before_newline line)))

-- what the words of a line without its newline say: a wrong word, or the beginning of an entry
abbrev pub SaysUnended : List (List ℕ) → Result Entry LineFault → Type 0
SaysUnended words (Err (fault.Word k)) = Says journal_grammar words (Err (fault.Word k))
SaysUnended words (Err fault.Cut) = Begins journal_grammar words
SaysUnended words result = ⊥

-- what the line of an entry says, by the first of its faults
abbrev pub EntrySays : List ℕ → Result Entry LineFault → Type 0
EntrySays line result =
    MatchBool (is_long_entry line) (result ≡ Err fault.Long) (
    MatchBool (not (is_printable (before_newline line))) (result ≡ Err fault.Byte) (
    MatchBool (ends_line line) (Says journal_grammar (words_of (before_newline line)) result) (
    SaysUnended (words_of (before_newline line)) result)))
