-- The lines of scripts.
use Rattle.std.specs.Prelude.{MatchBool, ◌≡◌, ℕ, nat_eq, nat_le, nat_lt, List, [], ◌∷◌, length, codes, Bool, true, not, ◌&&◌, if◌then◌else◌, Option, Some, None, Result, Ok, Err}
use Rattle.std.specs.Str.{bytes_eq}
use Rattle.std.specs.Int.{is_in_range}
use Rattle.std.specs.List.{list_all}
use Rattle.std.specs.Option.{option_map}
use Rattle.swarm_objects.specs.CallWords.{is_halt}
use Rattle.swarm_objects.specs.Limits.{longest_line, longest_time}
use Rattle.swarm_objects.specs.declared.calls.Call.{Call}
use Rattle.swarm_objects.specs.declared.calls.Call.TheVariants as call
use Rattle.script_grammar.specs.declared.lines.Line.{Line}
use Rattle.script_grammar.specs.declared.lines.Line.TheVariants as line
use Rattle.script_grammar.specs.declared.lines.LineFault.{LineFault}
use Rattle.script_grammar.specs.declared.lines.LineFault.TheVariants as fault
use Rattle.script_grammar.specs.declared.lines.LineState.{LineState}
use Rattle.script_grammar.specs.declared.lines.LineState.TheVariants as line_state
use Rattle.script_grammar.specs.declared.states.Form.TheVariants as form
use Rattle.script_grammar.specs.declared.states.State.TheVariants as state
use Rattle.script_grammar.specs.Words.{number_of, words_of, ◌>>=◌}
use Rattle.script_grammar.specs.Calls.{step, whole}
use Rattle.script_grammar.specs.Machines.{Machine, Says, meaning}

-- 1 millisecond to a day
abbrev pub wait_of : List ℕ → Option ℕ
wait_of word = number_of word >>= λ n. if nat_le 1 n && nat_le n longest_time then Some n else None

-- one word more
abbrev pub line_step : LineState → List ℕ → Option LineState
line_step line_state.Opening word =
    if bytes_eq word (codes "wait") then Some line_state.Wait
    else (step form.Script (state.Opening []) word >>= λ s. Some (line_state.Call s))
line_step (line_state.Call s) word = step form.Script s word >>= λ t. Some (line_state.Call t)
line_step line_state.Wait word = wait_of word >>= λ n. Some (line_state.Waited n)
line_step (line_state.Waited n) word = None

-- a settle line isn't yet a call: the world is settled first
abbrev pub line_of : Call → Line
line_of (call.Settle n) = line.Settle n
line_of c = line.Call c

-- the line, where it is whole
abbrev pub line_whole : LineState → Option Line
line_whole line_state.Opening = None
line_whole (line_state.Call s) = option_map line_of (whole s)
line_whole line_state.Wait = None
line_whole (line_state.Waited n) = Some (line.Wait n)

-- the line's call doesn't halt the world
abbrev pub line_runs : Line → Bool
line_runs (line.Call c) = not (is_halt c)
line_runs l = true

-- the grammar of a script's lines
abbrev pub script_grammar : Machine LineState Line
script_grammar = record { start = line_state.Opening; step = line_step; whole = line_whole }

-- over the most bytes, without the newline
abbrev pub is_long : List ℕ → Bool
is_long text = nat_lt longest_line (length text)

abbrev pub is_printable : List ℕ → Bool
is_printable = list_all (is_in_range 32 126)

-- an empty line, or a comment, which begins with #
abbrev pub is_blank : List ℕ → Bool
is_blank [] = true
is_blank (b ∷ bs) = nat_eq b 35

-- what a line of a script says, given without its newline
abbrev pub meaning_of : List ℕ → Result Line LineFault
meaning_of text =
    if is_long text then Err fault.Long
    else if not (is_printable text) then Err fault.Byte
    else if is_blank text then Ok line.Blank
    else meaning script_grammar (words_of text)

-- what a line of a script says, by the first of its faults; a blank line has none but the first two
abbrev pub LineSays : List ℕ → Result Line LineFault → Type 0
LineSays text result =
    MatchBool (is_long text) (result ≡ Err fault.Long) (
    MatchBool (not (is_printable text)) (result ≡ Err fault.Byte) (
    MatchBool (is_blank text) (result ≡ Ok line.Blank) (
    Says script_grammar (words_of text) result)))
