-- The history that a single caller makes of a script's lines, and what it puts of a history.
use Rattle.std.specs.Prelude.{ℕ, nat_eq, List, [], ◌∷◌, ◌++◌, Bool, true, false}
use Rattle.std.specs.List.{flat_map, list_any}
use Rattle.swarm_model.specs.History.{replay, replay_from, replies, replies_from}
use Rattle.swarm_model.specs.Script.{Asked, Asks, Nothing, Settles, Waits, own_call}
use Rattle.swarm_model.specs.Serial.{asked_entries}
use Rattle.swarm_objects.specs.World.{World, empty_world}
use Rattle.swarm_objects.specs.declared.calls.Call.TheVariants.{Halt}
use Rattle.swarm_objects.specs.declared.calls.Entry.{Entry}
use Rattle.swarm_objects.specs.declared.replies.Reply.{Reply}
use Rattle.swarm_objects.specs.declared.replies.Reply.TheVariants.{Refused}
use Rattle.swarm_print.specs.Texts.{reply_text}
use Rattle.script_grammar.specs.declared.lines.Line.{Line}
use Rattle.script_grammar.specs.declared.lines.Line.TheVariants.{Blank, Call as CallLine, Wait, Settle as SettleLine}

-- the entry is caller 0's
abbrev pub is_by_first : Entry → Bool
is_by_first entry = nat_eq entry.by 0

-- what a line asks for
abbrev pub asked : Line → Asked
asked Blank = Nothing
asked (CallLine call) = Asks call
asked (Wait time) = Waits time
asked (SettleLine budget) = Settles budget

-- the entries that a line makes in a world
abbrev pub line_entries : World → Line → List Entry
line_entries w line = asked_entries w (asked line)

-- the entries that lines make, one line after the other
abbrev pub entries_from : World → List Line → List Entry
entries_from w [] = []
entries_from w (line ∷ lines) = line_entries w line ++ entries_from (replay_from w (line_entries w line)) lines

abbrev pub entries : List Line → List Entry
entries = entries_from empty_world

-- the lines' entries, and Halt
abbrev pub serial : List Line → List Entry
serial lines = entries lines ++ own_call Halt ∷ []

-- the texts of the replies, in order
abbrev pub output_text : List Entry → List ℕ
output_text history = flat_map reply_text (replies history)

-- the replies to a line's entries, after a history
abbrev pub line_replies : List Entry → Line → List Reply
line_replies history line = replies_from (replay history) (line_entries (replay history) line)

abbrev pub line_out : List Entry → Line → List ℕ
line_out history line = flat_map reply_text (line_replies history line)

abbrev pub is_refused : Reply → Bool
is_refused (Refused refusal) = true
is_refused _ = false

-- a reply is a refusal
abbrev pub has_refusal : List Entry → Bool
has_refusal history = list_any is_refused (replies history)
