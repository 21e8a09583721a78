-- Which lines of a journal are short enough to be read back.
use Rattle.std.specs.Prelude.{Bool, true, length, nat_le}
use Rattle.swarm_model.specs.Script.{own_call}
use Rattle.swarm_objects.specs.Limits.{longest_entry}
use Rattle.swarm_objects.specs.declared.calls.Call.{Call}
use Rattle.swarm_objects.specs.declared.calls.Call.TheVariants.{Settle}
use Rattle.swarm_objects.specs.declared.calls.Entry.{Entry}
use Rattle.script_grammar.specs.declared.lines.Line.{Line}
use Rattle.script_grammar.specs.declared.lines.Line.TheVariants.{Blank, Call as CallLine, Wait, Settle as SettleLine}
use Rattle.script_grammar.specs.Texts.{entry_text}

-- the entry's line, with its newline, isn't too long
abbrev pub is_short : Entry → Bool
is_short entry = nat_le (length (entry_text entry)) longest_entry

-- that of caller 0's call
abbrev pub call_is_short : Call → Bool
call_is_short call = is_short (own_call call)

-- that of the call that the line makes
abbrev pub line_is_short : Line → Bool
line_is_short Blank = true
line_is_short (CallLine call) = call_is_short call
line_is_short (Wait time) = true
line_is_short (SettleLine budget) = call_is_short (Settle budget)
