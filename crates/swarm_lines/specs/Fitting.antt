-- Which entries of caller 0 a script's lines make: a journal can have each call of them, and none is Halt.
use Rattle.std.specs.Prelude.{List, ◌≡◌, false, true}
use Rattle.script_grammar.specs.HasText.{call_has_text, line_has_text}
use Rattle.script_grammar.specs.Lines.{line_runs}
use Rattle.script_grammar.specs.declared.lines.Line.{Line}
use Rattle.swarm_lines.specs.Lengths.{call_is_short, line_is_short}
use Rattle.swarm_model.specs.Own.{Step}
use Rattle.swarm_objects.specs.CallWords.{is_halt}
use Rattle.swarm_objects.specs.Rows.{Has}
use Rattle.swarm_objects.specs.declared.calls.Call.{Call}
use Rattle.swarm_objects.specs.declared.calls.What.{What}
use Rattle.swarm_objects.specs.declared.calls.What.TheVariants as what

-- the call has a line in a journal, and isn't Halt
pub record IsFitCall (call : Call) : Type 0 where
  pub text : call_has_text call ≡ true
  pub short : call_is_short call ≡ true
  pub runs : is_halt call ≡ false

-- of a duty nothing is asked: each has a text
abbrev pub IsFit : What → Type 0
IsFit (what.Call call) = IsFitCall call
IsFit (what.Duty duty) = Unit {0}

abbrev pub AreFit : List Step → Type 0
AreFit part = (s : Step) → Has part s → IsFit s.entry.what

-- what the line says has a line in a journal, and isn't Halt
pub record IsFitLine (line : Line) : Type 0 where
  pub text : line_has_text line ≡ true
  pub short : line_is_short line ≡ true
  pub runs : line_runs line ≡ true
