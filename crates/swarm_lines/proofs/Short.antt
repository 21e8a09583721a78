-- Every line of the journal is short enough to be read back.
use Rattle.std.proofs.Common.{◌≡◌, ◌≤◌, ◌<◌, ◌^◌, ◌⊎◌, ℕ, List, length, nat_le, true, refl, sym, Ok, Err, arith, inl, inr}
use Rattle.std.proofs.lemmas.Bool.Decides.{nat_tests}
use Rattle.swarm_objects.specs.declared.calls.Call.TheVariants.{Halt, Settle, Tick}
use Rattle.swarm_objects.specs.declared.duties.Duty.{Duty}
use Rattle.script_grammar.specs.declared.lines.Line.{Line}
use Rattle.script_grammar.specs.declared.lines.Line.TheVariants.{Blank, Call as CallLine, Wait, Settle as SettleLine}
use Rattle.script_grammar.specs.declared.lines.LineFault.TheVariants.{NoMemory}
use Rattle.script_grammar.specs.Lines.{meaning_of}
use Rattle.script_grammar.specs.HasText.{duty_has_text, is_number}
use Rattle.script_grammar.specs.Texts.{entry_text}
use Rattle.script_grammar.proofs.Lengths.{FitsEntry, duty_length, halt_length, line_fits, tick_length}
use Rattle.swarm_model.specs.Script.{own_call}
use Rattle.swarm_lines.specs.Lengths.{is_short, call_is_short, line_is_short}
use Rattle.swarm_world.specs.Work.{duty_by}

short_by : (n : ℕ) → n ≤ 8224 → nat_le n 8224 ≡ true
short_by n h = grind (arith, nat_tests)

short_line : (l : Line) → FitsEntry l → line_is_short l ≡ true
short_line Blank fits = refl
short_line (Wait time) fits = refl
short_line (CallLine call) fits = short_by (length (entry_text (own_call call))) fits
short_line (SettleLine budget) fits = short_by (length (entry_text (own_call (Settle budget)))) fits

-- that of what a line says
pub said_short : (text : List ℕ) (said : Line) → (Ok said ≡ meaning_of text) ⊎ (Ok said ≡ Err NoMemory) → line_is_short said ≡ true
said_short text said (inl h) = short_line said (line_fits text said (sym h))
said_short text said (inr h) = cc

pub halt_short : call_is_short Halt ≡ true
halt_short = short_by (length (entry_text (own_call Halt))) (omega (arith, halt_length))

pub duty_short : (by : ℕ) (duty : Duty) → is_number by ≡ true → duty_has_text duty ≡ true → is_short (duty_by by duty) ≡ true
duty_short by duty number has = short_by (length (entry_text (duty_by by duty))) (omega (arith, duty_length by duty number has))

pub tick_short : (ms : ℕ) → ms < 2 ^ 64 → call_is_short (Tick ms) ≡ true
tick_short ms h = short_by (length (entry_text (own_call (Tick ms)))) (omega (arith, tick_length ms h))
