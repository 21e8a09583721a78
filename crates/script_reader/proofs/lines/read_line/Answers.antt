use Rattle.std.proofs.Common.{◌≡◌, true, inl, inr, sym, subst}
use Rattle.script_grammar.specs.Lines.{LineSays}
use Rattle.script_grammar.specs.HasText.{line_has_text}
use Rattle.script_grammar.specs.Lines.{line_runs, meaning_of}
use Rattle.script_grammar.proofs.EntryLaws.{line_has}
use Rattle.script_grammar.proofs.LineLaws.{line_says}
use Rattle.script_grammar.proofs.Running.{line_running}
use Rattle.script_reader.proofs.Oks.{read_ok}
use Rattle.script_reader.proofs.lines.read_line.Goals as goal

pub returns-clause-grammar : goal.returns-clause-grammar
returns-clause-grammar c = elim c.read_text.ensures [
  | inl e ↦ inl (subst (LineSays c.args.text.now) (sym e) (line_says c.args.text.now))
  | inr e ↦ inr e
]

pub returns-clause-text : goal.returns-clause-text
returns-clause-text c = read_ok (λ line. line_has_text line ≡ true) c.read_text.result (meaning_of c.args.text.now) (line_has c.args.text.now) c.read_text.ensures

pub returns-clause-runs : goal.returns-clause-runs
returns-clause-runs c = read_ok (λ line. line_runs line ≡ true) c.read_text.result (meaning_of c.args.text.now) (line_running c.args.text.now) c.read_text.ensures
