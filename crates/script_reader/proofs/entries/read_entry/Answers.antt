use Rattle.std.proofs.Common.{◌≡◌, true, inl, inr, sym, subst}
use Rattle.script_grammar.specs.Entries.{EntrySays, entry_meaning}
use Rattle.script_grammar.specs.HasText.{has_text}
use Rattle.script_grammar.specs.Texts.{entry_text}
use Rattle.script_grammar.proofs.EntryLaws.{entry_has, one_text}
use Rattle.script_grammar.proofs.LineLaws.{entry_says}
use Rattle.script_reader.proofs.Oks.{read_ok}
use Rattle.script_reader.proofs.entries.read_entry.Goals as goal

pub returns-clause-grammar : goal.returns-clause-grammar
returns-clause-grammar c = elim c.read_text.ensures [
  | inl e ↦ inl (subst (EntrySays c.args.line.now) (sym e) (entry_says c.args.line.now))
  | inr e ↦ inr e
]

pub returns-clause-one : goal.returns-clause-one
returns-clause-one c = read_ok (λ entry. c.args.line.now ≡ entry_text entry) c.read_text.result (entry_meaning c.args.line.now) (one_text c.args.line.now) c.read_text.ensures

pub returns-clause-text : goal.returns-clause-text
returns-clause-text c = read_ok (λ entry. has_text entry ≡ true) c.read_text.result (entry_meaning c.args.line.now) (entry_has c.args.line.now) c.read_text.ensures
