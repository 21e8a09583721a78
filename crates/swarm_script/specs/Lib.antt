-- The words that the contracts of the language cite, under its one name.
pub use Rattle.script_grammar.specs.Lines
pub use Rattle.script_grammar.specs.Entries
pub use Rattle.script_grammar.specs.HasText
pub use Rattle.script_grammar.specs.Texts
pub use Rattle.script_grammar.specs.declared.lines.Line
pub use Rattle.script_grammar.specs.declared.lines.LineFault
