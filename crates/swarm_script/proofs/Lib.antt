-- The laws of the language, under its one name.
pub use Rattle.script_grammar.proofs.Lengths
