-- Fields that clash with none.
use Rattle.std.specs.Prelude.{Bool, true, false}
use Rattle.script_grammar.specs.declared.fields.Field.{Field}
use Rattle.script_grammar.specs.declared.fields.Field.TheVariants as field

-- it may be named again, and has no key
abbrev pub is_free : Field → Bool
is_free (field.Constraint c) = true
is_free (field.Spread k) = true
is_free (field.Platform p) = true
is_free (field.Net name) = true
is_free (field.Port p) = true
is_free (field.Host p) = true
is_free f = false
