-- A field that may be named again and has no key stands after any fields.
use Rattle.std.proofs.Common.{◌≡◌, List, true, refl}
use Rattle.script_grammar.specs.declared.fields.Field.{Field}
use Rattle.script_grammar.specs.declared.fields.Field.TheVariants as field
use Rattle.script_grammar.specs.Tables.{fits}
use Rattle.script_grammar.proofs.Fitting.{item_fits}
use Rattle.script_fields.specs.Free.{is_free}

pub fits_free : (fs : List Field) (f : Field) → is_free f ≡ true → fits fs f ≡ true
fits_free fs (field.Constraint c) e = item_fits fs (field.Constraint c) refl refl
fits_free fs (field.Spread k) e = item_fits fs (field.Spread k) refl refl
fits_free fs (field.Platform p) e = item_fits fs (field.Platform p) refl refl
fits_free fs (field.Net n) e = item_fits fs (field.Net n) refl refl
fits_free fs (field.Port p) e = item_fits fs (field.Port p) refl refl
fits_free fs (field.Host p) e = item_fits fs (field.Host p) refl refl
fits_free fs _ e = cc
