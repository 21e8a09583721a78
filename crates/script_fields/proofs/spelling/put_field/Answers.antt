use Rattle.std.proofs.Common.{◌≡◌, ◌++◌, OnOk, string_bytes, codes, sym, ◌∙◌, subst, ap, List, ℕ}
use Rattle.script_grammar.specs.Fields.{field_text}
use Rattle.script_fields.proofs.spelling.put_field.Goals as goal

pub returns-in-Availability : goal.returns-in-Availability
returns-in-Availability c = subst (λ (t : List ℕ). OnOk c.put_two.result (string_bytes c.put_two.new.text ≡ string_bytes c.args.text.now ++ t))
    (ap (λ (n : List ℕ). codes "availability=" ++ n) c.availability_text.ensures ∙ sym (ap field_text c.in-Availability.is)) c.put_two.ensures

pub returns-in-Constraint : goal.returns-in-Constraint
returns-in-Constraint c = subst (λ (t : List ℕ). OnOk c.put_constraint.result (string_bytes c.put_constraint.new.text ≡ string_bytes c.args.text.now ++ t))
    (sym (ap field_text c.in-Constraint.is)) c.put_constraint.ensures
