use Rattle.std.proofs.Common.{◌≡◌, ◌++◌, OnOk, string_bytes, codes, sym, ◌∙◌, subst, ap, List, ℕ}
use Rattle.swarm_filters.specs.Spellings.{key_text}
use Rattle.script_fields.proofs.spelling.put_key.Goals as goal

pub returns-in-Label : goal.returns-in-Label
returns-in-Label c = subst (λ (t : List ℕ). OnOk c.put_two.result (string_bytes c.put_two.new.text ≡ string_bytes c.args.text.now ++ t))
    (ap (λ (n : List ℕ). codes "node.labels." ++ n) c.as_str.ensures ∙ sym (ap key_text c.in-Label.is)) c.put_two.ensures
