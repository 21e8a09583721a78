use Rattle.std.proofs.Common.{◌≡◌, ◌+◌, ◌-◌, length, take, drop, sym, ◌∙◌, ap, arith}
use Rattle.std.proofs.lemmas.List.{take_all, length-drop}
use Rattle.script_grammar.proofs.SplitPlaces.{parted, split_at-position}
use Rattle.script_fields.proofs.values.split_at.Goals as goal

pub returns-in-Some : goal.returns-in-Some
returns-in-Some c =
    let text = c.args.text.now in
    let at = c.in-Some.at in
    let rest : take (length text - (at + 1)) (drop (at + 1) text) ≡ drop (at + 1) text = take_all (length text - (at + 1)) (drop (at + 1) text) (omega (arith, length-drop (at + 1) text)) in
    rw rest (sym (split_at-position c.args.sep text ∙ ap (λ o. parted c.args.sep o text) (sym c.first_place.ensures ∙ c.in-Some.is)))

pub returns-in-None : goal.returns-in-None
returns-in-None c = sym (split_at-position c.args.sep c.args.text.now ∙ ap (λ o. parted c.args.sep o c.args.text.now) (sym c.first_place.ensures ∙ c.in-None.is))
