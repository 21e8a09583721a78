use Rattle.std.proofs.Common.{◌≡◌, take, drop, arith, length, ◌-◌, ◌+◌, sym, ◌∙◌}
use Rattle.std.proofs.lemmas.List.{take_all, length-drop}
use Rattle.script_fields.proofs.Parts.{split_Some, split_None}
use Rattle.script_fields.proofs.words.Words.take.Goals as goal

pub returns-in-Some : goal.returns-in-Some
returns-in-Some c =
    let text = c.in_ok-text.text.now in
    let at = c.in-Some.at in
    let rest : take (length text - (at + 1)) (drop (at + 1) text) ≡ drop (at + 1) text =
    take_all (length text - (at + 1)) (drop (at + 1) text) (omega (arith, length-drop (at + 1) text)) in
    rw (← c.self.view_is, c.in_ok-text.was, rest) (split_Some _ text at (sym c.first_space.ensures ∙ c.in-Some.is))

pub returns-in-None : goal.returns-in-None
returns-in-None c =
    let text = c.in_ok-text.text.now in
    rw (← c.self.view_is, c.in_ok-text.was) (split_None _ text (sym c.first_space.ensures ∙ c.in-None.is))
