use Rattle.std.proofs.Common.{◌∙◌, refl, sym, map, string_bytes}
use Rattle.swarm_command.proofs.Spelled.{finds, none_asked, reads_form, reads_other, takes_it}
use Rattle.swarm_command.proofs.forms.read_words.Goals as goal

pub returns-in-Err : goal.returns-in-Err
returns-in-Err c = c.refusal.ensures (λ other. none_asked _ (map string_bytes c.args.words.now) refl (λ f is.
    other (c.kind.ensures ∙ c.in-Err.ensures.passes (takes_it _ c.in-Ok.ensures _ f is))))

pub returns-then-spells : goal.returns-then-spells
returns-then-spells c = reads_form c.in-Some.form _ (sym c.spells.ensures ∙ c.if-spells.true)

pub returns-in-Some : goal.returns-in-Some
returns-in-Some c = reads_other _ (λ f is.
    let found = finds _ c.in-Ok.ensures _ _ c.in-Ok-try_get_matches_from.ensures.matches f is in
    cc (found, c.found_form.ensures, c.in-Some.is, c.spells.ensures, c.if-spells.false, is))

pub returns : goal.returns
returns c = reads_other _ (λ f is.
    let found = finds _ c.in-Ok.ensures _ _ c.in-Ok-try_get_matches_from.ensures.matches f is in
    cc (found, c.found_form.ensures, c.in-None.is))
