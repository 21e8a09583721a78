use Rattle.std.proofs.Common.{◌∙◌, ap, sym}
use Rattle.swarm_input.specs.Script.{reading}
use Rattle.swarm_top.proofs.Making.{same_input, stopped, summed, unsummed}
use Rattle.swarm_top.proofs.makes.run_text.Goals as goal

pub returns-in-Err : goal.returns-in-Err
returns-in-Err g c = λ good. unsummed _ _ _ c.status.result c.status.ensures

pub returns-then-is_whole : goal.returns-then-is_whole
returns-then-is_whole g c = λ good.
    same_input _ _ _ c.put_summary.result (c.new-lines.ensures ∙ ap (λ v. v.items) c.into_bytes.ensures.value)
    (summed _ _ _ _ _ _ _ _ c.put_summary.result c.in-Ok.ensures.back (sym c.is_whole.ensures ∙ c.if-is_whole.true)
    c.len-entries.ensures.lawful.legal c.put_summary.ensures)

pub returns : goal.returns
returns g c = λ good.
    let same = c.new-lines.ensures ∙ ap (λ v. v.items) c.into_bytes.ensures.value in
    same_input _ _ _ c.status-else-is_whole.result same
    (stopped _ _ _ _ _ _ c.status-else-is_whole.result c.in-Ok.ensures.back c.len-entries.ensures.lawful.legal
    (sym c.is_whole.ensures ∙ c.if-is_whole.false) (ap (λ t. (reading t).bad) same ∙ good) c.status-else-is_whole.ensures)
