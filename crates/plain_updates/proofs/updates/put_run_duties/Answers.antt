use Rattle.std.proofs.Common.{◌∙◌, sym}
use Rattle.plain_updates.proofs.UpdateLists.{all_put, on_ok}
use Rattle.swarm_plain.specs.Plain.{tables_of}
use Rattle.plain_updates.proofs.updates.put_run_duties.Goals as goal

pub returns : goal.returns
returns c =
    on_ok c.put_when-2.result
    (all_put (tables_of c.args.plain.now) c.args.service.now c.args.run.now c.fails-has_failed.result
    c.is_to_finish-is_complete.result c.in_ok-numbers.numbers c.as_slice.result.now c.as_slice-2.result.now
    c.args.duties.now c.put_when.new.duties c.put_swaps.new.duties c.put_replacements.new.duties c.put_when-2.new.duties
    (sym c.is_under_way.ensures ∙ c.if-not-is_under_way.false) c.fails-has_failed.ensures
    c.is_to_finish-is_complete.ensures c.in_ok-numbers.ensures c.as_slice.ensures
    c.as_slice-2.ensures c.in_ok-put_when.ensures c.in_ok-put_swaps.ensures c.in_ok-put_replacements.ensures)
    c.put_when-2.ensures
