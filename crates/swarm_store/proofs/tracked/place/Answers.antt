use Rattle.std.proofs.Common.{◌∙◌, ap, sym}
use Rattle.swarm_objects.specs.Rows.{has_row, row_at}
use Rattle.swarm_store.proofs.ByKey.{with-put}
use Rattle.swarm_store.proofs.Tracking.{none-there}
use Rattle.swarm_store.proofs.tracked.place.Goals as goal

pub replace_row-requires-clause-there : goal.replace_row-requires-clause-there
replace_row-requires-clause-there g c =
    ap (λ k. has_row g.R.Row.id_of k c.args.rows.now.rows) (sym c.id.ensures)
    ∙ sym c.has_id.ensures ∙ c.if-has_id.true

pub returns-then-has_id-clause-rows : goal.returns-then-has_id-clause-rows
returns-then-has_id-clause-rows g c =
    let key = g.R.Row.id_of in
    let there =
    ap (λ k. has_row key k c.args.rows.now.rows) (sym c.id.ensures) ∙ sym c.has_id.ensures ∙ c.if-has_id.true in
    c.replace_row.ensures.rows ∙ sym (with-put key 0 c.args.row c.args.rows.now.rows c.requires.rising there)

pub insert_row-requires-clause-new : goal.insert_row-requires-clause-new
insert_row-requires-clause-new g c =
    let key = g.R.Row.id_of in
    none-there (row_at key (key c.args.row) c.args.rows.now.rows)
    (ap (λ k. has_row key k c.args.rows.now.rows) (sym c.id.ensures) ∙ sym c.has_id.ensures ∙ c.if-has_id.false)
