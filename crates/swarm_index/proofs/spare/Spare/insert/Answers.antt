use Rattle.std.proofs.Common.{◌≤◌, ◌∙◌, ap, arith, length, subst, sym}
use Rattle.swarm_index.proofs.Places.{insert_place}
use Rattle.swarm_objects.proofs.Gaps.{IsRising-with_row}
use Rattle.swarm_objects.proofs.Orders.{before-le}
use Rattle.swarm_objects.specs.Rows.{IsRising, rows_before}
use Rattle.swarm_index.proofs.spare.Spare.insert.Goals as goal

pub insert-requires : goal.insert-requires
insert-requires g c = let le : rows_before g.R.Row.id_of c.id.result c.as_slice.result.now ≤ length c.as_slice.result.now = before-le g.R.Row.id_of c.id.result c.as_slice.result.now in omega (arith, c.lesser_ids-at.ensures, c.as_slice.ensures.len)

pub invariant_of-self : goal.invariant_of-self
invariant_of-self g c =
    let r : IsRising g.R.Row.id_of c.args.self.now.rows = subst (IsRising g.R.Row.id_of) (ap (λ v. v.rows) c.self.view_is) c.self.invariant in
    subst (IsRising g.R.Row.id_of) (sym (c.in-Ok.ensures.items ∙ insert_place g.R.Row.id_of c.args.row c.args.self.now.rows c.self.inside.rows.items c.as_slice.result.now c.lesser_ids-at.result c.id.result c.as_slice.ensures.value (ap (λ v. v.rows) c.self.view_is) c.id.ensures c.lesser_ids-at.ensures r c.requires.new_id))
    (IsRising-with_row g.R.Row.id_of c.args.row c.args.self.now.rows r)

pub returns-clause-rows : goal.returns-clause-rows
returns-clause-rows g c = c.in-Ok.ensures.items ∙ insert_place g.R.Row.id_of c.args.row c.args.self.now.rows c.self.inside.rows.items c.as_slice.result.now c.lesser_ids-at.result c.id.result c.as_slice.ensures.value (ap (λ v. v.rows) c.self.view_is) c.id.ensures c.lesser_ids-at.ensures
    (subst (IsRising g.R.Row.id_of) (ap (λ v. v.rows) c.self.view_is) c.self.invariant) c.requires.new_id
