use Rattle.std.proofs.Common.{◌∙◌, ap, subst, sym}
use Rattle.swarm_index.proofs.Places.{no_place, remove_place}
use Rattle.swarm_index.proofs.RowsAt.{rising_drop}
use Rattle.swarm_objects.specs.Rows.{IsRising}
use Rattle.swarm_index.proofs.spare.Spare.remove.Goals as goal

pub returns-else-has_id_at-clause-value : goal.returns-else-has_id_at-clause-value
returns-else-has_id_at-clause-value g c = (no_place g.R.Row.id_of c.args.id c.args.self.now.rows c.self.inside.rows.items c.as_slice.result.now c.as_slice-2.result.now c.lesser_ids-at.result c.as_slice.ensures.value c.as_slice-2.ensures.value (ap (λ v. v.rows) c.self.view_is) c.lesser_ids-at.ensures (subst (IsRising g.R.Row.id_of) (ap (λ v. v.rows) c.self.view_is) c.self.invariant) (sym c.has_id_at.ensures ∙ c.if-has_id_at.false)).1

pub returns-else-has_id_at-clause-rows : goal.returns-else-has_id_at-clause-rows
returns-else-has_id_at-clause-rows g c = (no_place g.R.Row.id_of c.args.id c.args.self.now.rows c.self.inside.rows.items c.as_slice.result.now c.as_slice-2.result.now c.lesser_ids-at.result c.as_slice.ensures.value c.as_slice-2.ensures.value (ap (λ v. v.rows) c.self.view_is) c.lesser_ids-at.ensures (subst (IsRising g.R.Row.id_of) (ap (λ v. v.rows) c.self.view_is) c.self.invariant) (sym c.has_id_at.ensures ∙ c.if-has_id_at.false)).0

pub invariant_of-self : goal.invariant_of-self
invariant_of-self g c =
    let r : IsRising g.R.Row.id_of c.args.self.now.rows = subst (IsRising g.R.Row.id_of) (ap (λ v. v.rows) c.self.view_is) c.self.invariant in
    subst (IsRising g.R.Row.id_of) (sym (c.remove.ensures.items ∙ (remove_place g.R.Row.id_of c.args.id c.args.self.now.rows c.self.inside.rows.items c.as_slice.result.now c.as_slice-2.result.now c.lesser_ids-at.result c.remove.result c.as_slice.ensures.value c.as_slice-2.ensures.value (ap (λ v. v.rows) c.self.view_is) c.lesser_ids-at.ensures r (sym c.has_id_at.ensures ∙ c.if-has_id_at.true) c.remove.ensures.value).1))
    (rising_drop g.R.Row.id_of c.args.id c.args.self.now.rows r)

pub returns-then-has_id_at-clause-value : goal.returns-then-has_id_at-clause-value
returns-then-has_id_at-clause-value g c = (remove_place g.R.Row.id_of c.args.id c.args.self.now.rows c.self.inside.rows.items c.as_slice.result.now c.as_slice-2.result.now c.lesser_ids-at.result c.remove.result c.as_slice.ensures.value c.as_slice-2.ensures.value (ap (λ v. v.rows) c.self.view_is) c.lesser_ids-at.ensures (subst (IsRising g.R.Row.id_of) (ap (λ v. v.rows) c.self.view_is) c.self.invariant) (sym c.has_id_at.ensures ∙ c.if-has_id_at.true) c.remove.ensures.value).2

pub returns-then-has_id_at-clause-rows : goal.returns-then-has_id_at-clause-rows
returns-then-has_id_at-clause-rows g c = c.remove.ensures.items ∙ (remove_place g.R.Row.id_of c.args.id c.args.self.now.rows c.self.inside.rows.items c.as_slice.result.now c.as_slice-2.result.now c.lesser_ids-at.result c.remove.result c.as_slice.ensures.value c.as_slice-2.ensures.value (ap (λ v. v.rows) c.self.view_is) c.lesser_ids-at.ensures (subst (IsRising g.R.Row.id_of) (ap (λ v. v.rows) c.self.view_is) c.self.invariant) (sym c.has_id_at.ensures ∙ c.if-has_id_at.true) c.remove.ensures.value).1

pub returns-then-has_id_at-clause-order : goal.returns-then-has_id_at-clause-order
returns-then-has_id_at-clause-order g c = subst (IsRising g.R.Row.id_of) (ap (λ v. v.rows) c.self.view_is) c.self.invariant
