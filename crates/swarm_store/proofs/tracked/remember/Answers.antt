use Rattle.std.proofs.Common.{◌∙◌, ap, sym, subst, ◌≤◌, ◌++◌, ◌∷◌, length, take, drop, true, false}
use Rattle.swarm_store.proofs.Tracking.{at-most, found-as, known, unknown}
use Rattle.swarm_store.proofs.tracked.remember.Goals as goal

pub returns-then-is_id_at-clause-items : goal.returns-then-is_id_at-clause-items
returns-then-is_id_at-clause-items g c =
    let b = c.args.image in
    let before = c.args.before.now.items in
    let at =
    found-as b before c.as_slice.result.now c.as_slice-2.result.now c.lesser_ids-at.result c.is_id_at.result true
    c.as_slice.ensures.value c.as_slice-2.ensures.value c.lesser_ids-at.ensures c.is_id_at.ensures c.if-is_id_at.true in
    known b before c.requires.order at.1

pub insert_at-requires-clause-at : goal.insert_at-requires-clause-at
insert_at-requires-clause-at g c =
    let b = c.args.image in
    let before = c.args.before.now.items in
    let at =
    found-as b before c.as_slice.result.now c.as_slice-2.result.now c.lesser_ids-at.result c.is_id_at.result false
    c.as_slice.ensures.value c.as_slice-2.ensures.value c.lesser_ids-at.ensures c.is_id_at.ensures c.if-is_id_at.false in
    subst (λ i. i ≤ length before) (sym at.0) (at-most b before)

pub returns-clause-items : goal.returns-clause-items
returns-clause-items g c =
    let b = c.args.image in
    let before = c.args.before.now.items in
    let at =
    found-as b before c.as_slice.result.now c.as_slice-2.result.now c.lesser_ids-at.result c.is_id_at.result false
    c.as_slice.ensures.value c.as_slice-2.ensures.value c.lesser_ids-at.ensures c.is_id_at.ensures c.if-is_id_at.false in
    c.insert_at.ensures.items ∙ ap (λ i. take i before ++ b ∷ drop i before) at.0 ∙ unknown b before c.requires.order at.1
