use Rattle.std.proofs.Common.{◌≡◌, OnOk, subst, sym, ◌∙◌}
use Rattle.swarm_objects.proofs.Orders.{before_at, over_at}
use Rattle.swarm_objects.proofs.lists.put_in_order.Goals as goal

pub replace-requires : goal.replace-requires
replace-requires g c = (over_at g.T.Keyed.key_of c.args.row c.args.rows.now c.as_slice.result.now c.as_slice-2.result.now c.lesser_keys-at.result c.key.result c.key-2.result c.as_slice.ensures c.as_slice-2.ensures c.key.ensures c.key-2.ensures c.lesser_keys-at.ensures (sym c.has_key_at.ensures ∙ c.if-has_key_at.true)).0

pub returns-then-has_key_at-clause-ok : goal.returns-then-has_key_at-clause-ok
returns-then-has_key_at-clause-ok g c =
    c.replace.ensures ∙ (over_at g.T.Keyed.key_of c.args.row c.args.rows.now c.as_slice.result.now c.as_slice-2.result.now c.lesser_keys-at.result c.key.result c.key-2.result c.as_slice.ensures c.as_slice-2.ensures c.key.ensures c.key-2.ensures c.lesser_keys-at.ensures (sym c.has_key_at.ensures ∙ c.if-has_key_at.true)).1

pub add_at-requires : goal.add_at-requires
add_at-requires g c = (before_at g.T.Keyed.key_of c.args.row c.args.rows.now c.as_slice.result.now c.as_slice-2.result.now c.lesser_keys-at.result c.key.result c.key-2.result c.as_slice.ensures c.as_slice-2.ensures c.key.ensures c.key-2.ensures c.lesser_keys-at.ensures (sym c.has_key_at.ensures ∙ c.if-has_key_at.false)).0

pub returns-clause-ok : goal.returns-clause-ok
returns-clause-ok g c =
    let put = (before_at g.T.Keyed.key_of c.args.row c.args.rows.now c.as_slice.result.now c.as_slice-2.result.now c.lesser_keys-at.result c.key.result c.key-2.result c.as_slice.ensures c.as_slice-2.ensures c.key.ensures c.key-2.ensures c.lesser_keys-at.ensures (sym c.has_key_at.ensures ∙ c.if-has_key_at.false)).1 in
    subst (λ rows. OnOk c.add_at.result (c.add_at.new.list ≡ rows)) put c.add_at.ensures.ok
