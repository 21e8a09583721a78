use Rattle.std.proofs.Common.{◌++◌, ◌∷◌, ap, drop, refl, sym, take, ◌∙◌}
use Rattle.swarm_objects.proofs.Orders.{before_at, over_at}
use Rattle.swarm_objects.specs.Rows.{session_node}
use Rattle.swarm_sessions.proofs.sessions.put.Goals as goal

pub returns-then-is_at-clause-ok : goal.returns-then-is_at-clause-ok
returns-then-is_at-clause-ok c =
    c.replace.ensures.items
    ∙ (over_at session_node c.args.row c.args.rows.now.items c.as_slice.result.now c.as_slice-2.result.now
    c.lesser-at.result c.args.row.node c.args.row.node c.as_slice.ensures.value c.as_slice-2.ensures.value refl refl
    c.lesser-at.ensures.count (sym c.is_at.ensures ∙ c.if-is_at.true)).1

pub returns-clause-ok : goal.returns-clause-ok
returns-clause-ok c =
    c.insert.ensures.items
    ∙ ap (λ rows. take c.lesser-at.result rows ++ c.args.row ∷ drop c.lesser-at.result rows) c.reserve.ensures.items
    ∙ (before_at session_node c.args.row c.args.rows.now.items c.as_slice.result.now c.as_slice-2.result.now
    c.lesser-at.result c.args.row.node c.args.row.node c.as_slice.ensures.value c.as_slice-2.ensures.value refl refl
    c.lesser-at.ensures.count (sym c.is_at.ensures ∙ c.if-is_at.false)).1
