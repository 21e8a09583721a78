use Rattle.std.proofs.Common.{List, ap, get_or, rules, sym, ℕ, ◌∙◌, ◌≡◌}
use Rattle.std.specs.Ordering.{nat_cmp, ordering_then}
use Rattle.swarm_objects.specs.Nodes.BestNode.{load}
use Rattle.swarm_spread.proofs.Branches.{then_rest}
use Rattle.swarm_spread.proofs.PlaceLemmas.{order_of_places}
use Rattle.swarm_spread.proofs.tree.SpreadTree.order.Goals as goal

pub returns : goal.returns
returns g c =
    let t = g.L.Loads.tables c.args.loads.now in
    let by_loads = λ (ns : List ℕ).
    ordering_then (nat_cmp (load t (get_or ns c.args.one 0)) (load t (get_or ns c.args.other 0)))
    (nat_cmp (get_or ns c.args.one 0) (get_or ns c.args.other 0)) in
    let third : c.load_order.result ≡ by_loads c.self.inside.nodes =
    c.load_order.ensures ∙ ap by_loads c.as_slice-nodes.ensures in
    let ids : c.as_slice-nodes.result.now ≡ c.self.inside.nodes = c.as_slice-nodes.ensures in
    then_rest c.cmp-order.result c.load_order.result (sym c.ne-2.ensures ∙ c.if-ne-2.false)
    ∙ (then_rest c.order-order.result _ (sym c.ne.ensures ∙ c.if-ne.false)
    ∙ order_of_places t c.self.inside.nodes c.self.inside.paths c.self.inside.here.items c.self.inside.levels
    c.args.self.now c.args.one c.args.other c.index.result.now c.index-2.result.now c.order-order.result
    c.cmp-order.result c.load_order.result c.self.view_is c.self.invariant (search rules) (search rules) (search rules)
    c.index.ensures c.index-2.ensures c.cmp-order.ensures third)
