use Rattle.std.proofs.Common.{rules, sym, ◌∙◌, refl, ◌+◌, ◌≡◌}
use Rattle.std.specs.Cmp.Lexicographic.{slice_cmp}
use Rattle.std.specs.Ordering.{nat_cmp}
use Rattle.swarm_spread.specs.Sums.{value_at}
use Rattle.swarm_spread.proofs.Branches.{first_order, order_at, then_first, then_rest}
use Rattle.swarm_spread.proofs.levels.Levels.+order.Goals as goal

pub returns-then-ne : goal.returns-then-ne
returns-then-ne t c =
    let first =
    c.cmp-order.ensures
    ∙ first_order (c.args.depth + 1) c.args.paths.now c.args.here.now c.args.self.now c.args.one c.args.other
    c.index.result.now c.index-in-Level-2.result.now c.index-in-Level.result.now c.index-in-Level-3.result.now
    c.in-Level.is c.requires.sums c.requires.same c.requires.count c.requires.one c.requires.other
    c.index.ensures c.index-in-Level.ensures c.index-in-Level-2.ensures c.index-in-Level-3.ensures in
    then_first c.cmp-order.result _ (sym c.ne.ensures ∙ c.if-ne.true)
    ∙ order_at c.args.depth c.args.paths.now c.args.here.now c.args.self.now c.args.one c.args.other c.cmp-order.result
    _ _ c.in-Level.is first refl refl

pub returns-then-ne-2 : goal.returns-then-ne-2
returns-then-ne-2 t c =
    let first =
    c.cmp-order.ensures
    ∙ first_order (c.args.depth + 1) c.args.paths.now c.args.here.now c.args.self.now c.args.one c.args.other
    c.index.result.now c.index-in-Level-2.result.now c.index-in-Level.result.now c.index-in-Level-3.result.now
    c.in-Level.is c.requires.sums c.requires.same c.requires.count c.requires.one c.requires.other
    c.index.ensures c.index-in-Level.ensures c.index-in-Level-2.ensures c.index-in-Level-3.ensures in
    let second :
    c.cmp-order-in-Level.result
    ≡ slice_cmp nat_cmp (value_at c.args.paths.now c.args.one c.args.depth)
    (value_at c.args.paths.now c.args.other c.args.depth) = search rules in
    then_first c.cmp-order-in-Level.result _ (sym c.ne-in-Level.ensures ∙ c.if-ne-2.true)
    ∙ (then_rest c.cmp-order.result _ (sym c.ne.ensures ∙ c.if-ne.false)
    ∙ order_at c.args.depth c.args.paths.now c.args.here.now c.args.self.now c.args.one c.args.other c.cmp-order.result
    c.cmp-order-in-Level.result _ c.in-Level.is first second refl)

pub returns-else-ne-2 : goal.returns-else-ne-2
returns-else-ne-2 t c =
    let first =
    c.cmp-order.ensures
    ∙ first_order (c.args.depth + 1) c.args.paths.now c.args.here.now c.args.self.now c.args.one c.args.other
    c.index.result.now c.index-in-Level-2.result.now c.index-in-Level.result.now c.index-in-Level-3.result.now
    c.in-Level.is c.requires.sums c.requires.same c.requires.count c.requires.one c.requires.other
    c.index.ensures c.index-in-Level.ensures c.index-in-Level-2.ensures c.index-in-Level-3.ensures in
    let second :
    c.cmp-order-in-Level.result
    ≡ slice_cmp nat_cmp (value_at c.args.paths.now c.args.one c.args.depth)
    (value_at c.args.paths.now c.args.other c.args.depth) = search rules in
    then_rest c.cmp-order-in-Level.result c.order.result (sym c.ne-in-Level.ensures ∙ c.if-ne-2.false)
    ∙ (then_rest c.cmp-order.result _ (sym c.ne.ensures ∙ c.if-ne.false)
    ∙ order_at c.args.depth c.args.paths.now c.args.here.now c.args.self.now c.args.one c.args.other c.cmp-order.result
    c.cmp-order-in-Level.result c.order.result c.in-Level.is first second (search rules))
