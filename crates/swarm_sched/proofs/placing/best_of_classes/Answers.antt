use Rattle.std.proofs.Common.{Some, ap, arith, inl, inr, length, subst, sym, true, ◌∙◌, ◌≡◌, ◌⊎◌}
use Rattle.std.specs.Borrow.{Bor}
use Rattle.std.specs.Option.{option_copied}
use Rattle.std.specs.declared.cmp.Ordering.TheVariants.{Equal}
use Rattle.swarm_objects.specs.Rows.{has_row}
use Rattle.swarm_objects.specs.declared.nodes.Node.{Node}
use Rattle.swarm_objects.specs.declared.templates.Template.{Template}
use Rattle.swarm_sched.proofs.ClassTurns.{at_class, class_none, found_entry, none_of, turn_small, turned_all}
use Rattle.swarm_sched.proofs.ClassTurns.{turned_better, turned_empty, turned_past, turned_worse}
use Rattle.swarm_sched.proofs.Comparing.{orders_told}
use Rattle.swarm_sched.proofs.Preferring.{is_equal}
use Rattle.swarm_sched.proofs.placing.best_of_classes.Goals as goal
use Rattle.swarm_sched.proofs.placing.best_of_classes.Goals.{else-ne, then-ne}
use Rattle.swarm_sched.specs.Inside.Branches.{preferences}
use Rattle.swarm_sched.specs.Inside.ClassSearch.{found_node}
use Rattle.swarm_sched.specs.Inside.Classes.{AreOrders}
use Rattle.swarm_sched.specs.Inside.Ranks.{IsFound}
use Rattle.swarm_sched.specs.declared.classes.TheConstants.{CLASSES}
use Rattle.swarm_sched.specs.declared.placing.NodeLoad.{NodeLoad}
use Rattle.swarm_timers.specs.Timers.{timer_owner}

pub loop-turn-preserved-then-is_behind : goal.loop-turn-preserved-then-is_behind
loop-turn-preserved-then-is_behind g c =
    let t = g.R.Rows.tables c.args.rows.now in
    record {
      turned =
          turned_past t c.args.task.now c.args.nodes.now c.loop-turn.orders (option_copied c.loop-turn.best)
          c.leading-lead.result c.loop-turn.turn c.class_in_turn-class.result c.class_in_turn-class.ensures
          (c.is_behind.ensures c.if-is_behind.true) c.loop-turn.invariant.turned;
      held = c.loop-turn.invariant.held;
      knows = c.loop-turn.invariant.knows;
      own = c.loop-turn.invariant.own;
      group = c.loop-turn.invariant.group;
    }

pub loop-turn-preserved-in_default : goal.loop-turn-preserved-in_default
loop-turn-preserved-in_default g c =
    let t = g.R.Rows.tables c.args.rows.now in
    record {
      turned =
          turned_empty t c.args.task.now c.args.nodes.now c.args.ranks.now c.loop-turn.orders
          (option_copied c.loop-turn.best) c.leading-lead.result c.loop-turn.turn c.class_in_turn-class.result
          c.class_in_turn-class.ensures c.requires.ranked
          (none_of c.args.ranks.now c.class_in_turn-class.result c.of.result c.in_default.is c.of.ensures.there)
          c.loop-turn.invariant.turned;
      held = c.loop-turn.invariant.held;
      knows = c.loop-turn.invariant.knows;
      own = c.loop-turn.invariant.own;
      group = c.loop-turn.invariant.group;
    }

pub loop-turn-preserved-in_default-any_of : goal.loop-turn-preserved-in_default-any_of
loop-turn-preserved-in_default-any_of g c =
    let t = g.R.Rows.tables c.args.rows.now in
    record {
      turned =
          turned_empty t c.args.task.now c.args.nodes.now c.args.ranks.now c.loop-turn.orders
          (option_copied c.loop-turn.best) c.leading-lead.result c.loop-turn.turn c.class_in_turn-class.result
          c.class_in_turn-class.ensures c.requires.ranked
          (sym c.in-Some.ensures.own ∙ c.any_of.ensures.none c.in_default-any_of.is) c.loop-turn.invariant.turned;
      held = c.loop-turn.invariant.held;
      knows = c.loop-turn.invariant.knows;
      own = c.loop-turn.invariant.own;
      group = c.loop-turn.invariant.group;
    }

pub best_of_class-requires-clause-none : goal.best_of_class-requires-clause-none
best_of_class-requires-clause-none g c = λ empty n row own.
    class_none (g.R.Rows.tables c.args.rows.now) c.args.task.now c.args.nodes.now c.args.ranks.now
    c.branches_of-branches.result.1 c.class_in_turn-class.result c.requires.usable c.requires.sorted c.requires.ranked
    c.branches_of-branches.ensures.most empty n row
    (subst (λ rows. has_row timer_owner n.id rows ≡ true) c.in-Some.ensures.own own)

pub loop-turn-preserved-in_default-best_of_class : goal.loop-turn-preserved-in_default-best_of_class
loop-turn-preserved-in_default-best_of_class g c =
    let t = g.R.Rows.tables c.args.rows.now in
    let x = c.args.task.now in
    let class = c.class_in_turn-class.result in
    let small = turn_small c.leading-lead.result c.loop-turn.turn c.args.table.now.count c.leading-lead.ensures
    c.loop-turn-test.true in
    let at = at_class t x c.loop-turn.branches c.args.nodes.now c.args.ranks.now c.loop-turn.orders
    c.class_order-spread.new.orders (option_copied c.loop-turn.best) class c.in-Some-any_of.id
    c.class_order-spread.result c.requires.usable c.loop-turn.invariant.own c.requires.sorted c.requires.ranked
    c.loop-turn.invariant.turned.known c.loop-turn.invariant.turned.all
    (omega (arith, small, c.class_in_turn-class.ensures, c.requires.classes.1))
    (subst (λ rows. has_row timer_owner c.in-Some-any_of.id rows ≡ true) c.in-Some.ensures.own
    c.in-Some-any_of.ensures.there)
    c.class_order-spread.ensures.order c.class_order-spread.ensures.orders in
    let found = subst (λ rows. IsFound t x rows c.class_order-spread.result (option_copied c.loop-turn.best)
    (found_node c.best_of_class.result)) c.in-Some.ensures.own c.best_of_class.ensures.found in
    record {
      turned =
          turned_worse t x c.args.nodes.now c.args.ranks.now c.loop-turn.orders c.class_order-spread.new.orders
          (option_copied c.loop-turn.best) c.best_of_class.result c.leading-lead.result c.loop-turn.turn class
          c.class_order-spread.result c.class_in_turn-class.ensures c.requires.ranked at found
          c.in_default-best_of_class.is c.loop-turn.invariant.turned;
      held = c.loop-turn.invariant.held;
      knows = c.best_of_class.ensures.knows;
      own = c.class_order-spread.ensures.same ∙ c.loop-turn.invariant.own;
      group = c.best_of_class.ensures.own;
    }

pub loop-turn-preserved : goal.loop-turn-preserved
loop-turn-preserved g c =
    let t = g.R.Rows.tables c.args.rows.now in
    let x = c.args.task.now in
    let class = c.class_in_turn-class.result in
    let small = turn_small c.leading-lead.result c.loop-turn.turn c.args.table.now.count c.leading-lead.ensures
    c.loop-turn-test.true in
    let at = at_class t x c.loop-turn.branches c.args.nodes.now c.args.ranks.now c.loop-turn.orders
    c.class_order-spread.new.orders (option_copied c.loop-turn.best) class c.in-Some-any_of.id
    c.class_order-spread.result c.requires.usable c.loop-turn.invariant.own c.requires.sorted c.requires.ranked
    c.loop-turn.invariant.turned.known c.loop-turn.invariant.turned.all
    (omega (arith, small, c.class_in_turn-class.ensures, c.requires.classes.1))
    (subst (λ rows. has_row timer_owner c.in-Some-any_of.id rows ≡ true) c.in-Some.ensures.own
    c.in-Some-any_of.ensures.there)
    c.class_order-spread.ensures.order c.class_order-spread.ensures.orders in
    let found = subst (λ rows. IsFound t x rows c.class_order-spread.result (option_copied c.loop-turn.best)
    (found_node c.best_of_class.result)) c.in-Some.ensures.own c.best_of_class.ensures.found in
    let node = c.in-Some-best_of_class.node in
    let best : Bor Node × NodeLoad = (node, c.in-Some-best_of_class.load) in
    let left : (AreOrders (preferences t x) c.args.nodes.now c.if-ne.orders (Some node.now)
    × (length c.if-ne.orders ≡ CLASSES))
    ⊎ ((c.class_order-spread.result ≡ Equal) × (c.if-ne.orders ≡ c.class_order-spread.new.orders)) =
    elim c.if-ne.branch [
      | then-ne w ↦
          inl (
            subst (λ list. AreOrders (preferences t x) c.args.nodes.now list (Some node.now)) (sym w.orders-is)
                (orders_told t x c.args.nodes.now c.args.table.now.count c.branches_of-branches.result.1
                c.args.table.now.values w.orders-orders.result (record { id = node.now.id; class = class }) node.now
                c.as_slice-keys.result.now c.requires.usable c.requires.sorted c.requires.values c.requires.classes
                c.branches_of-branches.ensures.loads
                (found_entry t x c.args.nodes.now c.args.ranks.now (option_copied c.loop-turn.best)
                c.best_of_class.result best class c.class_order-spread.result c.requires.ranked found
                c.in-Some-best_of_class.is)
                (c.as_slice-keys.ensures ∙ ap (λ (m : Template). m.spread) c.deref.ensures)
                w.orders-orders.ensures.told),
            ap length w.orders-is ∙ w.orders-orders.ensures.all,
          )
      | else-ne w ↦
          inr (is_equal c.class_order-spread.result c.ne.result c.ne.ensures w.if-ne.false, w.orders-is)
    ] in
    record {
      turned =
          turned_better t x c.args.nodes.now c.args.ranks.now c.loop-turn.orders c.class_order-spread.new.orders
          c.if-ne.orders (option_copied c.loop-turn.best) c.best_of_class.result best c.leading-lead.result
          c.loop-turn.turn class c.class_order-spread.result c.class_in_turn-class.ensures c.requires.sorted
          c.requires.ranked at found c.in-Some-best_of_class.is left c.loop-turn.invariant.turned;
      held = c.in-Some-best_of_class.ensures.load;
      knows = c.best_of_class.ensures.knows;
      own = c.class_order-spread.ensures.same ∙ c.loop-turn.invariant.own;
      group = c.best_of_class.ensures.own;
    }

pub returns-clause-best : goal.returns-clause-best
returns-clause-best g c =
    turned_all (g.R.Rows.tables c.args.rows.now) c.args.task.now c.args.nodes.now c.loop-turn.orders
    (option_copied c.loop-turn.best) c.leading-lead.result c.loop-turn.turn c.args.table.now.count c.requires.usable
    c.requires.sorted c.requires.classes c.leading-lead.ensures (omega (arith, c.loop-turn-test.false))
    c.loop-turn.invariant.turned
