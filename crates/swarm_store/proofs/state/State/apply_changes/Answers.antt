use Rattle.std.proofs.Common.{ap, length, arith, ◌∙◌}
use Rattle.swarm_objects.specs.ChangeLists.{apply_changes}
use Rattle.swarm_store.proofs.Standing.{next-change}
use Rattle.swarm_store.proofs.state.State.apply_changes.Goals as goal
use Rattle.swarm_store.specs.Inside.State.{tables_now}

pub loop-change-preserved : goal.loop-change-preserved
loop-change-preserved c =
    let next =
    next-change (tables_now c.loop-change.self) (tables_now c.apply_change.new.self)
    (apply_changes (tables_now c.args.self.now) c.args.changes) c.in-Some.change c.loop-change.left.items
    c.pop_front.new.self.items c.in-Some.ensures.items c.loop-change.invariant.stands c.loop-change.invariant.can
    c.loop-change.invariant.left c.in-Ok.ensures.ok in
    record {
      stands = next.stands;
      can = next.can;
      left = next.left;
      start = c.apply_change.ensures.start ∙ c.loop-change.invariant.start;
      changed =
          (let was = c.loop-change.invariant.changed in
          let more = c.apply_change.ensures.changed in
          omega (arith, was, more, ap length c.in-Some.ensures.items));
    }
