use Rattle.std.proofs.Common.{◌∙◌, ap, sym, refl, arith}
use Rattle.std.specs.Option.{option_copied}
use Rattle.swarm_objects.specs.World.{Tables}
use Rattle.swarm_store.proofs.Orphans.{going-begins, going-ends, going-next, going-on, orphan-above}
use Rattle.swarm_store.proofs.state.State.orphan.Goals as goal
use Rattle.swarm_store.specs.Inside.State.{tables_now}

pub loop-task-init : goal.loop-task-init
loop-task-init c = record {
  going = going-begins c.args.version c.args.node (tables_now c.args.self.now) c.requires;
  start = refl;
}

pub put_changed-requires : goal.put_changed-requires
put_changed-requires c = λ x e.
    let x0 = c.in-Some.task.now in
    let t = tables_now c.loop-task.self in
    let met = ap option_copied (sym c.in-Some.is) ∙ c.next_task_on.ensures in
    let on = going-on c.args.version c.args.node c.loop-task.after (tables_now c.args.self.now) t x0 c.loop-task.invariant.going met in
    orphan-above c.args.version c.loop-task.self.clock c.loop-task.after x0 x c.in_ok-orphan.orphan c.in_ok-orphan.ensures e on.0

pub loop-task-smaller : goal.loop-task-smaller
loop-task-smaller c =
    let t = tables_now c.loop-task.self in
    let met = ap option_copied (sym c.in-Some.is) ∙ c.next_task_on.ensures in
    let on =
    going-on c.args.version c.args.node c.loop-task.after (tables_now c.args.self.now) t c.in-Some.task.now
    c.loop-task.invariant.going met in
    let same = ap (λ (v : Tables). v.next_id) c.in_ok-put_changed.ensures.ok in
    omega (arith, on.0, on.1, same)

pub loop-task-preserved : goal.loop-task-preserved
loop-task-preserved c =
    let t = tables_now c.loop-task.self in
    let met = ap option_copied (sym c.in-Some.is) ∙ c.next_task_on.ensures in
    record {
      going =
          going-next c.args.version c.args.node c.loop-task.after (tables_now c.args.self.now) t (tables_now c.put_changed.new.self)
          c.in-Some.task.now c.in_ok-orphan.orphan c.loop-task.invariant.going met c.in_ok-orphan.ensures
          c.in_ok-put_changed.ensures.ok;
      start = c.put_changed.ensures.start ∙ c.loop-task.invariant.start;
    }

pub returns-clause-done : goal.returns-clause-done
returns-clause-done c =
    going-ends c.args.version c.args.node c.loop-task.after (tables_now c.args.self.now) (tables_now c.loop-task.self)
    c.loop-task.invariant.going (ap option_copied (sym c.in_default.is) ∙ c.next_task_on.ensures)
