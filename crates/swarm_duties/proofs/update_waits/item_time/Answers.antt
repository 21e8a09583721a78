use Rattle.std.proofs.Common.{ap, ◌+◌, ◌∙◌, arith, sym}
use Rattle.std.specs.List.{list_all}
use Rattle.swarm_objects.specs.Bounds.{is_near_task}
use Rattle.std.specs.Ordering.{nat_cmp}
use Rattle.std.specs.Prelude.{filter, map, ◌&&◌}
use Rattle.swarm_duties.proofs.ItemTimes.{item_made}
use Rattle.swarm_duties.proofs.PassedWaits.{least_passed, least_skipped, passed_end}
use Rattle.swarm_settle.proofs.NearTimes.{all_at}
use Rattle.swarm_objects.specs.Rows.{keep_least, least_by}
use Rattle.swarm_objects.specs.Services.Runs.{is_flying}
use Rattle.swarm_objects.specs.Tasks.Places.{is_in_place}
use Rattle.swarm_objects.specs.Tasks.Words.{is_running}
use Rattle.swarm_objects.specs.declared.tasks.Task.{Task}
use Rattle.swarm_plain.specs.Plain.{tables_of}
use Rattle.swarm_duties.proofs.update_waits.item_time.Goals as goal
use Rattle.swarm_duties.proofs.update_waits.item_time.Goals.{then-is_flying_there, else-is_flying_there}

pub flight_end-requires-clause-task : goal.flight_end-requires-clause-task
flight_end-requires-clause-task c =
    all_at is_near_task c.as_slice-task-items.result.now c.loop-task.task-index c.task-item.result
    (ap (list_all is_near_task) c.as_slice-task-items.ensures ∙ c.requires.tasks) (omega arith) c.task-item.is

pub loop-task-preserved : goal.loop-task-preserved
loop-task-preserved c =
    let s = c.args.service.now in
    let t = tables_of c.args.plain.now in
    let p = c.args.item.now.place in
    let end = λ (x : Task). x.since + s.spec.update.delay in
    let test = λ (x : Task). is_in_place s p x && is_flying t s x && is_running x in
    let rows = c.as_slice-task-items.result.now in
    let i = c.loop-task.task-index in
    let x = c.task-item.result in
    let whole = least_by nat_cmp c.args.least (map end (filter test c.args.plain.now.tasks)) in
    elim c.if-is_flying_there.branch [
      | then-is_flying_there w ↦ least_passed nat_cmp end test rows i x c.loop-task.time c.if-is_flying_there.time whole
          (omega arith) c.task-item.is (sym c.is_flying_there.ensures ∙ w.if-is_flying_there.true)
          (w.time-is ∙ w.keep_time-time.ensures ∙ ap (keep_least nat_cmp c.loop-task.time) w.flight_end.ensures)
          c.loop-task.invariant
      | else-is_flying_there w ↦ least_skipped nat_cmp end test rows i x c.if-is_flying_there.time whole (omega arith)
          c.task-item.is (sym c.is_flying_there.ensures ∙ w.if-is_flying_there.false) (rw w.time-is c.loop-task.invariant)
    ]

pub returns : goal.returns
returns c =
    let s = c.args.service.now in
    let t = tables_of c.args.plain.now in
    let p = c.args.item.now.place in
    let end = λ (x : Task). x.since + s.spec.update.delay in
    let test = λ (x : Task). is_in_place s p x && is_flying t s x && is_running x in
    passed_end nat_cmp end test c.as_slice-task-items.result.now c.loop-task.task-index c.loop-task.time
    (least_by nat_cmp c.args.least (map end (filter test c.args.plain.now.tasks))) (omega arith) c.loop-task.invariant
    ∙ item_made t s c.args.item.now c.args.least
