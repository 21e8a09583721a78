use Rattle.std.proofs.Common.{ap, rules, ◌∙◌, ◌≡◌, ◌∷◌}
use Rattle.std.specs.List.{list_all}
use Rattle.std.specs.Ordering.{nat_cmp}
use Rattle.std.specs.Prelude.{flat_map}
use Rattle.swarm_objects.specs.Bounds.{is_near_task}
use Rattle.swarm_objects.specs.Rows.{least_by}
use Rattle.swarm_objects.specs.Tasks.Places.{is_in_place, tasks_of_place}
use Rattle.swarm_settle.proofs.FlightTimes.{flights_made}
use Rattle.swarm_settle.proofs.LeastWaits.{least_step}
use Rattle.swarm_settle.proofs.NearTimes.{all_filter, all_here, all_rest}
use Rattle.swarm_settle.proofs.update_waits.item_time.Goals as goal
use Rattle.swarm_settle.specs.Flights.{item_times, task_times}

pub task_time-time-requires-clause-task : goal.task_time-time-requires-clause-task
task_time-time-requires-clause-task g c =
    let left = c.loop-task.task-iterator in
    let task = c.in-Some.task.now in
    let step : left ≡ task ∷ c.next.new.self = search rules in
    all_here is_near_task left c.next.new.self task step c.loop-task.invariant.near

pub loop-task-preserved : goal.loop-task-preserved
loop-task-preserved g c =
    let t = g.R.Rows.tables c.args.rows.now in
    let s = c.args.service.now in
    let left = c.loop-task.task-iterator in
    let task = c.in-Some.task.now in
    let step : left ≡ task ∷ c.next.new.self = search rules in
    record {
      least = least_step nat_cmp (task_times t s) left c.next.new.self task c.loop-task.time c.task_time-time.result
          (least_by nat_cmp c.args.least (item_times t s c.args.item.now)) step c.task_time-time.ensures
          c.loop-task.invariant.least;
      near = all_rest is_near_task left c.next.new.self task step c.loop-task.invariant.near;
    }

pub loop-task-init : goal.loop-task-init
loop-task-init g c =
    let t = g.R.Rows.tables c.args.rows.now in
    let s = c.args.service.now in
    let tasks = tasks_of_place s c.args.item.now.place t.tasks in
    let begun : c.into_iter-task-iterator.result ≡ tasks = search rules in
    record {
      least = ap (λ xs. least_by nat_cmp c.args.least (flat_map (task_times t s) xs)) begun
          ∙ ap (least_by nat_cmp c.args.least) (flights_made t s tasks);
      near = ap (list_all is_near_task) begun
          ∙ all_filter is_near_task (is_in_place s c.args.item.now.place) t.tasks c.requires.usable.times.tasks;
    }
