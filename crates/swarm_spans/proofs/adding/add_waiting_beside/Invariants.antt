use Rattle.std.specs.Prelude.{filter}
use Rattle.swarm_objects.specs.Tasks.Words.{is_at}
use Rattle.swarm_spans.specs.Blocked.{AddsToWait}
use Rattle.swarm_spans.specs.Services.Touches.{Touching}
use Rattle.swarm_spans.proofs.adding.add_waiting_beside.Given as goal

abbrev pub invariant-loop-task : goal.invariant-loop-task
invariant-loop-task g l =
    Touching AddsToWait (filter (is_at l.one.service l.one.place) (g.R.Rows.tables l.rows).tasks) l.task-iterator
    l.initial.span l.span
