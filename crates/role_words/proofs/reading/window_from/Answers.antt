use Rattle.std.proofs.Common.{take}
use Rattle.role_words.proofs.Noting.{shows_next}
use Rattle.role_words.proofs.reading.window_from.Goals as goal

pub loop-task-init : goal.loop-task-init
loop-task-init c = record { fresh = c.new-window.ensures.fresh; shows = c.new-window.ensures.shows c.args.service.now }

pub loop-task-preserved : goal.loop-task-preserved
loop-task-preserved c =
    let tasks = c.args.tasks.now in
    let i = c.loop-task.task-index in
    record {
      fresh = c.note.ensures.fresh c.args.first c.loop-task.invariant.fresh;
      shows =
          shows_next c.note.new.self c.args.service.now tasks i c.task-item.result c.loop-task-test.true c.task-item.is
          (c.note.ensures.shows (take i tasks) c.loop-task.invariant.shows);
    }
