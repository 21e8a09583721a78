use Rattle.std.proofs.Common.{rules, ◌≡◌, ◌∷◌, []}
use Rattle.std.specs.Prelude.{filter}
use Rattle.swarm_objects.specs.Tasks.Words.{is_of}
use Rattle.role_words.proofs.SlotLemmas.{part_all, part_begun, part_more}
use Rattle.role_words.proofs.windows.window_from.Goals as goal

pub loop-task-init : goal.loop-task-init
loop-task-init g c =
    let s = c.args.service.now in
    let tasks = filter (is_of s.id) (g.R.Rows.tables c.args.rows.now).tasks in
    let all : c.into_iter-task-iterator.result ≡ tasks = search rules in
    record {
      fresh = c.new-window.ensures.fresh;
      part =
          part_begun c.new-window.result s tasks c.into_iter-task-iterator.result (c.new-window.ensures.shows s) all;
    }

pub loop-task-preserved : goal.loop-task-preserved
loop-task-preserved g c =
    let s = c.args.service.now in
    let tasks = filter (is_of s.id) (g.R.Rows.tables c.args.rows.now).tasks in
    let step : c.loop-task.task-iterator ≡ c.in-Some.task.now ∷ c.next.new.self = search rules in
    record {
      fresh = c.note.ensures.fresh c.args.first c.loop-task.invariant.fresh;
      part =
          part_more c.loop-task.window c.note.new.self s tasks c.loop-task.task-iterator c.next.new.self
          c.in-Some.task.now step c.note.ensures.shows c.loop-task.invariant.part;
    }

pub returns-clause-shows : goal.returns-clause-shows
returns-clause-shows g c =
    let tasks = (g.R.Rows.tables c.args.rows.now).tasks in
    let none : c.loop-task.task-iterator ≡ [] = search rules in
    part_all c.loop-task.window c.args.service.now tasks c.loop-task.task-iterator none c.loop-task.invariant.part
