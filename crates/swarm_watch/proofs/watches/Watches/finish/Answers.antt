use Rattle.std.proofs.Common.{arith, ap, ◌∙◌, ◌≡◌, ◌-◌}
use Rattle.std.specs.Option.{option_copied, option_map}
use Rattle.std.specs.Prelude.{is_some}
use Rattle.std.specs.Vec.{vec_capacity, vec_len}
use Rattle.swarm_objects.specs.Rows.{drop_row, row_at}
use Rattle.swarm_watch.proofs.Answering.{asked_for, finish_done, finish_unknown, none_copied, some_copied}
use Rattle.swarm_watch.specs.Inside.Cursors.{watching_at, watchings}
use Rattle.swarm_watch.specs.Watchings.{Watchings, watching_id}
use Rattle.swarm_watch.proofs.watches.Watches.finish.Goals as goal

pub returns-then-is_none : goal.returns-then-is_none
returns-then-is_none c =
    finish_unknown c.args.self.now c.args.id _
    (asked_for c.args.self.now c.self.inside.cursors.items c.as_slice.result.now c.self.inside.kept.items c.args.id (option_copied c.cursor_at.result)
    (ap (λ (v : Watchings). v.watchers) c.self.view_is) c.as_slice.ensures.value c.cursor_at.ensures
    ∙ ap (option_map (watching_at c.self.inside.kept.items)) (none_copied c.cursor_at.result c.is_none.result c.is_none.ensures c.if-is_none.true))

pub returns : goal.returns
returns c =
    let asked : row_at watching_id c.args.id c.args.self.now.watchers ≡ option_map (watching_at c.self.inside.kept.items) (option_copied c.cursor_at.result) =
    asked_for c.args.self.now c.self.inside.cursors.items c.as_slice.result.now c.self.inside.kept.items c.args.id (option_copied c.cursor_at.result)
    (ap (λ (v : Watchings). v.watchers) c.self.view_is) c.as_slice.ensures.value c.cursor_at.ensures in
    let room : vec_capacity c.self.inside.kept - vec_len c.self.inside.kept ≡ c.args.self.now.room = ap (λ (v : Watchings). v.room) c.self.view_is in
    finish_done c.args.self.now
    (record { watchers = watchings c.end.new.kept.items c.end.new.cursors.items; room = vec_capacity c.end.new.kept - vec_len c.end.new.kept })
    c.args.id _
    (ap is_some asked ∙ some_copied c.self.inside.kept.items c.cursor_at.result c.is_none.result c.is_none.ensures c.if-is_none.false)
    (c.end.ensures.gone ∙ ap (λ (v : Watchings). drop_row watching_id c.args.id v.watchers) c.self.view_is)
    (omega (arith, c.end.ensures.capacity, c.end.ensures.fewer))
