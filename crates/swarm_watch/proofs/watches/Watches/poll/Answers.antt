use Rattle.std.proofs.Common.{arith, ap, refl, sym, ◌∙◌, ◌≡◌, ◌≤◌, ◌-◌, drop, length}
use Rattle.std.specs.Option.{option_copied, option_map}
use Rattle.std.specs.Vec.{vec_capacity, vec_len, with_items}
use Rattle.std.specs.Prelude.{filter}
use Rattle.swarm_objects.specs.Watches.{filter_admits}
use Rattle.swarm_objects.specs.Rows.{change_row, drop_row, row_at}
use Rattle.swarm_watch.proofs.Answering.{asked_for, poll_lags, poll_tells, poll_unknown}
use Rattle.swarm_watch.proofs.Places.{found_within, refilled}
use Rattle.swarm_watch.specs.Calls.{without_waiting}
use Rattle.swarm_watch.specs.Inside.Cursors.{cursor_id, watching_at, watchings}
use Rattle.swarm_watch.specs.Watchings.{Watchings, watching_id}
use Rattle.swarm_watch.proofs.watches.Watches.poll.Goals as goal

pub returns-in_default : goal.returns-in_default
returns-in_default c =
    poll_unknown c.args.self.now c.args.id _
    (asked_for c.args.self.now c.self.inside.cursors.items c.as_slice.result.now c.self.inside.kept.items c.args.id (option_copied c.cursor_at.result)
    (ap (λ (v : Watchings). v.watchers) c.self.view_is) c.as_slice.ensures.value c.cursor_at.ensures
    ∙ ap (λ r. option_map (watching_at c.self.inside.kept.items) (option_copied r)) c.in_default.is)

pub events_from-unseen-requires : goal.events_from-unseen-requires
events_from-unseen-requires c =
    let le : c.in-Some.cursor.now.from ≤ length c.self.inside.kept.items =
    found_within c.self.inside.cursors.items c.self.inside.kept.items c.args.id c.in-Some.cursor.now c.self.invariant
    (ap (row_at cursor_id c.args.id) (sym c.as_slice.ensures.value) ∙ sym c.cursor_at.ensures ∙ ap option_copied c.in-Some.is) in
    omega (arith, ap length c.as_slice-2.ensures.value)

pub returns-then-count-gt-MOST_EVENTS : goal.returns-then-count-gt-MOST_EVENTS
returns-then-count-gt-MOST_EVENTS c =
    let room : vec_capacity c.self.inside.kept - vec_len c.self.inside.kept ≡ c.args.self.now.room = ap (λ (v : Watchings). v.room) c.self.view_is in
    poll_lags c.args.self.now
    (record { watchers = watchings c.end.new.kept.items c.end.new.cursors.items; room = vec_capacity c.end.new.kept - vec_len c.end.new.kept })
    c.args.id c.count_admitted-count.result _ (watching_at c.self.inside.kept.items c.in-Some.cursor.now)
    (filter (filter_admits c.in-Some.cursor.now.filter) (drop c.in-Some.cursor.now.from c.self.inside.kept.items))
    (asked_for c.args.self.now c.self.inside.cursors.items c.as_slice.result.now c.self.inside.kept.items c.args.id (option_copied c.cursor_at.result)
    (ap (λ (v : Watchings). v.watchers) c.self.view_is) c.as_slice.ensures.value c.cursor_at.ensures
    ∙ ap (λ r. option_map (watching_at c.self.inside.kept.items) (option_copied r)) c.in-Some.is)
    refl
    (c.count_admitted-count.ensures
    ∙ ap (λ es. length (filter (filter_admits c.in-Some.cursor.now.filter) es))
    (c.events_from-unseen.ensures ∙ ap (drop c.in-Some.cursor.now.from) c.as_slice-2.ensures.value))
    c.if-count-gt-MOST_EVENTS.true
    (c.end.ensures.gone ∙ ap (λ (v : Watchings). drop_row watching_id c.args.id v.watchers) c.self.view_is)
    (omega (arith, c.end.ensures.capacity, c.end.ensures.fewer))

pub returns : goal.returns
returns c =
    let room : vec_capacity c.self.inside.kept - vec_len c.self.inside.kept ≡ c.args.self.now.room = ap (λ (v : Watchings). v.room) c.self.view_is in
    let unseen : c.events_from-unseen.result.now ≡ drop c.in-Some.cursor.now.from c.self.inside.kept.items =
    c.events_from-unseen.ensures ∙ ap (drop c.in-Some.cursor.now.from) c.as_slice-2.ensures.value in
    poll_tells c.args.self.now
    (record { watchers = watchings c.tell_all.new.kept.items (with_items c.self.inside.cursors c.tell_all.new.cursors).items; room = vec_capacity c.tell_all.new.kept - vec_len c.tell_all.new.kept })
    c.args.id c.count_admitted-count.result _ (watching_at c.self.inside.kept.items c.in-Some.cursor.now)
    (filter (filter_admits c.in-Some.cursor.now.filter) (drop c.in-Some.cursor.now.from c.self.inside.kept.items)) c.in_ok-events.events
    (asked_for c.args.self.now c.self.inside.cursors.items c.as_slice.result.now c.self.inside.kept.items c.args.id (option_copied c.cursor_at.result)
    (ap (λ (v : Watchings). v.watchers) c.self.view_is) c.as_slice.ensures.value c.cursor_at.ensures
    ∙ ap (λ r. option_map (watching_at c.self.inside.kept.items) (option_copied r)) c.in-Some.is)
    refl
    (c.count_admitted-count.ensures ∙ ap (λ es. length (filter (filter_admits c.in-Some.cursor.now.filter) es)) unseen)
    c.if-count-gt-MOST_EVENTS.false
    (c.in_ok-events.ensures ∙ ap (filter (filter_admits c.in-Some.cursor.now.filter)) unseen)
    (ap (watchings c.tell_all.new.kept.items)
    (refilled c.self.inside.cursors.len c.self.inside.cursors.items c.tell_all.new.cursors
    (c.tell_all.auto.cursors ∙ ap length c.as_mut_slice.ensures.value) (sym c.self.inside.cursors.ok.0))
    ∙ c.tell_all.ensures.told
    ∙ ap (λ xs. change_row watching_id c.args.id without_waiting (watchings c.self.inside.kept.items xs)) c.as_mut_slice.ensures.value
    ∙ ap (λ (v : Watchings). change_row watching_id c.args.id without_waiting v.watchers) c.self.view_is)
    (omega (arith, c.tell_all.ensures.capacity, c.tell_all.ensures.fewer))
