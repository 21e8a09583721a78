use Rattle.std.proofs.Common.{ap}
use Rattle.std.specs.Prelude.{filter}
use Rattle.std.specs.Vec.{vec_capacity, vec_len}
use Rattle.swarm_watch.proofs.Answering.{awaited_count, heard, noted_full, noted_room, tidy_noted}
use Rattle.swarm_watch.specs.Inside.Cursors.{is_admitted}
use Rattle.swarm_watch.specs.Watchings.{Watchings}
use Rattle.swarm_watch.proofs.watches.Watches.note.Goals as goal

pub invariant_of-self : goal.invariant_of-self
invariant_of-self c =
    tidy_noted c.keep.result c.self.inside.cursors.items c.as_slice.result.now c.self.inside.kept.items c.keep.new.kept.items c.args.events.now
    c.as_slice.ensures.value c.self.invariant c.keep.ensures.ok c.keep.ensures.err

pub returns-clause-ok : goal.returns-clause-ok
returns-clause-ok c =
    heard c.keep.result c.self.inside.cursors.items c.as_slice.result.now c.self.inside.kept.items c.keep.new.kept.items c.args.events.now
    c.args.self.now.watchers c.as_slice.ensures.value c.self.invariant (ap (λ (v : Watchings). v.watchers) c.self.view_is) c.keep.ensures.ok

pub returns-clause-room : goal.returns-clause-room
returns-clause-room c =
    noted_room c.keep.result c.self.inside.kept.items c.keep.new.kept.items (filter (is_admitted c.as_slice.result.now) c.args.events.now)
    c.args.self.now.room (vec_len c.self.inside.kept) (vec_capacity c.self.inside.kept) (vec_len c.keep.new.kept) (vec_capacity c.keep.new.kept) _
    c.keep.ensures.ok c.keep.ensures.err c.self.inside.kept.ok.0 c.keep.new.kept.ok.0 c.keep.ensures.capacity
    (ap (λ (v : Watchings). v.room) c.self.view_is)
    (awaited_count c.self.inside.cursors.items c.as_slice.result.now c.self.inside.kept.items c.args.events.now c.args.self.now.watchers
    c.as_slice.ensures.value (ap (λ (v : Watchings). v.watchers) c.self.view_is))

pub returns-clause-full : goal.returns-clause-full
returns-clause-full c =
    noted_full c.keep.result c.args.self.now.room (vec_len c.self.inside.kept) (vec_capacity c.self.inside.kept) _ _ c.keep.ensures.full c.self.inside.kept.ok.1
    (ap (λ (v : Watchings). v.room) c.self.view_is)
    (awaited_count c.self.inside.cursors.items c.as_slice.result.now c.self.inside.kept.items c.args.events.now c.args.self.now.watchers
    c.as_slice.ensures.value (ap (λ (v : Watchings). v.watchers) c.self.view_is))
