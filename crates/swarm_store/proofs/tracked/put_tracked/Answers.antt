use Rattle.std.proofs.Common.{ap, ◌∙◌, sym, subst}
use Rattle.swarm_objects.specs.Rows.{RisesFrom, with_row}
use Rattle.swarm_store.proofs.Tracking.{kept-put, remembered-most}
use Rattle.swarm_store.proofs.tracked.put_tracked.Goals as goal

pub place-old-requires-clause-rising : goal.place-old-requires-clause-rising
place-old-requires-clause-rising g c =
    subst (RisesFrom g.R.Row.id_of 0) (sym c.make_room.ensures.rows) c.requires.tracked.rising

pub returns-clause-ok : goal.returns-clause-ok
returns-clause-ok g c = c.place-old.ensures.rows ∙ ap (with_row g.R.Row.id_of c.args.row) c.make_room.ensures.rows

pub returns-clause-kept : goal.returns-clause-kept
returns-clause-kept g c =
    kept-put g.R.Row.id_of c.args.row (record { id = c.id-id.result; row = c.place-old.result }) c.args.before.now.items
    c.make_room.new.before.items c.remember.new.before.items c.args.rows.now c.make_room.new.rows c.place-old.new.rows
    c.requires.tracked c.make_room.ensures.rows c.make_room.ensures.before c.in-Ok.ensures.room c.requires.id c.id-id.ensures
    c.place-old.ensures.value c.remember.ensures.items c.place-old.ensures.room c.place-old.ensures.rows

pub returns-clause-changed : goal.returns-clause-changed
returns-clause-changed g c =
    remembered-most (record { id = c.id-id.result; row = c.place-old.result }) c.args.before.now.items c.make_room.new.before.items
    c.remember.new.before.items c.remember.ensures.items c.make_room.ensures.before
