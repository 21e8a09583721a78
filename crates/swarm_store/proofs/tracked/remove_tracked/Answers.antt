use Rattle.swarm_store.proofs.Tracking.{kept-drop, remembered-most}
use Rattle.swarm_store.proofs.tracked.remove_tracked.Goals as goal

pub returns-clause-kept : goal.returns-clause-kept
returns-clause-kept g c =
    kept-drop g.R.Row.id_of (record { id = c.args.id; row = c.remove-old.result }) c.args.before.now.items
    c.make_room.new.before.items c.remember.new.before.items c.args.rows.now c.make_room.new.rows c.remove-old.new.self
    c.requires.tracked c.make_room.ensures.rows c.make_room.ensures.before c.in-Ok.ensures.room c.requires.id
    c.remove-old.ensures.value c.remember.ensures.items c.remove-old.ensures.room c.remove-old.ensures.rows

pub returns-clause-changed : goal.returns-clause-changed
returns-clause-changed g c =
    remembered-most (record { id = c.args.id; row = c.remove-old.result }) c.args.before.now.items c.make_room.new.before.items
    c.remember.new.before.items c.remember.ensures.items c.make_room.ensures.before
