use Rattle.swarm_objects.specs.Loops.Scheduler.{schedule}
use Rattle.swarm_spans.proofs.TasksCovered.{addresses_on, deletes_on, expires_on, goes_on, nodes_wider, notes_on, olds_on, orphans_on, raises_on, rejects_on, restarts_on, schedules_on, tasks_wider, to_allocate_on, to_schedule_on, to_wait_on}
use Rattle.swarm_spans.proofs.task_spans.TaskSpans.touch_each.Goals as goal
use Rattle.swarm_spans.specs.Lines.{addresses, deletes, expires, goes, notes, olds, orphans, raises, rejects, restarts, to_allocate, to_schedule, to_wait}

pub returns-clause-stays : goal.returns-clause-stays
returns-clause-stays g c = record {
  expires =
      nodes_wider expires (g.R.Rows.tables c.args.rows.now) c.args.self.now.expires c.touch_nodes.new.span c.touch_nodes.ensures.wider
      c.requires.covers.expires;
  orphans =
      tasks_wider orphans (g.R.Rows.tables c.args.rows.now) c.args.self.now.orphans c.touch_tasks.new.span c.touch_tasks.ensures.wider
      c.requires.covers.orphans;
  rejects =
      tasks_wider rejects (g.R.Rows.tables c.args.rows.now) c.args.self.now.rejects c.touch_tasks-2.new.span c.touch_tasks-2.ensures.wider
      c.requires.covers.rejects;
  restarts =
      tasks_wider restarts (g.R.Rows.tables c.args.rows.now) c.args.self.now.restarts c.touch_tasks-3.new.span c.touch_tasks-3.ensures.wider
      c.requires.covers.restarts;
  raises =
      tasks_wider raises (g.R.Rows.tables c.args.rows.now) c.args.self.now.raises c.touch_raises.new.span c.touch_raises.ensures.wider
      c.requires.covers.raises;
  goes =
      tasks_wider goes (g.R.Rows.tables c.args.rows.now) c.args.self.now.goes c.touch_tasks-4.new.span c.touch_tasks-4.ensures.wider
      c.requires.covers.goes;
  olds =
      tasks_wider olds (g.R.Rows.tables c.args.rows.now) c.args.self.now.olds c.touch_tasks-5.new.span c.touch_tasks-5.ensures.wider
      c.requires.covers.olds;
  deletes =
      tasks_wider deletes (g.R.Rows.tables c.args.rows.now) c.args.self.now.deletes c.touch_alone.new.span c.touch_alone.ensures.wider
      c.requires.covers.deletes;
  addresses =
      tasks_wider addresses (g.R.Rows.tables c.args.rows.now) c.args.self.now.addresses c.touch_addresses.new.span c.touch_addresses.ensures.wider
      c.requires.covers.addresses;
  notes =
      tasks_wider notes (g.R.Rows.tables c.args.rows.now) c.args.self.now.notes c.touch_notes.new.span c.touch_notes.ensures.wider
      c.requires.covers.notes;
  schedules =
      tasks_wider schedule (g.R.Rows.tables c.args.rows.now) c.args.self.now.schedules c.touch_schedules.new.span c.touch_schedules.ensures.wider
      c.requires.covers.schedules;
  to_wait =
      tasks_wider to_wait (g.R.Rows.tables c.args.rows.now) c.args.self.now.to_wait c.touch_alone-2.new.span c.touch_alone-2.ensures.wider
      c.requires.covers.to_wait;
  to_schedule =
      tasks_wider to_schedule (g.R.Rows.tables c.args.rows.now) c.args.self.now.to_schedule c.touch_alone-3.new.span c.touch_alone-3.ensures.wider
      c.requires.covers.to_schedule;
  to_allocate =
      tasks_wider to_allocate (g.R.Rows.tables c.args.rows.now) c.args.self.now.to_allocate c.touch_alone-4.new.span c.touch_alone-4.ensures.wider
      c.requires.covers.to_allocate;
}

pub returns-clause-goes_on : goal.returns-clause-goes_on
returns-clause-goes_on g c after = record {
  expires =
      expires_on (g.R.Rows.tables c.args.rows.now) c.args.changes.now c.args.self.now.expires c.touch_nodes.new.span after c.requires.covers.expires
      c.touch_nodes.ensures.wider c.touch_nodes.ensures.touches;
  orphans =
      orphans_on (g.R.Rows.tables c.args.rows.now) c.args.changes.now c.args.self.now.orphans c.touch_tasks.new.span c.requires.usable after
      c.requires.covers.orphans c.touch_tasks.ensures.wider c.touch_tasks.ensures.touches;
  rejects =
      rejects_on (g.R.Rows.tables c.args.rows.now) c.args.changes.now c.args.self.now.rejects c.touch_tasks-2.new.span c.requires.usable after
      c.requires.covers.rejects c.touch_tasks-2.ensures.wider c.touch_tasks-2.ensures.touches;
  restarts =
      restarts_on (g.R.Rows.tables c.args.rows.now) c.args.changes.now c.args.self.now.restarts c.touch_tasks-3.new.span c.requires.usable after
      c.requires.covers.restarts c.touch_tasks-3.ensures.wider c.touch_tasks-3.ensures.touches;
  raises =
      raises_on c.args.self.now.to_wait (g.R.Rows.tables c.args.rows.now) c.args.changes.now c.args.self.now.raises c.touch_raises.new.span
      c.requires.usable after c.requires.covers.to_wait c.touch_raises.ensures.blocked c.requires.covers.raises
      c.touch_raises.ensures.wider c.touch_raises.ensures.touches;
  goes =
      goes_on (g.R.Rows.tables c.args.rows.now) c.args.changes.now c.args.self.now.goes c.touch_tasks-4.new.span c.requires.usable after
      c.requires.covers.goes c.touch_tasks-4.ensures.wider c.touch_tasks-4.ensures.touches;
  olds =
      olds_on (g.R.Rows.tables c.args.rows.now) c.args.changes.now c.args.self.now.olds c.touch_tasks-5.new.span c.requires.usable after
      c.requires.covers.olds c.touch_tasks-5.ensures.wider c.touch_tasks-5.ensures.touches;
  deletes =
      deletes_on (g.R.Rows.tables c.args.rows.now) c.args.changes.now c.args.self.now.deletes c.touch_alone.new.span c.requires.usable after
      c.requires.covers.deletes c.touch_alone.ensures.wider c.touch_alone.ensures.touches;
  addresses =
      addresses_on c.args.self.now.to_allocate (g.R.Rows.tables c.args.rows.now) c.args.changes.now c.args.self.now.addresses c.touch_addresses.new.span
      c.requires.usable after c.requires.covers.to_allocate c.touch_addresses.ensures.freed c.requires.covers.addresses
      c.touch_addresses.ensures.wider c.touch_addresses.ensures.touches;
  notes =
      notes_on c.args.self.now.to_allocate (g.R.Rows.tables c.args.rows.now) c.args.changes.now c.args.self.now.notes c.touch_notes.new.span
      c.requires.usable after c.requires.covers.to_allocate c.touch_notes.ensures.held c.requires.covers.notes
      c.touch_notes.ensures.wider c.touch_notes.ensures.touches;
  schedules =
      schedules_on c.args.self.now.to_schedule (g.R.Rows.tables c.args.rows.now) c.args.changes.now c.args.self.now.schedules c.touch_schedules.new.span
      c.requires.usable after c.requires.covers.to_schedule c.touch_schedules.ensures.moved c.requires.covers.schedules
      c.touch_schedules.ensures.wider c.touch_schedules.ensures.touches;
  to_wait =
      to_wait_on (g.R.Rows.tables c.args.rows.now) c.args.changes.now c.args.self.now.to_wait c.touch_alone-2.new.span c.requires.usable after
      c.requires.covers.to_wait c.touch_alone-2.ensures.wider c.touch_alone-2.ensures.touches;
  to_schedule =
      to_schedule_on (g.R.Rows.tables c.args.rows.now) c.args.changes.now c.args.self.now.to_schedule c.touch_alone-3.new.span c.requires.usable after
      c.requires.covers.to_schedule c.touch_alone-3.ensures.wider c.touch_alone-3.ensures.touches;
  to_allocate =
      to_allocate_on (g.R.Rows.tables c.args.rows.now) c.args.changes.now c.args.self.now.to_allocate c.touch_alone-4.new.span c.requires.usable after
      c.requires.covers.to_allocate c.touch_alone-4.ensures.wider c.touch_alone-4.ensures.touches;
}
