use Rattle.swarm_sched.proofs.Remembering.{changed_goes_on, changed_stays, each_written, inside_known}
use Rattle.swarm_sched.proofs.known_refusals.KnownRefusals.forget_changed.Goals as goal

pub returns-clause-stays : goal.returns-clause-stays
returns-clause-stays g c =
    let t = g.R.Rows.tables c.args.rows.now in
    let groups = c.in-Some.groups in
    changed_stays t c.args.changes.now groups.items _
    (each_written t c.args.changes.now groups.items c.as_mut_slice.result.now c.forget_each.new.groups groups.len
    c.as_mut_slice.ensures.value groups.ok.0 c.forget_each.ensures)
    (inside_known t c.args.self.now c.self.inside.groups groups c.self.view_is c.in-Some.is c.requires.knows)

pub returns-clause-goes_on : goal.returns-clause-goes_on
returns-clause-goes_on g c =
    let t = g.R.Rows.tables c.args.rows.now in
    let groups = c.in-Some.groups in
    changed_goes_on t c.args.changes.now groups.items _ c.requires.usable
    (each_written t c.args.changes.now groups.items c.as_mut_slice.result.now c.forget_each.new.groups groups.len
    c.as_mut_slice.ensures.value groups.ok.0 c.forget_each.ensures)
    (inside_known t c.args.self.now c.self.inside.groups groups c.self.view_is c.in-Some.is c.requires.knows)
