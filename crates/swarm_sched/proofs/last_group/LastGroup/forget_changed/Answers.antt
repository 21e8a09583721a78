use Rattle.std.proofs.Common.{[], subst, sym, ◌∷◌}
use Rattle.swarm_sched.proofs.LastRefusing.{one_written}
use Rattle.swarm_sched.proofs.Remembering.{changed_goes_on, changed_stays}
use Rattle.swarm_sched.proofs.last_group.LastGroup.forget_changed.Goals as goal
use Rattle.swarm_sched.specs.Inside.KnownRefusals.{KnowsRefusals}

pub returns-clause-stays : goal.returns-clause-stays
returns-clause-stays g c =
    let t = g.R.Rows.tables c.args.rows.now in
    let group = c.self.inside.group in
    changed_stays t c.args.changes.now (group ∷ []) _
    (one_written t c.args.changes.now group group c.from_mut.result.now c.forget_each.new.groups
    c.from_mut.ensures.value c.forget_each.ensures)
    (subst (KnowsRefusals t) (sym c.self.view_is) c.requires.knows)

pub returns-clause-goes_on : goal.returns-clause-goes_on
returns-clause-goes_on g c =
    let t = g.R.Rows.tables c.args.rows.now in
    let group = c.self.inside.group in
    changed_goes_on t c.args.changes.now (group ∷ []) _ c.requires.usable
    (one_written t c.args.changes.now group group c.from_mut.result.now c.forget_each.new.groups
    c.from_mut.ensures.value c.forget_each.ensures)
    (subst (KnowsRefusals t) (sym c.self.view_is) c.requires.knows)
