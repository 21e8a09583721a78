use Rattle.std.proofs.Common.{refl, sym, ◌∙◌}
use Rattle.std.proofs.lemmas.Result.{on_ok_weaker}
use Rattle.swarm_sched.proofs.Nearing.{taken}
use Rattle.swarm_sched.proofs.near.Near.note.Goals as goal

pub returns : goal.returns
returns g c =
    on_ok_weaker c.add_tree.result (λ trees left noting.
    taken (g.R.Rows.tables c.args.rows.now) c.args.task.now left c.args.self.now
    (record { totals = c.args.self.now.totals; waiting = c.add.new.list; trees = c.add_tree.new.trees })
    (sym c.is_below_assigned.ensures ∙ c.if-not-is_below_assigned.false) refl c.in_ok-add.ensures.ok trees noting)
    c.add_tree.ensures
