use Rattle.std.proofs.Common.{ap, sym, ◌∙◌}
use Rattle.std.specs.Option.{option_copied}
use Rattle.swarm_sched.proofs.ClassLoading.{entry_few}
use Rattle.swarm_sched.proofs.class_loads.task_class.Goals as goal

pub returns-in-Some-entry_of-clause-few : goal.returns-in-Some-entry_of-clause-few
returns-in-Some-entry_of-clause-few c =
    entry_few c.args.sorted.now c.in-Some.node c.in-Some-entry_of.entry.now c.requires.few
    (sym (ap option_copied c.in-Some-entry_of.is) ∙ c.entry_of.ensures)
