use Rattle.std.proofs.Common.{◌∙◌, sym}
use Rattle.swarm_filters.proofs.Steps.{label_goes_on, label_fails, label_ends}
use Rattle.swarm_filters.proofs.machine.label_step.Goals as goal

pub returns-then-is_name-clause-shows : goal.returns-then-is_name-clause-shows
returns-then-is_name-clause-shows c = label_goes_on c.args.text.now c.args.from c.args.place c.args.engine c.requires.order c.requires.below (sym c.is_name.ensures ∙ c.if-is_name.true)

pub returns-then-not-is_name-clause-shows : goal.returns-then-not-is_name-clause-shows
returns-then-not-is_name-clause-shows c = label_fails c.args.text.now c.args.from c.args.place c.args.engine c.requires.order c.requires.below (sym c.is_name.ensures ∙ c.if-is_name.false) (sym c.is_name-2.ensures ∙ c.if-not-is_name.true)

pub returns-clause-shows : goal.returns-clause-shows
returns-clause-shows c = c.behind_key.ensures.shows ∙ label_ends c.args.text.now c.args.from c.args.place c.args.engine c.requires.order c.requires.below (sym c.is_name.ensures ∙ c.if-is_name.false) (sym c.is_name-2.ensures ∙ c.if-not-is_name.false)
