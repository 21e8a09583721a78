use Rattle.std.proofs.Common.{◌∙◌, ap}
use Rattle.swarm_filters.specs.Machine.{key_words, word_begun}
use Rattle.swarm_filters.proofs.Places.{lower_part-next}
use Rattle.swarm_filters.proofs.machine.key_step.Goals as goal

pub returns-clause-shows : goal.returns-clause-shows
returns-clause-shows c = c.key_begun.ensures.shows ∙ ap (λ w. word_begun w key_words) (lower_part-next c.args.text.now c.args.from c.args.place c.requires.order c.requires.below)
