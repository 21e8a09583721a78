use Rattle.std.proofs.Common.{◌∙◌, sym}
use Rattle.std.specs.Prelude.{slice_index}
use Rattle.swarm_filters.specs.Inside.States.{key_at}
use Rattle.swarm_filters.proofs.Steps.{value_goes_on, value_fails, unequal}
use Rattle.swarm_filters.proofs.machine.value_step.Goals as goal

pub returns-then-not-is_value-clause-shows : goal.returns-then-not-is_value-clause-shows
returns-then-not-is_value-clause-shows c = value_fails c.args.text.now c.args.parts.value.from c.args.place (key_at c.args.text.now c.args.parts.found) c.args.parts.equal c.requires.order c.requires.below (unequal (slice_index c.args.text.now c.args.place) 32 c.if-text-place-eq32.false) (sym c.is_value.ensures ∙ c.if-not-is_value.true)

pub returns-clause-shows : goal.returns-clause-shows
returns-clause-shows c = value_goes_on c.args.text.now c.args.parts.value.from c.args.place (key_at c.args.text.now c.args.parts.found) c.args.parts.equal c.requires.order c.requires.below (unequal (slice_index c.args.text.now c.args.place) 32 c.if-text-place-eq32.false) (sym c.is_value.ensures ∙ c.if-not-is_value.false)
