use Rattle.std.proofs.Common.{ap, sym, ◌∙◌}
use Rattle.std.specs.Option.{option_map}
use Rattle.swarm_objects.specs.declared.duties.Duty.TheVariants as duty
use Rattle.swarm_world.proofs.looks.first_forgotten.Goals as goal

pub returns-in-Some : goal.returns-in-Some
returns-in-Some c =
    ap (option_map (duty.Forget c.args.node)) (sym c.in-Some.is ∙ c.forget_due.ensures.value)
    ∙ sym (c.what_is_found_is_the_first_duty.ensures.forgets c.args.node c.args.agent.now.executors)

pub returns-in-None : goal.returns-in-None
returns-in-None c =
    ap (option_map (duty.Forget c.args.node)) (sym c.in-None.is ∙ c.forget_due.ensures.value)
    ∙ sym (c.what_is_found_is_the_first_duty.ensures.forgets c.args.node c.args.agent.now.executors)
