use Rattle.std.proofs.Common.{◌∙◌}
use Rattle.swarm_command.proofs.Spelled.{found_named}
use Rattle.swarm_command.proofs.finds.found_form.Goals as goal

pub returns-in-Some : goal.returns-in-Some
returns-in-Some c =
    c.named_form.ensures
    ∙ found_named c.in-Some.name.now c.args.matches.now c.in-Some.found.now c.in-Some.ensures.name c.in-Some.ensures.rows
