use Rattle.std.proofs.Common.{◌∙◌, sym}
use Rattle.swarm_duties.proofs.Reached.{usable}
use Rattle.swarm_plain.proofs.First.{due_of_first}
use Rattle.swarm_plain.specs.Plain.{world_of}
use Rattle.tests_calls.proofs.steps.do_next.Goals as goal

pub do_duty-requires-clause-due : goal.do_duty-requires-clause-due
do_duty-requires-clause-due c =
    due_of_first c.args.role (world_of c.args.plain.now) c.in-Some.duty (sym c.in_ok-duty.ensures ∙ c.in-Some.is)

pub head-requires : goal.head-requires
head-requires c = usable (world_of c.args.plain.now) c.requires
