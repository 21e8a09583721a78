use Rattle.tests_beside.proofs.Reached.{usable}
use Rattle.tests_beside.proofs.loops.plain_of.Goals as goal

pub returns : goal.returns
returns c = usable c.plain.result.now c.plain.ensures.reached
