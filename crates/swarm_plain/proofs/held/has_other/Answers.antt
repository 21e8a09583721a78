use Rattle.swarm_plain.proofs.Numbers.{any_beside}
use Rattle.swarm_plain.specs.Plain.{tables_of}
use Rattle.swarm_plain.proofs.held.has_other.Goals as goal

pub returns : goal.returns
returns c =
    any_beside (tables_of c.args.plain.now) c.args.service.now c.args.task.now c.as_slice.result.now c.any_other.result
    c.as_slice.ensures c.any_other.ensures
