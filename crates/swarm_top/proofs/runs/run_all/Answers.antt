use Rattle.std.proofs.Common.{arith}
use denote.Param.Send.{sendable}
use Rattle.swarm_top.proofs.Backing.{first_new, others_new}
use Rattle.swarm_top.proofs.runs.run_all.Goals as goal

pub join_mut-ending-requires-after_bounds : goal.join_mut-ending-requires-after_bounds
join_mut-ending-requires-after_bounds g c κs within =
    let parts = c.in-Some.ensures.cases in
    let cell = c.args.cluster.now.cell in
    let first = c.in-Some.first.now in
    let others = c.in-Some.others.now in
    let count = c.requires.count in
    let long = parts.1 in (
      (
        (c.requires.workers, omega arith, others_new cell first others c.args.passes.now parts.0 c.requires.new),
        (search sendable depth 20, search sendable depth 20),
      ),
      first_new cell first others c.args.passes.now parts.0 c.requires.new,
    )
