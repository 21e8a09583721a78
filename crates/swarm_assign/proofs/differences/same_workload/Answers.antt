use Rattle.swarm_objects.proofs.SameLemmas.{Decides-same_workload, same_test}
use Rattle.swarm_objects.specs.Same.{same_workload}
use Rattle.swarm_assign.proofs.differences.same_workload.Goals as goal

pub returns : goal.returns
returns c =
    let one = c.args.one.now in
    let other = c.args.other.now in
    same_test c.same.result (same_workload one other) c.same.ensures (Decides-same_workload one other)
