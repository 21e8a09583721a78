use Rattle.swarm_objects.specs.Same.{same_workload}
use Rattle.swarm_objects.proofs.SameLemmas.{Decides-same_workload, same_test}
use Rattle.swarm_plain.proofs.messages.same_workload.Goals as goal

pub returns : goal.returns
returns c =
    let a = c.args.a.now in
    let b = c.args.b.now in
    same_test c.same.result (same_workload a b) c.same.ensures (Decides-same_workload a b)
