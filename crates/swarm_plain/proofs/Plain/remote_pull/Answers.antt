use Rattle.std.proofs.Common.{subst, sym}
use Rattle.swarm_plain.proofs.Plain.remote_pull.Goals as goal
use Rattle.swarm_plain.proofs.Remotes.{pull_of_found}
use Rattle.swarm_plain.specs.Plain.{AnswersCall, world_of}

pub returns : goal.returns
returns c =
    let w = world_of c.args.self.now in
    let same = pull_of_found w c.args.name.now c.args.session c.in_ok-node.node c.in_ok-node.ensures in
    subst (λ expected. AnswersCall expected c.args.self.now c.pull.result c.pull.new.self) (sym same) c.pull.ensures
