use Rattle.std.proofs.Common.{◌+◌, subst, sym}
use Rattle.swarm_plain.proofs.Plain.remote_status.Goals as goal
use Rattle.swarm_plain.proofs.Remotes.{status_of_found}
use Rattle.swarm_plain.specs.Plain.{AnswersCall, world_of}

pub returns : goal.returns
returns c =
    let w = world_of c.args.self.now in
    let same =
    status_of_found (w.entries + 1) w c.args.name.now c.args.session c.in_ok-node.node c.args.task c.args.state
    c.in_ok-node.ensures in
    subst (λ expected. AnswersCall expected c.args.self.now c.report.result c.report.new.self) (sym same) c.report.ensures
