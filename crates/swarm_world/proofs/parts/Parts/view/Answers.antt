use Rattle.swarm_model.specs.History.{replay}
use Rattle.swarm_world.proofs.Answering.{viewing}
use Rattle.swarm_world.proofs.Entering.{are_usable}
use Rattle.swarm_world.proofs.Recorded.{near_store}
use Rattle.swarm_world.proofs.parts.Parts.view.Goals as goal

pub view-requires : goal.view-requires
view-requires c = near_store c.args.self.now.records (are_usable c.args.self.now c.requires.at)

pub returns-in-Ok : goal.returns-in-Ok
returns-in-Ok c = λ version h stands.
    viewing version h c.args.query.now c.args.self.now c.in-Ok.view stands
    (c.in-Ok.ensures (replay h) stands.has.records.store)
