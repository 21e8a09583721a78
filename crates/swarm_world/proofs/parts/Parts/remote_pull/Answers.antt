use Rattle.std.proofs.Common.{refl, ◌∙◌}
use Rattle.swarm_world.proofs.Entering.{are_usable}
use Rattle.swarm_world.proofs.Pulling.{few_sent}
use Rattle.swarm_world.proofs.Recorded.{usable_rows}
use Rattle.swarm_world.proofs.RemoteCalls.{pulling}
use Rattle.swarm_world.proofs.parts.Parts.remote_pull.Goals as goal

pub due_set-requires : goal.due_set-requires
due_set-requires c = usable_rows c.args.self.now.records (are_usable c.args.self.now c.requires.at)

pub pull-requires-clause-count : goal.pull-requires-clause-count
pull-requires-clause-count c = few_sent c.args.self.now c.requires.at c.in_ok-node.node

pub returns : goal.returns
returns c = λ version h stands.
    pulling version h c.args.name.now c.args.session c.in_ok-node.node c.as_slice.result.now c.in_ok-message.message
    c.args.self.now _ stands c.in_ok-node.ensures (c.as_slice.ensures ∙ c.in_ok-due.ensures.set) c.in_ok-message.ensures.message
    c.in_ok-message.ensures.sent refl refl refl refl
