use Rattle.swarm_world.proofs.Entering.{are_usable}
use Rattle.swarm_world.proofs.Opening.{opening, opening_near}
use Rattle.swarm_world.proofs.Recorded.{usable_rows}
use Rattle.swarm_world.proofs.parts.Parts.remote_begin.Goals as goal

pub set_resources-requires : goal.set_resources-requires
set_resources-requires c = usable_rows c.args.self.now.records (are_usable c.args.self.now c.requires.at)

pub begin-requires-clause-next : goal.begin-requires-clause-next
begin-requires-clause-next c =
    opening_near c.args.version c.args.self.now c.in_ok-node.node.now.id c.given_or-cpu.result c.given_or-mem.result
    c.in_ok-changes.changes c.requires.at c.in_ok-changes.ensures

pub returns : goal.returns
returns c = λ h stands.
    let began = c.in_ok-session.ensures h stands in
    opening c.args.version h c.args.name.now c.args.cpu c.args.mem c.in_ok-node.node.now c.given_or-cpu.result
    c.given_or-mem.result c.in_ok-changes.changes c.in_ok-session.session c.deadline-deadline.result c.args.self.now _
    stands c.in_ok-node.ensures.ok c.given_or-cpu.ensures c.given_or-mem.ensures c.in_default.ensures
    c.in_ok-changes.ensures c.deadline-deadline.ensures began.0 began.1 began.2
