use Rattle.std.proofs.Common.{inl, refl}
use Rattle.swarm_model.specs.History.{replay}
use Rattle.swarm_world.proofs.Beginning.{not_made}
use Rattle.swarm_world.proofs.Entering.{are_usable}
use Rattle.swarm_world.proofs.Recorded.{usable_rows}
use Rattle.swarm_world.proofs.RemoteCalls.{not_reporting, reporting}
use Rattle.swarm_world.proofs.parts.Parts.remote_status.Goals as goal

pub returns-in-Err : goal.returns-in-Err
returns-in-Err c = λ h stands.
    not_reporting c.args.version h c.args.name.now c.args.session c.in_ok-node.node c.args.task c.args.state
    c.in-Err.refusal c.args.self.now stands c.in_ok-node.ensures c.in-Err.ensures.err

pub raise_state-requires : goal.raise_state-requires
raise_state-requires c = usable_rows c.args.self.now.records (are_usable c.args.self.now c.requires.at)

pub commit-requires-clause-usable : goal.commit-requires-clause-usable
commit-requires-clause-usable c = are_usable c.args.self.now c.requires.at

pub returns : goal.returns
returns c = λ h stands.
    let all = c.in-Ok-commit.ensures (replay h) stands.has.records in
    reporting c.args.version h c.args.name.now c.args.session c.in_ok-node.node c.args.task c.args.state
    c.in-Ok.row.now c.status_reply.result c.in_ok-changes.changes c.args.self.now _ stands c.in_ok-node.ensures
    c.in-Ok.ensures.ok c.status_reply.ensures c.in_ok-changes.ensures all.0 all.1 refl refl refl

pub returns-in_default : goal.returns-in_default
returns-in_default c = λ h stands. (
  inl refl,
  not_made c.args.self.now c.commit.new.records c.commit.new.watches (replay h) stands
      (c.in_default.ensures.0 (replay h) stands.has.records) c.in_default.ensures.1,
)
