use Rattle.std.proofs.Common.{refl, sym, ◌∙◌}
use Rattle.swarm_model.specs.History.{replay}
use Rattle.swarm_world.proofs.Beginning.{not_made}
use Rattle.swarm_world.proofs.Entering.{are_usable}
use Rattle.swarm_world.proofs.Recorded.{usable_rows}
use Rattle.swarm_world.proofs.Reporting.{reported_none, reported_some}
use Rattle.swarm_world.proofs.RowsTouched.{committed, committed_foreseen, not_committed}
use Rattle.swarm_world.specs.Inside.Records.{tables_of}
use Rattle.swarm_world.proofs.parts.Parts.report.Goals as goal

pub raise_state-requires : goal.raise_state-requires
raise_state-requires c = usable_rows c.args.self.now.records (are_usable c.args.self.now c.requires.at)

pub commit-requires-clause-usable : goal.commit-requires-clause-usable
commit-requires-clause-usable c = are_usable c.args.self.now c.requires.at

pub commit-requires-clause-can : goal.commit-requires-clause-can
commit-requires-clause-can c = c.in-Ok.ensures.can

pub returns-in_default-clause-enters : goal.returns-in_default-clause-enters
returns-in_default-clause-enters c = λ h is.
    reported_none c.entries_are_noted.ensures h c.args.node c.args.task c.args.self.now _ is.stands
    (sym c.in_default.is ∙ c.state_of.ensures (replay h).agents is.stands.has.agents) c.reported.ensures refl refl refl
    refl

pub returns-in_default-commit-clause-enters : goal.returns-in_default-commit-clause-enters
returns-in_default-commit-clause-enters c = λ h is.
    let did = c.in_default-commit.ensures in
    not_made c.args.self.now c.commit.new.records c.commit.new.watches (replay h) is.stands
    (did.0 (replay h) is.stands.has.records) did.1

pub returns-clause-enters : goal.returns-clause-enters
returns-clause-enters c = λ h is.
    let p = c.args.self.now in
    let did = c.in-Ok-commit.ensures (replay h) is.stands.has.records in
    reported_some c.entries_are_noted.ensures c.args.version h c.args.node c.args.task c.in-Some.state p _
    c.commit.new.records c.commit.new.watches c.in-Ok.changes is
    (sym c.in-Some.is ∙ c.state_of.ensures (replay h).agents is.stands.has.agents) c.in-Ok.ensures did.0 did.1
    c.reported-2.ensures refl refl refl refl

pub touch-foreseen-requires-clause-usable : goal.touch-foreseen-requires-clause-usable
touch-foreseen-requires-clause-usable c = usable_rows c.args.self.now.records (are_usable c.args.self.now c.requires.at)

pub returns-in_default-commit-clause-marks : goal.returns-in_default-commit-clause-marks
returns-in_default-commit-clause-marks c = λ usable.
    let is = c.requires.at in
    not_committed c.args.self.now is c.commit.new.records c.touch-foreseen.new.self
    (c.in_default-commit.ensures.0 (replay is.history) is.stands.has.records) c.touch-foreseen.ensures.stays

pub returns-clause-marks : goal.returns-clause-marks
returns-clause-marks c = λ usable.
    let is = c.requires.at in
    let has = (c.in-Ok-commit.ensures (replay is.history) is.stands.has.records).0 in
    c.remember.ensures.marks (tables_of c.commit.new.records)
    (committed c.as_slice.result.now c.in-Ok.changes c.args.self.now is c.commit.new.records c.touch-foreseen.new.self
    c.as_slice.ensures has c.touch-foreseen.ensures.goes_on usable)
    (λ done. committed_foreseen c.as_slice.result.now c.in-Ok.changes c.args.self.now is c.commit.new.records c.touch-foreseen.result
    c.as_slice.ensures has c.touch-foreseen.ensures.foreseen)
