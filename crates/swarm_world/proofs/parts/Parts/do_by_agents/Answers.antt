use Rattle.std.proofs.Common.{ap, sym, ◌∙◌}
use Rattle.swarm_model.specs.History.{replay}
use Rattle.swarm_objects.specs.Duties.{is_due}
use Rattle.swarm_world.proofs.Choosing.{beat-live}
use Rattle.swarm_world.proofs.OnNodes.{live-is}
use Rattle.swarm_world.proofs.Taking.{seven_kinds}
use Rattle.swarm_world.proofs.RowsTouched.{same_rows}
use Rattle.swarm_world.proofs.parts.Parts.do_by_agents.Goals as goal

pub beat-requires-clause-at : goal.beat-requires-clause-at
beat-requires-clause-at c =
    record { history = c.requires.at.history; legal = c.requires.at.legal; stands = c.requires.at.stands }

pub beat-requires-clause-live : goal.beat-requires-clause-live
beat-requires-clause-live c =
    let is = c.requires.at in
    let w = replay is.history in
    live-is c.args.self.now w c.in-Beat.node is.stands
    ∙ beat-live w c.in-Beat.node (ap (is_due w) (sym c.in-Beat.is) ∙ is.due)

pub unreachable-requires : goal.unreachable-requires
unreachable-requires c =
    let other = c.in_default in
    absurd (seven_kinds c.args.duty c.requires.own other.not-Register other.not-Beat other.not-Apply other.not-Pull
    other.not-Exec other.not-Report other.not-Forget)

pub returns-in-Apply-clause-marks : goal.returns-in-Apply-clause-marks
returns-in-Apply-clause-marks c = λ usable.
    same_rows c.args.marks.now c.args.self.now.records c.apply.new.self.records c.apply.ensures.rows c.requires.marks

pub returns-in-Pull-clause-marks : goal.returns-in-Pull-clause-marks
returns-in-Pull-clause-marks c = λ usable.
    same_rows c.args.marks.now c.args.self.now.records c.pull.new.self.records c.pull.ensures.rows c.requires.marks

pub returns-in-Exec-clause-marks : goal.returns-in-Exec-clause-marks
returns-in-Exec-clause-marks c = λ usable.
    same_rows c.args.marks.now c.args.self.now.records c.exec.new.self.records c.exec.ensures.rows c.requires.marks

pub returns-in-Forget-clause-marks : goal.returns-in-Forget-clause-marks
returns-in-Forget-clause-marks c = λ usable.
    same_rows c.args.marks.now c.args.self.now.records c.forget.new.self.records c.forget.ensures.rows c.requires.marks
