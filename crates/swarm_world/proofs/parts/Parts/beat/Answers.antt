use Rattle.std.proofs.Common.{None, Option, ap, refl, subst, sym, ◌+◌, ◌*◌, ◌<◌, ◌∙◌, ◌≡◌}
use Rattle.swarm_objects.specs.Bounds.{far_end}
use Rattle.swarm_objects.specs.Nodes.Admission.{not_admitted}
use Rattle.swarm_objects.specs.Refusals.{unless}
use Rattle.swarm_objects.specs.Rows.{row_at, session_node}
use Rattle.swarm_objects.specs.declared.replies.Refusal.{Refusal}
use Rattle.swarm_world.proofs.Entering.{are_usable, small_heartbeat}
use Rattle.swarm_world.proofs.OnNodes.{beat-parts}
use Rattle.swarm_world.proofs.Recorded.{usable_rows}
use Rattle.swarm_world.proofs.RowsTouched.{beat_marked}
use Rattle.swarm_world.proofs.parts.Parts.beat.Goals as goal

pub beat-requires-clause-now : goal.beat-requires-clause-now
beat-requires-clause-now c =
    subst (λ k. k < far_end) (sym c.now-now.ensures)
    (usable_rows c.args.self.now.records (are_usable c.args.self.now c.requires.at)).clock

pub beat-requires-clause-heartbeat : goal.beat-requires-clause-heartbeat
beat-requires-clause-heartbeat c =
    subst (λ k. k < far_end) (sym (ap (λ s. s.heartbeat) c.settings-heartbeat.ensures))
    (small_heartbeat c.args.self.now c.requires.at)

pub unreachable-requires : goal.unreachable-requires
unreachable-requires c =
    let row = row_at session_node c.args.node c.args.self.now.records.sessions.rows in
    let admitted : not_admitted c.now-now.result c.live_session-session.result row ≡ None =
    ap (λ k. not_admitted k c.live_session-session.result row) c.now-now.ensures ∙ c.live_session-session.ensures in
    let wrong =
    sym c.in_default.is ∙ c.beat.ensures.answer
    ∙ ap (λ (o : Option Refusal). unless o (c.now-now.result + 3 * c.settings-heartbeat.result.heartbeat)) admitted in
    cc

pub returns-clause-stands : goal.returns-clause-stands
returns-clause-stands c = λ h stands.
    beat-parts c.entries_are_noted.ensures h c.args.node c.now-now.result c.settings-heartbeat.result.heartbeat
    c.live_session-session.result c.args.self.now _ stands c.now-now.ensures
    (ap (λ s. s.heartbeat) c.settings-heartbeat.ensures) refl c.in-Ok.ensures.ok refl refl refl refl

pub returns-clause-marks : goal.returns-clause-marks
returns-clause-marks c =
    let p = c.args.self.now in
    beat_marked c.args.node c.now-now.result c.settings-heartbeat.result.heartbeat c.live_session-session.result
    c.args.marks.now c.touch_session.new.self p.records c.beat.new.self (are_usable p c.requires.at) c.requires.marks
    c.touch_session.ensures.goes_on c.touch_session.ensures.services c.touch_session.ensures.timed c.touch_session.ensures.known c.in-Ok.ensures.ok
