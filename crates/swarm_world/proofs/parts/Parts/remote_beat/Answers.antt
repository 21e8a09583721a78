use Rattle.std.proofs.Common.{ap, refl, subst, sym, ◌<◌}
use Rattle.swarm_objects.specs.Bounds.{far_end}
use Rattle.swarm_world.proofs.Entering.{are_usable, small_heartbeat}
use Rattle.swarm_world.proofs.Recorded.{usable_rows}
use Rattle.swarm_world.proofs.RemoteCalls.{beating}
use Rattle.swarm_world.proofs.parts.Parts.remote_beat.Goals as goal

pub beat-requires-clause-now : goal.beat-requires-clause-now
beat-requires-clause-now c =
    subst (λ k. k < far_end) (sym c.now-now.ensures)
    (usable_rows c.args.self.now.records (are_usable c.args.self.now c.requires.at)).clock

pub beat-requires-clause-heartbeat : goal.beat-requires-clause-heartbeat
beat-requires-clause-heartbeat c =
    subst (λ k. k < far_end) (sym (ap (λ s. s.heartbeat) c.settings-heartbeat.ensures))
    (small_heartbeat c.args.self.now c.requires.at)

pub returns : goal.returns
returns c = λ version h stands.
    beating version h c.args.name.now c.args.session c.in_ok-node.field-0.now c.now-now.result
    c.settings-heartbeat.result.heartbeat c.in_ok-deadline.deadline c.args.self.now _ stands c.in_ok-node.ensures.ok
    c.now-now.ensures (ap (λ s. s.heartbeat) c.settings-heartbeat.ensures) c.in_ok-deadline.ensures.answer refl
    c.in_ok-deadline.ensures.ok refl refl refl refl
