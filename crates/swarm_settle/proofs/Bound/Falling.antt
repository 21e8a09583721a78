-- Every duty other than a note makes the measure smaller.
use Rattle.std.proofs.Common.{None, Option, Some, ap, refl, sym, true, ℕ, ◌+◌, ◌∙◌, ◌≡◌, ◌≤◌, false}
use Rattle.std.specs.Prelude.{is_some}
use Rattle.swarm_settle.proofs.Bound.Calm.World.{IsCalm}
use Rattle.swarm_settle.proofs.Bound.Falls.Applies.{falls-apply}
use Rattle.swarm_settle.proofs.Bound.Falls.Creates.{falls-global, falls-job, falls-replica}
use Rattle.swarm_settle.proofs.Bound.Falls.Executors.{falls-exec}
use Rattle.swarm_settle.proofs.Bound.Falls.Fails.{falls-fail}
use Rattle.swarm_settle.proofs.Bound.Falls.Nodes.{falls-beat, falls-expire}
use Rattle.swarm_settle.proofs.Bound.Falls.Places.{falls-down, falls-leave, falls-swap}
use Rattle.swarm_settle.proofs.Bound.Falls.Placing.{falls-place}
use Rattle.swarm_settle.proofs.Bound.Falls.Ports.{falls-port}
use Rattle.swarm_settle.proofs.Bound.Falls.Pulls.{falls-pull}
use Rattle.swarm_settle.proofs.Bound.Falls.Registers.{falls-register}
use Rattle.swarm_settle.proofs.Bound.Falls.Removals.{falls-delete}
use Rattle.swarm_settle.proofs.Bound.Falls.Replaces.{falls-replace}
use Rattle.swarm_settle.proofs.Bound.Falls.Reports.{falls-forget, falls-report}
use Rattle.swarm_settle.proofs.Bound.Falls.Restarting.{AreWhole, falls-restart}
use Rattle.swarm_settle.proofs.Bound.Falls.Services.{falls-finish, falls-start}
use Rattle.swarm_settle.proofs.Bound.Falls.States.{falls-address, falls-orphan, falls-reject}
use Rattle.swarm_settle.proofs.Bound.Falls.Trims.{falls-trim}
use Rattle.swarm_settle.proofs.Bound.Falls.Wanted.{falls-drop, falls-gone, falls-old, falls-raise}
use Rattle.swarm_settle.proofs.Bound.Messages.World.{Known, its-node}
use Rattle.swarm_settle.specs.Bound.Measure.{measure}
use Rattle.swarm_model.proofs.Base.IsDuty.{IsDuty}
use Rattle.swarm_model.proofs.Laws.GivesOut.{GivesOut, duty-gives}
use Rattle.swarm_model.proofs.Laws.OfService.{OfServices}
use Rattle.swarm_model.proofs.Moves.EachDuty.{duty-moves}
use Rattle.swarm_model.proofs.Moves.Worlds.{Moves}
use Rattle.swarm_model.specs.Laws.Size.{is_silent_duty}
use Rattle.swarm_objects.specs.Agents.Messages.{message_for}
use Rattle.swarm_objects.specs.Duties.{effect_by}
use Rattle.swarm_objects.specs.Loops.Agents.{after_pull}
use Rattle.swarm_objects.specs.World.{World}
use Rattle.swarm_objects.specs.declared.duties.Duty.TheVariants as duty
use Rattle.swarm_objects.specs.declared.duties.Duty.{Duty}
use Rattle.swarm_objects.specs.declared.messages.Message.{Message}

-- what the falls ask of a world, where tasks from the number on are new
pub record Facts (m : ℕ) (w : World) : Type 0 where
  pub known : Known w
  pub services : OfServices w.tables
  pub whole : AreWhole w.tables
  pub calm : IsCalm m w
  pub later : m ≤ w.tables.next_id

pulls : (m : ℕ) (w : World) (n : ℕ) (o : Option Message) → Known w → IsDuty w (duty.Pull n) → message_for w n ≡ o →
    is_some o ≡ true → Moves w (after_pull w n o) → GivesOut (after_pull w n o) →
    measure m (after_pull w n o) + 1 ≤ measure m w
pulls m w n None known of e some moves gives = absurd cc
pulls m w n (Some message) known of e some moves gives =
    falls-pull m w n message known.orderly known.gives moves gives of e

pub each-falls : (m : ℕ) (w : World) (d : Duty) → Facts m w → IsDuty w d → is_silent_duty d ≡ false →
    measure m (effect_by (w.entries + 1) w d) + 1 ≤ measure m w
each-falls m w (duty.Expire n) is of loud = falls-expire m (w.entries + 1) w n of
each-falls m w (duty.Orphan x) is of loud = falls-orphan m (w.entries + 1) w x is.known.orderly.tasks of
each-falls m w (duty.Reject x) is of loud = falls-reject m (w.entries + 1) w x is.known.orderly.tasks of
each-falls m w (duty.Restart x) is of loud =
    falls-restart m (w.entries + 1) w x is.later is.known.orderly is.known.gives is.services.of is.calm.tables is.whole of
each-falls m w (duty.Raise x) is of loud =
    falls-raise m (w.entries + 1) w x is.known.orderly is.known.gives is.services.of of
each-falls m w (duty.Start s) is of loud = falls-start m (w.entries + 1) w s is.known.orderly.services of
each-falls m w (duty.Fail s) is of loud =
    falls-fail m (w.entries + 1) w s is.known.orderly.services is.services.one.kinds of
each-falls m w (duty.Swap s k) is of loud = falls-swap m (w.entries + 1) w s k is.known.orderly is.known.gives of
each-falls m w (duty.Replace s k) is of loud =
    falls-replace m (w.entries + 1) w s k is.later is.known.orderly is.known.gives of
each-falls m w (duty.Finish s) is of loud = falls-finish m (w.entries + 1) w s is.known.orderly.services of
each-falls m w (duty.Gone x) is of loud = falls-gone m (w.entries + 1) w x is.known.orderly is.known.gives of
each-falls m w (duty.Down s k) is of loud = falls-down m (w.entries + 1) w s k is.known.orderly is.known.gives of
each-falls m w (duty.ReplicatedCreate s k) is of loud =
    falls-replica m (w.entries + 1) w s k is.later is.known.orderly.services of
each-falls m w (duty.Leave s n) is of loud = falls-leave m (w.entries + 1) w s n is.known.orderly is.known.gives of
each-falls m w (duty.GlobalCreate s n) is of loud =
    falls-global m (w.entries + 1) w s n is.later is.known.orderly.services of
each-falls m w (duty.Old x) is of loud = falls-old m (w.entries + 1) w x is.known.orderly is.known.gives of
each-falls m w (duty.JobCreate s k) is of loud =
    falls-job m (w.entries + 1) w s k is.later is.known.orderly.services of
each-falls m w (duty.Port s target udp) is of loud =
    falls-port m (w.entries + 1) w s target udp is.known.orderly.services of
each-falls m w (duty.Address x) is of loud = falls-address m (w.entries + 1) w x is.known.orderly.tasks of
each-falls m w (duty.Note x) is of loud = absurd cc
each-falls m w (duty.Drop x) is of loud = falls-drop m (w.entries + 1) w x is.known.orderly is.known.gives of
each-falls m w (duty.Place x n) is of loud = falls-place m (w.entries + 1) w x n is.known.orderly is.known.gives of
each-falls m w (duty.Explain x) is of loud = absurd cc
each-falls m w (duty.Delete x) is of loud = falls-delete m w x is.known is.whole of
each-falls m w (duty.Trim x) is of loud = falls-trim m w x is.known of
each-falls m w (duty.Register n) is of loud = falls-register m (w.entries + 1) w n is.known of
each-falls m w (duty.Beat n) is of loud =
    let node = its-node w of.row is.known of.there in
    falls-beat m w n node.0 is.known.proper.heartbeat node.1 (node.2 ∙ of.id_is) of
each-falls m w (duty.Apply n) is of loud = falls-apply m w n is.known of
each-falls m w (duty.Pull n) is of loud =
    pulls m w n (message_for w n) is.known of refl
    (ap (λ (k : ℕ). is_some (message_for w k)) (sym of.id_is) ∙ of.fact.1.1.1)
    (duty-moves (w.entries + 1) w (duty.Pull n) is.known.orderly of)
    (duty-gives (w.entries + 1) w (duty.Pull n) is.known.orderly of is.known.gives)
each-falls m w (duty.Exec n x) is of loud = falls-exec m w n x of
each-falls m w (duty.Report n x) is of loud = falls-report m (w.entries + 1) w n x is.known of
each-falls m w (duty.Forget n x) is of loud = falls-forget m w n x is.known of
