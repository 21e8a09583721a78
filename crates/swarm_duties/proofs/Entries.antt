-- An entry that comes next, and what it is answered.
use Rattle.std.proofs.Common.{◌≡◌, ℕ, ◌+◌, [], ◌∷◌, ◌++◌, Result, Ok, Err, true, false, None, Option, Some, refl, sym, ap, ◌∙◌, subst}
use Rattle.swarm_duties.specs.Reached.{IsReached}
use Rattle.swarm_duties.specs.Stepping.{DoesStep}
use Rattle.swarm_duties.specs.declared.steps.StepFault.{StepFault}
use Rattle.swarm_duties.specs.declared.steps.StepFault.TheVariants.{Illegal, NoMemory}
use Rattle.swarm_model.proofs.Base.Histories.{IsLegalFrom-snoc, admitted-unrefused, outcome-admitted, replay-snoc}
use Rattle.swarm_model.proofs.Moves.Worlds.{IsOrderly}
use Rattle.swarm_model.specs.Calls.{outcome, refusal_of}
use Rattle.swarm_model.specs.History.{effect, may_follow, step}
use Rattle.swarm_model.specs.Outcome.{Gives, Outcome}
use Rattle.swarm_objects.specs.Duties.{effect_by, is_due}
use Rattle.swarm_model.specs.Settle.{settle_answer}
use Rattle.swarm_objects.specs.CallWords.{is_settle}
use Rattle.swarm_objects.specs.World.{World, empty_world}
use Rattle.swarm_objects.specs.declared.calls.Call.{Call}
use Rattle.swarm_objects.specs.declared.calls.Call.TheVariants as call
use Rattle.swarm_objects.specs.declared.calls.What.{What}
use Rattle.swarm_objects.specs.declared.duties.Settle.{Settle}
use Rattle.swarm_objects.specs.declared.calls.What.TheVariants as what
use Rattle.swarm_objects.specs.declared.duties.Duty.{Duty}
use Rattle.swarm_objects.specs.declared.replies.Refusal.{Refusal}
use Rattle.swarm_objects.specs.declared.replies.Reply.{Reply}
use Rattle.swarm_objects.specs.declared.replies.Reply.TheVariants as reply
use Rattle.swarm_plain.proofs.EntryLemmas.{settle-unseen}
use Rattle.swarm_plain.proofs.DutyEntries.{order-duty, unwatched-duty}
use Rattle.swarm_plain.specs.Entries.{HasOrder, entered_unseen}

-- what a duty does in place, where nobody watches
pub unseen_duty : (w v after : World) (d : Duty) → w.watchers ≡ [] → v ≡ effect_by (w.entries + 1) w d →
    after ≡ entered_unseen (w.entries + 1) v → after ≡ effect w d
unseen_duty w v after d none did is =
    is ∙ ap (entered_unseen (w.entries + 1)) did ∙ sym (unwatched-duty w d none)

pub seen_order : (w v : World) (d : Duty) → IsOrderly w → is_due w d ≡ true → v ≡ effect_by (w.entries + 1) w d →
    HasOrder v.tables
seen_order w v d orderly due did = subst (λ (u : World). HasOrder u.tables) (sym did) (order-duty w d orderly due)

-- the settle test, as an entry
pub settled_call : (w v : World) (budget : ℕ) (answer : Settle) (o : Option Refusal) →
    o ≡ refusal_of w (call.Settle budget) → ((r : Refusal) → o ≡ Some r → ⊥) → answer ≡ settle_answer w →
    v ≡ entered_unseen (w.entries + 1) w → Gives (outcome w (call.Settle budget)) (reply.Settle budget answer) v
settled_call w v budget answer (Some r) is none told ends = absurd (none r refl)
settled_call w v budget answer None is none told ends =
    let same = outcome-admitted w (call.Settle budget) (admitted-unrefused w (call.Settle budget) (sym is)) in (
      ap (reply.Settle budget) told ∙ ap (λ (o : Outcome). o.reply) (sym same),
      ends ∙ sym (settle-unseen w) ∙ ap (λ (o : Outcome). o.after) (sym same),
    )

pub not_settle : (c : Call) → ((budget : ℕ) → c ≡ call.Settle budget → ⊥) → is_settle c ≡ false
not_settle (call.Settle budget) none = absurd (none budget refl)
not_settle _ none = refl

-- a world that is reached stays so
pub reached_step : (before after : World) (what : What) (r : Result Reply StepFault) → IsReached before →
    DoesStep before what r after → IsReached after
reached_step before after what (Ok told) is does = record {
  history = is.history ++ record { by = 0; what = what } ∷ [];
  legal =
      IsLegalFrom-snoc empty_world is.history (record { by = 0; what = what }) is.legal
      (subst (λ (w : World). may_follow w what ≡ true) is.world does.0);
  world =
      does.1.1 ∙ ap (λ (w : World). (step w what).after) is.world
      ∙ sym (replay-snoc empty_world is.history (record { by = 0; what = what }));
}
reached_step before after what (Err Illegal) is does = subst IsReached (sym does.1) is
reached_step before after what (Err NoMemory) is does = subst IsReached (sym does.1) is
