-- Closed histories, computed: whether they are legal, what was replied, and the world after them.
use Rattle.std.proofs.Common.{ap, sym, ◌∙◌}
use Rattle.std.specs.Prelude.{Bool, List, None, Option, Some, [], false, fold, map, refl, true, ℕ, ◌++◌, ◌∷◌, ◌≡◌}
use Rattle.std.proofs.lemmas.List.{append-nil, append_assoc}
use Rattle.swarm_model.specs.Calls.{answer}
use Rattle.swarm_model.specs.History.{IsLegalFrom, may_follow, replay_from, replies, replies_from, step, step_reply, step_world}
use Rattle.swarm_model.specs.Outcome.{Outcome}
use Rattle.swarm_objects.specs.World.{World}
use Rattle.swarm_objects.specs.declared.calls.Call.{Call}
use Rattle.swarm_objects.specs.declared.calls.Entry.{Entry}
use Rattle.swarm_objects.specs.declared.calls.What.{What}
use Rattle.swarm_objects.specs.declared.calls.What.TheVariants as what
use Rattle.swarm_objects.specs.declared.duties.Duty.{Duty}
use Rattle.swarm_objects.specs.declared.replies.Reply.{Reply}
use Rattle.swarm_objects.specs.declared.replies.Reply.TheVariants as reply

-- an entry, and the reply to it
pub record Told : Type 0 where
  pub entry : Entry
  pub reply : Reply

abbrev pub call_of : ℕ → Call → Entry
call_of caller c = record { by = caller; what = what.Call c }

abbrev pub duty_of : ℕ → Duty → Entry
duty_of caller d = record { by = caller; what = what.Duty d }

-- a caller's call, and what it was answered
abbrev pub asked : ℕ → Call → Reply → Told
asked caller c answer = record { entry = call_of caller c; reply = answer }

-- a duty that a caller did
abbrev pub did : ℕ → Duty → Told
did caller d = record { entry = duty_of caller d; reply = reply.Did }

abbrev pub entries_of : List Told → List Entry
entries_of journal = map (λ x. x.entry) journal

abbrev pub replies_of : List Told → List Reply
replies_of journal = map (λ x. x.reply) journal

-- a world, and the replies so far
pub record Audited : Type 0 where
  pub world : World
  pub replies : List Reply

abbrev pub with_outcome : List Reply → Outcome → Audited
with_outcome replies o = record { world = o.after; replies = replies ++ o.reply ∷ [] }

-- the entry where it may follow
abbrev pub audit_entry : Audited → What → Bool → Option Audited
audit_entry a e true = Some (with_outcome a.replies (step a.world e))
audit_entry a e false = None

abbrev pub audit_next : Option Audited → Entry → Option Audited
audit_next None e = None
audit_next (Some a) e = audit_entry a e.what (may_follow a.world e.what)

-- the world after the entries and the replies to them; none where one may not follow
abbrev pub audit_from : Audited → List Entry → Option Audited
audit_from a es = fold audit_next (Some a) es

abbrev pub audit : World → List Entry → Option Audited
audit w es = audit_from (record { world = w; replies = [] }) es

-- the entries are legal after the world, and give these replies and the world after them
pub record IsPlayed (w : World) (journal : List Told) (after : World) : Type 0 where
  pub legal : IsLegalFrom w (entries_of journal)
  pub replies : replies_from w (entries_of journal) ≡ replies_of journal
  pub world : replay_from w (entries_of journal) ≡ after

-- What the audit says.

fold_none : (es : List Entry) (b : Audited) → fold audit_next None es ≡ Some b → ⊥
fold_none [] b e = absurd cc
fold_none (x ∷ es) b e = fold_none es b e

pub record IsAudited (a : Audited) (es : List Entry) (b : Audited) : Type 0 where
  pub legal : IsLegalFrom a.world es
  pub replies : b.replies ≡ a.replies ++ replies_from a.world es
  pub world : b.world ≡ replay_from a.world es

audit_step : (a : Audited) (e : Entry) (es : List Entry) (b : Audited) → may_follow a.world e.what ≡ true
    → IsAudited (with_outcome a.replies (step a.world e.what)) es b → IsAudited a (e ∷ es) b
audit_step a e es b m h = record {
  legal = (m, h.legal);
  replies = h.replies ∙ append_assoc a.replies (step_reply a.world e ∷ []) (replies_from (step_world a.world e) es);
  world = h.world;
}

some_is : (a b : Audited) → Some a ≡ Some b → a ≡ b
some_is a b q = cc

empty_audited : (a b : Audited) → a ≡ b → IsAudited a [] b
empty_audited a b q = record {
  legal = tt;
  replies = ap (λ (x : Audited). x.replies) (sym q) ∙ sym (append-nil a.replies);
  world = ap (λ (x : Audited). x.world) (sym q);
}

abbrev Audits : List Entry → Type 0
Audits es = (a b : Audited) → audit_from a es ≡ Some b → IsAudited a es b

audits_next : (e : Entry) (es : List Entry) → Audits es → Audits (e ∷ es)
audits_next e es rest a b q = go (may_follow a.world e.what) refl q
  where
    go : (m : Bool) → may_follow a.world e.what ≡ m → fold audit_next (audit_entry a e.what m) es ≡ Some b
        → IsAudited a (e ∷ es) b
    go true m r = audit_step a e es b m (rest (with_outcome a.replies (step a.world e.what)) b r)
    go false m r = absurd (fold_none es b r)

audited : (es : List Entry) → Audits es
audited [] = λ a b q. empty_audited a b (some_is a b q)
audited (e ∷ es) = audits_next e es (audited es)

pub played : (w : World) (journal : List Told) (after : World)
    → audit w (entries_of journal) ≡ Some (record { world = after; replies = replies_of journal })
    → IsPlayed w journal after
played w journal after q =
    let h = audited (entries_of journal) (record { world = w; replies = [] })
    (record { world = after; replies = replies_of journal }) q in
    record { legal = h.legal; replies = sym h.replies; world = sym h.world }
