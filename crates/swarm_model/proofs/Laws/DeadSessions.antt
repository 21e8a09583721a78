-- Dead sessions change nothing.
use Rattle.std.proofs.Common.{◌≡◌, ℕ, List, Bool, true, false, not, refl, sym, ap, ◌∙◌, subst, Option, Some, None, Err, cond, eqb, nat_le}
use Rattle.std.specs.Prelude.{is_none}
use Rattle.swarm_model.proofs.Base.FromLists.{IsDuty-due}
use Rattle.swarm_model.proofs.Laws.Steps.{each-step}
use Rattle.swarm_model.specs.Calls.{answered}
use Rattle.swarm_model.specs.Calls.Refusals.{found, node_by}
use Rattle.swarm_objects.specs.Refusals.{refuse}
use Rattle.swarm_model.specs.Calls.Remote.{admits_session, on_session}
use Rattle.swarm_objects.specs.Nodes.Admission.{not_admitted}
use Rattle.swarm_model.specs.History.{step}
use Rattle.swarm_model.specs.Laws.DeadSessions.{DeadChangesNothing, DeadSessionLaw, IsUnchanged, NeedsSession, StepMindsSessions, is_dead, is_dead_answer}
use Rattle.swarm_model.specs.Outcome.{Answered}
use Rattle.swarm_objects.proofs.Tests.{not-true}
use Rattle.swarm_objects.specs.Nodes.Sessions.{is_session_live, session_of}
use Rattle.swarm_objects.specs.Rows.{is_some_and}
use Rattle.swarm_objects.specs.World.{Tables, World, empty_world}
use Rattle.swarm_objects.specs.declared.calls.Call.{Call}
use Rattle.swarm_objects.specs.declared.calls.Call.TheVariants as call
use Rattle.swarm_objects.specs.declared.calls.What.{What}
use Rattle.swarm_objects.specs.declared.calls.What.TheVariants as what
use Rattle.swarm_objects.specs.declared.duties.Duty.{Duty}
use Rattle.swarm_objects.specs.declared.duties.Duty.TheVariants as duty
use Rattle.swarm_objects.specs.declared.ids.Kind.TheVariants as kind
use Rattle.swarm_objects.specs.declared.nodes.Node.{Node}
use Rattle.swarm_objects.specs.declared.replies.Refusal.{Refusal}
use Rattle.swarm_objects.specs.declared.replies.Refusal.TheVariants as refusal
use Rattle.swarm_objects.specs.declared.replies.Reply.TheVariants as reply
use Rattle.swarm_objects.specs.declared.replies.Wanted.TheVariants as wanted_by
use Rattle.swarm_objects.specs.declared.sessions.NodeSession.{NodeSession}

-- refused, with one of the answers to a dead session
pub record IsRefusedDead (given : Answered) : Type 0 where
  pub why : Refusal
  pub is : given ≡ Err why
  pub dead : is_dead_answer (reply.Refused why) ≡ true

expired : (b : Bool) (deadline : ℕ) (r : Refusal) → refuse b (refusal.SessionExpired deadline) ≡ Some r →
    is_dead_answer (reply.Refused r) ≡ true
expired true deadline r e =
    let is : refusal.SessionExpired deadline ≡ r = cc in
    subst (λ z. is_dead_answer (reply.Refused z) ≡ true) is refl
expired false deadline r e = absurd cc

unadmitted : (clock session : ℕ) (s : Option NodeSession) (r : Refusal) → not_admitted clock session s ≡ Some r →
    is_dead_answer (reply.Refused r) ≡ true
unadmitted clock session None r e =
    let is : refusal.InvalidSession None ≡ r = cc in
    subst (λ z. is_dead_answer (reply.Refused z) ≡ true) is refl
unadmitted clock session (Some s) r e = go (not (eqb s.session.id session)) e
  where
    go : (b : Bool) →
        cond b (Some (refusal.InvalidSession (Some s.session.id)))
        (refuse (nat_le s.session.deadline clock) (refusal.SessionExpired s.session.deadline)) ≡ Some r →
        is_dead_answer (reply.Refused r) ≡ true
    go true k =
        let is : refusal.InvalidSession (Some s.session.id) ≡ r = cc in
        subst (λ z. is_dead_answer (reply.Refused z) ≡ true) is refl
    go false k = expired (nat_le s.session.deadline clock) s.session.deadline r k

-- the session isn't admitted
refused_session : (t : Tables) (n : Node) (session : ℕ) (next : Node → Answered) (o : Option Refusal) →
    not_admitted t.clock session (session_of t n.id) ≡ o → admits_session t n.id session ≡ false →
    IsRefusedDead (elim o [ Some r ↦ Err r | None ↦ next n ])
refused_session t n session next (Some r) e dead =
    record { why = r; is = refl; dead = unadmitted t.clock session (session_of t n.id) r e }
refused_session t n session next None e dead =
    absurd (let live : admits_session t n.id session ≡ true = ap is_none e in
    let both : false ≡ true = sym dead ∙ live in cc)

refused_remote : (t : Tables) (n : Node) (session : ℕ) (next : Node → Answered) (remote : Bool) →
    admits_session t n.id session ≡ false →
    IsRefusedDead (cond remote
    (elim (not_admitted t.clock session (session_of t n.id)) [ Some r ↦ Err r | None ↦ next n ])
    (Err (refusal.WrongKind n.id)))
refused_remote t n session next true dead =
    refused_session t n session next (not_admitted t.clock session (session_of t n.id)) refl dead
refused_remote t n session next false dead = record { why = refusal.WrongKind n.id; is = refl; dead = refl }

-- a call under a dead session is refused, whatever it would do
refused_dead : (t : Tables) (name : List ℕ) (session : ℕ) (next : Node → Answered) → is_dead t (name, session) ≡ true →
    IsRefusedDead (on_session t name session next)
refused_dead t name session next dead = go (node_by t name) (not-true _ dead)
  where
    go : (o : Option Node) → is_some_and (λ (n : Node). admits_session t n.id session) o ≡ false →
        IsRefusedDead (found kind.Node (wanted_by.Name name) o
        (λ n. cond n.remote
        (elim (not_admitted t.clock session (session_of t n.id)) [ Some r ↦ Err r | None ↦ next n ])
        (Err (refusal.WrongKind n.id))))
    go None e = record { why = refusal.NotFound kind.Node (wanted_by.Name name); is = refl; dead = refl }
    go (Some n) e = refused_remote t n session next n.remote e

unchanged : (w : World) (given : Answered) → IsRefusedDead given →
    (is_dead_answer (answered w given).reply ≡ true) × IsUnchanged w (answered w given).after
unchanged w given refused =
    subst (λ (z : Answered). (is_dead_answer (answered w z).reply ≡ true) × IsUnchanged w (answered w z).after)
    (sym refused.is) (refused.dead, refl)

-- the session that the call speaks of is the one that it names
refused_asked : (w : World) (name : List ℕ) (session : ℕ) (asked : List ℕ × ℕ) (next : Node → Answered) →
    ◌≡◌ {A = Option (List ℕ × ℕ)} (Some (name, session)) (Some asked) → is_dead w.tables asked ≡ true →
    IsRefusedDead (on_session w.tables name session next)
refused_asked w name session asked next e dead =
    let is : asked ≡ (name, session) = cc in
    refused_dead w.tables name session next (subst (λ (z : List ℕ × ℕ). is_dead w.tables z ≡ true) is dead)

pub dead-changes-nothing : (w : World) (c : Call) → DeadChangesNothing w c
dead-changes-nothing w (call.RemoteBeat name session) asked e dead =
    unchanged w _ (refused_asked w name session asked _ e dead)
dead-changes-nothing w (call.RemotePull name session) asked e dead =
    unchanged w _ (refused_asked w name session asked _ e dead)
dead-changes-nothing w (call.RemoteStatus name session task s) asked e dead =
    unchanged w _ (refused_asked w name session asked _ e dead)
dead-changes-nothing w _ asked e dead = absurd cc

live_there : (w : World) (n node own : ℕ) → ◌≡◌ {A = Option ℕ} (Some n) (Some node) → own ≡ n →
    is_session_live w.tables own ≡ true → is_session_live w.tables node ≡ true
live_there w n node own e same live =
    let is : own ≡ node = cc in subst (λ k. is_session_live w.tables k ≡ true) is live

-- an agent's duty that needs its node's session
pub needs-session : (w : World) (d : Duty) → NeedsSession w d
needs-session w (duty.Beat n) node e due =
    let is = IsDuty-due w (duty.Beat n) due in live_there w n node is.row.node e is.id_is is.fact.1.0
needs-session w (duty.Pull n) node e due =
    let is = IsDuty-due w (duty.Pull n) due in live_there w n node is.row.node e is.id_is is.fact.1.0
needs-session w (duty.Report n x) node e due =
    let is = IsDuty-due w (duty.Report n x) due in live_there w n node is.row.node e is.id_is is.fact.1.0
needs-session w _ node e due = absurd cc

minds_sessions : (w : World) (e : What) → StepMindsSessions w e (step w e).after
minds_sessions w (what.Call c) = dead-changes-nothing w c
minds_sessions w (what.Duty d) = needs-session w d

pub dead-sessions : DeadSessionLaw
dead-sessions h legal = each-step StepMindsSessions minds_sessions empty_world h
