-- Sessions that begin.
use Rattle.std.proofs.Common.{◌≡◌, ◌<◌, ◌∙◌, ◌≤◌, ℕ, Bool, List, [], ◌∷◌, Err, IsOk, Result, ap, arith, cond, false, refl, subst, sym, true}
use Rattle.std.specs.Result.{is_ok}
use Rattle.swarm_model.proofs.Laws.Small.{IsSmall-replay}
use Rattle.swarm_model.specs.History.{IsLegal, replay}
use Rattle.swarm_objects.specs.Bounds.{far_end}
use Rattle.swarm_objects.specs.ChangeLists.{CanApplyAll, apply_change, apply_changes}
use Rattle.swarm_objects.specs.Changes.{id_taken, with_tables}
use Rattle.swarm_objects.specs.Nodes.Sessions.{new_session}
use Rattle.swarm_objects.specs.Rows.{drop_row, has_row, put_row, sent_node, session_node, task_id, with_row}
use Rattle.swarm_objects.specs.Tasks.New.{with_task}
use Rattle.swarm_objects.specs.World.{Tables, World}
use Rattle.swarm_objects.specs.declared.calls.Entry.{Entry}
use Rattle.swarm_objects.specs.declared.messages.NodeSent.{NodeSent}
use Rattle.swarm_objects.specs.declared.rows.Change.{Change}
use Rattle.swarm_objects.specs.declared.rows.Change.TheVariants as change
use Rattle.swarm_objects.specs.declared.sessions.NodeSession.{NodeSession}
use Rattle.swarm_sessions.specs.OnRecord.{OnRecord, tables_with}
use Rattle.swarm_watch.specs.Watchings.{Watchings}
use Rattle.swarm_world.proofs.Recorded.{tables_are}
use Rattle.swarm_world.specs.Inside.Beginnings.{begun_world}
use Rattle.swarm_world.specs.Inside.Parts.{HasParts, StandsFor}
use Rattle.swarm_world.specs.Inside.Records.{HasRecords, tables_of}
use Rattle.swarm_world.specs.declared.parts.Parts.{Parts}
use Rattle.swarm_world.specs.declared.records.Records.{Records}

-- Changes of rows leave the clock and the settings as they are.

record Leaves (t u : Tables) : Type 0 where
  pub clock : u.clock ≡ t.clock
  pub settings : u.settings ≡ t.settings

one-leaves : (t : Tables) (c : Change) → Leaves t (apply_change t c)
one-leaves t (change.PutNode n) = record { clock = refl; settings = refl }
one-leaves t (change.PutService s) = record { clock = refl; settings = refl }
one-leaves t (change.PutTask x) = go (has_row task_id x.id t.tasks)
  where
    go : (b : Bool) → Leaves t (cond b (record t { tasks = put_row task_id x t.tasks }) (with_task t x))
    go true = record { clock = refl; settings = refl }
    go false = record { clock = refl; settings = refl }
one-leaves t (change.DropTask id) = record { clock = refl; settings = refl }
one-leaves t (change.Keep a) = record { clock = refl; settings = refl }

changes-leave : (t : Tables) (cs : List Change) → Leaves t (apply_changes t cs)
changes-leave t [] = record { clock = refl; settings = refl }
changes-leave t (c ∷ cs) =
    let first = one-leaves t c in
    let rest = changes-leave (apply_change t c) cs in
    record { clock = rest.clock ∙ first.clock; settings = rest.settings ∙ first.settings }

-- The numbers that a session is made of.

pub next_near : (r s : Records) (w : World) (cs : List Change) → HasRecords r w →
    HasRecords s (with_tables w (apply_changes w.tables cs)) →
    (apply_changes (tables_of r) cs).next_id < far_end → s.store.tables.next_id < far_end
next_near r s w cs has after near =
    subst (λ k. k < far_end)
    (ap (λ (t : Tables). (apply_changes t cs).next_id) (tables_are r w has)
    ∙ sym (ap (λ (t : Tables). t.next_id) after.store)) near

pub clock_near : (h : List Entry) (s : Records) (cs : List Change) → IsLegal h →
    HasRecords s (with_tables (replay h) (apply_changes (replay h).tables cs)) → (now : ℕ) →
    now ≡ s.store.tables.clock → now < far_end
clock_near h s cs legal after now is =
    subst (λ k. k < far_end)
    (sym (is ∙ ap (λ (t : Tables). t.clock) after.store ∙ (changes-leave (replay h).tables cs).clock))
    (IsSmall-replay h legal).clock

pub beat_near : (h : List Entry) (s : Records) (cs : List Change) → IsLegal h →
    HasRecords s (with_tables (replay h) (apply_changes (replay h).tables cs)) → (heartbeat : ℕ) →
    heartbeat ≡ s.store.tables.settings.heartbeat → heartbeat < far_end
beat_near h s cs legal after heartbeat is =
    subst (λ k. k < far_end)
    (sym (is ∙ ap (λ (t : Tables). t.settings.heartbeat) after.store
    ∙ ap (λ settings. settings.heartbeat) (changes-leave (replay h).tables cs).settings))
    (IsSmall-replay h legal).heartbeat

-- there is room for it
pub never_full : {X E : Type 0} (s t : OnRecord) (result : Result X E) (e : E) → 1 ≤ s.room → t ≡ s →
    (0 < t.room → IsOk result) → result ≡ Err e → ⊥
never_full {X = X} {E = E} s t result e room same succeeds failed =
    let more : 0 < t.room = omega (arith, room, ap (λ (x : OnRecord). x.room) same) in
    let wrong : is_ok {T = X} {E = E} (Err e) ≡ true = subst (λ (x : Result X E). IsOk x) failed (succeeds more) in
    cc

-- The parts after it.

-- the sessions may have more room
pub still_records : (r : Records) (s : OnRecord) (w : World) → s.rows ≡ r.sessions.rows → HasRecords r w →
    HasRecords (record { store = r.store; sessions = s }) w
still_records r s w rows has = record { store = has.store; sessions = rows ∙ has.sessions }

pub can_still : (r : Records) (s : OnRecord) (cs : List Change) → s.rows ≡ r.sessions.rows →
    CanApplyAll (tables_of r) cs → CanApplyAll (tables_of (record { store = r.store; sessions = s })) cs
can_still r s cs rows can =
    subst (λ (t : Tables). CanApplyAll t cs)
    (sym (ap (λ (all : List NodeSession). record r.store.tables { sessions = all }) rows)) can

new-session-is : (node id now heartbeat : ℕ) (rows : List NodeSession) (t : Tables) → now ≡ t.clock →
    heartbeat ≡ t.settings.heartbeat → id ≡ t.next_id →
    new_session (tables_with rows now heartbeat id) node ≡ new_session t node
new-session-is node id now heartbeat rows t clock beat number =
    ap (λ k. new_session (tables_with rows k heartbeat id) node) clock
    ∙ ap (λ k. new_session (tables_with rows t.clock k id) node) beat
    ∙ ap (λ k. new_session (tables_with rows t.clock t.settings.heartbeat k) node) number

pub begun_parts : (p q : Parts) (r : Records) (w : World) (node id now heartbeat : ℕ) (cs : List Change) →
    HasParts p w → HasRecords r (with_tables w (apply_changes w.tables cs)) → id ≡ r.store.tables.next_id →
    now ≡ r.store.tables.clock → heartbeat ≡ r.store.tables.settings.heartbeat →
    q.records.store.tables ≡ id_taken r.store.tables →
    q.records.sessions.rows
    ≡ with_row session_node (new_session (tables_with r.sessions.rows now heartbeat id) node) r.sessions.rows →
    q.sent ≡ drop_row sent_node node p.sent → q.agents ≡ p.agents → q.halted ≡ p.halted →
    HasParts q (begun_world node cs w)
begun_parts p q r w node id now heartbeat cs has rows number clock beat store sessions sent agents halted =
    let t = apply_changes w.tables cs in
    let is-clock = clock ∙ ap (λ (u : Tables). u.clock) rows.store in
    let is-beat = beat ∙ ap (λ (u : Tables). u.settings.heartbeat) rows.store in
    let is-id = number ∙ ap (λ (u : Tables). u.next_id) rows.store in
    record {
      records = record {
        store = store ∙ ap id_taken rows.store;
        sessions =
            sessions
            ∙ ap (λ (s : NodeSession). with_row session_node s r.sessions.rows)
            (new-session-is node id now heartbeat r.sessions.rows t is-clock is-beat is-id)
            ∙ ap (λ (all : List NodeSession). with_row session_node (new_session t node) all) rows.sessions;
      };
      sent = sent ∙ ap (λ (all : List NodeSent). drop_row sent_node node all) has.sent;
      agents = agents ∙ has.agents;
      halted = halted ∙ has.halted;
    }

-- or memory was wanting, and no row changed
pub not_made : (p : Parts) (r : Records) (m : Watchings) (w : World) → StandsFor p w → HasRecords r w →
    m.watchers ≡ p.watches.watchers → StandsFor (record p { records = r; watches = m }) w
not_made p r m w stands has heard = record {
  has = record {
    records = record { store = has.store; sessions = has.sessions };
    sent = stands.has.sent;
    agents = stands.has.agents;
    halted = stands.has.halted;
  };
  watches = heard ∙ stands.watches;
}
