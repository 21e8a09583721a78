-- What a duty leaves of the spans over the rows.
use Rattle.std.proofs.Common.{◌≡◌, ◌∙◌, ◌⊎◌, ℕ, Bool, true, false, cond, eqb, List, Result, Ok, Err, ap, arith, inl, inr, is_ok, refl, subst, sym}
use Rattle.std.proofs.lemmas.Bool.Decides.{nat_tests}
use Rattle.std.specs.Option.{option_map}
use Rattle.swarm_model.specs.History.{replay}
use Rattle.swarm_objects.proofs.Hearing.{row_at-change_row}
use Rattle.swarm_objects.specs.ChangeLists.{apply_changes}
use Rattle.swarm_objects.specs.Changes.{with_tables}
use Rattle.swarm_objects.specs.Loops.Agents.{after_beat, beaten}
use Rattle.swarm_objects.specs.Rows.{change_row, node_id, row_at, service_id, session_node}
use Rattle.swarm_objects.specs.Usable.{IsUsable}
use Rattle.swarm_objects.specs.World.{Tables}
use Rattle.swarm_objects.specs.declared.rows.Change.{Change}
use Rattle.swarm_objects.specs.declared.sessions.NodeSession.{NodeSession}
use Rattle.swarm_objects.specs.declared.tasks.Task.{Task}
use Rattle.swarm_sessions.specs.OnRecord.{OnRecord, tables_with}
use Rattle.swarm_spans.proofs.Services.GoesOn.{come_goes_on, create_goes_on, down_goes_on, leave_goes_on, next_goes_on}
use Rattle.swarm_spans.proofs.Services.Trimmed.{trim_goes_on}
use Rattle.swarm_spans.proofs.Services.Updated.{update_goes_on}
use Rattle.swarm_spans.specs.Services.Lines.{AreRising}
use Rattle.swarm_spans.specs.Services.Standings.{progress, standing}
use Rattle.swarm_spans.specs.Services.Steps.{HasShifted}
use Rattle.swarm_spans.specs.Services.Touches.{AreCovered}
use Rattle.swarm_spans.specs.TasksCovered.{AreTasksCovered, HasOthersSessions, SessionLaw, with_sessions}
use Rattle.swarm_spans.specs.declared.service_spans.ServiceSpans.{ServiceSpans}
use Rattle.swarm_spans.specs.declared.span.Span.{Span}
use Rattle.swarm_watch.specs.Watchings.{Watchings}
use Rattle.swarm_model.specs.Settle.{is_remote}
use Rattle.swarm_spans.specs.Spans.{Covers}
use Rattle.swarm_spans.specs.Timed.{AreTimed, is_down_node, is_unfinished}
use Rattle.swarm_spans.specs.declared.timed_spans.TimedSpans.{TimedSpans}
use Rattle.swarm_world.proofs.Recorded.{tables_are, usable_rows}
use Rattle.swarm_world.proofs.RowsKnown.{knows_rows_alike}
use Rattle.swarm_world.specs.Inside.Commits.{Commits}
use Rattle.swarm_world.specs.Inside.Known.{AreForeseen, KnowsAll}
use Rattle.swarm_world.specs.Inside.Marks.{AreMarked}
use Rattle.swarm_world.specs.Inside.Parts.{HasHistory}
use Rattle.swarm_world.specs.Inside.Records.{AreUsable, HasRecords, tables_of}
use Rattle.swarm_world.specs.declared.known.Foreseen.{Foreseen}
use Rattle.swarm_world.specs.declared.marks.Marks.{Marks}
use Rattle.swarm_world.specs.declared.parts.Parts.{Parts}
use Rattle.swarm_world.specs.declared.records.Records.{Records}

-- where no row changes
pub same_rows : (m : Marks) (r s : Records) → s ≡ r → AreMarked m (tables_of r) → AreMarked m (tables_of s)
same_rows m r s same = subst (λ (x : Records). AreMarked m (tables_of x)) (sym same)

-- where the spans over the rows, and what is remembered, are the same
pub same_spans : (m n : Marks) (t : Tables) → n.tasks ≡ m.tasks → n.services ≡ m.services → n.timed ≡ m.timed
    → n.known ≡ m.known → AreMarked m t → AreMarked n t
same_spans m n t tasks services timed known marked = record {
  known = subst (KnowsAll t) (sym known) marked.known;
  tasks = subst (AreTasksCovered t) (sym tasks) marked.tasks;
  services = subst (AreCovered t) (sym services) marked.services;
  timed = subst (AreTimed t) (sym timed) marked.timed;
}

-- where the services and the nodes are the same
pub timed-alike : (t u : Tables) (spans : TimedSpans) → u.services ≡ t.services → u.nodes ≡ t.nodes → AreTimed t spans
    → AreTimed u spans
timed-alike t u spans services nodes are = record {
  updates = subst (Covers service_id is_unfinished spans.updates) (sym services) are.updates;
  downs = subst (Covers node_id is_down_node spans.downs) (sym nodes) are.downs;
  remotes = subst (Covers node_id is_remote spans.remotes) (sym nodes) are.remotes;
}

-- A node's session.

-- the lines over services look at none
pub services-still : (t : Tables) (next_id : ℕ) (sessions : List NodeSession) (spans : ServiceSpans) → IsUsable t → AreCovered t spans
    → AreCovered (with_sessions next_id sessions t) spans
services-still t next_id sessions spans usable are =
    let u = with_sessions next_id sessions t in
    let rising : AreRising t u =
    record {
      before = usable.sound.ordered.tasks;
      after = usable.sound.ordered.tasks;
      services = usable.sound.ordered.services;
    } in
    record {
      downs = down_goes_on t u spans.downs rising (same standing spans.downs) are.downs;
      creates = create_goes_on t u spans.creates rising (same standing spans.creates) are.creates;
      leaves =
          leave_goes_on t u spans.leaves rising (same standing spans.leaves) (record { nodes = inl refl }) are.leaves;
      comes = come_goes_on t u spans.comes rising (same standing spans.comes) (record { nodes = inl refl }) are.comes;
      job_creates = next_goes_on t u spans.job_creates rising (same standing spans.job_creates) are.job_creates;
      ports = record { has = λ s h due. are.ports.has s h due };
      updates = update_goes_on t u spans.updates rising refl (same (progress t) spans.updates) are.updates;
      trims =
          trim_goes_on t u spans.trims rising refl (record { services = λ id. inl refl; tasks = λ id. inl refl })
          are.trims;
    }
  where
    same : {S : Type 0} (show : Task → S) (span : Span) → HasShifted show span t (with_sessions next_id sessions t)
    same show span = record { services = record { rows = λ id. inl refl }; tasks = λ id. inl refl }

-- where one node's session changes, all others have theirs
others-have : (node : ℕ) (f : NodeSession → NodeSession) (t : Tables) → ((s : NodeSession) → (f s).node ≡ s.node)
    → HasOthersSessions node t (change_row session_node node f t.sessions)
others-have node f t keeps = record { others = λ n. go n (eqb node n) refl }
  where
    go : (n : ℕ) (b : Bool) → eqb node n ≡ b
        → (n ≡ node)
        ⊎ (row_at session_node n (change_row session_node node f t.sessions) ≡ row_at session_node n t.sessions)
    go n true is = inl (grind (arith, nat_tests, is))
    go n false is =
        let row = row_at session_node n t.sessions in
        inr (row_at-change_row session_node node n f t.sessions keeps ∙ ap (λ b. cond b (option_map f row) row) is)

-- after its beat
pub beat_marked : (node now heartbeat id : ℕ) (before after : Marks) (r : Records) (s : OnRecord) → AreUsable r
    → AreMarked before (tables_of r) → SessionLaw node before.tasks after.tasks → after.services ≡ before.services
    → after.timed ≡ before.timed → after.known ≡ before.known
    → s.rows ≡ (after_beat (tables_with r.sessions.rows now heartbeat id) node).sessions
    → AreMarked after (tables_of (record { store = r.store; sessions = s }))
beat_marked node now heartbeat id before after r s are marked law services timed known rows =
    let t = tables_of r in
    let f = beaten (tables_with r.sessions.rows now heartbeat id) in
    let beats = change_row session_node node f r.sessions.rows in
    let usable = usable_rows r are in
    subst (λ (all : List NodeSession). AreMarked after (record t { sessions = all })) (sym rows)
    (record {
      tasks = law t t.next_id beats usable (others-have node f t (λ x. refl)) marked.tasks;
      services = subst (AreCovered (record t { sessions = beats })) (sym services)
          (services-still t t.next_id beats before.services usable marked.services);
      timed =
          subst (AreTimed (record t { sessions = beats })) (sym timed)
          (timed-alike t (record t { sessions = beats }) before.timed refl refl marked.timed);
      known =
          knows_rows_alike t (record t { sessions = beats }) after.known refl refl refl refl
          (subst (KnowsAll t) (sym known) marked.known);
    })

-- Changes of rows that were touched before.

made : (touched cs : List Change) (p : Parts) (is : HasHistory p) (r : Records) → touched ≡ cs
    → HasRecords r (with_tables (replay is.history) (apply_changes (replay is.history).tables cs))
    → tables_of r ≡ apply_changes (tables_of p.records) touched
made all cs p is r are has =
    let w = replay is.history in
    tables_are r (with_tables w (apply_changes w.tables cs)) has
    ∙ ap (λ (u : Tables). apply_changes u cs) (sym (tables_are p.records w is.stands.has.records))
    ∙ ap (apply_changes (tables_of p.records)) (sym are)

pub committed : (touched cs : List Change) (p : Parts) (is : HasHistory p) (r : Records) (m : Marks) → touched ≡ cs
    → HasRecords r (with_tables (replay is.history) (apply_changes (replay is.history).tables cs))
    → (IsUsable (apply_changes (tables_of p.records) touched)
    → AreMarked m (apply_changes (tables_of p.records) touched)) → IsUsable (tables_of r) → AreMarked m (tables_of r)
committed all cs p is r m are has touched usable =
    let same = made all cs p is r are has in
    subst (AreMarked m) (sym same) (touched (subst IsUsable same usable))

pub committed_foreseen : (touched cs : List Change) (p : Parts) (is : HasHistory p) (r : Records) (m : Foreseen) → touched ≡ cs
    → HasRecords r (with_tables (replay is.history) (apply_changes (replay is.history).tables cs))
    → AreForeseen (apply_changes (tables_of p.records) touched) m → AreForeseen (tables_of r) m
committed_foreseen all cs p is r m are has = subst (λ (t : Tables). AreForeseen t m) (sym (made all cs p is r are has))

-- or memory was wanting
pub not_committed : (p : Parts) (is : HasHistory p) (r : Records) (m : Marks) → HasRecords r (replay is.history)
    → AreMarked m (tables_of p.records) → AreMarked m (tables_of r)
not_committed p is r m has =
    let w = replay is.history in
    subst (AreMarked m) (tables_are p.records w is.stands.has.records ∙ sym (tables_are r w has))

pub commit_marked : {X E : Type 0} (version : ℕ) (touched cs : List Change) (p : Parts) (is : HasHistory p)
    (r : Records) (heard : Watchings) (result : Result X E) (m : Marks) → touched ≡ cs
    → Commits version cs p.records p.watches result r heard → AreMarked m (tables_of p.records)
    → (IsUsable (apply_changes (tables_of p.records) touched)
    → AreMarked m (apply_changes (tables_of p.records) touched)) → IsUsable (tables_of r) → AreMarked m (tables_of r)
commit_marked version all cs p is r heard (Ok done) m are did stays touched usable =
    committed all cs p is r m are (did (replay is.history) is.stands.has.records).0 touched usable
commit_marked version all cs p is r heard (Err wanting) m are did stays touched usable =
    not_committed p is r m (did.0 (replay is.history) is.stands.has.records) stays

pub commit_foreseen : {X E : Type 0} (version : ℕ) (touched cs : List Change) (p : Parts) (is : HasHistory p)
    (r : Records) (heard : Watchings) (result : Result X E) (m : Foreseen) → touched ≡ cs
    → Commits version cs p.records p.watches result r heard → AreForeseen (apply_changes (tables_of p.records) touched) m
    → is_ok result ≡ true → AreForeseen (tables_of r) m
commit_foreseen version all cs p is r heard (Ok done) m are did moved yes_made =
    committed_foreseen all cs p is r m are (did (replay is.history) is.stands.has.records).0 moved
commit_foreseen version all cs p is r heard (Err wanting) m are did moved yes_made = absurd cc
