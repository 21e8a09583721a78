-- The calls of remote nodes.
use Rattle.std.proofs.Common.{◌≡◌, ◌+◌, ◌*◌, ◌∙◌, ℕ, List, Ok, Err, Option, Some, None, Result, ap, inr, refl, subst, sym}
use Rattle.std.specs.Prelude.{map}
use Rattle.swarm_assign.specs.Sents.{after_message}
use Rattle.swarm_model.specs.Calls.Refusals.{found}
use Rattle.swarm_model.specs.Calls.Remote.{pulled, report, status_reply}
use Rattle.swarm_model.specs.Changed.{changes_between}
use Rattle.swarm_model.specs.History.{replay}
use Rattle.swarm_model.specs.Outcome.{Answered}
use Rattle.swarm_objects.specs.Agents.Messages.{due_set, message_for, next_message}
use Rattle.swarm_objects.specs.ChangeLists.{Makes, apply_changes}
use Rattle.swarm_objects.specs.Changes.{change_task, raised_to, with_tables}
use Rattle.swarm_objects.specs.Loops.Agents.{after_beat}
use Rattle.swarm_objects.specs.Nodes.Admission.{not_admitted}
use Rattle.swarm_objects.specs.Refusals.{unless}
use Rattle.swarm_objects.specs.Rows.{row_at, sent_node, session_node, task_id}
use Rattle.swarm_objects.specs.World.{Tables, World}
use Rattle.swarm_objects.specs.declared.calls.Call.TheVariants as call
use Rattle.swarm_objects.specs.declared.calls.Entry.{Entry}
use Rattle.swarm_objects.specs.declared.ids.Kind.TheVariants as kind
use Rattle.swarm_objects.specs.declared.messages.Assigned.{Assigned}
use Rattle.swarm_objects.specs.declared.messages.Message.{Message}
use Rattle.swarm_objects.specs.declared.messages.NodeSent.{NodeSent}
use Rattle.swarm_objects.specs.declared.nodes.Node.{Node}
use Rattle.swarm_objects.specs.declared.replies.Refusal.{Refusal}
use Rattle.swarm_objects.specs.declared.replies.Reply.{Reply}
use Rattle.swarm_objects.specs.declared.replies.Reply.TheVariants as reply
use Rattle.swarm_objects.specs.declared.replies.Wanted.TheVariants as wanted_by
use Rattle.swarm_objects.specs.declared.rows.Change.{Change}
use Rattle.swarm_objects.specs.declared.sessions.NodeSession.{NodeSession}
use Rattle.swarm_objects.specs.declared.tasks.Task.{Task}
use Rattle.swarm_objects.specs.declared.tasks.TaskState.{TaskState}
use Rattle.swarm_sessions.specs.OnRecord.{tables_with}
use Rattle.swarm_watch.specs.Calls.{hears}
use Rattle.swarm_world.proofs.Looking.{not-reportable, on-admitted, on-live, on-reportable, why_dead}
use Rattle.swarm_world.proofs.OnNodes.{beaten-parts, nothing-heard}
use Rattle.swarm_world.proofs.Pulling.{message_is}
use Rattle.swarm_world.proofs.Recorded.{tables_are}
use Rattle.swarm_world.specs.Inside.Lookups.{outside, reportable, under_session}
use Rattle.swarm_world.specs.Inside.Parts.{Answers, HasParts, IsAnswered, StandsFor}
use Rattle.swarm_world.specs.Inside.Records.{HasRecords, tables_of}
use Rattle.swarm_world.specs.declared.parts.Parts.{Parts}
use Rattle.swarm_world.specs.declared.records.Records.{Records}

-- what is found by name in the rows is found in the world
pub outside-in : (p : Parts) (w : World) (name : List ℕ) (n : Node) → HasParts p w →
    outside (tables_of p.records) name ≡ Ok n → outside w.tables name ≡ Ok n
outside-in p w name n has there = ap (λ (t : Tables). outside t name) (sym (tables_are p.records w has.records)) ∙ there

under-in : (p : Parts) (w : World) (name : List ℕ) (session node : ℕ) → HasParts p w →
    under_session (tables_of p.records) name session ≡ Ok node → under_session w.tables name session ≡ Ok node
under-in p w name session node has there =
    ap (λ (t : Tables). under_session t name session) (sym (tables_are p.records w has.records)) ∙ there

-- Beats.

-- the session is admitted in the world as on record
why-is : (p : Parts) (w : World) (node session now : ℕ) → HasParts p w → now ≡ p.records.store.tables.clock →
    not_admitted now session (row_at session_node node p.records.sessions.rows) ≡ why_dead w.tables session node
why-is p w node session now has clock =
    ap (λ k. not_admitted k session (row_at session_node node p.records.sessions.rows))
    (clock ∙ ap (λ (t : Tables). t.clock) has.records.store)
    ∙ ap (λ (rows : List NodeSession). not_admitted w.tables.clock session (row_at session_node node rows))
    has.records.sessions

pub deadline-is : (p : Parts) (w : World) (now heartbeat : ℕ) → HasParts p w → now ≡ p.records.store.tables.clock →
    heartbeat ≡ p.records.store.tables.settings.heartbeat →
    now + 3 * heartbeat ≡ w.tables.clock + 3 * w.tables.settings.heartbeat
deadline-is p w now heartbeat has clock beat =
    ap (λ k. k + 3 * heartbeat) (clock ∙ ap (λ (t : Tables). t.clock) has.records.store)
    ∙ ap (λ k. w.tables.clock + 3 * k) (beat ∙ ap (λ (t : Tables). t.settings.heartbeat) has.records.store)

alive : (o : Option Refusal) (x y : ℕ) → ◌≡◌ {A = Result ℕ Refusal} (Ok x) (unless o y) → (o ≡ None) × (x ≡ y)
alive None x y e = let same : x ≡ y = cc in (refl, same)
alive (Some r) x y e = absurd cc

abbrev beat_answer : World → ℕ → Answered
beat_answer w node =
    Ok (reply.Beat (w.tables.clock + 3 * w.tables.settings.heartbeat), with_tables w (after_beat w.tables node))

pub beating : (version : ℕ) (h : List Entry) (name : List ℕ) (session : ℕ) (n : Node) (now heartbeat deadline : ℕ)
    (p q : Parts) → StandsFor p (replay h) → outside (tables_of p.records) name ≡ Ok n →
    now ≡ p.records.store.tables.clock → heartbeat ≡ p.records.store.tables.settings.heartbeat →
    Ok deadline
    ≡ unless (not_admitted now session (row_at session_node n.id p.records.sessions.rows)) (now + 3 * heartbeat) →
    q.records.store ≡ p.records.store →
    q.records.sessions.rows ≡ (after_beat (tables_with p.records.sessions.rows now heartbeat session) n.id).sessions →
    q.watches ≡ p.watches → q.sent ≡ p.sent → q.agents ≡ p.agents → q.halted ≡ p.halted →
    IsAnswered version h (call.RemoteBeat name session) p (reply.Beat deadline) q
beating version h name session n now heartbeat deadline p q stands there clock beat given store sessions watches sent
    agents halted =
    let w = replay h in
    let has = stands.has in
    let live = alive (not_admitted now session (row_at session_node n.id p.records.sessions.rows)) deadline
    (now + 3 * heartbeat) given in
    record {
      world = with_tables w (after_beat w.tables n.id);
      answer_is =
          on-live w.tables name session n (λ id. beat_answer w id) (outside-in p w name n has there)
          (sym (why-is p w n.id session now has clock) ∙ live.0)
          ∙ ap (λ (k : ℕ). Ok (reply.Beat k, with_tables w (after_beat w.tables n.id)))
          (sym (live.1 ∙ deadline-is p w now heartbeat has clock beat));
      has = beaten-parts n.id now heartbeat session p q w has clock beat store sessions sent agents halted;
      heard = nothing-heard version w q.watches p.watches stands.watches watches;
    }

-- Pulls.

abbrev pull_answer : World → ℕ → Answered
pull_answer w node = Ok (reply.Pulled (message_for w node), pulled w node (message_for w node))

pulled-tables : (w : World) (node : ℕ) (m : Option Message) → (pulled w node m).tables ≡ w.tables
pulled-tables w node None = refl
pulled-tables w node (Some m) = refl

pulled-parts : (p q : Parts) (w : World) (node : ℕ) (due : List Assigned) (m : Option Message) → HasParts p w →
    due ≡ due_set w.tables node → q.sent ≡ after_message node due m p.sent → q.records ≡ p.records →
    q.agents ≡ p.agents → q.halted ≡ p.halted → HasParts q (pulled w node m)
pulled-parts p q w node due None has is sent records agents halted =
    let kept = subst (λ (r : Records). HasRecords r w) (sym records) has.records in
    record {
      records = kept;
      sent = sent ∙ has.sent;
      agents = agents ∙ has.agents;
      halted = halted ∙ has.halted;
    }
pulled-parts p q w node due (Some m) has is sent records agents halted =
    let kept = subst (λ (r : Records). HasRecords r w) (sym records) has.records in
    record {
      records = record { store = kept.store; sessions = kept.sessions };
      sent =
          sent
          ∙ ap (λ (rows : List NodeSent). after_message node due (Some m) rows) has.sent
          ∙ ap (λ (all : List Assigned). after_message node all (Some m) w.sent) is;
      agents = agents ∙ has.agents;
      halted = halted ∙ has.halted;
    }

pub pulling : (version : ℕ) (h : List Entry) (name : List ℕ) (session node : ℕ) (due : List Assigned)
    (m : Option Message) (p q : Parts) → StandsFor p (replay h) → under_session (tables_of p.records) name session ≡ Ok node →
    due ≡ due_set (tables_of p.records) node → m ≡ next_message (row_at sent_node node p.sent) due →
    q.sent ≡ after_message node due m p.sent → q.records ≡ p.records → q.watches ≡ p.watches → q.agents ≡ p.agents →
    q.halted ≡ p.halted → IsAnswered version h (call.RemotePull name session) p (reply.Pulled m) q
pulling version h name session node due m p q stands there is message sent records watches agents halted =
    let w = replay h in
    let has = stands.has in
    let all : due ≡ due_set w.tables node =
    is ∙ ap (λ (t : Tables). due_set t node) (tables_are p.records w has.records) in
    record {
      world = pulled w node m;
      answer_is =
          on-admitted w.tables name session node (λ id. pull_answer w id) (under-in p w name session node has there)
          ∙ ap (λ (o : Option Message). Ok (reply.Pulled o, pulled w node o))
          (message_is p w node due m stands is message);
      has = pulled-parts p q w node due m has all sent records agents halted;
      heard =
          nothing-heard version w q.watches p.watches stands.watches watches
          ∙ ap (λ (t : Tables). map (hears (changes_between version w.tables t)) p.watches.watchers)
          (sym (pulled-tables w node m));
    }

-- Reports.

abbrev report_done : ℕ → World → TaskState → Task → Reply × World
report_done version w s x =
    (status_reply x.state s, with_tables w (change_task x.id (raised_to version w.tables.clock s) w.tables))

abbrev report_answer : ℕ → World → ℕ → ℕ → TaskState → Answered
report_answer version w node task s =
    found kind.Task (wanted_by.Id task) (row_at task_id task w.tables.tasks) (report version w node s)

-- the task is raised in the rows, and so in the world
raised-world : (version : ℕ) (p : Parts) (w : World) (s : TaskState) (x : Task) (cs : List Change) → HasParts p w →
    Makes (tables_of p.records) cs
    (change_task x.id (raised_to version (tables_of p.records).clock s) (tables_of p.records)) →
    change_task x.id (raised_to version w.tables.clock s) w.tables ≡ apply_changes w.tables cs
raised-world version p w s x cs has makes =
    let same = tables_are p.records w has.records in
    ap (λ (t : Tables). change_task x.id (raised_to version t.clock s) t) (sym same)
    ∙ sym makes.gives
    ∙ ap (λ (t : Tables). apply_changes t cs) same

pub reporting : (version : ℕ) (h : List Entry) (name : List ℕ) (session node task : ℕ) (s : TaskState) (x : Task)
    (told : Reply) (cs : List Change) (p q : Parts) → StandsFor p (replay h) →
    under_session (tables_of p.records) name session ≡ Ok node → reportable (tables_of p.records) node task s ≡ Ok x →
    told ≡ status_reply x.state s →
    Makes (tables_of p.records) cs
    (change_task x.id (raised_to version (tables_of p.records).clock s) (tables_of p.records)) →
    HasRecords q.records (with_tables (replay h) (apply_changes (replay h).tables cs)) →
    q.watches.watchers
    ≡ map (hears (changes_between version (replay h).tables (apply_changes (replay h).tables cs))) p.watches.watchers →
    q.sent ≡ p.sent → q.agents ≡ p.agents → q.halted ≡ p.halted →
    IsAnswered version h (call.RemoteStatus name session task s) p told q
reporting version h name session node task s x told cs p q stands there found tells makes records heard sent agents
    halted =
    let w = replay h in
    let has = stands.has in
    let same = tables_are p.records w has.records in
    record {
      world = with_tables w (apply_changes w.tables cs);
      answer_is =
          on-admitted w.tables name session node (λ id. report_answer version w id task s)
          (under-in p w name session node has there)
          ∙ on-reportable w.tables node task s x (report_done version w s)
          (ap (λ (t : Tables). reportable t node task s) (sym same) ∙ found)
          ∙ ap (λ (t : Tables). Ok (status_reply x.state s, with_tables w t))
          (raised-world version p w s x cs has makes)
          ∙ ap (λ (r : Reply). Ok (r, with_tables w (apply_changes w.tables cs))) (sym tells);
      has = record {
        records = records;
        sent = sent ∙ has.sent;
        agents = agents ∙ has.agents;
        halted = halted ∙ has.halted;
      };
      heard = heard;
    }

pub not_reporting : (version : ℕ) (h : List Entry) (name : List ℕ) (session node task : ℕ) (s : TaskState) (r : Refusal)
    (p : Parts) → StandsFor p (replay h) → under_session (tables_of p.records) name session ≡ Ok node →
    reportable (tables_of p.records) node task s ≡ Err r →
    Answers version h (call.RemoteStatus name session task s) p (Err r) p
not_reporting version h name session node task s r p stands there refused =
    let w = replay h in
    let same = tables_are p.records w stands.has.records in (
      inr (on-admitted w.tables name session node (λ id. report_answer version w id task s)
          (under-in p w name session node stands.has there)
          ∙ not-reportable w.tables node task s r (report_done version w s)
          (ap (λ (t : Tables). reportable t node task s) (sym same) ∙ refused)),
      stands,
    )
