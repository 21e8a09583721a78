-- Duties of the agents' loop as entries.
use Rattle.std.proofs.Common.{◌≡◌, ◌+◌, ◌∙◌, ◌∷◌, ℕ, Bool, true, false, cond, eqb, List, [], Option, Some, None, ap, arith, not, refl, subst, sym}
use Rattle.std.proofs.lemmas.Bool.Decides.{nat_tests}
use Rattle.std.specs.Option.{option_map}
use Rattle.std.specs.Prelude.{map, nat_le}
use Rattle.swarm_agent.specs.Agents.{Changes, has_stale_on}
use Rattle.swarm_agent.specs.Times.{seen_agent}
use Rattle.swarm_settle.proofs.Fresh.{fresh-replay}
use Rattle.swarm_settle.specs.Fresh.{IsFresh}
use Rattle.swarm_model.proofs.Watching.Changes.{changes-none}
use Rattle.swarm_model.proofs.Watching.Watchers.{duty-watchers}
use Rattle.swarm_model.specs.Changed.{changes_between}
use Rattle.swarm_model.specs.History.{replay, step}
use Rattle.swarm_objects.proofs.RowLemmas.{Has-from_row_at, row_at-map}
use Rattle.swarm_objects.specs.Agents.Messages.{is_stale, sent_of}
use Rattle.swarm_objects.specs.Changes.{with_tables}
use Rattle.swarm_objects.specs.Duties.{effect_by}
use Rattle.swarm_objects.specs.Loops.Agents.{after_beat, beaten, change_agent}
use Rattle.swarm_objects.specs.Nodes.Admission.{not_admitted}
use Rattle.swarm_objects.specs.Nodes.Sessions.{is_before_deadline, is_session_live}
use Rattle.swarm_objects.specs.Refusals.{refuse}
use Rattle.swarm_objects.specs.Rows.{agent_node, change_row, is_some_and, row_at, session_node}
use Rattle.swarm_objects.specs.World.{Tables, World}
use Rattle.swarm_objects.specs.declared.agents.NodeAgent.{NodeAgent}
use Rattle.swarm_objects.specs.declared.calls.Entry.{Entry}
use Rattle.swarm_objects.specs.declared.calls.What.TheVariants as what
use Rattle.swarm_objects.specs.declared.duties.Duty.{Duty}
use Rattle.swarm_objects.specs.declared.duties.Duty.TheVariants as duty
use Rattle.swarm_objects.specs.declared.messages.Message.{Message}
use Rattle.swarm_objects.specs.declared.messages.NodeSent.{NodeSent}
use Rattle.swarm_objects.specs.declared.replies.Refusal.TheVariants as refusal
use Rattle.swarm_objects.specs.declared.sessions.NodeSession.{NodeSession}
use Rattle.swarm_objects.specs.declared.sessions.Session.{Session}
use Rattle.swarm_sessions.specs.OnRecord.{tables_with, the_session}
use Rattle.swarm_store.specs.Stored.{Stored}
use Rattle.swarm_watch.specs.Calls.{hears}
use Rattle.swarm_watch.specs.Watchings.{Watchings}
use Rattle.swarm_watch.specs.Worlds.{NotesLaw, StandsFor as Watch}
use Rattle.swarm_world.proofs.Answering.{entered-parts, unheard}
use Rattle.swarm_world.proofs.Recorded.{tables_are}
use Rattle.swarm_world.specs.Inside.Parts.{HasHistory, HasParts, StandsFor}
use Rattle.swarm_world.specs.Inside.Records.{tables_of}
use Rattle.swarm_world.specs.declared.parts.Parts.{Parts}
use Rattle.swarm_world.specs.declared.records.Records.{Records}

-- the parts of the world that the duty makes, once the watchers heard of it
pub stepped_by : (notes : NotesLaw) (h : List Entry) (d : Duty) (p q : Parts) → StandsFor p (replay h) →
    HasParts q (effect_by ((replay h).entries + 1) (replay h) d) →
    q.watches.watchers
    ≡ map (hears (changes_between ((replay h).entries + 1) (replay h).tables
    (effect_by ((replay h).entries + 1) (replay h) d).tables)) p.watches.watchers →
    StandsFor q (step (replay h) (what.Duty d)).after
stepped_by notes h d p q stands has heard =
    let w = replay h in
    let k = w.entries + 1 in
    record {
      has = entered-parts q w (effect_by k w d) has;
      watches = notes h (what.Duty d) p.watches q.watches stands.watches (duty-watchers k w d) heard;
    }

-- where no row changes nothing is heard
pub nothing-heard : (k : ℕ) (w : World) (m before : Watchings) → Watch before w → m ≡ before →
    m.watchers ≡ map (hears (changes_between k w.tables w.tables)) before.watchers
nothing-heard k w m before stands same =
    ap (λ (s : Watchings). s.watchers) same
    ∙ unheard (changes_between k w.tables w.tables) w before stands (changes-none k w.tables)

-- a duty that changes one agent and nothing else
pub by_agent : (notes : NotesLaw) (h : List Entry) (d : Duty) (node : ℕ) (change : NodeAgent → NodeAgent) (p q : Parts) →
    StandsFor p (replay h) →
    effect_by ((replay h).entries + 1) (replay h) d ≡ change_agent node change (replay h) →
    Changes node change p.agents q.agents → q.records ≡ p.records → q.watches ≡ p.watches → q.sent ≡ p.sent →
    q.halted ≡ p.halted → StandsFor q (step (replay h) (what.Duty d)).after
by_agent notes h d node change p q stands is changed records watches sent halted =
    let w = replay h in
    let k = w.entries + 1 in
    let has = stands.has in
    let now : HasParts q (change_agent node change w) =
    record {
      records = record {
        store = ap (λ (r : Records). r.store.tables) records ∙ has.records.store;
        sessions = ap (λ (r : Records). r.sessions.rows) records ∙ has.records.sessions;
      };
      sent = sent ∙ has.sent;
      agents = changed w.agents has.agents;
      halted = halted ∙ has.halted;
    } in
    stepped_by notes h d p q stands (subst (HasParts q) (sym is) now)
    (nothing-heard k w q.watches p.watches stands.watches watches
    ∙ ap (λ (x : World). map (hears (changes_between k w.tables x.tables)) p.watches.watchers) (sym is))

-- The clock of a step.

pub clock-is : (p : Parts) (w : World) → StandsFor p w → p.records.store.tables.clock ≡ w.tables.clock
clock-is p w stands = ap (λ (t : Tables). t.clock) stands.has.records.store

-- No message in an inbox is stale.

not-stale : (sent : Option NodeSent) (inbox : Option Message) (applied : ℕ) → IsFresh sent inbox applied →
    is_some_and (is_stale applied) inbox ≡ false
not-stale sent None applied fresh = refl
not-stale sent (Some m) applied fresh = fresh.0

abbrev stale_in : NodeAgent → Bool
stale_in a = is_some_and (is_stale a.applied) a.inbox

none-stale : (w : World) (node : ℕ) (o : Option NodeAgent) → row_at agent_node node w.agents ≡ o →
    ((a : NodeAgent) → row_at agent_node node w.agents ≡ Some a → stale_in a ≡ false) →
    is_some_and stale_in (option_map seen_agent o) ≡ false
none-stale w node None e each = refl
none-stale w node (Some a) e each = each a e

pub never_stale : (p : Parts) → HasHistory p → (node : ℕ) → has_stale_on node p.agents ≡ false
never_stale p is node =
    let w = replay is.history in
    ap (has_stale_on node) is.stands.has.agents
    ∙ ap (is_some_and stale_in) (row_at-map agent_node node seen_agent w.agents (λ b. refl))
    ∙ none-stale w node (row_at agent_node node w.agents) refl
    (λ a e. not-stale (sent_of w a.node) a.inbox a.applied
    (fresh-replay is.history is.legal a (Has-from_row_at agent_node node w.agents a e).0))

-- Beats.

pub live-is : (p : Parts) (w : World) (node : ℕ) → StandsFor p w →
    is_session_live (tables_of p.records) node ≡ is_session_live w.tables node
live-is p w node stands = ap (λ (t : Tables). is_session_live t node) (tables_are p.records w stands.has.records)

-- a live session on record is admitted
pub own-admitted : (clock : ℕ) (o : Option NodeSession) (s : Session) → Some s ≡ option_map the_session o →
    is_before_deadline clock o ≡ true → not_admitted clock s.id o ≡ None
own-admitted clock None s there live = absurd cc
own-admitted clock (Some row) s there live =
    let same : s ≡ row.session = cc in
    let own : eqb row.session.id s.id ≡ true = ap (λ (x : Session). eqb row.session.id x.id) same ∙ eqb-same row.session.id in
    let before : nat_le row.session.deadline clock ≡ false = grind (arith, nat_tests, live) in
    ap (λ (b : Bool). cond (not b) (Some (refusal.InvalidSession (Some row.session.id)))
    (refuse (nat_le row.session.deadline clock) (refusal.SessionExpired row.session.deadline))) own
    ∙ ap (λ (b : Bool). refuse b (refusal.SessionExpired row.session.deadline)) before
  where
    eqb-same : (k : ℕ) → eqb k k ≡ true
    eqb-same k = grind (arith, nat_tests)

pub never-none : (clock : ℕ) (o : Option NodeSession) → None ≡ option_map the_session o →
    is_before_deadline clock o ≡ true → ⊥
never-none clock None there live = cc
never-none clock (Some row) there live = cc

beaten-is : (now heartbeat id : ℕ) (rows : List NodeSession) (t : Tables) → now ≡ t.clock → heartbeat ≡ t.settings.heartbeat →
    (s : NodeSession) → beaten (tables_with rows now heartbeat id) s ≡ beaten t s
beaten-is now heartbeat id rows t clock beat s =
    ap (λ k. beaten (tables_with rows k heartbeat id) s) clock
    ∙ ap (λ k. beaten (tables_with rows t.clock k id) s) beat

all-beaten : (node : ℕ) (f g : NodeSession → NodeSession) (rows : List NodeSession) → ((s : NodeSession) → f s ≡ g s) →
    change_row session_node node f rows ≡ change_row session_node node g rows
all-beaten node f g [] each = refl
all-beaten node f g (s ∷ rows) each =
    ap (λ (x : NodeSession). cond (eqb s.node node) x s ∷ change_row session_node node f rows) (each s)
    ∙ ap (λ (all : List NodeSession). cond (eqb s.node node) (g s) s ∷ all) (all-beaten node f g rows each)

-- the parts of the world after a beat
pub beaten-parts : (node now heartbeat id : ℕ) (p q : Parts) (w : World) → HasParts p w →
    now ≡ p.records.store.tables.clock → heartbeat ≡ p.records.store.tables.settings.heartbeat →
    q.records.store ≡ p.records.store →
    q.records.sessions.rows ≡ (after_beat (tables_with p.records.sessions.rows now heartbeat id) node).sessions →
    q.sent ≡ p.sent → q.agents ≡ p.agents → q.halted ≡ p.halted → HasParts q (with_tables w (after_beat w.tables node))
beaten-parts node now heartbeat id p q w has clock beat store sessions sent agents halted =
    let rows = p.records.sessions.rows in
    let is-clock = clock ∙ ap (λ (t : Tables). t.clock) has.records.store in
    let is-beat = beat ∙ ap (λ (t : Tables). t.settings.heartbeat) has.records.store in
    record {
      records = record {
        store = ap (λ (s : Stored). s.tables) store ∙ has.records.store;
        sessions =
            sessions
            ∙ all-beaten node (beaten (tables_with rows now heartbeat id)) (beaten w.tables) rows
            (beaten-is now heartbeat id rows w.tables is-clock is-beat)
            ∙ ap (change_row session_node node (beaten w.tables)) has.records.sessions;
      };
      sent = sent ∙ has.sent;
      agents = agents ∙ has.agents;
      halted = halted ∙ has.halted;
    }

pub beat-parts : (notes : NotesLaw) (h : List Entry) (node now heartbeat id : ℕ) (p q : Parts) → StandsFor p (replay h) →
    now ≡ p.records.store.tables.clock → heartbeat ≡ p.records.store.tables.settings.heartbeat →
    q.records.store ≡ p.records.store →
    q.records.sessions.rows ≡ (after_beat (tables_with p.records.sessions.rows now heartbeat id) node).sessions →
    q.watches ≡ p.watches → q.sent ≡ p.sent → q.agents ≡ p.agents → q.halted ≡ p.halted →
    StandsFor q (step (replay h) (what.Duty (duty.Beat node))).after
beat-parts notes h node now heartbeat id p q stands clock beat store sessions watches sent agents halted =
    let w = replay h in
    stepped_by notes h (duty.Beat node) p q stands
    (beaten-parts node now heartbeat id p q w stands.has clock beat store sessions sent agents halted)
    (nothing-heard (w.entries + 1) w q.watches p.watches stands.watches watches)
