-- What the registration of an agent leaves of the marks over the rows.
use Rattle.std.proofs.Common.{◌≡◌, ◌∙◌, ◌+◌, ◌⊎◌, ℕ, Bool, cond, eqb, false, true, List, Some, ap, arith, inl, inr, refl, subst, sym}
use Rattle.std.proofs.lemmas.Bool.Decides.{nat_tests}
use Rattle.std.specs.Prelude.{◌==◌}
use Rattle.swarm_objects.proofs.RowChanges.{row_at-with_row}
use Rattle.swarm_objects.proofs.RowLemmas.{IsBelow-map}
use Rattle.swarm_objects.specs.ChangeLists.{Makes, apply_changes}
use Rattle.swarm_objects.specs.Changes.{change_node}
use Rattle.swarm_objects.specs.Nodes.Sessions.{new_session, ready_node}
use Rattle.swarm_objects.specs.Rows.{node_id, row_at, session_node, with_row}
use Rattle.swarm_objects.specs.Usable.{IsUsable}
use Rattle.swarm_objects.specs.World.{Tables, World}
use Rattle.swarm_objects.specs.declared.nodes.Node.{Node}
use Rattle.swarm_objects.specs.declared.rows.Change.{Change}
use Rattle.swarm_objects.specs.declared.sessions.NodeSession.{NodeSession}
use Rattle.swarm_spans.specs.Services.Touches.{AreCovered}
use Rattle.swarm_spans.specs.TasksCovered.{HasOthersSessions, SessionLaw, with_sessions}
use Rattle.swarm_spans.specs.Timed.{AreTimed}
use Rattle.swarm_world.proofs.Recorded.{tables_are}
use Rattle.swarm_world.proofs.RowsKnown.{knows_rows_alike}
use Rattle.swarm_world.proofs.RowsTouched.{services-still, timed-alike}
use Rattle.swarm_world.specs.Inside.Beginnings.{begun_world, with_session}
use Rattle.swarm_world.specs.Inside.Known.{KnowsAll}
use Rattle.swarm_world.specs.Inside.Marks.{AreMarked}
use Rattle.swarm_world.specs.Inside.Parts.{HasParts}
use Rattle.swarm_world.specs.Inside.Records.{tables_of}
use Rattle.swarm_world.specs.declared.marks.Marks.{Marks}
use Rattle.swarm_world.specs.declared.parts.Parts.{Parts}

-- the rows between the change of the node and the beginning of its session
between-usable : (version node : ℕ) (t : Tables) → IsUsable t
    → IsUsable (with_session node (change_node node (ready_node version) t))
    → IsUsable (change_node node (ready_node version) t)
between-usable version node t before after = record {
  sound = record {
    ordered = record {
      nodes = after.sound.ordered.nodes;
      services = before.sound.ordered.services;
      tasks = before.sound.ordered.tasks;
      networks = before.sound.ordered.networks;
      sessions = before.sound.ordered.sessions;
    };
    below = record {
      nodes =
          IsBelow-map node_id t.next_id (λ (n : Node). cond (n.id == node) (ready_node version n) n) t.nodes
          (λ n. keeps n (n.id == node)) before.sound.below.nodes;
      services = before.sound.below.services;
      tasks = before.sound.below.tasks;
      networks = before.sound.below.networks;
    };
    subnets = before.sound.subnets;
  };
  next_id = before.next_id;
  clock = before.clock;
  times = record {
    nodes = after.times.nodes;
    services = before.times.services;
    tasks = before.times.tasks;
    attempts = before.times.attempts;
    sessions = before.times.sessions;
    orphan = before.times.orphan;
  };
}
  where
    keeps : (n : Node) (b : Bool) → node_id (cond b (ready_node version n) n) ≡ node_id n
    keeps n true = refl
    keeps n false = refl

-- the sessions of all others
others-with : (node : ℕ) (t : Tables)
    → HasOthersSessions node t (with_row session_node (new_session t node) t.sessions)
others-with node t = record { others = λ n. go n (eqb node n) refl }
  where
    go : (n : ℕ) (b : Bool) → eqb node n ≡ b
        → (n ≡ node)
        ⊎ (row_at session_node n (with_row session_node (new_session t node) t.sessions)
        ≡ row_at session_node n t.sessions)
    go n true is = inl (grind (arith, nat_tests, is))
    go n false is =
        inr (row_at-with_row session_node n (new_session t node) t.sessions
        ∙ ap (λ b. cond b (Some (new_session t node)) (row_at session_node n t.sessions)) is)

-- what one node's session concerns was touched
pub after_session : (node : ℕ) (one two : Marks) (t : Tables) → IsUsable t → SessionLaw node one.tasks two.tasks
    → two.services ≡ one.services → two.timed ≡ one.timed → two.known ≡ one.known → (next_id : ℕ) (sessions : List NodeSession)
    → HasOthersSessions node t sessions → AreMarked one t → AreMarked two (with_sessions next_id sessions t)
after_session node one two t usable law services timed known next_id sessions others marked = record {
  tasks = law t next_id sessions usable others marked.tasks;
  services =
      subst (AreCovered (with_sessions next_id sessions t)) (sym services)
      (services-still t next_id sessions one.services usable marked.services);
  timed =
      subst (AreTimed (with_sessions next_id sessions t)) (sym timed)
      (timed-alike t (with_sessions next_id sessions t) one.timed refl refl marked.timed);
  known =
      knows_rows_alike t (with_sessions next_id sessions t) two.known refl refl refl refl
      (subst (KnowsAll t) (sym known) marked.known);
}

-- and its node was, whose change came first
pub registered_marked : (version node : ℕ) (p q : Parts) (w : World) (cs all : List Change) (one two : Marks)
    → all ≡ cs → IsUsable (tables_of p.records) → HasParts p w
    → Makes (tables_of p.records) cs (change_node node (ready_node version) (tables_of p.records))
    → HasParts q (begun_world node cs w)
    → (IsUsable (apply_changes (tables_of p.records) all) → AreMarked one (apply_changes (tables_of p.records) all))
    → SessionLaw node one.tasks two.tasks → two.services ≡ one.services → two.timed ≡ one.timed → two.known ≡ one.known
    → IsUsable (tables_of q.records) → AreMarked two (tables_of q.records)
registered_marked version node p q w cs all one two same before has makes begun touched law services timed known after =
    let t = tables_of p.records in
    let u = change_node node (ready_node version) t in
    let tables : tables_of q.records ≡ with_session node u =
    tables_are q.records (begun_world node cs w) begun.records
    ∙ ap (λ (z : Tables). with_session node (apply_changes z cs)) (sym (tables_are p.records w has.records))
    ∙ ap (with_session node) makes.gives in
    let between = between-usable version node t before (subst IsUsable tables after) in
    let gives : apply_changes t all ≡ u = ap (apply_changes t) same ∙ makes.gives in
    subst (AreMarked two) (sym tables)
    (after_session node one two u between law services timed known (u.next_id + 1)
    (with_row session_node (new_session u node) u.sessions) (others-with node u)
    (subst (AreMarked one) gives (touched (subst IsUsable (sym gives) between))))

-- or memory was wanting
pub not_registered : (node : ℕ) (p q : Parts) (w : World) (one two : Marks) → IsUsable (tables_of p.records)
    → HasParts p w → HasParts q w → AreMarked one (tables_of p.records) → SessionLaw node one.tasks two.tasks
    → two.services ≡ one.services → two.timed ≡ one.timed → two.known ≡ one.known → AreMarked two (tables_of q.records)
not_registered node p q w one two usable before after marked law services timed known =
    let t = tables_of p.records in
    subst (AreMarked two)
    (sym (tables_are q.records w after.records ∙ sym (tables_are p.records w before.records)))
    (after_session node one two t usable law services timed known t.next_id t.sessions
    (record { others = λ n. inr refl }) marked)
