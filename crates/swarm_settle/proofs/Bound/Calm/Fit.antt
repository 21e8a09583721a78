-- A node that takes tasks goes on taking them while the time stands: no duty ends its session or changes what it is.
use Rattle.std.proofs.Common.{Bool, List, None, Option, Some, ap, arith, cond, eqb, false, refl, sym, true, ℕ, ◌∙◌, ◌≡◌, ◌≤◌}
use Rattle.std.proofs.lemmas.Bool.Decides.{nat_tests}
use Rattle.std.specs.Option.{option_map}
use Rattle.std.specs.Prelude.{◌&&◌}
use Rattle.swarm_settle.proofs.Bound.Calm.World.{is_fit, is_well_placed}
use Rattle.swarm_model.specs.Laws.Rises.{KeepsNode}
use Rattle.swarm_model.proofs.Moves.Worlds.{TaskMoves}
use Rattle.swarm_objects.proofs.Hearing.{row_at-change_row}
use Rattle.swarm_objects.proofs.RowChanges.{row_at-with_row}
use Rattle.swarm_objects.proofs.RowLemmas.{Has-from_row_at}
use Rattle.swarm_objects.proofs.Tests.{first_so, never-both, second_so}
use Rattle.swarm_objects.specs.Changes.{change_node}
use Rattle.swarm_objects.specs.Loops.Agents.{after_beat, beaten}
use Rattle.swarm_objects.specs.Loops.Dispatcher.{fallen}
use Rattle.swarm_objects.specs.Nodes.Filters.{takes_tasks}
use Rattle.swarm_objects.specs.Nodes.Sessions.{is_before_deadline, is_session_live, new_session, ready_node, registered}
use Rattle.swarm_objects.specs.Nodes.Words.{is_active, is_ready, meets_all}
use Rattle.swarm_objects.specs.Rows.{is_row_and, is_some_and, node_id, row_at, session_node}
use Rattle.swarm_objects.specs.World.{Tables}
use Rattle.swarm_objects.specs.declared.nodes.Node.{Node}
use Rattle.swarm_objects.specs.declared.sessions.NodeSession.{NodeSession}
use Rattle.swarm_objects.specs.declared.tasks.Task.{Task}
use Rattle.swarm_objects.specs.declared.templates.Constraint.{Constraint}

abbrev pub KeepsFit : Tables → Tables → Type 0
KeepsFit t u =
    (constraints : List Constraint) (k : ℕ) → is_row_and node_id (is_fit t constraints) t.nodes k ≡ true →
    is_row_and node_id (is_fit u constraints) u.nodes k ≡ true

-- a task that keeps its node and template stays well placed
pub well-kept : (t u : Tables) (x y : Task) → KeepsFit t u → TaskMoves x y → is_well_placed t x ≡ true →
    is_well_placed u y ≡ true
well-kept t u x y keeps moves well = go x.node y.node moves.rises.node well
  where
    template : is_fit u y.template.constraints ≡ is_fit u x.template.constraints
    template = ap (λ (m : _). is_fit u m.constraints) moves.rises.making.template

    go : (o p : Option ℕ) → KeepsNode o p →
        is_some_and (is_row_and node_id (is_fit t x.template.constraints) t.nodes) o ≡ true →
        is_some_and (is_row_and node_id (is_fit u y.template.constraints) u.nodes) p ≡ true
    go None p kept is = absurd cc
    go (Some k) p kept is =
        ap (is_some_and (is_row_and node_id (is_fit u y.template.constraints) u.nodes)) kept
        ∙ ap (λ (test : Node → Bool). is_row_and node_id test u.nodes k) template ∙ keeps x.template.constraints k is

-- the node that takes tasks has a live session
its-session : (t : Tables) (constraints : List Constraint) (k : ℕ) →
    is_row_and node_id (is_fit t constraints) t.nodes k ≡ true → is_session_live t k ≡ true
its-session t constraints k is = go (row_at node_id k t.nodes) refl is
  where
    go : (o : Option Node) → row_at node_id k t.nodes ≡ o → is_some_and (is_fit t constraints) o ≡ true →
        is_session_live t k ≡ true
    go None at e = absurd cc
    go (Some n) at e =
        let live = second_so (is_ready n.state && is_active n.availability) (is_session_live t n.id)
        (first_so (takes_tasks t n) (meets_all constraints n) e) in
        ap (is_session_live t) (sym (Has-from_row_at node_id k t.nodes n at).1) ∙ live

-- one with a dead session is another
apart : (t : Tables) (dead k : ℕ) → is_session_live t dead ≡ false → is_session_live t k ≡ true → eqb dead k ≡ false
apart t dead k ended live = go (eqb dead k) refl
  where
    go : (b : Bool) → eqb dead k ≡ b → b ≡ false
    go false e = refl
    go true e =
        let same : dead ≡ k = grind (arith, nat_tests, e) in
        never-both (is_session_live t k) (ap (is_session_live t) (sym same) ∙ ended) live

-- the row that is there is fit in the other tables, where the session is live in them
same-row : (t u : Tables) (constraints : List Constraint) (k : ℕ) →
    row_at node_id k u.nodes ≡ row_at node_id k t.nodes → is_session_live u k ≡ true →
    is_row_and node_id (is_fit t constraints) t.nodes k ≡ true →
    is_row_and node_id (is_fit u constraints) u.nodes k ≡ true
same-row t u constraints k row live is =
    ap (is_some_and (is_fit u constraints)) row ∙ go (row_at node_id k t.nodes) refl is
  where
    go : (o : Option Node) → row_at node_id k t.nodes ≡ o → is_some_and (is_fit t constraints) o ≡ true →
        is_some_and (is_fit u constraints) o ≡ true
    go None at e = absurd cc
    go (Some n) at e =
        let takes = first_so (takes_tasks t n) (meets_all constraints n) e in
        let ready = first_so (is_ready n.state && is_active n.availability) (is_session_live t n.id) takes in
        let own : is_session_live u n.id ≡ true =
        ap (is_session_live u) (Has-from_row_at node_id k t.nodes n at).1 ∙ live in
        ap (λ (b : Bool). b && is_session_live u n.id && meets_all constraints n) ready
        ∙ ap (λ (b : Bool). b && meets_all constraints n) own
        ∙ second_so (takes_tasks t n) (meets_all constraints n) e

-- The duties that change nodes or sessions.

pub expire-fit : (version : ℕ) (t : Tables) (n : ℕ) → is_session_live t n ≡ false →
    KeepsFit t (change_node n (fallen version t.clock) t)
expire-fit version t n ended constraints k is =
    let live = its-session t constraints k is in
    same-row t (change_node n (fallen version t.clock) t) constraints k
    (row_at-change_row node_id n k (fallen version t.clock) t.nodes (λ m. refl)
    ∙ ap (λ (b : Bool). cond b (option_map (fallen version t.clock) (row_at node_id k t.nodes)) (row_at node_id k t.nodes))
    (apart t n k ended live)) live is

pub register-fit : (version : ℕ) (t : Tables) (n : ℕ) → is_session_live t n ≡ false → KeepsFit t (registered version t n)
register-fit version t n ended constraints k is =
    let live = its-session t constraints k is in
    let other = apart t n k ended live in
    same-row t (registered version t n) constraints k
    (row_at-change_row node_id n k (ready_node version) t.nodes (λ m. refl)
    ∙ ap (λ (b : Bool). cond b (option_map (ready_node version) (row_at node_id k t.nodes)) (row_at node_id k t.nodes))
    other)
    (ap (is_before_deadline t.clock)
    (row_at-with_row session_node k (new_session t n) t.sessions
    ∙ ap (λ (b : Bool). cond b (Some (new_session t n)) (row_at session_node k t.sessions)) other) ∙ live) is

pub beat-fit : (t : Tables) (n : ℕ) → 1 ≤ t.settings.heartbeat → KeepsFit t (after_beat t n)
beat-fit t n beats constraints k is =
    same-row t (after_beat t n) constraints k refl
    (ap (is_before_deadline t.clock) (row_at-change_row session_node n k (beaten t) t.sessions (λ s. refl))
    ∙ go (eqb n k) (row_at session_node k t.sessions) (its-session t constraints k is)) is
  where
    go : (b : Bool) (o : Option NodeSession) → is_before_deadline t.clock o ≡ true →
        is_before_deadline t.clock (cond b (option_map (beaten t) o) o) ≡ true
    go true None live = live
    go true (Some s) live = grind (arith, nat_tests, beats)
    go false o live = live
