-- A session opens, or a beat moves its deadline.
use Rattle.std.proofs.Common.{◌≡◌, ℕ, ◌+◌, ◌<◌, ◌≤◌, Bool, true, false, cond, eqb, ltb, ◌⊎◌, inl, inr, List, [], ◌∷◌, refl, ap, arith}
use Rattle.swarm_model.proofs.Moves.Ids.{comes-next, times-becomes, times-with_row}
use Rattle.swarm_model.proofs.Moves.Rows.{RisesBetween, becomes-change_any, becomes-same, between-change, between-with_row, rows-stay}
use Rattle.swarm_model.proofs.Moves.Worlds.{networks-stay, ComesFrom, SameId, TablesMove, TaskMoves, task-same, turns-by, turns-ids}
use Rattle.swarm_model.specs.Laws.Rises.{session_id}
use Rattle.swarm_objects.proofs.RowLemmas.{Has-map_cases}
use Rattle.swarm_objects.specs.Loops.Agents.{after_beat, beaten}
use Rattle.swarm_objects.specs.Nodes.Sessions.{new_session, ready_node, registered}
use Rattle.swarm_objects.specs.Rows.{Has, change_row, node_id, session_node, with_row}
use Rattle.swarm_objects.specs.World.{Tables}
use Rattle.swarm_objects.specs.declared.sessions.NodeSession.{NodeSession}

-- a row of those with one more is the new one, or was there
pub with_row-cases : {X : Type 0} (key : X → ℕ) (new : X) (rows : List X) (y : X) → Has (with_row key new rows) y →
    (new ≡ y) ⊎ Has rows y
with_row-cases key new [] y (inl e) = inl e
with_row-cases key new [] y (inr none) = absurd none
with_row-cases key new (x ∷ xs) y h = go (ltb (key new) (key x)) (eqb (key new) (key x)) (with_row-cases key new xs y) h
  where
    go : (less same : Bool) → (Has (with_row key new xs) y → (new ≡ y) ⊎ Has xs y) →
        Has (cond less (new ∷ x ∷ xs) (cond same (new ∷ xs) (x ∷ with_row key new xs))) y → (new ≡ y) ⊎ Has (x ∷ xs) y
    go true same rest (inl e) = inl e
    go true same rest (inr k) = inr k
    go false true rest (inl e) = inl e
    go false true rest (inr k) = inr (inr k)
    go false false rest (inl e) = inr (inl e)
    go false false rest (inr k) = elim (rest k) [ inl e ↦ inl e | inr m ↦ inr (inr m) ]

pub opened : (t : Tables) (node : ℕ) (s : NodeSession) → Has (with_row session_node (new_session t node) t.sessions) s →
    ComesFrom t.sessions t.next_id (t.next_id + 1) s
opened t node s h = go (with_row-cases session_node (new_session t node) t.sessions s h)
  where
    go : (new_session t node ≡ s) ⊎ Has t.sessions s → ComesFrom t.sessions t.next_id (t.next_id + 1) s
    go (inl e) =
        let id : t.next_id ≡ s.session.id = ap (λ (z : NodeSession). z.session.id) e in
        inr (omega (arith, id), omega (arith, id))
    go (inr k) = inl (s, k, refl, refl)

-- the session of a node that has a number
pub opened-rises : (t : Tables) (node : ℕ) → (1 ≤ node) × (node < t.next_id) →
    RisesBetween session_node 1 t.next_id t.sessions →
    RisesBetween session_node 1 (t.next_id + 1) (with_row session_node (new_session t node) t.sessions)
opened-rises t node is rises =
    rows-stay session_node t.next_id (t.next_id + 1) _ (omega arith)
    (between-with_row session_node 1 t.next_id (new_session t node) t.sessions is.0 is.1 rises)

pub register-moves : (version : ℕ) (t : Tables) (node : ℕ) → (1 ≤ node) × (node < t.next_id) →
    TablesMove t (registered version t node)
register-moves version t node is = record {
  next = omega arith;
  nodes =
      turns-by (becomes-change_any (SameId node_id) node_id node (ready_node version) t.nodes (λ n. refl) (λ n h. refl));
  services = turns-ids t.services;
  tasks = turns-by (becomes-same TaskMoves task-same t.tasks);
  networks = networks-stay t.networks;
  sessions = opened t node;
  opens = opened-rises t node is;
  ids = λ i.
      comes-next t.next_id i t.next_id _ _ refl (omega (
        arith,
        times-becomes node_id (SameId node_id) (λ x y e. e) i t.nodes _
            (becomes-change_any (SameId node_id) node_id node (ready_node version) t.nodes (λ n. refl) (λ n h. refl)),
        times-with_row session_node session_id i (new_session t node) t.sessions,
      ));
}

beat-from : (t : Tables) (node : ℕ) (s : NodeSession) → Has (change_row session_node node (beaten t) t.sessions) s →
    ComesFrom t.sessions t.next_id t.next_id s
beat-from t node s h =
    let old = Has-map_cases (λ r. cond (eqb (session_node r) node) (beaten t r) r) t.sessions s h in
    go old.0 old.1 (eqb (session_node old.0) node) old.2
  where
    go : (r : NodeSession) → Has t.sessions r → (b : Bool) → cond b (beaten t r) r ≡ s →
        ComesFrom t.sessions t.next_id t.next_id s
    go r k true e = inl (r, k, ap (λ (z : NodeSession). z.node) e, ap (λ (z : NodeSession). z.session.id) e)
    go r k false e = inl (r, k, ap (λ (z : NodeSession). z.node) e, ap (λ (z : NodeSession). z.session.id) e)

pub beat-moves : (t : Tables) (node : ℕ) → TablesMove t (after_beat t node)
beat-moves t node = record {
  next = omega arith;
  nodes = turns-ids t.nodes;
  services = turns-ids t.services;
  tasks = turns-by (becomes-same TaskMoves task-same t.tasks);
  networks = networks-stay t.networks;
  sessions = beat-from t node;
  opens = between-change session_node 1 t.next_id node (beaten t) t.sessions (λ s. refl);
  ids = λ i.
      inl (omega (
        arith,
        times-becomes session_id (SameId session_id) (λ x y e. e) i t.sessions _
            (becomes-change_any (SameId session_id) session_node node (beaten t) t.sessions (λ s. refl) (λ s h. refl)),
      ));
}
