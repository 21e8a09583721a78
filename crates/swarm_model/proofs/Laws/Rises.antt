-- Tasks rise, no id comes back and none is shared, wherever a step is a move.
use Rattle.std.proofs.Common.{eqb, ap, ◌≡◌, ℕ, ◌<◌, ◌≤◌, ◌⊎◌, inl, inr, List, [], ◌∷◌, true, sym, ◌∙◌, subst, arith}
use Rattle.std.proofs.lemmas.Bool.Decides.{nat_tests}
use Rattle.std.proofs.lemmas.List.Kept.{AllPairs-cons}
use Rattle.std.specs.Prelude.{AllPairs, map, ◌++◌, ◌≢◌}
use Rattle.swarm_model.proofs.Base.Pairs.{all-has}
use Rattle.swarm_model.proofs.Moves.Ids.{Comes, in_world, one_if, times, times-append, times-has}
use Rattle.swarm_model.proofs.Moves.Rows.{RisesBetween, becomes-cases, between-has, between-one, has_row-Has}
use Rattle.swarm_model.proofs.Moves.Worlds.{IsSubnet, Stays, Any, ComesFrom, IsGood, IsOrderly, Moves, SameId, TaskMoves, Turns, orderly-moves}
use Rattle.swarm_model.specs.Laws.Rises.{ComeAbove, EachTaskRises, NoIdIsShared, Rises, TaskRises, ids_of, session_id}
use Rattle.swarm_objects.specs.Rows.{Has, has_row, network_id, node_id, service_id, task_id, watcher_id}
use Rattle.swarm_objects.specs.World.{World}
use Rattle.swarm_objects.specs.declared.sessions.NodeSession.{NodeSession}
use Rattle.swarm_objects.specs.declared.tasks.Task.{Task}

come-above : {X : Type 0} (key : X → ℕ) (R : X → X → Type 0) (Asked : X → Type 0) (next high : ℕ) (old new : List X) →
    ((x y : X) → R x y → key y ≡ key x) → Turns key R Asked next high old new → ComeAbove key next high old new
come-above key R Asked next high old new keeps turns =
    all-has (λ row. (has_row key (key row) old ≡ true) ⊎ ((next ≤ key row) × (key row < high))) new
    (λ y h. go y (becomes-cases R turns.more old new turns.rows y h))
  where
    go : (y : _) → ((x : _) × Has old x × R x y) ⊎ Has turns.more y →
        (has_row key (key y) old ≡ true) ⊎ ((next ≤ key y) × (key y < high))
    go y (inl r) = inl (has_row-Has key old r.0 (key y) r.1 (sym (keeps r.0 y r.2)))
    go y (inr m) = inr (let found = between-has key next high turns.more y turns.fresh m in (found.0, found.1))

sessions-above : (next high : ℕ) (old new : List NodeSession) →
    ((s : NodeSession) → Has new s → ComesFrom old next high s) → ComeAbove session_id next high old new
sessions-above next high old new each =
    all-has (λ row. (has_row session_id (session_id row) old ≡ true) ⊎ ((next ≤ session_id row) × (session_id row < high))) new
    (λ s h. go s (each s h))
  where
    go : (s : NodeSession) → ComesFrom old next high s →
        (has_row session_id (session_id s) old ≡ true) ⊎ ((next ≤ session_id s) × (session_id s < high))
    go s (inl r) = inl (has_row-Has session_id old r.0 (session_id s) r.1 r.3)
    go s (inr n) = inr n

tasks-rise : (next high : ℕ) (old new : List Task) → RisesBetween task_id 1 next old →
    Turns task_id TaskMoves IsGood next high old new → EachTaskRises old new
tasks-rise next high old new rises turns x y hx hy same =
    go (becomes-cases TaskMoves turns.more old new turns.rows y hy)
  where
    go : ((z : Task) × Has old z × TaskMoves z y) ⊎ Has turns.more y → TaskRises x y
    go (inl r) =
        let is : r.0 ≡ x = between-one task_id 1 next old r.0 x rises r.1 hx (sym r.2.id ∙ sym same) in
        subst (λ z. TaskRises z y) is r.2.rises
    go (inr m) =
        let above = between-has task_id next high turns.more y turns.fresh m in
        let below = between-has task_id 1 next old x rises hx in
        absurd (omega (arith, above.0, below.1, same))

ids-above : {X : Type 0} (key : X → ℕ) (next high : ℕ) (old new : List X) → Turns key (SameId key) Any next high old new →
    ComeAbove key next high old new
ids-above key next high old new turns = come-above key (SameId key) Any next high old new (λ x y h. h) turns

-- Ids are apart.

apart : (xs : List ℕ) → ((k : ℕ) → times k xs ≤ 1) → AllPairs (λ x y. x ≢ y) xs
apart [] once = λ i j d less short. absurd (omega (arith, short))
apart (x ∷ xs) once =
    AllPairs-cons (λ x y. x ≢ y) x xs (all-has (λ y. x ≢ y) xs (λ y h e. other y h e)) (apart xs (λ k. omega (arith, once k)))
  where
    other : (y : ℕ) → Has xs y → x ≡ y → ⊥
    other y h e =
        let same : eqb x y ≡ true = grind (arith, nat_tests, e) in
        absurd (omega (arith, once y, times-has xs y h, ap one_if same))

times-ids : (k : ℕ) (w : World) → times k (ids_of w) ≡ in_world k w
times-ids k w =
    let nodes = map node_id w.tables.nodes in
    let services = map service_id w.tables.services in
    let tasks = map task_id w.tables.tasks in
    let networks = map network_id w.tables.networks in
    let sessions = map session_id w.tables.sessions in
    omega (
      arith,
      times-append k nodes services,
      times-append k (nodes ++ services) tasks,
      times-append k (nodes ++ services ++ tasks) networks,
      times-append k (nodes ++ services ++ tasks ++ networks) sessions,
      times-append k (nodes ++ services ++ tasks ++ networks ++ sessions) (map watcher_id w.watchers),
    )

ids-apart : (w : World) → IsOrderly w → NoIdIsShared w
ids-apart w is = apart (ids_of w) (λ k. omega (arith, times-ids k w, most k (is.ids k)))
  where
    most : (k : ℕ) → Comes 0 w.tables.next_id k 0 (in_world k w) → in_world k w ≤ 1
    most k (inl h) = omega (arith, h)
    most k (inr h) = omega (arith, h.2)

-- every move of an orderly world is a rise
pub rises-moves : (w v : World) → IsOrderly w → Moves w v → Rises w v
rises-moves w v is m = record {
  tasks = tasks-rise w.tables.next_id v.tables.next_id w.tables.tasks v.tables.tasks is.tasks m.tables.tasks;
  ids = record {
    nodes = ids-above node_id w.tables.next_id v.tables.next_id w.tables.nodes v.tables.nodes m.tables.nodes;
    services =
        ids-above service_id w.tables.next_id v.tables.next_id w.tables.services v.tables.services m.tables.services;
    tasks =
        come-above task_id TaskMoves IsGood w.tables.next_id v.tables.next_id w.tables.tasks v.tables.tasks
        (λ x y h. h.id) m.tables.tasks;
    networks =
        come-above network_id Stays IsSubnet w.tables.next_id v.tables.next_id w.tables.networks v.tables.networks
        (λ x y h. ap network_id h) m.tables.networks;
    sessions =
        sessions-above w.tables.next_id v.tables.next_id w.tables.sessions v.tables.sessions m.tables.sessions;
    watchers = ids-above watcher_id w.tables.next_id v.tables.next_id w.watchers v.watchers m.watchers;
    next_id = m.tables.next;
    apart = ids-apart v (orderly-moves w v is m);
  };
}
