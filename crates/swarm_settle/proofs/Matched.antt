-- Settled means matched: each service, each task, each node and each closed place is as a match wants it.
use Rattle.std.proofs.Common.{Bool, List, Option, Some, [], ap, arith, cond, false, inl, inr, not, refl, subst, sym, true, ℕ, ◌+◌, ◌<◌, ◌∙◌, ◌∷◌, ◌≡◌, ◌≤◌, ◌⊎◌}
use Rattle.std.proofs.lemmas.Bool.Decides.{nat_tests}
use Rattle.std.specs.Cmp.Lexicographic.{pointwise}
use Rattle.std.specs.List.{list_all}
use Rattle.std.specs.Prelude.{⊤}
use Rattle.swarm_settle.proofs.ShapeDuties.{found}
use Rattle.std.specs.Prelude.{filter, map, nat_le, ◌&&◌, ◌==◌, ◌||◌}
use Rattle.swarm_settle.proofs.Calm.{Calm, IsHosted, IsPlacedAt, agent-of, aimed-well, calm, hosted, live-ready, placed-at, runs-on, runs-well}
use Rattle.swarm_settle.proofs.ClosedPlaces.{closed-places}
use Rattle.swarm_settle.proofs.Ended.{never-ended}
use Rattle.swarm_settle.proofs.GlobalPlaces.{places}
use Rattle.swarm_settle.proofs.Goals.{HasGoal, IsAim}
use Rattle.swarm_settle.proofs.NothingElse.{nothing-else}
use Rattle.swarm_settle.proofs.PlaceLists.{counts-of, place-counts}
use Rattle.swarm_settle.proofs.Settled.{settled-rests}
use Rattle.swarm_settle.proofs.Rest.{settled-quiet}
use Rattle.swarm_settle.proofs.Unmet.{unmet}
use Rattle.swarm_settle.proofs.WellPlaced.{node-found, one-live-task}
use Rattle.swarm_settle.proofs.Held.{beyond}
use Rattle.swarm_settle.specs.Laws.{AreAlone, HasPlaces, NothingElse, SayWhy, StandsWell, is_good_for}
use Rattle.swarm_settle.specs.Matched.{IsMatched}
use Rattle.swarm_model.proofs.Moves.Rows.{RisesBetween}
use Rattle.swarm_model.proofs.Laws.GivesOut.{on-is}
use Rattle.swarm_model.proofs.Laws.Room.{is-on-same}
use Rattle.swarm_model.specs.History.{replay}
use Rattle.swarm_model.specs.Laws.Matches.{are_closings_right, is_aimed, is_executed, is_executor_running, is_in_hand, is_matched_node, is_matched_service, is_one_well, is_place_well, is_run_on, is_unplaceable, is_unprovided, is_well, live_tasks, matches_agent, matches_mode, matches_world, runs_task, runs_well, runs_well_on, stands_somewhere, tasks_in_hand, tasks_run_on}
use Rattle.swarm_model.specs.Laws.Reconciliation.{ReconciliationLaw}
use Rattle.swarm_model.specs.Settle.{settle_answer}
use Rattle.swarm_objects.proofs.RowLemmas.{Has-filter, Has-filter_cases, Has-from_row_at, Has-map, Has-map_cases, number_above}
use Rattle.swarm_objects.proofs.Tests.{all-pass, both, first_so, neither_left, neither_right, never-both, not_from_false, or_left, or_right, second_so, some-and}
use Rattle.swarm_objects.specs.Nodes.Words.{is_node_and, is_ready}
use Rattle.swarm_objects.specs.Rows.{Has, RisesFrom, agent_node, executor_task, is_row_and, is_some_and, itself, node_id, row_at, service_id, task_id}
use Rattle.swarm_objects.specs.Same.{same_number}
use Rattle.swarm_objects.specs.Services.Words.{is_clean}
use Rattle.swarm_objects.specs.Tasks.Places.{has_live, held_places, is_in_place, place_at, place_tasks}
use Rattle.swarm_objects.specs.Tasks.Words.{is_below_assigned, is_live, is_on, is_placed, is_running, is_unwanted}
use Rattle.swarm_objects.specs.Values.Ranks.{desired_rank, rank}
use Rattle.swarm_objects.specs.World.{World}
use Rattle.swarm_objects.specs.declared.agents.Executor.{Executor}
use Rattle.swarm_objects.specs.declared.agents.NodeAgent.{NodeAgent}
use Rattle.swarm_objects.specs.declared.duties.Settle.TheVariants as settle
use Rattle.swarm_objects.specs.declared.nodes.Node.{Node}
use Rattle.swarm_objects.specs.declared.services.Service.{Service}
use Rattle.swarm_objects.specs.declared.tasks.Desired.TheVariants as desired
use Rattle.swarm_objects.specs.declared.tasks.Desired.{Desired}
use Rattle.swarm_objects.specs.declared.tasks.Task.{Task}
use Rattle.swarm_objects.specs.declared.tasks.TaskState.TheVariants as state
use Rattle.swarm_objects.specs.declared.tasks.TaskState.{TaskState}

-- Rising lists with the same members are equal.

same-from : (n : ℕ) (xs ys : List ℕ) → RisesFrom itself n xs → RisesFrom itself n ys →
    ((k : ℕ) → Has xs k → Has ys k) → ((k : ℕ) → Has ys k → Has xs k) → xs ≡ ys
same-from n [] [] rx ry to from = refl
same-from n (x ∷ xs) [] rx ry to from = absurd (to x (inl refl))
same-from n [] (y ∷ ys) rx ry to from = absurd (from y (inl refl))
same-from n (x ∷ xs) (y ∷ ys) rx ry to from =
    go (to x (inl refl)) (from y (inl refl))
    (λ e.
    same-from x xs ys rx.1 (subst (λ (k : ℕ). RisesFrom itself k ys) (sym e) ry.1)
    (λ k h. beyond y k ys (let up = number_above itself x xs k rx.1 h in omega (arith, up, e)) (to k (inr h)))
    (λ k h. beyond x k xs (let up = number_above itself y ys k ry.1 h in omega (arith, up, e)) (from k (inr h))))
  where
    go : Has (y ∷ ys) x → Has (x ∷ xs) y → (x ≡ y → xs ≡ ys) → x ∷ xs ≡ y ∷ ys
    go (inl e) q rest = ap (λ (k : ℕ). k ∷ xs) (sym e) ∙ ap (λ (ks : List ℕ). y ∷ ks) (rest (sym e))
    go (inr h) (inl e) rest = ap (λ (k : ℕ). k ∷ xs) e ∙ ap (λ (ks : List ℕ). y ∷ ks) (rest e)
    go (inr h) (inr k) rest =
        let up = number_above itself y ys x ry.1 h in
        let down = number_above itself x xs y rx.1 k in
        absurd (omega (arith, up, down))

each-same : (xs ys : List ℕ) → xs ≡ ys → pointwise same_number xs ys ≡ true
each-same xs ys e = subst (λ (zs : List ℕ). pointwise same_number xs zs ≡ true) e (own xs)
  where
    own : (zs : List ℕ) → pointwise same_number zs zs ≡ true
    own [] = refl
    own (z ∷ zs) = both (z == z) (pointwise same_number zs zs) (grind (arith, nat_tests)) (own zs)

-- the numbers of some of the rows rise as the rows do
keys-rise : {X : Type 0} (key : X → ℕ) (test : X → Bool) (low high n : ℕ) (rows : List X) → n < low →
    RisesBetween key low high rows → RisesFrom itself n (map key (filter test rows))
keys-rise key test low high n [] lt r = tt
keys-rise key test low high n (x ∷ rows) lt r =
    go (test x) (keys-rise key test (key x + 1) high (key x) rows (omega arith) r.2)
    (keys-rise key test (key x + 1) high n rows (omega (arith, lt, r.0)) r.2)
  where
    go : (b : Bool) → RisesFrom itself (key x) (map key (filter test rows)) →
        RisesFrom itself n (map key (filter test rows)) →
        RisesFrom itself n (map key (cond b (x ∷ filter test rows) (filter test rows)))
    go true above rest = (omega (arith, lt, r.0), above)
    go false above rest = rest

-- The executors of a READY modelled node.

-- what isn't to stop is live
live-by : (x : Task) → HasGoal x → is_unwanted x ≡ false → is_live x ≡ true
live-by x is off = go is.aim is.goal
  where
    up-to : (d g : Desired) → desired_rank d ≤ desired_rank g → nat_le (desired_rank d) (desired_rank g) ≡ true
    up-to d g le = grind (arith, nat_tests, le)

    go : IsAim x.desired x.goal → ((x.goal ≡ desired.Running) ⊎ (x.goal ≡ desired.Complete)) → is_live x ≡ true
    go (inl e) (inl g) =
        subst (λ (d : Desired). nat_le (desired_rank d) (desired_rank x.goal) ≡ true) (sym e)
        (subst (λ (d : Desired). nat_le (desired_rank desired.Ready) (desired_rank d) ≡ true) (sym g) refl)
    go (inl e) (inr g) =
        subst (λ (d : Desired). nat_le (desired_rank d) (desired_rank x.goal) ≡ true) (sym e)
        (subst (λ (d : Desired). nat_le (desired_rank desired.Ready) (desired_rank d) ≡ true) (sym g) refl)
    go (inr (inl e)) g =
        up-to x.desired x.goal (subst (λ (d : Desired). desired_rank x.desired ≤ desired_rank d) e (omega arith))
    go (inr (inr (inl e))) g =
        never-both (is_unwanted x) off
        (subst (λ (d : Desired). nat_le (desired_rank desired.Shutdown) (desired_rank d) ≡ true) (sym e) refl)
    go (inr (inr (inr e))) g =
        never-both (is_unwanted x) off
        (subst (λ (d : Desired). nat_le (desired_rank desired.Shutdown) (desired_rank d) ≡ true) (sym e) refl)

-- an executor in hand runs, for a live task that is observed RUNNING there
pub record IsInWork (w : World) (n : Node) (e : Executor) : Type 0 where
  pub task : Task
  pub there : Has w.tables.tasks task
  pub number : task.id ≡ e.task
  pub run : is_run_on n.id task ≡ true
  pub runs : e.state ≡ state.Running

in-work : (w : World) → Calm w → (n : Node) (a : NodeAgent) → Has w.tables.nodes n → is_ready n.state ≡ true →
    n.remote ≡ false → row_at agent_node n.id w.agents ≡ Some a → (e : Executor) → Has a.executors e →
    is_in_hand e ≡ true → IsInWork w n e
in-work w is n a h ready inside at e k hand =
    let runs = (is.agents n a h ready inside at).executors e k hand in
    let alive : e.gone ≡ false =
    neither_left e.gone (nat_le (desired_rank desired.Shutdown) (desired_rank e.desired)) runs.0 in
    let going = neither_right e.gone (nat_le (desired_rank desired.Shutdown) (desired_rank e.desired)) runs.0 in
    let x = (is.served n a h ready inside at).executors e k alive in
    let off : is_unwanted x.0 ≡ false =
    subst (λ (d : Desired). nat_le (desired_rank desired.Shutdown) (desired_rank d) ≡ false) x.4.desired going in
    let live = live-by x.0 (is.goals x.0 x.1) off in
    let over = never-ended w is.known is.quiet.0 x.0 x.1 live in
    let low = x.3.assigned in
    let placed : is_placed x.0 ≡ true =
    both (nat_le (rank state.Assigned) (rank x.0.state)) (nat_le (rank x.0.state) (rank state.Running))
    (grind (arith, nat_tests, low)) (grind (arith, nat_tests, over)) in
    record {
      task = x.0;
      there = x.1;
      number = x.2;
      run = both (is_live x.0 && is_running x.0) (is_on n.id x.0)
          (both (is_live x.0) (is_running x.0) live (runs-well w is x.0 x.1 live placed))
          (is-on-same x.0.node n.id x.3.node);
      runs = runs-on w is x.0 x.1 (aimed-well w is x.0 x.1 live) e x.4.desired runs;
    }

running-test : (e : Executor) → e.state ≡ state.Running → is_executor_running e ≡ true
running-test e runs = subst (λ (s : TaskState). (rank s == rank state.Running) ≡ true) (sym runs) refl

-- its task's number is one of those that run on the node
run-number : (w : World) (n : Node) (e : Executor) (k : ℕ) → IsInWork w n e → e.task ≡ k →
    Has (tasks_run_on w.tables n.id) k
run-number w n e k work same =
    subst (λ (j : ℕ). Has (tasks_run_on w.tables n.id) j) (work.number ∙ same)
    (Has-map task_id (filter (is_run_on n.id) w.tables.tasks) work.task
    (Has-filter (is_run_on n.id) w.tables.tasks work.task work.there work.run))

-- a task that runs on the node has an executor in hand
run-hosted : (w : World) → Calm w → (n : Node) (a : NodeAgent) → Has w.tables.nodes n → is_ready n.state ≡ true →
    n.remote ≡ false → row_at agent_node n.id w.agents ≡ Some a → (x : Task) → Has w.tables.tasks x →
    is_run_on n.id x ≡ true → IsHosted w a x
run-hosted w is n a h ready inside at x there run =
    let running =
    second_so (is_live x) (is_running x) (first_so (is_live x && is_running x) (is_on n.id x) run) in
    let level : rank x.state ≡ rank state.Running = grind (arith, nat_tests, running) in
    hosted w is n a x h ready inside at there
    (record {
      node = on-is x.node n.id (second_so (is_live x && is_running x) (is_on n.id x) run);
      assigned = omega (arith, level);
    })
    (omega (arith, level))

hand-number : (w : World) (a : NodeAgent) (x : Task) (k : ℕ) → IsHosted w a x → x.id ≡ k → Has (tasks_in_hand a) k
hand-number w a x k e same =
    let place = Has-from_row_at executor_task x.id a.executors e.executor e.at in
    subst (λ (j : ℕ). Has (tasks_in_hand a) j) (place.1 ∙ same)
    (Has-map executor_task (filter is_in_hand a.executors) e.executor
    (Has-filter is_in_hand a.executors e.executor place.0 e.hand))

matched-agent : (w : World) → Calm w → (n : Node) (a : NodeAgent) → Has w.tables.nodes n → is_ready n.state ≡ true →
    n.remote ≡ false → row_at agent_node n.id w.agents ≡ Some a → matches_agent w.tables a ≡ true
matched-agent w is n a h ready inside at =
    both (list_all is_executor_running (filter is_in_hand a.executors))
    (pointwise same_number (tasks_in_hand a) (tasks_run_on w.tables a.node))
    (all-pass is_executor_running (filter is_in_hand a.executors)
    (λ e k.
    let row = Has-filter_cases is_in_hand a.executors e k in
    running-test e (in-work w is n a h ready inside at e row.0 row.1).runs))
    (each-same (tasks_in_hand a) (tasks_run_on w.tables a.node)
    (subst (λ (k : ℕ). tasks_in_hand a ≡ tasks_run_on w.tables k) (sym home.1) numbers))
  where
    home : Has w.agents a × (a.node ≡ n.id)
    home = Has-from_row_at agent_node n.id w.agents a at

    to : (k : ℕ) → Has (tasks_in_hand a) k → Has (tasks_run_on w.tables n.id) k
    to k m =
        let from = Has-map_cases executor_task (filter is_in_hand a.executors) k m in
        let row = Has-filter_cases is_in_hand a.executors from.0 from.1 in
        run-number w n from.0 k (in-work w is n a h ready inside at from.0 row.0 row.1) from.2

    back : (k : ℕ) → Has (tasks_run_on w.tables n.id) k → Has (tasks_in_hand a) k
    back k m =
        let from = Has-map_cases task_id (filter (is_run_on n.id) w.tables.tasks) k m in
        let row = Has-filter_cases (is_run_on n.id) w.tables.tasks from.0 from.1 in
        hand-number w a from.0 k (run-hosted w is n a h ready inside at from.0 row.0 row.1) from.2

    numbers : tasks_in_hand a ≡ tasks_run_on w.tables n.id
    numbers =
        same-from 0 (tasks_in_hand a) (tasks_run_on w.tables n.id)
        (keys-rise executor_task is_in_hand 1 w.tables.next_id 0 a.executors (omega arith)
        (is.known.gives.agents a home.0).executors.rises)
        (keys-rise task_id (is_run_on n.id) 1 w.tables.next_id 0 w.tables.tasks (omega arith)
        is.known.orderly.tasks) to back

matched-node : (w : World) → Calm w → (n : Node) → Has w.tables.nodes n → is_matched_node w n ≡ true
matched-node w is n h = go (is_ready n.state) refl n.remote refl
  where
    go : (b : Bool) → is_ready n.state ≡ b → (r : Bool) → n.remote ≡ r → is_matched_node w n ≡ true
    go false off r out =
        or_left (not (is_ready n.state) || n.remote) (is_row_and agent_node (matches_agent w.tables) w.agents n.id)
        (or_left (not (is_ready n.state)) n.remote (not_from_false (is_ready n.state) off))
    go true ready true out =
        or_left (not (is_ready n.state) || n.remote) (is_row_and agent_node (matches_agent w.tables) w.agents n.id)
        (or_right (not (is_ready n.state)) n.remote out)
    go true ready false inside =
        let a = agent-of w is n h inside in
        or_right (not (is_ready n.state) || n.remote) (is_row_and agent_node (matches_agent w.tables) w.agents n.id)
        (some-and (matches_agent w.tables) (row_at agent_node n.id w.agents) a.0 a.1
        (matched-agent w is n a.0 h ready inside a.1))

-- Live tasks.

-- its executor runs, where its node is inside
executed : (w : World) → Calm w → (x : Task) → Has w.tables.tasks x → is_live x ≡ true → (p : IsPlacedAt w x) →
    is_executed w x p.node ≡ true
executed w is x h live p = go p.node.remote refl
  where
    go : (r : Bool) → p.node.remote ≡ r → is_executed w x p.node ≡ true
    go true out = or_left p.node.remote (is_row_and agent_node (runs_task x.id) w.agents p.node.id) out
    go false inside =
        let a = agent-of w is p.node p.there inside in
        let ready = live-ready w is x h live p in
        let e = hosted w is p.node a.0 x p.there ready inside a.1 h p.on p.high in
        let runs = runs-on w is x h (aimed-well w is x h live) e.executor e.of.desired e.runs in
        or_right p.node.remote (is_row_and agent_node (runs_task x.id) w.agents p.node.id)
        (some-and (runs_task x.id) (row_at agent_node p.node.id w.agents) a.0 a.1
        (some-and is_executor_running (row_at executor_task x.id a.0.executors) e.executor e.at
        (running-test e.executor runs)))

running-well : (w : World) → Calm w → (s : Service) (x : Task) → Has w.tables.tasks x → is_live x ≡ true →
    is_placed x ≡ true → is_node_and w.tables (is_good_for s) x ≡ true → runs_well w s x ≡ true
running-well w is s x h live placed good =
    let p = placed-at w is x h placed in
    let good_here : is_good_for s p.node ≡ true =
    ap (λ (o : Option Node). is_some_and (is_good_for s) o) (sym (node-found w is.known p.node p.there))
    ∙ ap (λ (o : Option ℕ). is_some_and (is_row_and node_id (is_good_for s) w.tables.nodes) o) (sym p.on.node) ∙ good in
    both (is_running x) (is_node_and w.tables (runs_well_on w s x) x) (runs-well w is x h live placed)
    (some-and (is_row_and node_id (runs_well_on w s x) w.tables.nodes) x.node p.node.id p.on.node
    (some-and (runs_well_on w s x) (row_at node_id p.node.id w.tables.nodes) p.node
    (node-found w is.known p.node p.there)
    (both (is_good_for s p.node) (is_executed w x p.node) good_here (executed w is x h live p))))

well : (w : World) → Calm w → SayWhy w → (s : Service) (x : Task) → Has w.tables.tasks x → is_live x ≡ true →
    row_at service_id x.service w.tables.services ≡ Some s → StandsWell w s x → is_well w s x ≡ true
well w is why s x h live of stands =
    both (is_clean s x && is_aimed x)
    (runs_well w s x || is_unplaceable w.tables x || is_unprovided w.tables s x)
    (both (is_clean s x) (is_aimed x) stands.clean aim) (go (is_below_assigned x) refl)
  where
    aim : is_aimed x ≡ true
    aim =
        subst (λ (d : Desired). (desired_rank x.desired == desired_rank d) ≡ true) (aimed-well w is x h live)
        (grind (arith, nat_tests))

    turn : (a b c : Bool) → (b || c) ≡ true → (a || b || c) ≡ true
    turn true b c e = refl
    turn false b c e = e

    go : (b : Bool) → is_below_assigned x ≡ b →
        (runs_well w s x || is_unplaceable w.tables x || is_unprovided w.tables s x) ≡ true
    go true below =
        turn (runs_well w s x) (is_unplaceable w.tables x) (is_unprovided w.tables s x) (why x s h live of below)
    go false up =
        let over = stands.ended in
        let placed : is_placed x ≡ true =
        both (nat_le (rank state.Assigned) (rank x.state)) (nat_le (rank x.state) (rank state.Running))
        (grind (arith, nat_tests, up)) (grind (arith, nat_tests, over)) in
        or_left (runs_well w s x || is_unplaceable w.tables x) (is_unprovided w.tables s x)
        (or_left (runs_well w s x) (is_unplaceable w.tables x)
        (running-well w is s x h live placed (stands.node placed)))

-- Services.

service-found : (w : World) → Calm w → (s : Service) → Has w.tables.services s →
    row_at service_id s.id w.tables.services ≡ Some s
service-found w is s h =
    found service_id w.tables.next_id s.id w.tables.services (λ v. ⊤) is.known.orderly.services
    (record { row = s; there = h; id_is = refl; fact = tt })

place-well : (w : World) → Calm w → SayWhy w → AreAlone w → (s : Service) (k : ℕ) → Has w.tables.services s →
    is_place_well w s k ≡ true
place-well w is why alone s k h = go (has_live w.tables s k) refl
  where
    one-well : has_live w.tables s k ≡ true → is_one_well w s (live_tasks w.tables s k) ≡ true
    one-well some =
        let one = alone s k h some in
        let x = one.0 in
        let there : Has (live_tasks w.tables s k) x =
        subst (λ (xs : List Task). Has xs x) (sym one.1) (inl refl) in
        let member = Has-filter_cases is_live (place_tasks w.tables s k) x there in
        let inside = Has-filter_cases (is_in_place s (place_at s.spec.mode k)) w.tables.tasks x member.0 in
        let counts = place-counts s (place_at s.spec.mode k) x inside.1 in
        let of : row_at service_id x.service w.tables.services ≡ Some s =
        ap (λ (j : ℕ). row_at service_id j w.tables.services) (counts-of s x counts) ∙ service-found w is s h in
        subst (λ (xs : List Task). is_one_well w s xs ≡ true) (sym one.1)
        (well w is why s x inside.0 member.1 of one.2)

    go : (b : Bool) → has_live w.tables s k ≡ b → is_place_well w s k ≡ true
    go true some = or_right (not (has_live w.tables s k)) (is_one_well w s (live_tasks w.tables s k)) (one-well some)
    go false none =
        or_left (not (has_live w.tables s k)) (is_one_well w s (live_tasks w.tables s k))
        (not_from_false (has_live w.tables s k) none)

matched-service : (w : World) → Calm w → SayWhy w → AreAlone w → HasPlaces w → (s : Service) →
    Has w.tables.services s → is_matched_service w s ≡ true
matched-service w is why alone has s h =
    both (matches_mode w.tables s s.spec.mode) (list_all (is_place_well w s) (held_places w.tables s)) (has s h)
    (all-pass (is_place_well w s) (held_places w.tables s) (λ k j. place-well w is why alone s k h))

matched-world : (w : World) → Calm w → SayWhy w → AreAlone w → HasPlaces w → NothingElse w → matches_world w ≡ true
matched-world w is why alone has nothing =
    both (list_all (is_matched_service w) w.tables.services && list_all (stands_somewhere w.tables) w.tables.tasks)
    (list_all (is_matched_node w) w.tables.nodes)
    (both (list_all (is_matched_service w) w.tables.services) (list_all (stands_somewhere w.tables) w.tables.tasks)
    (all-pass (is_matched_service w) w.tables.services (λ s h. matched-service w is why alone has s h)) nothing)
    (all-pass (is_matched_node w) w.tables.nodes (λ n h. matched-node w is n h))

pub settled-matches : ReconciliationLaw
settled-matches h legal settled =
    let rest = settled-rests (replay h) settled in
    let quiet = settled-quiet (replay h) settled in
    both (matches_world (replay h)) (list_all (are_closings_right h (replay h).tables) (replay h).tables.services)
    (matched-world (replay h) (calm h legal quiet) (unmet h legal rest) (one-live-task h legal settled)
    (places h legal rest) (nothing-else h legal rest))
    (closed-places h legal settled)

pub settled-matched : (w : World) → settle_answer w ≡ settle.Settled → IsMatched w
settled-matched w settled h legal is = settled-matches h legal (subst (λ (v : World). settle_answer v ≡ settle.Settled) is settled)
