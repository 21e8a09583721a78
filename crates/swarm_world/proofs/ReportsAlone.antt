-- A report of a task from ASSIGNED on changes nothing that another node's agent looks at.
use Rattle.std.proofs.Common.{◌≡◌, ◌∙◌, ◌∷◌, ◌+◌, ◌≤◌, ℕ, Bool, true, false, cond, List, [], Option, Some, None, ap, arith, filter, inl, inr, map, nat_le, refl, subst, sym}
use Rattle.std.proofs.lemmas.Bool.Decides.{nat_tests}
use Rattle.std.specs.Option.{option_map}
use Rattle.std.specs.Prelude.{◌&&◌, ◌==◌, is_some, nat_lt}
use Rattle.swarm_model.specs.History.{effect}
use Rattle.swarm_objects.proofs.RowLemmas.{Has-from_row_at, row_at-map}
use Rattle.swarm_objects.specs.Agents.Messages.{assigned, change_executor, due_set, is_assigned_on, next_message, sent_of}
use Rattle.swarm_objects.specs.Changes.{in_state, raised_to}
use Rattle.swarm_objects.specs.Loops.Agents.{executor_at, reported_by, told}
use Rattle.swarm_objects.specs.Rows.{Has, agent_node, change_row, executor_task, has_row, on_row, row_at, sent_node, session_node, task_id}
use Rattle.swarm_objects.specs.Tasks.Words.{is_on}
use Rattle.swarm_objects.specs.Values.Ranks.{rank}
use Rattle.swarm_objects.specs.World.{Tables, World}
use Rattle.swarm_objects.specs.declared.agents.Executor.{Executor}
use Rattle.swarm_objects.specs.declared.agents.NodeAgent.{NodeAgent}
use Rattle.swarm_objects.specs.declared.duties.Duty.TheVariants as duty
use Rattle.swarm_objects.specs.declared.messages.Assigned.{Assigned}
use Rattle.swarm_objects.specs.declared.messages.NodeSent.{NodeSent}
use Rattle.swarm_objects.specs.declared.tasks.Task.{Task}
use Rattle.swarm_objects.specs.declared.tasks.TaskState.TheVariants as state
use Rattle.swarm_objects.specs.declared.tasks.TaskState.{TaskState}
use Rattle.swarm_world.proofs.AgentsAlone.{TurnsAlone, one-agent}
use Rattle.swarm_world.proofs.AgentsShown.{ShowsNoMore, same-tables}

-- each task with this id is at least ASSIGNED
abbrev pub IsPlaced : Tables → ℕ → Type 0
IsPlaced t id = (y : Task) → Has t.tasks y → y.id ≡ id → rank state.Assigned ≤ rank y.state

-- What is due on a node stays.

over : (least low high : ℕ) → least ≤ low → nat_lt low high ≡ true → nat_le least high ≡ nat_le least low
over least low high up above = grind (arith, nat_tests)

raised-same : (version clock node : ℕ) (s : TaskState) (x : Task) → rank state.Assigned ≤ rank x.state →
    (is_assigned_on node (raised_to version clock s x) ≡ is_assigned_on node x)
    × (assigned (raised_to version clock s x) ≡ assigned x)
raised-same version clock node s x up = go (nat_lt (rank x.state) (rank s)) refl
  where
    go : (b : Bool) → nat_lt (rank x.state) (rank s) ≡ b →
        (is_assigned_on node (cond b (in_state version clock s x) x) ≡ is_assigned_on node x)
        × (assigned (cond b (in_state version clock s x) x) ≡ assigned x)
    go true above =
        (ap (λ b. b && is_on node x) (over (rank state.Assigned) (rank x.state) (rank s) up above), refl)
    go false above = (refl, refl)

-- one row of a list, filtered and seen
one-same : {X Y : Type 0} (p : X → Bool) (f : X → Y) (x y : X) (xs ys : List X) → p y ≡ p x → f y ≡ f x →
    map f (filter p ys) ≡ map f (filter p xs) → map f (filter p (y ∷ ys)) ≡ map f (filter p (x ∷ xs))
one-same p f x y xs ys test value rest =
    ap (λ b. map f (cond b (y ∷ filter p ys) (filter p ys))) test ∙ go (p x)
  where
    go : (b : Bool) → map f (cond b (y ∷ filter p ys) (filter p ys)) ≡ map f (cond b (x ∷ filter p xs) (filter p xs))
    go true = ap (λ z. z ∷ map f (filter p ys)) value ∙ ap (λ l. f x ∷ l) rest
    go false = rest

due-same : (k version clock node : ℕ) (s : TaskState) (rows : List Task) →
    ((y : Task) → Has rows y → y.id ≡ k → rank state.Assigned ≤ rank y.state) →
    map assigned (filter (is_assigned_on node) (change_row task_id k (raised_to version clock s) rows))
    ≡ map assigned (filter (is_assigned_on node) rows)
due-same k version clock node s [] placed = refl
due-same k version clock node s (x ∷ rows) placed =
    go (x.id == k) refl (due-same k version clock node s rows (λ y h e. placed y (inr h) e))
  where
    below : List Task
    below = change_row task_id k (raised_to version clock s) rows

    go : (b : Bool) → (x.id == k) ≡ b →
        map assigned (filter (is_assigned_on node) (change_row task_id k (raised_to version clock s) rows))
        ≡ map assigned (filter (is_assigned_on node) rows) →
        map assigned (filter (is_assigned_on node)
        (cond b (raised_to version clock s x) x ∷ change_row task_id k (raised_to version clock s) rows))
        ≡ map assigned (filter (is_assigned_on node) (x ∷ rows))
    go true is rest =
        let same = raised-same version clock node s x (placed x (inl refl) (grind (arith, nat_tests, is))) in
        one-same (is_assigned_on node) assigned x (raised_to version clock s x) rows below same.0 same.1 rest
    go false is rest = one-same (is_assigned_on node) assigned x x rows below refl refl rest

-- No task comes or goes.

raised-id : (version clock : ℕ) (s : TaskState) (x : Task) → (raised_to version clock s x).id ≡ x.id
raised-id version clock s x = go (nat_lt (rank x.state) (rank s))
  where
    go : (b : Bool) → (cond b (in_state version clock s x) x).id ≡ x.id
    go true = refl
    go false = refl

ids-same : (k version clock id : ℕ) (s : TaskState) (rows : List Task) →
    has_row task_id id (change_row task_id k (raised_to version clock s) rows) ≡ has_row task_id id rows
ids-same k version clock id s rows =
    ap is_some (row_at-map task_id id (λ x. cond (x.id == k) (raised_to version clock s x) x) rows (λ x. keeps x (x.id == k)))
    ∙ there (row_at task_id id rows)
  where
    keeps : (x : Task) (b : Bool) → (cond b (raised_to version clock s x) x).id ≡ x.id
    keeps x true = raised-id version clock s x
    keeps x false = refl

    there : (o : Option Task) →
        is_some (option_map (λ (x : Task). cond (x.id == k) (raised_to version clock s x) x) o) ≡ is_some o
    there None = refl
    there (Some x) = refl

-- The report.

-- the executor is of the task
pub executor-of : (w : World) (n x : ℕ) (e : Executor) → executor_at w n x ≡ Some e → e.task ≡ x
executor-of w n x e found = go (row_at agent_node n w.agents) found
  where
    go : (o : Option NodeAgent) → on_row None (λ (a : NodeAgent). row_at executor_task x a.executors) o ≡ Some e → e.task ≡ x
    go None f = absurd cc
    go (Some a) f = (Has-from_row_at executor_task x a.executors e f).1

pub reported-shows : (w v : World) (version x : ℕ) (o : Option Executor) (a : NodeAgent) →
    ((e : Executor) → o ≡ Some e → e.task ≡ x) → IsPlaced w.tables x → v.tables ≡ reported_by version w o →
    v.sent ≡ w.sent → ShowsNoMore v w a
reported-shows w v version x None a of placed tables sent =
    same-tables v w a tables (ap (λ rows. row_at sent_node a.node rows) sent)
reported-shows w v version x (Some e) a of placed tables sent =
    let rows = change_row task_id e.task (raised_to version w.tables.clock e.state) w.tables.tasks in
    let now : v.tables.tasks ≡ rows = ap (λ (t : Tables). t.tasks) tables in
    let due : due_set v.tables a.node ≡ due_set w.tables a.node =
    ap (λ (ts : List Task). map assigned (filter (is_assigned_on a.node) ts)) now
    ∙ due-same e.task version w.tables.clock a.node e.state w.tables.tasks (λ y h is. placed y h (is ∙ of e refl)) in
    record {
      clock = ap (λ (t : Tables). t.clock) tables;
      heartbeat = ap (λ (t : Tables). t.settings.heartbeat) tables;
      session = ap (λ (t : Tables). row_at session_node a.node t.sessions) tables;
      message = λ some.
          subst (λ (ds : List Assigned). is_some (next_message (sent_of w a.node) ds) ≡ true) due
          (subst (λ (s : List NodeSent). is_some (next_message (row_at sent_node a.node s) (due_set v.tables a.node)) ≡ true) sent
          some);
      tasks = λ y there has.
          sym (ap (has_row task_id y.task) now ∙ ids-same e.task version w.tables.clock y.task e.state w.tables.tasks) ∙ has;
    }

pub report-alone : (w : World) (n x : ℕ) → IsPlaced w.tables x → TurnsAlone w (effect w (duty.Report n x)) n
report-alone w n x placed =
    let v = effect w (duty.Report n x) in
    one-agent w v n (λ a. record a { executors = change_executor x told a.executors }) (λ a. refl) refl
    (λ a away. reported-shows w v (w.entries + 1) x (executor_at w n x) a (executor-of w n x) placed refl refl)
