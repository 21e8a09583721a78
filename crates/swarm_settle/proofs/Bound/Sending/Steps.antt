-- What steps of tasks make of all that the nodes are still to be sent: each task that is touched costs one change at most.
use Rattle.std.proofs.Common.{Bool, List, None, Option, Some, [], ap, arith, cond, count_by, eqb, false, refl, true, ℕ, ◌*◌, ◌++◌, ◌+◌, ◌∙◌, ◌∷◌, ◌≡◌, ◌≤◌}
use Rattle.std.proofs.lemmas.Bool.Decides.{nat_tests}
use Rattle.std.specs.List.{sum_by}
use Rattle.std.specs.Option.{option_map}
use Rattle.std.specs.Prelude.{nat_le, ◌&&◌}
use Rattle.swarm_settle.proofs.Bound.Sending.DueRows.{due_of}
use Rattle.swarm_settle.proofs.Bound.Sending.Left.{row_at-left_other}
use Rattle.swarm_settle.proofs.Bound.Sending.Numbers.{count-one, count-tested, count_below}
use Rattle.swarm_settle.proofs.Bound.Sending.Worlds.{home_of, in-numbers, messages-touched, rises-from, same-due}
use Rattle.swarm_settle.specs.Bound.Left.{message_left}
use Rattle.swarm_model.proofs.Laws.GivesOut.{GivesOut}
use Rattle.swarm_model.proofs.Moves.Worlds.{IsOrderly, Moves, orderly-moves}
use Rattle.swarm_objects.proofs.Hearing.{row_at-change_row}
use Rattle.swarm_objects.proofs.RowLemmas.{row_at-map}
use Rattle.swarm_objects.specs.Agents.Messages.{assigned}
use Rattle.swarm_objects.specs.Changes.{change_task, change_where}
use Rattle.swarm_objects.specs.Loops.Reaper.{without_task}
use Rattle.swarm_objects.specs.Rows.{agent_node, is_row_and, is_some_and, row_at, task_id}
use Rattle.swarm_objects.specs.Tasks.New.{with_task}
use Rattle.swarm_objects.specs.Tasks.Words.{is_on}
use Rattle.swarm_objects.specs.Values.Ranks.{rank}
use Rattle.swarm_objects.specs.World.{Tables, World}
use Rattle.swarm_objects.specs.declared.agents.NodeAgent.{NodeAgent}
use Rattle.swarm_objects.specs.declared.tasks.Task.{Task}
use Rattle.swarm_objects.specs.declared.tasks.TaskState.TheVariants as state
use Rattle.swarm_objects.specs.declared.tasks.TaskState.{TaskState}

-- what is due of each task that isn't touched is as it was
abbrev pub DueBut : Tables → Tables → (ℕ → Bool) → Type 0
DueBut t u touched =
    (node k : ℕ) → touched k ≡ false →
    due_of node (row_at task_id k u.tasks) ≡ due_of node (row_at task_id k t.tasks)

-- the agents of the world before are to be sent no more, but for two for each touched task
pub step-messages : (w v : World) (touched : ℕ → Bool) → IsOrderly w → GivesOut w → Moves w v → GivesOut v →
    v.sent ≡ w.sent → DueBut w.tables v.tables touched →
    sum_by (λ (a : NodeAgent). message_left v a.node) w.agents
    ≤ sum_by (λ (a : NodeAgent). message_left w a.node) w.agents + 2 * count_below touched v.tables.next_id
step-messages w v touched orderly gives moves given sent same =
    messages-touched w v touched (home_of w.tables v.tables) v.tables.next_id w.agents
    (in-numbers w v.tables.next_id moves.tables.next orderly gives)
    (in-numbers v v.tables.next_id (omega arith) (orderly-moves w v orderly moves) given) sent
    (same-due w v.tables touched orderly moves.tables same)
    (rises-from agent_node 1 w.tables.next_id 0 w.agents (omega arith) orderly.agents)

-- one task is touched
pub one-messages : (w v : World) (id : ℕ) → IsOrderly w → GivesOut w → Moves w v → GivesOut v → v.sent ≡ w.sent →
    DueBut w.tables v.tables (λ k. eqb k id) →
    sum_by (λ (a : NodeAgent). message_left v a.node) w.agents
    ≤ sum_by (λ (a : NodeAgent). message_left w a.node) w.agents + 2
one-messages w v id orderly gives moves given sent same =
    let most = step-messages w v (λ k. eqb k id) orderly gives moves given sent same in
    let one = count-one id v.tables.next_id in
    omega (arith, most, one)

-- those that pass a test are touched
pub where-messages : (w v : World) (test : Task → Bool) → IsOrderly w → GivesOut w → Moves w v → GivesOut v →
    v.sent ≡ w.sent → DueBut w.tables v.tables (is_row_and task_id test w.tables.tasks) →
    sum_by (λ (a : NodeAgent). message_left v a.node) w.agents
    ≤ sum_by (λ (a : NodeAgent). message_left w a.node) w.agents + 2 * count_by test w.tables.tasks
where-messages w v test orderly gives moves given sent same =
    let most = step-messages w v (is_row_and task_id test w.tables.tasks) orderly gives moves given sent same in
    let numbers = in-numbers w v.tables.next_id moves.tables.next orderly gives in
    let tested = count-tested task_id test 0 v.tables.next_id w.tables.tasks numbers.rises numbers.below in
    omega (arith, most, tested)

-- Steps of tables, one after the other.

pub but-same : (t u : Tables) (touched : ℕ → Bool) → u.tasks ≡ t.tasks → DueBut t u touched
but-same t u touched same node k away = ap (λ (xs : List Task). due_of node (row_at task_id k xs)) same

pub but-then : (t u v : Tables) (touched : ℕ → Bool) → DueBut t u touched → DueBut u v touched → DueBut t v touched
but-then t u v touched first second node k away = second node k away ∙ first node k away

-- one task changes
pub but-task : (t : Tables) (id : ℕ) (f : Task → Task) → ((x : Task) → (f x).id ≡ x.id) →
    DueBut t (change_task id f t) (λ k. eqb k id)
but-task t id f same node k away =
    let other : eqb id k ≡ false = grind (arith, nat_tests, away) in
    ap (due_of node)
    (row_at-change_row task_id id k f t.tasks same
    ∙ ap (λ (b : Bool). cond b (option_map f (row_at task_id k t.tasks)) (row_at task_id k t.tasks)) other)

-- those that pass a test change
pub but-where : (t : Tables) (test : Task → Bool) (f : Task → Task) → ((x : Task) → (f x).id ≡ x.id) →
    DueBut t (change_where test f t) (is_row_and task_id test t.tasks)
but-where t test f same node k away =
    ap (due_of node) (row_at-map task_id k (λ x. cond (test x) (f x) x) t.tasks (λ x. keeps x (test x)))
    ∙ go (row_at task_id k t.tasks) away
  where
    keeps : (x : Task) (b : Bool) → task_id (cond b (f x) x) ≡ task_id x
    keeps x true = same x
    keeps x false = refl

    go : (o : Option Task) → is_some_and test o ≡ false →
        due_of node (option_map (λ x. cond (test x) (f x) x) o) ≡ due_of node o
    go None e = refl
    go (Some x) e = ap (λ (b : Bool). due_of node (Some (cond b (f x) x))) e

-- a change that leaves what is due of each task
pub but-kept : (t : Tables) (id : ℕ) (f : Task → Task) (touched : ℕ → Bool) → ((x : Task) → (f x).id ≡ x.id) →
    ((node : ℕ) (x : Task) → due_of node (Some (f x)) ≡ due_of node (Some x)) → DueBut t (change_task id f t) touched
but-kept t id f touched same kept node k away =
    ap (due_of node) (row_at-change_row task_id id k f t.tasks same) ∙ go (eqb id k) (row_at task_id k t.tasks)
  where
    go : (b : Bool) (o : Option Task) → due_of node (cond b (option_map f o) o) ≡ due_of node o
    go true None = refl
    go true (Some x) = kept node x
    go false o = refl

-- a task comes, which is NEW
row-more : (k : ℕ) (xs : List Task) (new : Task) (node : ℕ) → due_of node (Some new) ≡ None →
    due_of node (row_at task_id k (xs ++ new ∷ [])) ≡ due_of node (row_at task_id k xs)
row-more k [] new node none = go (eqb new.id k)
  where
    go : (b : Bool) → due_of node (cond b (Some new) None) ≡ None
    go true = none
    go false = refl
row-more k (x ∷ xs) new node none = go (eqb x.id k) (row-more k xs new node none)
  where
    go : (b : Bool) → due_of node (row_at task_id k (xs ++ new ∷ [])) ≡ due_of node (row_at task_id k xs) →
        due_of node (cond b (Some x) (row_at task_id k (xs ++ new ∷ [])))
        ≡ due_of node (cond b (Some x) (row_at task_id k xs))
    go true rest = refl
    go false rest = rest

pub but-comes : (t : Tables) (x : Task) (touched : ℕ → Bool) → x.state ≡ state.New → DueBut t (with_task t x) touched
but-comes t x touched new node k away =
    row-more k t.tasks x node
    (ap (λ (s : TaskState). cond (nat_le (rank state.Assigned) (rank s) && is_on node x) (Some (assigned x)) None) new)

-- a task goes
pub but-left : (t : Tables) (id : ℕ) → DueBut t (without_task id t) (λ k. eqb k id)
but-left t id node k away = ap (due_of node) (row_at-left_other task_id id k t.tasks away)
