-- Tables with other tasks: what those that are sent anew fall by pays for it, and what comes was counted.
use Rattle.std.proofs.Common.{Bool, List, None, Option, Some, [], ap, arith, cond, eqb, false, map, refl, true, ℕ, ◌++◌, ◌+◌, ◌*◌, ◌∙◌, ◌∷◌, ◌≡◌, ◌≤◌}
use Rattle.std.proofs.lemmas.List.Sums.{sum_by_push}
use Rattle.std.specs.Prelude.{count_by, nat_le, sum_by, ◌&&◌}
use Rattle.swarm_settle.proofs.Bound.Falls.Creates.{has-pushed, task-most}
use Rattle.swarm_settle.proofs.Bound.Falls.Rows.{has-mapped}
use Rattle.swarm_settle.proofs.Bound.Falls.Touched.{agents-touched, due-untouched, tasks-touched, touch, touch-id}
use Rattle.swarm_settle.proofs.Bound.Sending.DueRows.{due_of}
use Rattle.swarm_settle.proofs.Bound.Sending.Numbers.{count-tested, count_below}
use Rattle.swarm_settle.proofs.Bound.Sending.Worlds.{home_of, in-numbers, rises-from, same-due}
use Rattle.swarm_settle.specs.Bound.Coming.{coming}
use Rattle.swarm_settle.specs.Bound.Left.{task_left}
use Rattle.swarm_settle.specs.Bound.Measure.{measure}
use Rattle.swarm_model.proofs.Laws.GivesOut.{GivesOut, gives-still}
use Rattle.swarm_model.proofs.Moves.EachDuty.{tables-moves}
use Rattle.swarm_model.proofs.Moves.Worlds.{IsOrderly, TablesMove, orderly-moves}
use Rattle.swarm_objects.specs.Agents.Messages.{assigned, is_assigned_on}
use Rattle.swarm_objects.specs.Changes.{with_tables}
use Rattle.swarm_objects.specs.Rows.{Has, agent_node, has_row, is_row_and, row_at, task_id}
use Rattle.swarm_objects.specs.Tasks.Words.{is_on}
use Rattle.swarm_objects.specs.Values.Ranks.{rank}
use Rattle.swarm_objects.specs.World.{Tables, World}
use Rattle.swarm_objects.specs.declared.messages.Assigned.{Assigned}
use Rattle.swarm_objects.specs.declared.tasks.Attempt.{Attempt}
use Rattle.swarm_objects.specs.declared.tasks.Task.{Task}
use Rattle.swarm_objects.specs.declared.tasks.TaskState.TheVariants as state

abbrev pub changed : Tables → ℕ → List Task → List Attempt → Tables
changed t i new a = record t { next_id = i; tasks = new; attempts = a }

-- so many tasks are sent anew, and so many come, one of them at least
pub falls-changed : (m : ℕ) (w : World) (i : ℕ) (new : List Task) (a : List Attempt) (touched : ℕ → Bool) (c e : ℕ) →
    IsOrderly w → GivesOut w → TablesMove w.tables (changed w.tables i new a) →
    ((node k : ℕ) → touched k ≡ false →
    due_of node (row_at task_id k new) ≡ due_of node (row_at task_id k w.tables.tasks)) →
    ((k : ℕ) → has_row task_id k w.tables.tasks ≡ true → has_row task_id k new ≡ true) →
    count_below touched i ≤ c →
    sum_by (task_left w) new + 3 * c ≤ sum_by (task_left w) w.tables.tasks + 46 * e →
    coming m (changed w.tables i new a) + e ≤ coming m w.tables → 1 ≤ c + e →
    measure m (with_tables w (changed w.tables i new a)) + 1 ≤ measure m w
falls-changed m w i new a touched c e orderly gives moves due rows few tasks come some =
    let t = w.tables in
    let u = changed t i new a in
    let v = with_tables w u in
    let then = orderly-moves w v orderly (tables-moves w v moves refl refl refl) in
    let given = gives-still w v moves refl refl gives in
    let agents = agents-touched w v touched (home_of t u) i (in-numbers w i moves.next orderly gives)
    (in-numbers v i (omega arith) then given) refl refl (same-due w u touched orderly moves due)
    (rises-from agent_node 1 t.next_id 0 w.agents (omega arith) orderly.agents) rows in
    omega (arith, agents, few, tasks, come, some)

-- a new task is due nowhere
pub due-new : (node k : ℕ) (xs : List Task) (x : Task) → x.state ≡ state.New →
    due_of node (row_at task_id k (xs ++ x ∷ [])) ≡ due_of node (row_at task_id k xs)
due-new node k [] x new = go (eqb x.id k)
  where
    out : is_assigned_on node x ≡ false
    out = ap (λ s. nat_le (rank state.Assigned) (rank s) && is_on node x) new

    go : (b : Bool) → due_of node (cond b (Some x) None) ≡ None
    go true = ap (λ (z : Bool). cond {A = Option Assigned} z (Some (assigned x)) None) out
    go false = refl
due-new node k (y ∷ ys) x new = go (eqb y.id k) (due-new node k ys x new)
  where
    go : (b : Bool) → due_of node (row_at task_id k (ys ++ x ∷ [])) ≡ due_of node (row_at task_id k ys) →
        due_of node (cond b (Some y) (row_at task_id k (ys ++ x ∷ []))) ≡ due_of node (cond b (Some y) (row_at task_id k ys))
    go true same = refl
    go false same = same

-- some tasks are touched, and a new one comes
pub falls-renewed : (m : ℕ) (w : World) (i : ℕ) (test : Task → Bool) (f : Task → Task) (x : Task) (a : List Attempt) →
    IsOrderly w → GivesOut w →
    TablesMove w.tables (changed w.tables i (map (touch test f) w.tables.tasks ++ x ∷ []) a) →
    ((y : Task) → (f y).id ≡ y.id) → x.state ≡ state.New →
    ((y : Task) → Has w.tables.tasks y → test y ≡ true → task_left w (f y) + 3 ≤ task_left w y) →
    coming m (changed w.tables i (map (touch test f) w.tables.tasks ++ x ∷ []) a) + 1 ≤ coming m w.tables →
    measure m (with_tables w (changed w.tables i (map (touch test f) w.tables.tasks ++ x ∷ []) a)) + 1 ≤ measure m w
falls-renewed m w i test f x a orderly gives moves same new each come =
    let t = w.tables in
    let xs = map (touch test f) t.tasks in
    let is = in-numbers w i moves.next orderly gives in
    let count : count_below (is_row_and task_id test t.tasks) i ≡ count_by test t.tasks =
    count-tested task_id test 0 i t.tasks is.rises is.below in
    falls-changed m w i (xs ++ x ∷ []) a (is_row_and task_id test t.tasks) (count_by test t.tasks) 1 orderly gives moves
    (λ node k out. due-new node k xs x new ∙ due-untouched t test f same node k out)
    (λ k e. has-pushed k xs x (has-mapped task_id k (touch test f) t.tasks (touch-id test f same) ∙ e))
    (omega (arith, count))
    (omega (arith, sum_by_push (task_left w) xs x, tasks-touched w test f each, task-most w x)) come (omega arith)
