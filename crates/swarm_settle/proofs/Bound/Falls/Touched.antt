-- Tasks of which more is wanted make the measure smaller, though they are sent anew.
use Rattle.std.proofs.Common.{Bool, List, None, Option, Some, [], ap, arith, cond, false, inl, inr, map, refl, true, ℕ, ◌+◌, ◌*◌, ◌∙◌, ◌∷◌, ◌≡◌, ◌≤◌}
use Rattle.std.proofs.lemmas.List.Sums.{sum_by-cons}
use Rattle.std.specs.Option.{option_map}
use Rattle.std.specs.Prelude.{count_by, sum_by}
use Rattle.swarm_settle.proofs.Bound.AgentParts.{RowsStay, inbox-stays}
use Rattle.swarm_settle.proofs.Bound.Falls.Rows.{has-mapped}
use Rattle.swarm_settle.proofs.Bound.Sending.DueRows.{due_of}
use Rattle.swarm_settle.proofs.Bound.Sending.Numbers.{count-tested, count_below}
use Rattle.swarm_settle.proofs.Bound.Sending.Worlds.{InNumbers, SameDue, home_of, in-numbers, messages-touched, rises-from, same-due}
use Rattle.swarm_settle.proofs.Bound.Sums.{sum-fall, sum-join, sum-le, sum-map}
use Rattle.swarm_settle.specs.Bound.Coming.{coming}
use Rattle.swarm_settle.specs.Bound.Left.{agent_left, executor_left, inbox_left, message_left, task_left}
use Rattle.swarm_settle.specs.Bound.Measure.{measure}
use Rattle.swarm_model.proofs.Laws.GivesOut.{GivesOut}
use Rattle.swarm_model.proofs.Moves.Worlds.{IsOrderly, TablesMove}
use Rattle.swarm_objects.proofs.RowLemmas.{row_at-map}
use Rattle.swarm_objects.specs.Changes.{change_where, with_tables}
use Rattle.swarm_objects.specs.Rows.{Has, RisesFrom, agent_node, is_row_and, is_some_and, row_at, task_id}
use Rattle.swarm_objects.specs.World.{Tables, World}
use Rattle.swarm_objects.specs.declared.agents.NodeAgent.{NodeAgent}
use Rattle.swarm_objects.specs.declared.tasks.Task.{Task}

-- Agents: two more for each task that is touched.

abbrev own_left : World → NodeAgent → ℕ
own_left w a = sum_by executor_left a.executors + inbox_left w a

pub agents-touched : (w v : World) (touched : ℕ → Bool) (home : ℕ → ℕ) (n : ℕ) → InNumbers n w → InNumbers n v →
    v.sent ≡ w.sent → v.agents ≡ w.agents → SameDue w.tables v.tables touched home → RisesFrom agent_node 0 w.agents →
    RowsStay w v →
    sum_by (agent_left v) v.agents ≤ sum_by (agent_left w) w.agents + 2 * count_below touched n
agents-touched w v touched home n is then sent agents same rises stay =
    let own = sum-le (own_left v) (own_left w) w.agents
    (λ a h. omega (arith, inbox-stays w v a a stay refl (λ task e. e))) in
    let messages = messages-touched w v touched home n w.agents is then sent same rises in
    omega (
      arith,
      ap (λ (xs : List NodeAgent). sum_by (agent_left v) xs) agents,
      sum-join (own_left v) (λ a. message_left v a.node) w.agents,
      sum-join (own_left w) (λ a. message_left w a.node) w.agents,
      own,
      messages,
    )

-- Tasks: three less for each.

abbrev one_if : Bool → ℕ
one_if b = cond b 1 0

sum-scale : {X : Type 0} (f : X → ℕ) (xs : List X) → sum_by (λ x. 3 * f x) xs ≡ 3 * sum_by f xs
sum-scale f [] = refl
sum-scale f (x ∷ xs) = omega (arith, sum_by-cons (λ y. 3 * f y) x xs, sum_by-cons f x xs, sum-scale f xs)

pub count-some : {X : Type 0} (test : X → Bool) (xs : List X) (x : X) → Has xs x → test x ≡ true → 1 ≤ count_by test xs
count-some test [] x h e = absurd h
count-some test (y ∷ ys) x (inl same) e =
    omega (arith, sum_by-cons (λ z. one_if (test z)) y ys, ap one_if (ap test same ∙ e))
count-some test (y ∷ ys) x (inr h) e =
    omega (arith, sum_by-cons (λ z. one_if (test z)) y ys, count-some test ys x h e)

abbrev pub touch : (Task → Bool) → (Task → Task) → Task → Task
touch test f x = cond (test x) (f x) x

pub touch-id : (test : Task → Bool) (f : Task → Task) → ((x : Task) → (f x).id ≡ x.id) → (x : Task) → (touch test f x).id ≡ x.id
touch-id test f same x = go (test x)
  where
    go : (b : Bool) → (cond b (f x) x).id ≡ x.id
    go true = same x
    go false = refl

pub tasks-touched : (w : World) (test : Task → Bool) (f : Task → Task) →
    ((x : Task) → Has w.tables.tasks x → test x ≡ true → task_left w (f x) + 3 ≤ task_left w x) →
    sum_by (task_left w) (map (touch test f) w.tables.tasks) + 3 * count_by test w.tables.tasks
    ≤ sum_by (task_left w) w.tables.tasks
tasks-touched w test f each =
    let xs = w.tables.tasks in
    let fall = sum-fall (λ x. task_left w (touch test f x)) (task_left w) (λ x. 3 * one_if (test x)) xs
    (λ x h. go x h (test x) refl) in
    omega (arith, sum-map (task_left w) (touch test f) xs, fall, sum-scale (λ x. one_if (test x)) xs)
  where
    go : (x : Task) → Has w.tables.tasks x → (b : Bool) → test x ≡ b →
        task_left w (cond b (f x) x) + 3 * one_if b ≤ task_left w x
    go x h true e = each x h e
    go x h false e = omega arith

pub due-untouched : (t : Tables) (test : Task → Bool) (f : Task → Task) → ((x : Task) → (f x).id ≡ x.id) → (node k : ℕ) →
    is_row_and task_id test t.tasks k ≡ false →
    due_of node (row_at task_id k (map (touch test f) t.tasks)) ≡ due_of node (row_at task_id k t.tasks)
due-untouched t test f same node k out =
    ap (due_of node) (row_at-map task_id k (touch test f) t.tasks (touch-id test f same)) ∙ go (row_at task_id k t.tasks) out
  where
    go : (o : Option Task) → is_some_and test o ≡ false → due_of node (option_map (touch test f) o) ≡ due_of node o
    go None e = refl
    go (Some x) e = ap (λ (b : Bool). due_of node (Some (cond b (f x) x))) e

-- what each task that passes the test falls by pays for its being sent, and one is left
pub falls-touched : (m : ℕ) (w : World) (test : Task → Bool) (f : Task → Task) → IsOrderly w → GivesOut w →
    IsOrderly (with_tables w (change_where test f w.tables)) → GivesOut (with_tables w (change_where test f w.tables)) →
    TablesMove w.tables (change_where test f w.tables) → ((x : Task) → (f x).id ≡ x.id) →
    ((x : Task) → Has w.tables.tasks x → test x ≡ true → task_left w (f x) + 3 ≤ task_left w x) →
    (x : Task) → Has w.tables.tasks x → test x ≡ true → coming m (change_where test f w.tables) ≤ coming m w.tables →
    measure m (with_tables w (change_where test f w.tables)) + 1 ≤ measure m w
falls-touched m w test f orderly gives then given moves same each x there passes come =
    let t = w.tables in
    let u = change_where test f t in
    let v = with_tables w u in
    let n = t.next_id in
    let is = in-numbers w n (omega arith) orderly gives in
    let after = in-numbers v n (omega arith) then given in
    let touched = is_row_and task_id test t.tasks in
    let due = same-due w u touched orderly moves (λ node k out. due-untouched t test f same node k out) in
    let agents = agents-touched w v touched (home_of t u) n is after refl refl due
    (rises-from agent_node 1 t.next_id 0 w.agents (omega arith) orderly.agents)
    (λ id e. has-mapped task_id id (touch test f) t.tasks (touch-id test f same) ∙ e) in
    let count : count_below touched n ≡ count_by test t.tasks =
    count-tested task_id test 0 n t.tasks is.rises is.below in
    omega (arith, agents, count, tasks-touched w test f each, count-some test t.tasks x there passes, come)
