-- What was sent to nodes, what waits in inboxes, and executors, are of tasks that these nodes have.
use Rattle.std.proofs.Common.{Bool, List, Option, Some, [], ap, arith, cond, eqb, filter, fold, inl, inr, map, nat_le, not, refl, subst, sym, true, ℕ, ◌<◌, ◌∙◌, ◌∷◌, ◌≡◌, ◌≤◌, ◌⊎◌}
use Rattle.std.proofs.lemmas.Bool.Decides.{nat_tests}
use Rattle.std.specs.List.{list_any}
use Rattle.std.specs.Option.{option_eq}
use Rattle.std.specs.Prelude.{None, [], false, ⊤, ◌&&◌, ◌==◌}
use Rattle.swarm_model.proofs.Base.IsDuty.{IsDuty}
use Rattle.swarm_model.proofs.Moves.EachDuty.{duty-moves}
use Rattle.swarm_model.proofs.Moves.Rows.{RisesBetween, becomes-cases, between-filter, between-has, between-map, between-one, between-with_row, rows-stay}
use Rattle.swarm_model.proofs.Moves.Sessions.{with_row-cases}
use Rattle.swarm_model.proofs.Moves.Worlds.{IsOrderly, TablesMove, TaskMoves}
use Rattle.swarm_objects.specs.Agents.NodeAgents.{lost}
use Rattle.swarm_model.specs.Laws.Rises.{KeepsNode}
use Rattle.swarm_objects.proofs.RowLemmas.{Has-filter_cases, Has-flat_map_cases, Has-map_cases}
use Rattle.swarm_objects.proofs.Tests.{first_so, second_so}
use Rattle.swarm_objects.specs.Agents.Executors.{at_time, early_step, ending, executor_step, is_early, is_late, is_to_go, late, late_step, moved, stopped_at, wants_to_stop}
use Rattle.swarm_objects.specs.Agents.Messages.{apply_change, assigned, assigned_task, change_executor, change_of, changes_of, due_set, gone_executor, is_assigned_on, is_sent, left_out, message_for, message_with, names, new_executor, next_message, sent_of, tasks_of_either, update_of, with_sent}
use Rattle.swarm_objects.specs.Duties.{effect_by}
use Rattle.swarm_objects.specs.Loops.Agents.{after_pull, begun, received, stepped, take_in, told}
use Rattle.swarm_objects.specs.Nodes.Sessions.{registered}
use Rattle.swarm_objects.specs.Rows.{Has, agent_node, change_row, drop_row, executor_task, has_row, on_row, sent_node, task_id, with_row}
use Rattle.swarm_objects.specs.Same.{same_number}
use Rattle.swarm_objects.specs.Tasks.Words.{is_on}
use Rattle.swarm_objects.specs.Values.Ranks.{rank}
use Rattle.swarm_objects.specs.World.{Tables, World}
use Rattle.swarm_objects.specs.declared.agents.Executor.{Executor}
use Rattle.swarm_objects.specs.declared.agents.NodeAgent.{NodeAgent}
use Rattle.swarm_objects.specs.declared.duties.Duty.TheVariants as duty
use Rattle.swarm_objects.specs.declared.duties.Duty.{Duty}
use Rattle.swarm_objects.specs.declared.messages.AssignChange.TheVariants as assign
use Rattle.swarm_objects.specs.declared.messages.AssignChange.{AssignChange}
use Rattle.swarm_objects.specs.declared.messages.Message.{Message}
use Rattle.swarm_objects.specs.declared.messages.NodeSent.{NodeSent}
use Rattle.swarm_objects.specs.declared.tasks.Task.{Task}
use Rattle.swarm_objects.specs.declared.tasks.TaskState.TheVariants as state
use Rattle.swarm_objects.specs.declared.messages.Assigned.{Assigned}
use Rattle.swarm_objects.specs.declared.tasks.TaskState.{TaskState}
use Rattle.swarm_objects.specs.declared.templates.End.TheVariants as end
use Rattle.swarm_objects.specs.declared.templates.End.{End}

-- the task has a number below the next one, and where its row is there, that is on the node, at least ASSIGNED
pub record IsGiven (t : Tables) (node task : ℕ) : Type 0 where
  pub low : 1 ≤ task
  pub below : task < t.next_id
  pub there : (x : Task) → Has t.tasks x → x.id ≡ task → (x.node ≡ Some node) × (rank state.Assigned ≤ rank x.state)

abbrev pub AreGiven : Tables → ℕ → List Assigned → Type 0
AreGiven t node given = (a : Assigned) → Has given a → IsGiven t node a.task

abbrev pub IsGivenChange : Tables → ℕ → AssignChange → Type 0
IsGivenChange t node (assign.Update a) = IsGiven t node a.task
IsGivenChange t node (assign.Remove task) = ⊤

abbrev pub AreGivenChanges : Tables → ℕ → List AssignChange → Type 0
AreGivenChanges t node changes = (c : AssignChange) → Has changes c → IsGivenChange t node c

abbrev pub IsGivenInbox : Tables → ℕ → Option Message → Type 0
IsGivenInbox t node None = ⊤
IsGivenInbox t node (Some m) = AreGivenChanges t node m.changes

-- executors by rising task, each of a task of the node
pub record AreExecutors (t : Tables) (node : ℕ) (executors : List Executor) : Type 0 where
  pub rises : RisesBetween executor_task 1 t.next_id executors
  pub given : (e : Executor) → Has executors e → IsGiven t node e.task

pub record IsGivenAgent (t : Tables) (a : NodeAgent) : Type 0 where
  pub executors : AreExecutors t a.node a.executors
  pub inbox : IsGivenInbox t a.node a.inbox

abbrev pub AreGivenSent : Tables → List NodeSent → Type 0
AreGivenSent t sent = (s : NodeSent) → Has sent s → AreGiven t s.node s.tasks

abbrev pub AreGivenAgents : Tables → List NodeAgent → Type 0
AreGivenAgents t agents = (a : NodeAgent) → Has agents a → IsGivenAgent t a

pub record GivesOut (w : World) : Type 0 where
  pub sent : AreGivenSent w.tables w.sent
  pub agents : AreGivenAgents w.tables w.agents

-- Tables that move.

pub kept-node : (held now : Option ℕ) (node : ℕ) → KeepsNode held now → held ≡ Some node → now ≡ Some node
kept-node None now node k e = absurd cc
kept-node (Some n) now node k e = k ∙ e

pub given-moves : (t u : Tables) (node task : ℕ) → TablesMove t u → IsGiven t node task → IsGiven u node task
given-moves t u node task m g = record {
  low = g.low;
  below = omega (arith, g.below, m.next);
  there = λ y h e. go y e (becomes-cases TaskMoves m.tasks.more t.tasks u.tasks m.tasks.rows y h);
}
  where
    go : (y : Task) → y.id ≡ task → ((x : Task) × Has t.tasks x × TaskMoves x y) ⊎ Has m.tasks.more y →
        (y.node ≡ Some node) × (rank state.Assigned ≤ rank y.state)
    go y e (inl r) =
        let old = g.there r.0 r.1 (sym r.2.id ∙ e) in
        (kept-node r.0.node y.node node r.2.rises.node old.0, omega (arith, old.1, r.2.rises.state))
    go y e (inr new) =
        let above = between-has task_id t.next_id u.next_id m.tasks.more y m.tasks.fresh new in
        absurd (omega (arith, above.0, g.below, e))

change-moves : (t u : Tables) (node : ℕ) (c : AssignChange) → TablesMove t u → IsGivenChange t node c →
    IsGivenChange u node c
change-moves t u node (assign.Update a) m g = given-moves t u node a.task m g
change-moves t u node (assign.Remove task) m g = tt

inbox-moves : (t u : Tables) (node : ℕ) (inbox : Option Message) → TablesMove t u → IsGivenInbox t node inbox →
    IsGivenInbox u node inbox
inbox-moves t u node None m g = tt
inbox-moves t u node (Some message) m g = λ c h. change-moves t u node c m (g c h)

agent-given : (t u : Tables) (a : NodeAgent) → TablesMove t u → IsGivenAgent t a → IsGivenAgent u a
agent-given t u a m g = record {
  executors = record {
    rises = rows-stay executor_task t.next_id u.next_id a.executors m.next g.executors.rises;
    given = λ e h. given-moves t u a.node e.task m (g.executors.given e h);
  };
  inbox = inbox-moves t u a.node a.inbox m g.inbox;
}

pub sent-given : (t u : Tables) (sent : List NodeSent) → TablesMove t u → AreGivenSent t sent → AreGivenSent u sent
sent-given t u sent m g = λ s h a k. given-moves t u s.node a.task m (g s h a k)

pub agents-given : (t u : Tables) (agents : List NodeAgent) → TablesMove t u → AreGivenAgents t agents →
    AreGivenAgents u agents
agents-given t u agents m g = λ a h. agent-given t u a m (g a h)

-- where all that stands beside the tables stays
pub gives-still : (w v : World) → TablesMove w.tables v.tables → v.sent ≡ w.sent → v.agents ≡ w.agents → GivesOut w →
    GivesOut v
gives-still w v m sent agents g = record {
  sent = subst (λ xs. AreGivenSent v.tables xs) (sym sent) (sent-given w.tables v.tables w.sent m g.sent);
  agents = subst (λ xs. AreGivenAgents v.tables xs) (sym agents) (agents-given w.tables v.tables w.agents m g.agents);
}

-- What a node is sent.

pub on-is : (held : Option ℕ) (node : ℕ) → option_eq same_number held (Some node) ≡ true → held ≡ Some node
on-is None node e = absurd cc
on-is (Some n) node e = let same : n ≡ node = grind (arith, nat_tests, e) in ap (λ (k : ℕ). Some k) same

pub due-given : (t : Tables) (node : ℕ) → RisesBetween task_id 1 t.next_id t.tasks → AreGiven t node (due_set t node)
due-given t node rises a h =
    let from = Has-map_cases assigned (filter (is_assigned_on node) t.tasks) a h in
    let at = Has-filter_cases (is_assigned_on node) t.tasks from.0 from.1 in
    let number = between-has task_id 1 t.next_id t.tasks from.0 rises at.0 in
    let task : from.0.id ≡ a.task = ap (λ (b : Assigned). b.task) from.2 in
    let up = first_so (nat_le (rank state.Assigned) (rank from.0.state)) (is_on node from.0) at.1 in
    let on = second_so (nat_le (rank state.Assigned) (rank from.0.state)) (is_on node from.0) at.1 in
    record {
      low = omega (arith, task, number.0);
      below = omega (arith, task, number.1);
      there = λ x k e.
          let is : from.0 ≡ x = between-one task_id 1 t.next_id t.tasks from.0 x rises at.0 k (task ∙ sym e) in
          subst (λ (z : Task). (z.node ≡ Some node) × (rank state.Assigned ≤ rank z.state)) is
          (on-is from.0.node node on, grind (arith, nat_tests, up));
    }

updates-given : (t : Tables) (node : ℕ) (due : List Assigned) → AreGiven t node due →
    AreGivenChanges t node (map assign.Update due)
updates-given t node due g c h =
    let from = Has-map_cases assign.Update due c h in subst (IsGivenChange t node) from.2 (g from.0 from.1)

update-given : (t : Tables) (node task : ℕ) (due : List Assigned) → AreGiven t node due →
    AreGivenChanges t node (update_of due task)
update-given t node task [] g c h = absurd h
update-given t node task (a ∷ rest) g c h =
    go (eqb a.task task) h (update-given t node task rest (λ b k. g b (inr k)) c)
  where
    go : (b : Bool) → Has (cond b (assign.Update a ∷ []) (update_of rest task)) c →
        (Has (update_of rest task) c → IsGivenChange t node c) → IsGivenChange t node c
    go true (inl e) others = subst (IsGivenChange t node) e (g a (inl refl))
    go true (inr k) others = absurd k
    go false k others = others k

change-given : (t : Tables) (node : ℕ) (sent due : List Assigned) (task : ℕ) → AreGiven t node due →
    AreGivenChanges t node (change_of sent due task)
change-given t node sent due task g c h = go (not (has_row assigned_task task due)) h
  where
    go : (b : Bool) →
        Has (cond b (assign.Remove task ∷ []) (update_of (filter (λ a. not (is_sent sent a)) due) task)) c →
        IsGivenChange t node c
    go true (inl e) = subst (IsGivenChange t node) e tt
    go true (inr k) = absurd k
    go false k =
        update-given t node task (filter (λ a. not (is_sent sent a)) due)
        (λ a j. g a (Has-filter_cases (λ b. not (is_sent sent b)) due a j).0) c k

changes-given : (t : Tables) (node : ℕ) (sent due : List Assigned) → AreGiven t node due →
    AreGivenChanges t node (changes_of sent due)
changes-given t node sent due g c h =
    let from = Has-flat_map_cases (change_of sent due) (tasks_of_either sent due) c h in
    change-given t node sent due from.0 g c from.2

with-given : (t : Tables) (node count : ℕ) (changes : List AssignChange) → AreGivenChanges t node changes →
    IsGivenInbox t node (message_with count changes)
with-given t node count [] g = tt
with-given t node count (c ∷ cs) g = g

next-given : (t : Tables) (node : ℕ) (sent : Option NodeSent) → AreGiven t node (due_set t node) →
    IsGivenInbox t node (next_message sent (due_set t node))
next-given t node None g = updates-given t node (due_set t node) g
next-given t node (Some s) g =
    with-given t node s.count (changes_of s.tasks (due_set t node)) (changes-given t node s.tasks (due_set t node) g)

pub message-given : (w : World) (node : ℕ) → IsOrderly w → IsGivenInbox w.tables node (message_for w node)
message-given w node is = next-given w.tables node (sent_of w node) (due-given w.tables node is.tasks)

pub with-sent-given : (w : World) (node : ℕ) (m : Message) → IsOrderly w → AreGivenSent w.tables w.sent →
    AreGivenSent w.tables (with_sent w node m).sent
with-sent-given w node m is g s h =
    let new : NodeSent = record { node = node; count = m.results_in; tasks = due_set w.tables node } in
    go new refl refl (with_row-cases sent_node new w.sent s h)
  where
    go : (new : NodeSent) → new.node ≡ node → new.tasks ≡ due_set w.tables node → (new ≡ s) ⊎ Has w.sent s →
        AreGiven w.tables s.node s.tasks
    go new on tasks (inl e) =
        subst (λ (z : NodeSent). AreGiven w.tables z.node z.tasks) e
        (subst (λ (k : ℕ). AreGiven w.tables k new.tasks) (sym on)
        (subst (λ xs. AreGiven w.tables node xs) (sym tasks) (due-given w.tables node is.tasks)))
    go new on tasks (inr k) = g s k

-- What an agent makes of it.

pub mapped : (t : Tables) (node : ℕ) (f : Executor → Executor) (es : List Executor) →
    ((e : Executor) → (f e).task ≡ e.task) →
    AreExecutors t node es → AreExecutors t node (map f es)
mapped t node f es same g = record {
  rises = between-map executor_task 1 t.next_id f es same g.rises;
  given = λ e h.
      let from = Has-map_cases f es e h in
      subst (λ (z : Executor). IsGiven t node z.task) from.2
      (subst (IsGiven t node) (sym (same from.0)) (g.given from.0 from.1));
}

pub changed : (t : Tables) (node task : ℕ) (f : Executor → Executor) (es : List Executor) →
    ((e : Executor) → (f e).task ≡ e.task) → AreExecutors t node es → AreExecutors t node (change_executor task f es)
changed t node task f es same g =
    mapped t node (λ e. cond (eqb (executor_task e) task) (f e) e) es (λ e. go e (eqb (executor_task e) task)) g
  where
    go : (e : Executor) (b : Bool) → (cond b (f e) e).task ≡ e.task
    go e true = same e
    go e false = refl

pub left : (t : Tables) (node task : ℕ) (es : List Executor) → AreExecutors t node es →
    AreExecutors t node (drop_row executor_task task es)
left t node task es g = record {
  rises = between-filter executor_task 1 t.next_id (λ e. not (executor_task e == task)) es g.rises;
  given = λ e h. g.given e (Has-filter_cases (λ x. not (executor_task x == task)) es e h).0;
}

one-more : (t : Tables) (node clock : ℕ) (a : Assigned) (es : List Executor) → IsGiven t node a.task →
    AreExecutors t node es →
    AreExecutors t node (with_row executor_task (new_executor clock a) es)
one-more t node clock a es is g = record {
  rises = between-with_row executor_task 1 t.next_id (new_executor clock a) es is.low is.below g.rises;
  given = λ e h.
      elim (with_row-cases executor_task (new_executor clock a) es e h) [
        | inl same ↦ subst (λ (z : Executor). IsGiven t node z.task) same is
        | inr k ↦ g.given e k
      ];
}

change-applied : (t : Tables) (node clock : ℕ) (c : AssignChange) (es : List Executor) → IsGivenChange t node c →
    AreExecutors t node es → AreExecutors t node (apply_change clock es c)
change-applied t node clock (assign.Update a) es is g = go (has_row executor_task a.task es)
  where
    go : (b : Bool) →
        AreExecutors t node (cond b (change_executor a.task (λ e. record e { desired = a.desired }) es)
        (with_row executor_task (new_executor clock a) es))
    go true = changed t node a.task (λ e. record e { desired = a.desired }) es (λ e. refl) g
    go false = one-more t node clock a es is g
change-applied t node clock (assign.Remove task) es is g = changed t node task gone_executor es (λ e. refl) g

all-applied : (t : Tables) (node clock : ℕ) (changes : List AssignChange) (es : List Executor) →
    AreGivenChanges t node changes → AreExecutors t node es →
    AreExecutors t node (fold (apply_change clock) es changes)
all-applied t node clock [] es is g = g
all-applied t node clock (c ∷ cs) es is g =
    all-applied t node clock cs (apply_change clock es c) (λ d h. is d (inr h))
    (change-applied t node clock c es (is c (inl refl)) g)

left-task : (m : Message) (e : Executor) → (left_out m e).task ≡ e.task
left-task m e = go (m.complete && not (list_any (names e.task) m.changes))
  where
    go : (b : Bool) → (cond b (gone_executor e) e).task ≡ e.task
    go true = refl
    go false = refl

taken : (t : Tables) (clock : ℕ) (inbox : Option Message) (a : NodeAgent) → IsGivenInbox t a.node inbox →
    IsGivenAgent t a → IsGivenAgent t (take_in clock inbox a)
taken t clock None a is g = g
taken t clock (Some m) a is g = record {
  executors =
      mapped t a.node (left_out m) (fold (apply_change clock) a.executors m.changes) (left-task m)
      (all-applied t a.node clock m.changes a.executors is g.executors);
  inbox = tt;
}

-- The steps of executors.

abbrev StaysTask : Executor → Option Executor → Type 0
StaysTask e None = ⊤
StaysTask e (Some after) = after.task ≡ e.task

timed : (clock time : ℕ) (e after : Executor) → after.task ≡ e.task → StaysTask e (at_time clock time after)
timed clock time e after same = go (nat_le time clock)
  where
    go : (b : Bool) → StaysTask e (cond b (Some after) None)
    go true = same
    go false = tt

early-task : (clock : ℕ) (e : Executor) (s : TaskState) → StaysTask e (early_step clock e s)
early-task clock e state.Accepted = refl
early-task clock e state.Preparing = timed clock _ e _ refl
early-task clock e state.Ready = go (is_to_go e.desired)
  where
    go : (b : Bool) → StaysTask e (cond b (Some (moved clock state.Starting e)) None)
    go true = refl
    go false = tt
early-task clock e _ = tt

ending-task : (clock : ℕ) (e : Executor) (x : End) → StaysTask e (ending clock e x)
ending-task clock e end.Never = tt
ending-task clock e (end.Exit time code) = timed clock _ e _ refl
ending-task clock e end.Reject = tt

late-step-task : (clock : ℕ) (e : Executor) (s : TaskState) → StaysTask e (late_step clock e s)
late-step-task clock e state.Starting = timed clock _ e _ refl
late-step-task clock e state.Running = ending-task clock e e.workload.end
late-step-task clock e _ = tt

late-task : (clock : ℕ) (e : Executor) (stopping : Option ℕ) → StaysTask e (late clock e stopping)
late-task clock e (Some time) = timed clock time e _ refl
late-task clock e None = go (wants_to_stop e)
  where
    go : (b : Bool) → StaysTask e (cond b (Some (stopped_at clock e)) (late_step clock e e.state))
    go true = refl
    go false = late-step-task clock e e.state

step-task : (clock : ℕ) (e : Executor) → StaysTask e (executor_step clock e)
step-task clock e = go (is_early e.state) (wants_to_stop e) (is_late e.state)
  where
    go : (early stop late_now : Bool) →
        StaysTask e (cond early (cond stop (Some (moved clock state.Shutdown e)) (early_step clock e e.state))
        (cond late_now (late clock e e.stopping) None))
    go true true late_now = refl
    go true false late_now = early-task clock e e.state
    go false stop true = late-task clock e e.stopping
    go false stop false = tt

stepped-task : (clock : ℕ) (e : Executor) → (stepped clock e).task ≡ e.task
stepped-task clock e = go (executor_step clock e) (step-task clock e)
  where
    go : (o : Option Executor) → StaysTask e o → (on_row e (λ after. after) o).task ≡ e.task
    go None k = refl
    go (Some after) k = k

pub lost-task : (clock : ℕ) (e : Executor) → (lost clock e).task ≡ e.task
lost-task clock e = go (is_late e.state)
  where
    go : (b : Bool) → (cond b (moved clock state.Failed e) e).task ≡ e.task
    go true = refl
    go false = refl

-- Agents that change.

pub agents-change : (t : Tables) (node : ℕ) (f : NodeAgent → NodeAgent) (agents : List NodeAgent) →
    ((a : NodeAgent) → a.node ≡ node → IsGivenAgent t a → IsGivenAgent t (f a)) → AreGivenAgents t agents →
    AreGivenAgents t (change_row agent_node node f agents)
agents-change t node f agents each g b h =
    let from = Has-map_cases (λ a. cond (eqb (agent_node a) node) (f a) a) agents b h in
    subst (IsGivenAgent t) from.2 (go from.0 from.1 (eqb (agent_node from.0) node) refl)
  where
    go : (a : NodeAgent) → Has agents a → (x : Bool) → eqb (agent_node a) node ≡ x → IsGivenAgent t (cond x (f a) a)
    go a k true e = each a (grind (arith, nat_tests, e)) (g a k)
    go a k false e = g a k

-- with other executors
pub executors-change : (t : Tables) (node : ℕ) (f : List Executor → List Executor) (agents : List NodeAgent) →
    ((es : List Executor) → AreExecutors t node es → AreExecutors t node (f es)) → AreGivenAgents t agents →
    AreGivenAgents t (change_row agent_node node (λ a. record a { executors = f a.executors }) agents)
executors-change t node f agents each g =
    agents-change t node (λ a. record a { executors = f a.executors }) agents
    (λ a on given. record {
      executors =
          subst (λ (k : ℕ). AreExecutors t k (f a.executors)) (sym on)
          (each a.executors (subst (λ (k : ℕ). AreExecutors t k a.executors) on given.executors));
      inbox = given.inbox;
    }) g

-- Duties.

begun-given : (t : Tables) (a : NodeAgent) → IsGivenAgent t a → IsGivenAgent t (begun a)
begun-given t a g = record { executors = g.executors; inbox = tt }

pub without-sent-given : (t : Tables) (node : ℕ) (sent : List NodeSent) → AreGivenSent t sent →
    AreGivenSent t (drop_row sent_node node sent)
without-sent-given t node sent g s h = g s (Has-filter_cases (λ r. not (sent_node r == node)) sent s h).0

pull-given : (w : World) (node : ℕ) (m : Option Message) → IsOrderly w → IsGivenInbox w.tables node m → GivesOut w →
    GivesOut (after_pull w node m)
pull-given w node None is message g = g
pull-given w node (Some m) is message g = record {
  sent = with-sent-given w node m is g.sent;
  agents =
      agents-change w.tables node (received m) w.agents
      (λ a on given. record {
        executors = given.executors;
        inbox = subst (λ (k : ℕ). AreGivenChanges w.tables k m.changes) (sym on) message;
      }) g.agents;
}

pub duty-gives : (version : ℕ) (w : World) (d : Duty) → IsOrderly w → IsDuty w d → GivesOut w →
    GivesOut (effect_by version w d)
duty-gives version w (duty.Register n) is of g =
    let m = (duty-moves version w (duty.Register n) is of).tables in
    let t = registered version w.tables n in
    record {
      sent = without-sent-given t n w.sent (sent-given w.tables t w.sent m g.sent);
      agents = agents-change t n begun w.agents (λ a on given. begun-given t a given)
          (agents-given w.tables t w.agents m g.agents);
    }
duty-gives version w (duty.Apply n) is of g = record {
  sent = g.sent;
  agents =
      agents-change w.tables n (λ a. take_in w.tables.clock a.inbox a) w.agents
      (λ a on given. taken w.tables w.tables.clock a.inbox a given.inbox given) g.agents;
}
duty-gives version w (duty.Pull n) is of g = pull-given w n (message_for w n) is (message-given w n is) g
duty-gives version w (duty.Exec n x) is of g = record {
  sent = g.sent;
  agents =
      executors-change w.tables n (change_executor x (stepped w.tables.clock)) w.agents
      (λ es given. changed w.tables n x (stepped w.tables.clock) es (stepped-task w.tables.clock) given) g.agents;
}
duty-gives version w (duty.Report n x) is of g =
    let m = (duty-moves version w (duty.Report n x) is of).tables in
    let t = (effect_by version w (duty.Report n x)).tables in
    record {
      sent = sent-given w.tables t w.sent m g.sent;
      agents =
          executors-change t n (change_executor x told) w.agents
          (λ es given. changed t n x told es (λ e. refl) given) (agents-given w.tables t w.agents m g.agents);
    }
duty-gives version w (duty.Forget n x) is of g = record {
  sent = g.sent;
  agents =
      executors-change w.tables n (drop_row executor_task x) w.agents (λ es given. left w.tables n x es given) g.agents;
}
duty-gives version w d is of g =
    gives-still w (effect_by version w d) (duty-moves version w d is of).tables refl refl g
