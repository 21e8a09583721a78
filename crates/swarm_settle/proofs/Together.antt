-- Under each duty, what agents have and what was sent stay in step.
use Rattle.std.proofs.Common.{Bool, List, None, Option, Some, [], ap, arith, cond, eqb, false, refl, subst, sym, true, ℕ, ◌<◌, ◌∙◌, ◌∷◌, ◌≡◌, ◌≤◌}
use Rattle.std.proofs.lemmas.Bool.Decides.{nat_tests}
use Rattle.std.specs.Option.{option_map}
use Rattle.std.specs.Prelude.{filter, map}
use Rattle.swarm_settle.proofs.AimSteps.{aims-change, row_at-drop_other, row_at-drop_same}
use Rattle.swarm_objects.proofs.Aims.{stepped-aim}
use Rattle.swarm_objects.proofs.Aims.{aim}
use Rattle.swarm_settle.proofs.Aims.{aim_at, applied-aims, is_gone}
use Rattle.swarm_settle.proofs.InStep.{InStep, IsPull, in-step-applied, in-step-as, in-step-begun, in-step-left, in-step-moves, in-step-pulled}
use Rattle.swarm_settle.proofs.ShapeDuties.{found}
use Rattle.swarm_model.proofs.Base.IsDuty.{IsDuty}
use Rattle.swarm_model.proofs.Laws.GivesOut.{GivesOut}
use Rattle.swarm_model.proofs.Laws.Timely.{each-changed}
use Rattle.swarm_model.proofs.Moves.Rows.{between-one, has_row-Has}
use Rattle.swarm_model.proofs.Moves.Worlds.{IsOrderly, Moves, TablesMove}
use Rattle.swarm_objects.proofs.RowLemmas.{Has-filter, Has-filter_cases, Has-from_row_at, Has-map, Has-map_cases, row_at-Some}
use Rattle.swarm_objects.proofs.Tests.{both, first_so}
use Rattle.swarm_objects.proofs.RowChanges.{row_at-with_row}
use Rattle.swarm_objects.specs.Same.{same_number}
use Rattle.std.specs.Option.{option_eq}
use Rattle.std.specs.Prelude.{nat_le}
use Rattle.std.proofs.Common.{◌+◌}
use Rattle.swarm_objects.specs.Rows.{with_row}
use Rattle.swarm_objects.specs.Tasks.Words.{is_on}
use Rattle.swarm_objects.specs.Values.Ranks.{rank}
use Rattle.swarm_objects.specs.declared.tasks.TaskState.TheVariants as state
use Rattle.swarm_model.proofs.Moves.Rows.{RisesBetween}
use Rattle.swarm_objects.specs.Agents.Messages.{assigned, assigned_task, change_executor, due_set, is_assigned_on, message_for, sent_of}
use Rattle.swarm_objects.specs.Duties.{effect_by}
use Rattle.swarm_objects.specs.Loops.Agents.{after_pull, begun, is_forgotten, received, stepped, take_in, told}
use Rattle.swarm_objects.specs.Rows.{Has, IsRising, RisesFrom, agent_node, change_row, drop_row, executor_task, row_at, sent_node, task_id}
use Rattle.swarm_objects.specs.World.{Tables, World}
use Rattle.swarm_objects.specs.declared.agents.Executor.{Executor}
use Rattle.swarm_objects.specs.declared.agents.NodeAgent.{NodeAgent}
use Rattle.swarm_objects.specs.declared.duties.Duty.TheVariants as duty
use Rattle.swarm_objects.specs.declared.duties.Duty.{Duty}
use Rattle.swarm_objects.specs.declared.messages.Assigned.{Assigned}
use Rattle.swarm_objects.specs.declared.messages.Message.{Message}
use Rattle.swarm_objects.specs.declared.messages.NodeSent.{NodeSent}
use Rattle.swarm_objects.specs.declared.tasks.Task.{Task}

abbrev pub AgentInStep : Tables → List NodeSent → NodeAgent → Type 0
AgentInStep t sent a = InStep t (row_at sent_node a.node sent) a.inbox (aim_at a.executors)

abbrev pub AllInStep : Tables → List NodeSent → List NodeAgent → Type 0
AllInStep t sent agents = (a : NodeAgent) → Has agents a → AgentInStep t sent a

pub all-in-moves : (t u : Tables) (sent : List NodeSent) (agents : List NodeAgent) → TablesMove t u →
    AllInStep t sent agents → AllInStep u sent agents
all-in-moves t u sent agents m is a h =
    in-step-moves t u (row_at sent_node a.node sent) a.inbox (aim_at a.executors) m (is a h)

-- one agent's executors change and keep their aims
pub aims-kept : (t : Tables) (sent : List NodeSent) (node : ℕ) (f : NodeAgent → NodeAgent) (agents : List NodeAgent) →
    ((a : NodeAgent) → (f a).node ≡ a.node) → ((a : NodeAgent) → (f a).inbox ≡ a.inbox) →
    ((a : NodeAgent) (x : ℕ) → aim_at (f a).executors x ≡ aim_at a.executors x) → AllInStep t sent agents →
    AllInStep t sent (change_row agent_node node f agents)
aims-kept t sent node f agents nodes inboxes aims is =
    each-changed (AgentInStep t sent) agent_node node f agents is
    (λ a h e.
    subst (λ (k : ℕ). InStep t (row_at sent_node k sent) (f a).inbox (aim_at (f a).executors)) (sym (nodes a))
    (subst (λ (o : Option Message). InStep t (row_at sent_node a.node sent) o (aim_at (f a).executors))
    (sym (inboxes a))
    (in-step-as t (row_at sent_node a.node sent) a.inbox (aim_at a.executors) (aim_at (f a).executors) (aims a)
    (is a h))))

-- where the one that changes and the others need different reasons
each-turned : (P : NodeAgent → Type 0) (node : ℕ) (f : NodeAgent → NodeAgent) (agents : List NodeAgent) →
    ((a : NodeAgent) → Has agents a → eqb a.node node ≡ false → P a) →
    ((a : NodeAgent) → Has agents a → a.node ≡ node → P (f a)) → (b : NodeAgent) →
    Has (change_row agent_node node f agents) b → P b
each-turned P node f agents others one b h =
    let from = Has-map_cases (λ a. cond (eqb (agent_node a) node) (f a) a) agents b h in
    subst P from.2 (go from.0 from.1 (eqb from.0.node node) refl)
  where
    go : (a : NodeAgent) → Has agents a → (x : Bool) → eqb a.node node ≡ x → P (cond x (f a) a)
    go a k true e = one a k (grind (arith, nat_tests, e))
    go a k false e = others a k e

-- Applying.

take-in : (t : Tables) (sent : Option NodeSent) (clock : ℕ) (o : Option Message) (a : NodeAgent) → a.inbox ≡ o →
    InStep t sent o (aim_at a.executors) →
    InStep t sent (take_in clock o a).inbox (aim_at (take_in clock o a).executors)
take-in t sent clock None a at is = subst (λ (o : Option Message). InStep t sent o (aim_at a.executors)) (sym at) is
take-in t sent clock (Some m) a at is =
    in-step-applied t sent (Some m) (aim_at a.executors) _ (λ x. applied-aims clock x m a.executors) is

taken-node : (clock : ℕ) (o : Option Message) (a : NodeAgent) → a.node ≡ (take_in clock o a).node
taken-node clock None a = refl
taken-node clock (Some m) a = refl

apply-in : (t : Tables) (sent : List NodeSent) (clock m : ℕ) (agents : List NodeAgent) → AllInStep t sent agents →
    AllInStep t sent (change_row agent_node m (λ a. take_in clock a.inbox a) agents)
apply-in t sent clock m agents is =
    each-changed (AgentInStep t sent) agent_node m (λ a. take_in clock a.inbox a) agents is
    (λ a h e.
    subst (λ (k : ℕ). InStep t (row_at sent_node k sent) (take_in clock a.inbox a).inbox
    (aim_at (take_in clock a.inbox a).executors))
    (taken-node clock a.inbox a)
    (take-in t (row_at sent_node a.node sent) clock a.inbox a refl (is a h)))

-- Registering.

register-in : (t : Tables) (sent : List NodeSent) (m : ℕ) (agents : List NodeAgent) → AllInStep t sent agents →
    AllInStep t (drop_row sent_node m sent) (change_row agent_node m begun agents)
register-in t sent m agents is =
    each-turned (AgentInStep t (drop_row sent_node m sent)) m begun agents
    (λ a h e.
    subst (λ (o : Option NodeSent). InStep t o a.inbox (aim_at a.executors))
    (sym (row_at-drop_other sent_node m a.node sent e)) (is a h))
    (λ a h e.
    subst (λ (o : Option NodeSent). InStep t o None (aim_at a.executors))
    (sym (ap (λ (k : ℕ). row_at sent_node k (drop_row sent_node m sent)) e ∙ row_at-drop_same sent_node m sent))
    (in-step-begun t (row_at sent_node a.node sent) a.inbox (aim_at a.executors) (is a h)))

-- Forgetting.

forget-in : (w : World) (m x : ℕ) → IsOrderly w → GivesOut w → IsDuty w (duty.Forget m x) →
    AllInStep w.tables w.sent w.agents →
    AllInStep w.tables w.sent
    (change_row agent_node m (λ a. record a { executors = drop_row executor_task x a.executors }) w.agents)
forget-in w m x orderly gives of is =
    each-changed (AgentInStep w.tables w.sent) agent_node m
    (λ a. record a { executors = drop_row executor_task x a.executors }) w.agents is
    (λ a h e.
    in-step-left w.tables (row_at sent_node a.node w.sent) a.inbox (aim_at a.executors)
    (aim_at (drop_row executor_task x a.executors)) x (dead a h e)
    (ap (option_map aim) (row_at-drop_same executor_task x a.executors))
    (λ y away. ap (option_map aim) (row_at-drop_other executor_task x y a.executors away)) (is a h))
  where
    its : (a : NodeAgent) → Has w.agents a → a.node ≡ m → of.row ≡ a
    its a h e =
        between-one agent_node 1 w.tables.next_id w.agents of.row a orderly.agents of.there h (of.id_is ∙ sym e)

    here : row_at executor_task x of.row.executors ≡ Some of.fact.1.row
    here =
        found executor_task w.tables.next_id x of.row.executors (λ f. is_forgotten f ≡ true)
        (gives.agents of.row of.there).executors.rises of.fact.1

    gone : is_gone (aim_at of.row.executors x) ≡ true
    gone =
        subst (λ (o : Option Executor). is_gone (option_map aim o) ≡ true) (sym here)
        (first_so of.fact.1.row.gone _ of.fact.1.fact)

    dead : (a : NodeAgent) → Has w.agents a → a.node ≡ m → is_gone (aim_at a.executors x) ≡ true
    dead a h e = subst (λ (b : NodeAgent). is_gone (aim_at b.executors x) ≡ true) (its a h e) gone

-- Pulling.

due-rises : (node low : ℕ) (xs : List Task) → RisesFrom task_id low xs →
    RisesFrom assigned_task low (map assigned (filter (is_assigned_on node) xs))
due-rises node low [] rises = tt
due-rises node low (x ∷ xs) rises = go (is_assigned_on node x) (due-rises node x.id xs rises.1)
  where
    lower : (low : ℕ) (rows : List Assigned) → low ≤ x.id → RisesFrom assigned_task x.id rows →
        RisesFrom assigned_task low rows
    lower low [] le r = tt
    lower low (a ∷ rows) le r = (omega (arith, le, r.0), r.1)

    go : (b : Bool) → RisesFrom assigned_task x.id (map assigned (filter (is_assigned_on node) xs)) →
        RisesFrom assigned_task low (map assigned
        (cond b (x ∷ filter (is_assigned_on node) xs) (filter (is_assigned_on node) xs)))
    go true rest = (rises.0, rest)
    go false rest = lower low (map assigned (filter (is_assigned_on node) xs)) (omega (arith, rises.0)) rest

rises-from : {X : Type 0} (key : X → ℕ) (low high n : ℕ) (rows : List X) → n < low → RisesBetween key low high rows →
    RisesFrom key n rows
rises-from key low high n [] lt r = tt
rises-from key low high n (x ∷ rows) lt r =
    (omega (arith, lt, r.0), rises-from key (key x + 1) high (key x) rows (omega arith) r.2)

pub any-rising : (low : ℕ) (rows : List Assigned) → RisesFrom assigned_task low rows → IsRising assigned_task rows
any-rising low [] r = tt
any-rising low (a ∷ rows) r = r.1

pub due-rising : (t : Tables) (node : ℕ) → RisesBetween task_id 1 t.next_id t.tasks →
    RisesFrom assigned_task 0 (due_set t node)
due-rising t node rises = due-rises node 0 t.tasks (rises-from task_id 1 t.next_id 0 t.tasks (omega arith) rises)

-- a task on the node from ASSIGNED on is due
pub is-due-there : (t : Tables) (node : ℕ) (y : Task) → Has t.tasks y → y.node ≡ Some node →
    rank state.Assigned ≤ rank y.state → Has (due_set t node) (assigned y)
is-due-there t node y h on up =
    Has-map assigned (filter (is_assigned_on node) t.tasks) y
    (Has-filter (is_assigned_on node) t.tasks y h
    (both (nat_le (rank state.Assigned) (rank y.state)) (is_on node y) (grind (arith, nat_tests, up)) there))
  where
    own : eqb node node ≡ true
    own = grind (arith, nat_tests)

    there : is_on node y ≡ true
    there = ap (λ (o : Option ℕ). option_eq same_number o (Some node)) on ∙ own

is-pull : (w : World) (m : ℕ) (a : NodeAgent) → IsOrderly w → GivesOut w → Has w.agents a → a.node ≡ m →
    IsPull w.tables (due_set w.tables m) a.executors
is-pull w m a orderly gives h e = record {
  rises = any-rising 0 (due_set w.tables m) (due-rising w.tables m orderly.tasks);
  found = λ i k. row_at-Some assigned_task 0 (due_set w.tables m) i (due-rising w.tables m orderly.tasks) k;
  there = λ i k lost.
      let from = Has-map_cases assigned (filter (is_assigned_on m) w.tables.tasks) i k in
      let x = Has-filter_cases (is_assigned_on m) w.tables.tasks from.0 from.1 in
      lost.away from.0 x.0 (ap assigned_task from.2);
  given = λ x f at.
      let row = Has-from_row_at executor_task x a.executors f at in
      let is = (gives.agents a h).executors.given f row.0 in (
        subst (λ (k : ℕ). k < w.tables.next_id) row.1 is.below,
        λ y j same.
            let on = is.there y j (same ∙ sym row.1) in
            has_row-Has assigned_task (due_set w.tables m) (assigned y) x
            (is-due-there w.tables m y j (on.0 ∙ ap (λ (k : ℕ). Some k) e) on.1) same,
      );
}

pull-in : (w : World) (m : ℕ) → IsOrderly w → GivesOut w → IsDuty w (duty.Pull m) →
    AllInStep w.tables w.sent w.agents → (o : Option Message) → message_for w m ≡ o →
    AllInStep (after_pull w m o).tables (after_pull w m o).sent (after_pull w m o).agents
pull-in w m orderly gives of is None at = is
pull-in w m orderly gives of is (Some message) at =
    each-turned (AgentInStep w.tables (with_row sent_node new w.sent)) m (received message) w.agents
    (λ a h e.
    let other : eqb m a.node ≡ false = grind (arith, nat_tests, e) in
    subst (λ (o : Option NodeSent). InStep w.tables o a.inbox (aim_at a.executors))
    (sym (row_at-with_row sent_node a.node new w.sent
    ∙ ap (λ (b : Bool). cond b (Some new) (row_at sent_node a.node w.sent)) other)) (is a h))
    (λ a h e.
    let same : eqb m a.node ≡ true = grind (arith, nat_tests, e) in
    subst (λ (o : Option NodeSent). InStep w.tables o (Some message) (aim_at a.executors))
    (sym (row_at-with_row sent_node a.node new w.sent
    ∙ ap (λ (b : Bool). cond b (Some new) (row_at sent_node a.node w.sent)) same))
    (in-step-pulled w.tables (sent_of w m) (due_set w.tables m) message a.executors new
    (is-pull w m a orderly gives h e) at refl
    (subst (λ (k : ℕ). InStep w.tables (row_at sent_node k w.sent) None (aim_at a.executors)) e
    (subst (λ (o : Option Message). InStep w.tables (row_at sent_node a.node w.sent) o (aim_at a.executors))
    (empty a h e) (is a h)))))
  where
    new : NodeSent
    new = record { node = m; count = message.results_in; tasks = due_set w.tables m }

    empty : (a : NodeAgent) → Has w.agents a → a.node ≡ m → a.inbox ≡ None
    empty a h e =
        let same = between-one agent_node 1 w.tables.next_id w.agents of.row a orderly.agents of.there h
        (of.id_is ∙ sym e) in
        subst (λ (b : NodeAgent). ◌≡◌ {A = Option Message} b.inbox None) same of.fact.1.1.0

-- Each duty.

pub duty-in : (n : ℕ) (w : World) (d : Duty) → IsOrderly w → GivesOut w → IsDuty w d → Moves w (effect_by n w d) →
    AllInStep w.tables w.sent w.agents →
    AllInStep (effect_by n w d).tables (effect_by n w d).sent (effect_by n w d).agents
duty-in n w (duty.Register m) orderly gives of moves is =
    register-in _ w.sent m w.agents (all-in-moves w.tables _ w.sent w.agents moves.tables is)
duty-in n w (duty.Apply m) orderly gives of moves is = apply-in w.tables w.sent w.tables.clock m w.agents is
duty-in n w (duty.Pull m) orderly gives of moves is = pull-in w m orderly gives of is (message_for w m) refl
duty-in n w (duty.Exec m x) orderly gives of moves is =
    aims-kept w.tables w.sent m
    (λ a. record a { executors = change_executor x (stepped w.tables.clock) a.executors }) w.agents
    (λ a. refl) (λ a. refl) (λ a y. aims-change x (stepped w.tables.clock) a.executors y (stepped-aim w.tables.clock))
    is
duty-in n w (duty.Report m x) orderly gives of moves is =
    aims-kept (effect_by n w (duty.Report m x)).tables w.sent m
    (λ a. record a { executors = change_executor x told a.executors }) w.agents
    (λ a. refl) (λ a. refl) (λ a y. aims-change x told a.executors y (λ e. (refl, refl)))
    (all-in-moves w.tables _ w.sent w.agents moves.tables is)
duty-in n w (duty.Forget m x) orderly gives of moves is = forget-in w m x orderly gives of is
duty-in n w d orderly gives of moves is = all-in-moves w.tables _ w.sent w.agents moves.tables is
