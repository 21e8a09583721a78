-- What is known of the steps of one agent: before which task no executor has one.
use Rattle.std.proofs.Common.{◌≡◌, ◌∙◌, ◌+◌, ◌-◌, ◌<◌, ◌≤◌, ◌∷◌, ℕ, Bool, true, false, cond, eqb, ltb, List, [], Option, Some, None, ap, arith, inl, inr, refl, subst, sym}
use Rattle.std.proofs.lemmas.Bool.Decides.{nat_tests}
use Rattle.std.specs.Option.{option_map}
use Rattle.std.specs.Prelude.{◌&&◌, ◌==◌, find, is_some, nat_le, not}
use Rattle.swarm_agent.specs.Agent.{AgentState, DutiesLaw, at_node, first_task}
use Rattle.swarm_agent.specs.Times.{TimesLaw, seen, seen_agent}
use Rattle.swarm_model.specs.History.{effect}
use Rattle.swarm_objects.proofs.Aims.{stepped-aim}
use Rattle.swarm_objects.proofs.RowLemmas.{Has-filter_cases, Has-map, Has-map_cases, number_above, row_at-Some}
use Rattle.swarm_objects.proofs.Tests.{both_are}
use Rattle.swarm_objects.specs.Agents.Executors.{at_time, early_step, ending, is_early, is_late, is_to_go, late, late_step, moved, stopped_at, wants_to_stop}
use Rattle.swarm_objects.specs.Agents.Messages.{change_executor, message_for}
use Rattle.swarm_objects.specs.Kinds.{role_of}
use Rattle.swarm_objects.specs.Loops.Agents.{after_pull, begun, executor_at, has_step, received, reported_by, stepped, take_in, told}
use Rattle.swarm_objects.specs.Loops.Words.{duty_where}
use Rattle.swarm_objects.specs.Rows.{Has, RisesFrom, agent_node, change_row, drop_row, executor_task, first_of, row_at, rows_above}
use Rattle.swarm_objects.specs.World.{World}
use Rattle.swarm_objects.specs.declared.agents.Executor.{Executor}
use Rattle.swarm_objects.specs.declared.agents.NodeAgent.{NodeAgent}
use Rattle.swarm_objects.specs.declared.duties.Duty.TheVariants as duty
use Rattle.swarm_objects.specs.declared.duties.Duty.{Duty}
use Rattle.swarm_objects.specs.declared.loops.Role.TheVariants as role
use Rattle.swarm_objects.specs.declared.messages.Message.{Message}
use Rattle.swarm_objects.specs.declared.tasks.TaskState.TheVariants as state
use Rattle.swarm_objects.specs.declared.tasks.TaskState.{TaskState}
use Rattle.swarm_objects.specs.declared.templates.End.TheVariants as end
use Rattle.swarm_objects.specs.declared.templates.End.{End}
use Rattle.swarm_world.proofs.AgentsAlone.{taken-node}
use Rattle.swarm_world.specs.Inside.Looks.{HasNoStep, IsPassed, before_on, no_steps}
use Rattle.swarm_world.specs.Inside.Spanned.{lowered, steps_by}
use Rattle.swarm_world.specs.declared.agent_spans.Steps.{Steps}

-- Rows of which none up to a number passes.

find-behind : {X : Type 0} (key : X → ℕ) (p : X → Bool) (k : ℕ) (rows : List X) →
    ((x : X) → Has rows x → key x ≤ k → p x ≡ false) → find p (rows_above key k rows) ≡ find p rows
find-behind key p k [] none = refl
find-behind {X} key p k (x ∷ rows) none =
    go (ltb k (key x)) refl (find-behind key p k rows (λ y h. none y (inr h)))
  where
    go : (b : Bool) → ltb k (key x) ≡ b → find p (rows_above key k rows) ≡ find p rows →
        find p (cond b (x ∷ rows_above key k rows) (rows_above key k rows)) ≡ find p (x ∷ rows)
    go true is rest = ap (λ o. cond (p x) (Some x) o) rest
    go false is rest =
        rest
        ∙ sym (ap (λ b. cond b (Some x) (find p rows)) (none x (inl refl) (grind (arith, nat_tests, is))))

-- of rising rows none before the first that passes does
none-before : {X : Type 0} (key : X → ℕ) (p : X → Bool) (n : ℕ) (rows : List X) (x : X) → RisesFrom key n rows →
    find p rows ≡ Some x → (y : X) → Has rows y → key y < key x → p y ≡ false
none-before key p n [] x rises found y h low = absurd h
none-before {X} key p n (r ∷ rows) x rises found y h low =
    go (p r) refl found (λ rest later. none-before key p (key r) rows x rises.1 rest y later low) h
  where
    go : (b : Bool) → p r ≡ b → cond b (Some r) (find p rows) ≡ Some x →
        (find p rows ≡ Some x → Has rows y → p y ≡ false) → Has (r ∷ rows) y → p y ≡ false
    go true is first behind (inl same) =
        let one : r ≡ x = cc in
        let at : key y ≡ key x = ap key (sym same ∙ one) in
        absurd (omega (arith, low, at))
    go true is first behind (inr later) =
        let one : r ≡ x = cc in
        let at : key r ≡ key x = ap key one in
        let above = number_above key (key r) rows y rises.1 later in
        absurd (omega (arith, low, at, above))
    go false is rest behind (inl same) = subst (λ z. p z ≡ false) same is
    go false is rest behind (inr later) = behind rest later

none-there : {X : Type 0} (p : X → Bool) (rows : List X) → find p rows ≡ None → (y : X) → Has rows y → p y ≡ false
none-there p [] none y h = absurd h
none-there {X} p (r ∷ rows) none y h = go (p r) refl none (λ rest later. none-there p rows rest y later) h
  where
    go : (b : Bool) → p r ≡ b → cond b (Some r) (find p rows) ≡ None →
        (find p rows ≡ None → Has rows y → p y ≡ false) → Has (r ∷ rows) y → p y ≡ false
    go true is first behind h = absurd cc
    go false is rest behind (inl same) = subst (λ z. p z ≡ false) same is
    go false is rest behind (inr later) = behind rest later

-- What is known, of the node and of another one.

small : (b : Bool) (n : ℕ) → cond b n 0 ≤ n
small true n = omega arith
small false n = omega arith

before-own : (s : Steps) (node : ℕ) → before_on s node ≤ s.before
before-own s node = small (eqb s.node node) s.before

before-other : (s : Steps) (node : ℕ) → eqb s.node node ≡ false → before_on s node ≡ 0
before-other s node other = ap (λ b. cond b s.before 0) other

before-none : (node : ℕ) → before_on no_steps node ≤ 0
before-none node = before-own no_steps node

pub no-steps-less : (s t : Steps) (node : ℕ) → s ≡ no_steps → before_on s node ≤ before_on t node
no-steps-less s t node none =
    let zero = before-none node in
    subst (λ (u : Steps). before_on u node ≤ before_on t node) (sym none) (omega (arith, zero))

-- where nothing is known
pub nothing-known : (clock : ℕ) (s : Steps) (a : NodeAgent) → s ≡ no_steps → HasNoStep clock s a
nothing-known clock s a none = record {
  has = λ e there low.
      let zero = before-none a.node in
      let under : e.task < before_on no_steps a.node = subst (λ (t : Steps). e.task < before_on t a.node) none low in
      absurd (omega (arith, zero, under));
}

-- where no more is known
pub known-less : (clock : ℕ) (s t : Steps) (a : NodeAgent) → before_on t a.node ≤ before_on s a.node → HasNoStep clock s a →
    HasNoStep clock t a
known-less clock s t a less known = record { has = λ e there low. known.has e there (omega (arith, low, less)) }

-- A look.

first-behind : (clock : ℕ) (s : Steps) (node after : ℕ) (a : AgentState) → RisesFrom executor_task 0 a.executors →
    HasNoStep clock s (at_node node a) → after ≡ before_on s node - 1 →
    find (has_step clock) (rows_above executor_task after a.executors) ≡ find (has_step clock) a.executors
first-behind clock s node after a rises known is =
    find-behind executor_task (has_step clock) after a.executors
    (λ e there low.
    let above = number_above executor_task 0 a.executors e rises there in
    known.has e there (under e.task above low))
  where
    under : (task : ℕ) → 0 < task → task ≤ after → task < before_on s node
    under task above low = omega (arith, above, low, is)

of-some : {X Y : Type 0} (f : X → Y) (o : Option X) (y : Y) → option_map f o ≡ Some y → (x : X) × (o ≡ Some x) × (f x ≡ y)
of-some f None y is = absurd cc
of-some f (Some x) y is = (x, refl, cc)

of-none : {X Y : Type 0} (f : X → Y) (o : Option X) → option_map f o ≡ None → o ≡ None
of-none f None is = refl
of-none f (Some x) is = absurd cc

-- what was found behind is the first of all
pub found_first : (law : DutiesLaw) (clock : ℕ) (s : Steps) (node after : ℕ) (a : AgentState) (o : Option ℕ) →
    RisesFrom executor_task 0 a.executors → HasNoStep clock s (at_node node a) → after ≡ before_on s node - 1 →
    o ≡ first_task (has_step clock) (rows_above executor_task after a.executors) →
    option_map (duty.Exec node) o
    ≡ first_of (duty_where (has_step clock) (λ (e : Executor). duty.Exec node e.task) a.executors)
found_first law clock s node after a o rises known is found =
    ap (option_map (duty.Exec node))
    (found ∙ ap (option_map executor_task) (first-behind clock s node after a rises known is))
    ∙ sym (law.steps node clock a.executors)

-- those before it have none
pub some_passed : (clock : ℕ) (s : Steps) (node after task : ℕ) (a : AgentState) → RisesFrom executor_task 0 a.executors →
    HasNoStep clock s (at_node node a) → after ≡ before_on s node - 1 →
    Some task ≡ first_task (has_step clock) (rows_above executor_task after a.executors) →
    IsPassed clock (at_node node a) s (record { node = node; before = task })
some_passed clock s node after task a rises known is found =
    let first = of-some executor_task (find (has_step clock) a.executors) task
    (sym (found ∙ ap (option_map executor_task) (first-behind clock s node after a rises known is))) in
    inr (
      refl,
      record {
        has = λ e there low.
            let under = before-own (record { node = node; before = task }) node in
            let at = first.2 in
            none-before executor_task (has_step clock) 0 a.executors first.0 rises first.1 e there
            (omega (arith, low, under, at));
      },
    )

-- none has one
pub none_passed : (clock : ℕ) (s : Steps) (node after high : ℕ) (a : AgentState) → RisesFrom executor_task 0 a.executors →
    HasNoStep clock s (at_node node a) → after ≡ before_on s node - 1 →
    None ≡ first_task (has_step clock) (rows_above executor_task after a.executors) →
    IsPassed clock (at_node node a) s (record { node = node; before = high })
none_passed clock s node after high a rises known is found =
    let none = of-none executor_task (find (has_step clock) a.executors)
    (sym (found ∙ ap (option_map executor_task) (first-behind clock s node after a rises known is))) in
    inr (refl, record { has = λ e there low. none-there (has_step clock) a.executors none e there })

-- As it is seen, an agent has the same steps.

pub known-seen : (times : TimesLaw) (clock : ℕ) (s : Steps) (a : NodeAgent) → HasNoStep clock s a →
    HasNoStep clock s (seen_agent a)
known-seen times clock s a known = record {
  has = λ e there low.
      let from = Has-map_cases seen a.executors e there in
      let task : from.0.task ≡ e.task = sym (times.task from.0) ∙ ap (λ (x : Executor). x.task) from.2 in
      subst (λ (x : Executor). has_step clock x ≡ false) from.2
      (times.due clock from.0
      ∙ known.has from.0 from.1 (subst (λ k. k < before_on s a.node) (sym task) low));
}

pub seen-known : (times : TimesLaw) (clock : ℕ) (s : Steps) (a : NodeAgent) → HasNoStep clock s (seen_agent a) →
    HasNoStep clock s a
seen-known times clock s a known = record {
  has = λ e there low.
      sym (times.due clock e)
      ∙ known.has (seen e) (Has-map seen a.executors e there)
      (subst (λ k. k < before_on s a.node) (sym (times.task e)) low);
}

-- After a look at one of rising agents.

one-row : (agents : List NodeAgent) (a b : NodeAgent) → RisesFrom agent_node 0 agents → Has agents a → Has agents b →
    a.node ≡ b.node → a ≡ b
one-row agents a b rises first second same =
    let one : Some a ≡ Some b =
    sym (row_at-Some agent_node 0 agents a rises first) ∙ ap (λ k. row_at agent_node k agents) same
    ∙ row_at-Some agent_node 0 agents b rises second in
    cc

pub passed-on : (times : TimesLaw) (clock : ℕ) (agents : List NodeAgent) (s next : Steps) (node : ℕ) (a : AgentState) →
    RisesFrom agent_node 0 agents → Has agents (seen_agent (at_node node a)) → IsPassed clock (at_node node a) s next →
    ((x : NodeAgent) → Has agents x → HasNoStep clock s x) → (x : NodeAgent) → Has agents x → HasNoStep clock next x
passed-on times clock agents s next node a rises there (inl same) known x h =
    subst (λ (t : Steps). HasNoStep clock t x) (sym same) (known x h)
passed-on times clock agents s next node a rises there (inr own) known x h = go (eqb next.node x.node) refl
  where
    go : (b : Bool) → eqb next.node x.node ≡ b → HasNoStep clock next x
    go true is =
        let named : next.node ≡ x.node = grind (arith, nat_tests, is) in
        let at : next.node ≡ node = own.0 in
        subst (HasNoStep clock next)
        (one-row agents (seen_agent (at_node node a)) x rises there h (sym at ∙ named))
        (known-seen times clock next (at_node node a) own.1)
    go false is =
        let zero = before-other next x.node is in
        record { has = λ e has low. absurd (omega (arith, zero, low)) }

-- After a duty.

lower-less : (node task k : ℕ) (s : Steps) → before_on (lowered node task s) k ≤ before_on s k
lower-less node task k s = go (eqb s.node node && ltb task s.before) refl
  where
    cut : (b : Bool) → task < s.before → cond b task 0 ≤ cond b s.before 0
    cut true low = omega (arith, low)
    cut false low = omega arith

    go : (b : Bool) → (eqb s.node node && ltb task s.before) ≡ b →
        before_on (cond b (record s { before = task }) s) k ≤ before_on s k
    go true is =
        let under = (both_are (eqb s.node node) (ltb task s.before) is).1 in
        cut (eqb s.node k) (grind (arith, nat_tests, under))
    go false is = omega arith

lower-own : (node task : ℕ) (s : Steps) → before_on (lowered node task s) node ≤ task
lower-own node task s = go (eqb s.node node) refl (ltb task s.before) refl
  where
    go : (own : Bool) → eqb s.node node ≡ own → (b : Bool) → ltb task s.before ≡ b →
        before_on (cond (own && b) (record s { before = task }) s) node ≤ task
    go true own true is = before-own (record s { before = task }) node
    go true own false is =
        let most = before-own s node in
        let high : s.before ≤ task = grind (arith, nat_tests, is) in
        omega (arith, most, high)
    go false own b is = let zero = before-other s node own in omega (arith, zero)

pub steps-less : (d : Duty) (s : Steps) (k : ℕ) → before_on (steps_by d s) k ≤ before_on s k
steps-less (duty.Apply n) s k = lower-less n 0 k s
steps-less (duty.Exec n x) s k = lower-less n x k s
steps-less _ s k = omega arith

-- what is reported gives no step and takes none

some-timed : (clock time : ℕ) (e f : Executor) → is_some (at_time clock time e) ≡ is_some (at_time clock time f)
some-timed clock time e f = go (nat_le time clock)
  where
    go : (b : Bool) → is_some (cond b (Some e) None) ≡ is_some (cond b (Some f) None)
    go true = refl
    go false = refl

early-told : (clock : ℕ) (e : Executor) (s : TaskState) →
    is_some (early_step clock (told e) s) ≡ is_some (early_step clock e s)
early-told clock e state.Accepted = refl
early-told clock e state.Preparing = some-timed clock _ _ _
early-told clock e state.Ready = go (is_to_go e.desired)
  where
    go : (b : Bool) →
        is_some (cond b (Some (moved clock state.Starting (told e))) None)
        ≡ is_some (cond b (Some (moved clock state.Starting e)) None)
    go true = refl
    go false = refl
early-told clock e _ = refl

ending-told : (clock : ℕ) (e : Executor) (x : End) → is_some (ending clock (told e) x) ≡ is_some (ending clock e x)
ending-told clock e end.Never = refl
ending-told clock e (end.Exit time code) = some-timed clock _ _ _
ending-told clock e end.Reject = refl

late-step-told : (clock : ℕ) (e : Executor) (s : TaskState) →
    is_some (late_step clock (told e) s) ≡ is_some (late_step clock e s)
late-step-told clock e state.Starting = some-timed clock _ _ _
late-step-told clock e state.Running = ending-told clock e e.workload.end
late-step-told clock e _ = refl

late-told : (clock : ℕ) (e : Executor) (stopping : Option ℕ) →
    is_some (late clock (told e) stopping) ≡ is_some (late clock e stopping)
late-told clock e (Some time) = some-timed clock time _ _
late-told clock e None = go (wants_to_stop e)
  where
    go : (b : Bool) →
        is_some (cond b (Some (stopped_at clock (told e))) (late_step clock (told e) e.state))
        ≡ is_some (cond b (Some (stopped_at clock e)) (late_step clock e e.state))
    go true = refl
    go false = late-step-told clock e e.state

step-told : (clock : ℕ) (e : Executor) → has_step clock (told e) ≡ has_step clock e
step-told clock e = go (is_early e.state) (wants_to_stop e) (is_late e.state)
  where
    step : Executor → Bool → Bool → Bool → Option Executor
    step f early stop late_now =
        cond early (cond stop (Some (moved clock state.Shutdown f)) (early_step clock f f.state))
        (cond late_now (late clock f f.stopping) None)

    go : (early stop late_now : Bool) → is_some (step (told e) early stop late_now) ≡ is_some (step e early stop late_now)
    go true true late_now = refl
    go true false late_now = early-told clock e e.state
    go false stop true = late-told clock e e.stopping
    go false stop false = refl

-- One agent changes.

changed-known : (clock : ℕ) (s t : Steps) (k : ℕ) (f : NodeAgent → NodeAgent) (agents : List NodeAgent) →
    ((node : ℕ) → before_on t node ≤ before_on s node) →
    ((a : NodeAgent) → a.node ≡ k → HasNoStep clock s a → HasNoStep clock t (f a)) →
    ((a : NodeAgent) → Has agents a → HasNoStep clock s a) → (a : NodeAgent) → Has (change_row agent_node k f agents) a →
    HasNoStep clock t a
changed-known clock s t k f agents less own known a there =
    let from = Has-map_cases (λ (b : NodeAgent). cond (b.node == k) (f b) b) agents a there in
    go from.0 from.1 (from.0.node == k) refl from.2
  where
    go : (b : NodeAgent) → Has agents b → (c : Bool) → (b.node == k) ≡ c → cond c (f b) b ≡ a → HasNoStep clock t a
    go b h true is e = subst (HasNoStep clock t) e (own b (grind (arith, nat_tests, is)) (known b h))
    go b h false is e = subst (HasNoStep clock t) e (known-less clock s t b (less b.node) (known b h))

-- with the executor that made its step, and with that which told of it
exec-own : (clock k x : ℕ) (s : Steps) (a : NodeAgent) → a.node ≡ k → HasNoStep clock s a →
    HasNoStep clock (lowered k x s) (record a { executors = change_executor x (stepped clock) a.executors })
exec-own clock k x s a at known = record {
  has = λ e there low.
      let from = Has-map_cases (λ (y : Executor). cond (y.task == x) (stepped clock y) y) a.executors e there in
      go e low from.0 from.1 (from.0.task == x) refl from.2;
}
  where
    go : (e : Executor) → e.task < before_on (lowered k x s) a.node → (y : Executor) → Has a.executors y → (b : Bool) →
        (y.task == x) ≡ b → cond b (stepped clock y) y ≡ e → has_step clock e ≡ false
    go e low y h true is same =
        let task : e.task ≡ y.task = ap (λ (z : Executor). z.task) (sym same) ∙ (stepped-aim clock y).0 in
        let its : y.task ≡ x = grind (arith, nat_tests, is) in
        let most : before_on (lowered k x s) a.node ≤ x =
        subst (λ n. before_on (lowered k x s) n ≤ x) (sym at) (lower-own k x s) in
        absurd (omega (arith, low, task, its, most))
    go e low y h false is same =
        let less = lower-less k x a.node s in
        let task : y.task ≡ e.task = ap (λ (z : Executor). z.task) same in
        subst (λ (z : Executor). has_step clock z ≡ false) same (known.has y h (omega (arith, low, less, task)))

told-own : (clock x : ℕ) (s : Steps) (a : NodeAgent) → HasNoStep clock s a →
    HasNoStep clock s (record a { executors = change_executor x told a.executors })
told-own clock x s a known = record {
  has = λ e there low.
      let from = Has-map_cases (λ (y : Executor). cond (y.task == x) (told y) y) a.executors e there in
      go e low from.0 from.1 (from.0.task == x) from.2;
}
  where
    go : (e : Executor) → e.task < before_on s a.node → (y : Executor) → Has a.executors y → (b : Bool) →
        cond b (told y) y ≡ e → has_step clock e ≡ false
    go e low y h true same =
        let task : y.task ≡ e.task = ap (λ (z : Executor). z.task) same in
        subst (λ (z : Executor). has_step clock z ≡ false) same
        (step-told clock y ∙ known.has y h (omega (arith, low, task)))
    go e low y h false same =
        let task : y.task ≡ e.task = ap (λ (z : Executor). z.task) same in
        subst (λ (z : Executor). has_step clock z ≡ false) same (known.has y h (omega (arith, low, task)))

reported-clock : (version : ℕ) (w : World) (o : Option Executor) → (reported_by version w o).clock ≡ w.tables.clock
reported-clock version w None = refl
reported-clock version w (Some e) = refl

-- what is known after each duty of the agents' loop
pub known-after : (w : World) (d : Duty) (s : Steps) → role_of d ≡ role.Agents →
    ((a : NodeAgent) → Has w.agents a → HasNoStep w.tables.clock s a) → (a : NodeAgent) → Has (effect w d).agents a →
    HasNoStep (effect w d).tables.clock (steps_by d s) a
known-after w (duty.Register k) s own known a there =
    changed-known w.tables.clock s s k begun w.agents (λ node. omega arith)
    (λ b at is. record { has = λ e h low. is.has e h low }) known a there
known-after w (duty.Beat k) s own known a there = known a there
known-after w (duty.Apply k) s own known a there =
    changed-known w.tables.clock s (lowered k 0 s) k (λ b. take_in w.tables.clock b.inbox b) w.agents
    (λ node. lower-less k 0 node s)
    (λ b at is. record {
      has = λ e h low.
          let zero = lower-own k 0 s in
          let under : e.task < before_on (lowered k 0 s) k =
          subst (λ n. e.task < before_on (lowered k 0 s) n) (taken-node w.tables.clock b.inbox b ∙ at) low in
          absurd (omega (arith, zero, under));
    }) known a there
known-after w (duty.Pull k) s own known a there = go (message_for w k) there
  where
    go : (o : Option Message) → Has (after_pull w k o).agents a → HasNoStep (after_pull w k o).tables.clock s a
    go None h = known a h
    go (Some m) h =
        changed-known w.tables.clock s s k (received m) w.agents (λ node. omega arith)
        (λ b at is. record { has = λ e has low. is.has e has low }) known a h
known-after w (duty.Exec k x) s own known a there =
    changed-known w.tables.clock s (lowered k x s) k
    (λ b. record b { executors = change_executor x (stepped w.tables.clock) b.executors }) w.agents
    (λ node. lower-less k x node s) (λ b at is. exec-own w.tables.clock k x s b at is) known a there
known-after w (duty.Report k x) s own known a there =
    subst (λ clock. HasNoStep clock s a) (sym (reported-clock (w.entries + 1) w (executor_at w k x)))
    (changed-known w.tables.clock s s k (λ b. record b { executors = change_executor x told b.executors }) w.agents
    (λ node. omega arith) (λ b at is. told-own w.tables.clock x s b is) known a there)
known-after w (duty.Forget k x) s own known a there =
    changed-known w.tables.clock s s k (λ b. record b { executors = drop_row executor_task x b.executors }) w.agents
    (λ node. omega arith)
    (λ b at is. record {
      has = λ e h low.
          is.has e (Has-filter_cases (λ (y : Executor). not (y.task == x)) b.executors e h).0 low;
    }) known a there
known-after w _ s own known a there = absurd cc
