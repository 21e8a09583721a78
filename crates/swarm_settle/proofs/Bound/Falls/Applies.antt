-- A message that is applied makes the measure smaller: each executor that comes was a task's without one, or the inbox's.
use Rattle.std.proofs.Common.{Bool, List, None, Option, Some, [], ap, arith, cond, count_by, eqb, false, inl, inr, ltb, not, refl, subst, sym, true, ℕ, ◌*◌, ◌+◌, ◌∙◌, ◌∷◌, ◌≡◌, ◌≤◌}
use Rattle.std.proofs.lemmas.Bool.Decides.{nat_tests}
use Rattle.std.proofs.lemmas.List.Sums.{sum_by-cons}
use Rattle.std.specs.List.{list_any, sum_by}
use Rattle.std.specs.Option.{option_map}
use Rattle.std.specs.Prelude.{fold, is_some, map, ◌&&◌}
use Rattle.swarm_settle.proofs.Bound.Falls.Rows.{has-changed, has-mapped}
use Rattle.swarm_settle.proofs.Bound.Messages.World.{Known}
use Rattle.swarm_settle.proofs.Bound.Sending.Worlds.{rises-from}
use Rattle.swarm_settle.proofs.Bound.Sums.{changed-le, mapped-le, sum-falls, sum-join, sum-le, sum-same}
use Rattle.swarm_settle.specs.Bound.Left.{agent_left, brings, executes, executor_left, has_executor, task_left}
use Rattle.swarm_settle.specs.Bound.Measure.{measure}
use Rattle.swarm_model.proofs.Base.IsDuty.{IsDuty}
use Rattle.swarm_model.proofs.Laws.GivesOut.{AreGivenChanges, IsGivenChange, IsGivenInbox}
use Rattle.swarm_objects.proofs.Hearing.{row_at-change_row}
use Rattle.swarm_objects.proofs.RowChanges.{row_at-with_row}
use Rattle.swarm_objects.proofs.RowLemmas.{Has-from_row_at, sum_by-change_row}
use Rattle.swarm_objects.proofs.Tests.{never-both}
use Rattle.swarm_objects.specs.Agents.Messages.{applied, apply_change, change_executor, gone_executor, left_out, names, new_executor}
use Rattle.swarm_objects.specs.Kinds.{bit}
use Rattle.swarm_objects.specs.Loops.Agents.{after_apply, take_in}
use Rattle.swarm_objects.specs.Rows.{agent_node, change_row, executor_task, has_row, is_row_and, is_some_and, row_at, task_id, with_row}
use Rattle.swarm_objects.specs.World.{World}
use Rattle.swarm_objects.specs.declared.agents.Executor.{Executor}
use Rattle.swarm_objects.specs.declared.agents.NodeAgent.{NodeAgent}
use Rattle.swarm_objects.specs.declared.duties.Duty.TheVariants as duty
use Rattle.swarm_objects.specs.declared.messages.AssignChange.TheVariants as assign
use Rattle.swarm_objects.specs.declared.messages.AssignChange.{AssignChange}
use Rattle.swarm_objects.specs.declared.messages.Assigned.{Assigned}
use Rattle.swarm_objects.specs.declared.messages.Message.{Message}
use Rattle.swarm_objects.specs.declared.tasks.Task.{Task}
use Rattle.swarm_settle.proofs.ShapeDuties.{found}

-- One row more.

sum-more : {X : Type 0} (key : X → ℕ) (f : X → ℕ) (new : X) (rows : List X) → has_row key (key new) rows ≡ false →
    sum_by f (with_row key new rows) ≡ f new + sum_by f rows
sum-more key f new [] none = sum_by-cons f new []
sum-more key f new (x ∷ rows) none =
    go (ltb (key new) (key x)) (eqb (key new) (key x)) refl (eqb (key x) (key new)) refl none
    (λ rest. sum-more key f new rows rest)
  where
    go : (less same : Bool) → eqb (key new) (key x) ≡ same → (other : Bool) → eqb (key x) (key new) ≡ other →
        is_some (cond other (Some x) (row_at key (key new) rows)) ≡ false →
        (has_row key (key new) rows ≡ false → sum_by f (with_row key new rows) ≡ f new + sum_by f rows) →
        sum_by f (cond less (new ∷ x ∷ rows) (cond same (new ∷ rows) (x ∷ with_row key new rows)))
        ≡ f new + sum_by f (x ∷ rows)
    go true same e other q gone rest = sum_by-cons f new (x ∷ rows)
    go false true e true q gone rest = absurd (let wrong : true ≡ false = gone in cc)
    go false true e false q gone rest =
        absurd (let wrong : eqb (key x) (key new) ≡ true = grind (arith, nat_tests, e) in
        never-both (eqb (key x) (key new)) q wrong)
    go false false e true q gone rest = absurd (let wrong : true ≡ false = gone in cc)
    go false false e false q gone rest =
        omega (arith, rest gone, sum_by-cons f x (with_row key new rows), sum_by-cons f x rows)

-- Executors of the node's tasks, where its agent has these.

abbrev executed : World → ℕ → List Executor → Task → Bool
executed w n es x =
    is_some_and (λ k. cond (eqb k n) (has_row executor_task x.id es) (is_row_and agent_node (executes x.id) w.agents k))
    x.node

-- what a task counts that has none
abbrev unmet : World → ℕ → List Executor → Task → ℕ
unmet w n es x = 14 * bit (not (executed w n es x))

abbrev all_unmet : World → ℕ → List Executor → ℕ
all_unmet w n es = sum_by (unmet w n es) w.tables.tasks

-- each executor stays
abbrev StayThere : List Executor → List Executor → Type 0
StayThere es fs = (k : ℕ) → has_row executor_task k es ≡ true → has_row executor_task k fs ≡ true

more-met : (w : World) (n : ℕ) (es fs : List Executor) (x : Task) → StayThere es fs → unmet w n fs x ≤ unmet w n es x
more-met w n es fs x stay = go x.node
  where
    bits : (a b : Bool) → (a ≡ true → b ≡ true) → bit (not b) ≤ bit (not a)
    bits true b up = omega (arith, ap (λ (c : Bool). bit (not c)) (up refl))
    bits false true up = omega arith
    bits false false up = omega arith

    at : (k : ℕ) (b : Bool) →
        bit (not (cond b (has_row executor_task x.id fs) (is_row_and agent_node (executes x.id) w.agents k)))
        ≤ bit (not (cond b (has_row executor_task x.id es) (is_row_and agent_node (executes x.id) w.agents k)))
    at k true = bits (has_row executor_task x.id es) (has_row executor_task x.id fs) (stay x.id)
    at k false = omega arith

    go : (o : Option ℕ) →
        14 * bit (not (is_some_and (λ k. cond (eqb k n) (has_row executor_task x.id fs)
        (is_row_and agent_node (executes x.id) w.agents k)) o))
        ≤ 14 * bit (not (is_some_and (λ k. cond (eqb k n) (has_row executor_task x.id es)
        (is_row_and agent_node (executes x.id) w.agents k)) o))
    go None = omega arith
    go (Some k) = let one = at k (eqb k n) in omega (arith, one)

all-met : (w : World) (n : ℕ) (es fs : List Executor) → StayThere es fs → all_unmet w n fs ≤ all_unmet w n es
all-met w n es fs stay = sum-le (unmet w n fs) (unmet w n es) w.tables.tasks (λ x h. more-met w n es fs x stay)

-- a task of the node gets its executor
now-met : (w : World) (n : ℕ) (es fs : List Executor) (x : Task) → x.node ≡ Some n →
    has_row executor_task x.id es ≡ false → has_row executor_task x.id fs ≡ true → unmet w n fs x + 14 ≤ unmet w n es x
now-met w n es fs x on was is =
    omega (
      arith,
      ap (λ (b : Bool). bit (not b)) (here es ∙ was),
      ap (λ (b : Bool). bit (not b)) (here fs ∙ is),
    )
  where
    same : eqb n n ≡ true
    same = grind (arith, nat_tests)

    here : (gs : List Executor) → executed w n gs x ≡ has_row executor_task x.id gs
    here gs =
        ap (is_some_and (λ k. cond (eqb k n) (has_row executor_task x.id gs)
        (is_row_and agent_node (executes x.id) w.agents k))) on
        ∙ ap (λ (b : Bool). cond b (has_row executor_task x.id gs)
        (is_row_and agent_node (executes x.id) w.agents n)) same

-- One change.

abbrev aimed : Assigned → Executor → Executor
aimed i e = record e { desired = i.desired }

changed-there : (task : ℕ) (f : Executor → Executor) (es : List Executor) → ((e : Executor) → (f e).task ≡ e.task) →
    StayThere es (change_executor task f es)
changed-there task f es same k is = has-changed executor_task k task f es same ∙ is

apply-there : (clock : ℕ) (es : List Executor) (c : AssignChange) → StayThere es (apply_change clock es c)
apply-there clock es (assign.Remove gone) k is = changed-there gone gone_executor es (λ e. refl) k is
apply-there clock es (assign.Update i) k is = go (has_row executor_task i.task es)
  where
    go : (b : Bool) →
        has_row executor_task k (cond b (change_executor i.task (aimed i) es)
        (with_row executor_task (new_executor clock i) es)) ≡ true
    go true = changed-there i.task (aimed i) es (λ e. refl) k is
    go false = ap is_some (row_at-with_row executor_task k (new_executor clock i) es) ∙ either (eqb i.task k)
      where
        either : (b : Bool) → is_some (cond b (Some (new_executor clock i)) (row_at executor_task k es)) ≡ true
        either true = refl
        either false = is

new-there : (clock : ℕ) (es : List Executor) (i : Assigned) →
    has_row executor_task i.task (with_row executor_task (new_executor clock i) es) ≡ true
new-there clock es i =
    let same : eqb i.task i.task ≡ true = grind (arith, nat_tests) in
    ap is_some (row_at-with_row executor_task i.task (new_executor clock i) es)
    ∙ ap (λ (b : Bool). is_some (cond b (Some (new_executor clock i)) (row_at executor_task i.task es))) same

-- executors and tasks without one, together
abbrev both_left : World → ℕ → List Executor → ℕ
both_left w n es = sum_by executor_left es + all_unmet w n es

kept-both : (w : World) (n task : ℕ) (f : Executor → Executor) (es : List Executor) →
    ((e : Executor) → (f e).task ≡ e.task) → ((e : Executor) → executor_left (f e) ≡ executor_left e) →
    both_left w n (change_executor task f es) ≤ both_left w n es
kept-both w n task f es same left =
    let sums = changed-le executor_task task executor_left executor_left f es
    (λ e h at. omega (arith, left e)) (λ e h. omega arith) in
    let met = all-met w n es (change_executor task f es) (changed-there task f es same) in
    omega (arith, sums, met)

change-both : (w : World) (n clock : ℕ) (a : NodeAgent) (es : List Executor) (c : AssignChange) →
    StayThere a.executors es → IsGivenChange w.tables n c →
    both_left w n (apply_change clock es c) ≤ both_left w n es + 14 * cond {A = ℕ} (brings w a c) 1 0
change-both w n clock a es (assign.Remove gone) stay given =
    let kept = kept-both w n gone gone_executor es (λ e. refl) (λ e. refl) in omega (arith, kept)
change-both w n clock a es (assign.Update i) stay given = go (has_row executor_task i.task es) refl
  where
    fs : List Executor
    fs = with_row executor_task (new_executor clock i) es

    row : (o : Option Task) → row_at task_id i.task w.tables.tasks ≡ o → has_row executor_task i.task es ≡ false →
        all_unmet w n fs + 14 ≤ all_unmet w n es + 14 * cond {A = ℕ} (brings w a (assign.Update i)) 1 0
    row None at none =
        let gone : has_row task_id i.task w.tables.tasks ≡ false = ap is_some at in
        let away : executes i.task a ≡ false = unheld (executes i.task a) refl in
        let met = all-met w n es fs (λ k is. there k is) in
        omega (
          arith,
          met,
          ap (λ (b : Bool). cond {A = ℕ} (not b && not (executes i.task a)) 1 0) gone,
          ap (λ (b : Bool). cond {A = ℕ} (not b) 1 0) away,
        )
      where
        there : StayThere es fs
        there k is =
            ap is_some (row_at-with_row executor_task k (new_executor clock i) es) ∙ either (eqb i.task k)
          where
            either : (b : Bool) → is_some (cond b (Some (new_executor clock i)) (row_at executor_task k es)) ≡ true
            either true = refl
            either false = is

        unheld : (b : Bool) → executes i.task a ≡ b → b ≡ false
        unheld false e = refl
        unheld true e = never-both (has_row executor_task i.task es) none (stay i.task e)
    row (Some x) at none =
        let is = Has-from_row_at task_id i.task w.tables.tasks x at in
        let on = (given.there x is.0 is.1).0 in
        let fall = sum-falls (unmet w n fs) (unmet w n es) 14 w.tables.tasks x is.0
        (now-met w n es fs x on (ap (λ (k : ℕ). has_row executor_task k es) is.1 ∙ none)
        (ap (λ (k : ℕ). has_row executor_task k fs) is.1 ∙ new-there clock es i))
        (λ y h. more-met w n es fs y there) in
        omega (arith, fall)
      where
        there : StayThere es fs
        there k is =
            ap is_some (row_at-with_row executor_task k (new_executor clock i) es) ∙ either (eqb i.task k)
          where
            either : (b : Bool) → is_some (cond b (Some (new_executor clock i)) (row_at executor_task k es)) ≡ true
            either true = refl
            either false = is

    go : (b : Bool) → has_row executor_task i.task es ≡ b →
        both_left w n (cond b (change_executor i.task (aimed i) es) fs)
        ≤ both_left w n es + 14 * cond {A = ℕ} (brings w a (assign.Update i)) 1 0
    go true e =
        let kept = kept-both w n i.task (aimed i) es (λ e. refl) (λ e. refl) in omega (arith, kept)
    go false e =
        let sums = sum-more executor_task executor_left (new_executor clock i) es e in
        let met = row (row_at task_id i.task w.tables.tasks) refl e in
        omega (arith, sums, met)

all-both : (w : World) (n clock : ℕ) (a : NodeAgent) (cs : List AssignChange) (es : List Executor) →
    StayThere a.executors es → AreGivenChanges w.tables n cs →
    both_left w n (fold (apply_change clock) es cs) ≤ both_left w n es + 14 * count_by (brings w a) cs
all-both w n clock a [] es stay given = omega arith
all-both w n clock a (c ∷ cs) es stay given =
    let one = change-both w n clock a es c stay (given c (inl refl)) in
    let rest = all-both w n clock a cs (apply_change clock es c) (λ k is. apply-there clock es c k (stay k is))
    (λ d h. given d (inr h)) in
    omega (arith, one, rest, sum_by-cons (λ d. cond {A = ℕ} (brings w a d) 1 0) c cs)

-- who isn't named any more is gone, which counts nothing
left-both : (w : World) (n : ℕ) (message : Message) (es : List Executor) →
    both_left w n (map (left_out message) es) ≤ both_left w n es
left-both w n message es =
    let sums = mapped-le executor_left executor_left (left_out message) es (λ e h. omega (arith, left e)) in
    let met = all-met w n es (map (left_out message) es)
    (λ k is. has-mapped executor_task k (left_out message) es task ∙ is) in
    omega (arith, sums, met)
  where
    left : (e : Executor) → executor_left (left_out message e) ≡ executor_left e
    left e = go (message.complete && not (list_any (names e.task) message.changes))
      where
        go : (b : Bool) → executor_left (cond b (gone_executor e) e) ≡ executor_left e
        go true = refl
        go false = refl

    task : (e : Executor) → (left_out message e).task ≡ e.task
    task e = go (message.complete && not (list_any (names e.task) message.changes))
      where
        go : (b : Bool) → (cond b (gone_executor e) e).task ≡ e.task
        go true = refl
        go false = refl

-- The duty.

pub falls-apply : (m : ℕ) (w : World) (n : ℕ) → Known w → IsDuty w (duty.Apply n) →
    measure m (after_apply w n) + 1 ≤ measure m w
falls-apply m w n known of =
    let changes = all-both w n clock of.row message.changes es (λ k is. is) given in
    let out = left-both w n message (fold (apply_change clock) es message.changes) in
    let tasks = sum-same (λ x. task_left v x + unmet w n es x) (λ x. task_left w x + unmet w n fs x) w.tables.tasks
    (λ x h. omega (
      arith,
      ap (λ (b : Bool). bit (not b)) (before x),
      ap (λ (b : Bool). bit (not b)) (after x),
    )) in
    let left = sum-join (task_left v) (unmet w n es) w.tables.tasks in
    let right = sum-join (task_left w) (unmet w n fs) w.tables.tasks in
    let agents = sum_by-change_row agent_node (agent_left w) 0 take w.agents of.row
    (rises-from agent_node 1 w.tables.next_id 0 w.agents (omega arith) known.orderly.agents) of.there in
    let number = ap (λ (k : ℕ). sum_by (agent_left w) (change_row agent_node k take w.agents)) of.id_is in
    omega (arith, changes, out, tasks, left, right, agents, number, own, inbox)
  where
    clock : ℕ
    clock = w.tables.clock

    v : World
    v = after_apply w n

    take : NodeAgent → NodeAgent
    take a = take_in w.tables.clock a.inbox a

    message : Message
    message = of.fact.1.0

    es : List Executor
    es = of.row.executors

    fs : List Executor
    fs = applied w.tables.clock of.fact.1.0 of.row.executors

    node : (a : NodeAgent) → agent_node (take a) ≡ agent_node a
    node a = its a.inbox
      where
        its : (o : Option Message) → (take_in w.tables.clock o a).node ≡ a.node
        its None = refl
        its (Some z) = refl

    taken : take of.row ≡ take_in w.tables.clock (Some of.fact.1.0) of.row
    taken = ap (λ (o : Option Message). take_in w.tables.clock o of.row) of.fact.1.1

    given : AreGivenChanges w.tables n of.fact.1.0.changes
    given =
        subst (λ (k : ℕ). AreGivenChanges w.tables k of.fact.1.0.changes) of.id_is
        (subst (IsGivenInbox w.tables of.row.node) of.fact.1.1 (known.gives.agents of.row of.there).inbox)

    there : row_at agent_node n w.agents ≡ Some of.row
    there = found agent_node w.tables.next_id n w.agents _ known.orderly.agents of

    own : agent_left w (take of.row) ≡ agent_left w (take_in w.tables.clock (Some of.fact.1.0) of.row)
    own = ap (agent_left w) taken

    inbox : agent_left w of.row
        ≡ agent_left w (record of.row { inbox = Some of.fact.1.0 })
    inbox = ap (λ (o : Option Message). agent_left w (record of.row { inbox = o })) of.fact.1.1

    -- its executor is there as the agent has it
    before : (x : Task) → has_executor w x ≡ executed w n es x
    before x = go x.node
      where
        at : (k : ℕ) (b : Bool) → eqb k n ≡ b →
            is_row_and agent_node (executes x.id) w.agents k
            ≡ cond b (has_row executor_task x.id es) (is_row_and agent_node (executes x.id) w.agents k)
        at k true e =
            let is : k ≡ n = grind (arith, nat_tests, e) in
            ap (λ (j : ℕ). is_row_and agent_node (executes x.id) w.agents j) is
            ∙ ap (is_some_and (executes x.id)) there
        at k false e = refl

        go : (o : Option ℕ) →
            is_some_and (is_row_and agent_node (executes x.id) w.agents) o
            ≡ is_some_and (λ k. cond (eqb k n) (has_row executor_task x.id es)
            (is_row_and agent_node (executes x.id) w.agents k)) o
        go None = refl
        go (Some k) = at k (eqb k n) refl

    after : (x : Task) → has_executor v x ≡ executed w n fs x
    after x = go x.node
      where
        at : (k : ℕ) (b : Bool) → eqb k n ≡ b →
            is_row_and agent_node (executes x.id) (change_row agent_node n take w.agents) k
            ≡ cond b (has_row executor_task x.id fs) (is_row_and agent_node (executes x.id) w.agents k)
        at k true e =
            let is : n ≡ k = grind (arith, nat_tests, e) in
            let same : eqb n n ≡ true = grind (arith, nat_tests) in
            ap (λ (j : ℕ). is_row_and agent_node (executes x.id) (change_row agent_node n take w.agents) j) (sym is)
            ∙ ap (is_some_and (executes x.id))
            (row_at-change_row agent_node n n take w.agents node
            ∙ ap (λ (b : Bool). cond b (option_map take (row_at agent_node n w.agents)) (row_at agent_node n w.agents)) same
            ∙ ap (option_map take) there)
            ∙ ap (executes x.id) taken
        at k false e =
            let other : eqb n k ≡ false = grind (arith, nat_tests, e) in
            ap (is_some_and (executes x.id))
            (row_at-change_row agent_node n k take w.agents node
            ∙ ap (λ (b : Bool). cond b (option_map take (row_at agent_node k w.agents)) (row_at agent_node k w.agents))
            other)

        go : (o : Option ℕ) →
            is_some_and (is_row_and agent_node (executes x.id) (change_row agent_node n take w.agents)) o
            ≡ is_some_and (λ k. cond (eqb k n) (has_row executor_task x.id fs)
            (is_row_and agent_node (executes x.id) w.agents k)) o
        go None = refl
        go (Some k) = at k (eqb k n) refl
