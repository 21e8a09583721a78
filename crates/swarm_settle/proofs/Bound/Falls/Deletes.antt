-- A row that goes makes the measure smaller: what it had before it pays for the message that it is gone, and for the executor
-- that its update in the inbox may still bring.
use Rattle.std.proofs.Common.{Bool, List, None, Option, Some, [], ap, arith, cond, count_by, eqb, false, inl, inr, not, refl, subst, sym, true, ℕ, ◌*◌, ◌+◌, ◌∙◌, ◌∷◌, ◌≡◌, ◌≤◌}
use Rattle.std.proofs.lemmas.Bool.Decides.{nat_tests}
use Rattle.std.proofs.lemmas.List.Sums.{sum_by-cons}
use Rattle.std.specs.List.{sum_by}
use Rattle.std.specs.Prelude.{is_some, ◌&&◌}
use Rattle.swarm_settle.proofs.Bound.Messages.World.{Known}
use Rattle.swarm_settle.proofs.Bound.Sending.Left.{row_at-left_other}
use Rattle.swarm_settle.proofs.Bound.Sending.Numbers.{sum-one}
use Rattle.swarm_settle.proofs.Bound.Sending.Steps.{but-left, one-messages}
use Rattle.swarm_settle.proofs.Bound.Sending.Worlds.{rises-from}
use Rattle.swarm_settle.proofs.Bound.Sums.{filtered-falls, sum-join, sum-le}
use Rattle.swarm_settle.specs.Bound.Coming.{coming}
use Rattle.swarm_settle.specs.Bound.Left.{brings, executes, executor_left, has_executor, inbox_left, message_left, task_left}
use Rattle.swarm_settle.specs.Bound.Measure.{measure}
use Rattle.swarm_model.proofs.Laws.GivesOut.{IsGivenInbox, gives-still}
use Rattle.swarm_model.proofs.Moves.EachDuty.{with-tables}
use Rattle.swarm_model.proofs.Moves.Tables.{move-drop}
use Rattle.swarm_objects.proofs.RowLemmas.{row_at-Some}
use Rattle.swarm_objects.specs.Agents.Messages.{names}
use Rattle.swarm_objects.specs.Changes.{with_tables}
use Rattle.swarm_objects.specs.Kinds.{bit}
use Rattle.swarm_objects.specs.Loops.Reaper.{without_task}
use Rattle.swarm_objects.specs.Rows.{Has, agent_node, drop_row, has_row, is_row_and, is_some_and, on_row, row_at, task_id}
use Rattle.swarm_objects.specs.World.{World}
use Rattle.swarm_objects.specs.declared.agents.NodeAgent.{NodeAgent}
use Rattle.swarm_objects.specs.declared.messages.AssignChange.TheVariants as assign
use Rattle.swarm_objects.specs.declared.messages.AssignChange.{AssignChange}
use Rattle.swarm_objects.specs.declared.messages.Message.{Message}
use Rattle.swarm_objects.specs.declared.tasks.Task.{Task}

abbrev one_if : Bool → ℕ
one_if b = cond b 1 0

-- an update of the task that went brings an executor, where none is there
brings-more : (w : World) (a : NodeAgent) (id : ℕ) (c : AssignChange) →
    one_if (brings (with_tables w (without_task id w.tables)) a c)
    ≤ one_if (brings w a c) + cond (not (executes id a)) (one_if (names id c)) 0
brings-more w a id (assign.Remove gone) = omega arith
brings-more w a id (assign.Update i) = go (eqb i.task id) refl
  where
    less : (p q : Bool) → one_if (not p && not q) ≤ cond (not q) 1 0
    less p true = omega (arith, off (not p))
      where
        off : (b : Bool) → one_if (b && false) ≡ 0
        off true = refl
        off false = refl
    less true false = omega arith
    less false false = omega arith

    go : (b : Bool) → eqb i.task id ≡ b →
        one_if (not (has_row task_id i.task (drop_row task_id id w.tables.tasks)) && not (executes i.task a))
        ≤ one_if (not (has_row task_id i.task w.tables.tasks) && not (executes i.task a))
        + cond (not (executes id a)) (one_if b) 0
    go true e =
        let is : i.task ≡ id = grind (arith, nat_tests, e) in
        let most = less (has_row task_id i.task (drop_row task_id id w.tables.tasks)) (executes i.task a) in
        omega (arith, most, ap (λ (k : ℕ). cond {A = ℕ} (not (executes k a)) 1 0) is)
    go false e =
        omega (
          arith,
          ap (λ (o : Option Task). one_if (not (is_some o) && not (executes i.task a)))
              (row_at-left_other task_id id i.task w.tables.tasks e),
        )

all-more : (w : World) (a : NodeAgent) (id : ℕ) (cs : List AssignChange) →
    count_by (brings (with_tables w (without_task id w.tables)) a) cs
    ≤ count_by (brings w a) cs + cond (not (executes id a)) (count_by (names id) cs) 0
all-more w a id [] = omega arith
all-more w a id (c ∷ cs) =
    omega (
      arith,
      all-more w a id cs,
      brings-more w a id c,
      sum_by-cons (λ d. one_if (brings (with_tables w (without_task id w.tables)) a d)) c cs,
      sum_by-cons (λ d. one_if (brings w a d)) c cs,
      added (not (executes id a)),
    )
  where
    added : (b : Bool) →
        cond b (count_by (names id) (c ∷ cs)) 0 ≡ cond b (one_if (names id c)) 0 + cond b (count_by (names id) cs) 0
    added true = sum_by-cons (λ d. one_if (names id d)) c cs
    added false = refl

none-named : (w : World) (a : NodeAgent) (id : ℕ) (cs : List AssignChange) →
    ((i : _) → Has cs (assign.Update i) → eqb i.task id ≡ false) → count_by (names id) cs ≡ 0
none-named w a id [] none = refl
none-named w a id (assign.Remove gone ∷ cs) none =
    omega (
      arith,
      sum_by-cons (λ d. one_if (names id d)) (assign.Remove gone) cs,
      none-named w a id cs (λ i h. none i (inr h)),
    )
none-named w a id (assign.Update i ∷ cs) none =
    omega (
      arith,
      sum_by-cons (λ d. one_if (names id d)) (assign.Update i) cs,
      ap one_if (none i (inl refl)),
      none-named w a id cs (λ j h. none j (inr h)),
    )

abbrev or_none : Option ℕ → ℕ
or_none None = 0
or_none (Some node) = node

-- only the inbox of its own node's agent may, and only where no executor is there
inbox-more : (w : World) (a : NodeAgent) (x : Task) → Known w → Has w.agents a → Has w.tables.tasks x →
    inbox_left (with_tables w (without_task x.id w.tables)) a
    ≤ inbox_left w a + cond (eqb a.node (or_none x.node)) (14 * bit (not (has_executor w x))) 0
inbox-more w a x known h there = go a.inbox refl
  where
    of_inbox : (m : Message) → a.inbox ≡ Some m → (b : Bool) → eqb a.node (or_none x.node) ≡ b →
        cond (not (executes x.id a)) (count_by (names x.id) m.changes) 0 ≤ cond b (bit (not (has_executor w x))) 0
    of_inbox m at false e = nothing (not (executes x.id a))
      where
        given : IsGivenInbox w.tables a.node (Some m)
        given = subst (IsGivenInbox w.tables a.node) at (known.gives.agents a h).inbox

        other : (i : _) → Has m.changes (assign.Update i) → (b : Bool) → eqb i.task x.id ≡ b → b ≡ false
        other i k false q = refl
        other i k true q =
            let same : x.id ≡ i.task = grind (arith, nat_tests, q) in
            let on = ((given (assign.Update i) k).there x there same).0 in
            let is : or_none x.node ≡ a.node = ap or_none on in
            absurd (let wrong : eqb a.node (or_none x.node) ≡ true = grind (arith, nat_tests, is) in
            let no : false ≡ true = sym e ∙ wrong in cc)

        none : count_by (names x.id) m.changes ≡ 0
        none = none-named w a x.id m.changes (λ i k. other i k (eqb i.task x.id) refl)

        nothing : (b : Bool) → cond b (count_by (names x.id) m.changes) 0 ≤ 0
        nothing true = omega (arith, none)
        nothing false = omega arith
    of_inbox m at true e = few (executes x.id a) refl (x.node) refl
      where
        once : count_by (names x.id) m.changes ≤ 1
        once = known.once a h m at x.id

        row : row_at agent_node a.node w.agents ≡ Some a
        row =
            row_at-Some agent_node 0 w.agents a
            (rises-from agent_node 1 w.tables.next_id 0 w.agents (omega arith) known.orderly.agents) h

        few : (b : Bool) → executes x.id a ≡ b → (o : Option ℕ) → x.node ≡ o →
            cond (not b) (count_by (names x.id) m.changes) 0 ≤ bit (not (has_executor w x))
        few true q o on = omega arith
        few false q None on =
            omega (
              arith,
              once,
              ap (λ (p : Option ℕ). bit (not (is_some_and (is_row_and agent_node (executes x.id) w.agents) p))) on,
            )
        few false q (Some n) on =
            let home : a.node ≡ or_none x.node = grind (arith, nat_tests, e) in
            let same : n ≡ a.node = sym (home ∙ ap or_none on) in
            let none : has_executor w x ≡ false =
            ap (is_some_and (is_row_and agent_node (executes x.id) w.agents)) on
            ∙ ap (λ (k : ℕ). is_row_and agent_node (executes x.id) w.agents k) same
            ∙ ap (is_some_and (executes x.id)) row ∙ q in
            omega (arith, once, ap (λ (b : Bool). bit (not b)) none)

    times : (b : Bool) (k : ℕ) → cond b (14 * k) 0 ≡ 14 * cond b k 0
    times true k = refl
    times false k = refl

    go : (o : Option Message) → a.inbox ≡ o →
        on_row 0 (λ (m : Message). 1 + 14 * count_by (brings (with_tables w (without_task x.id w.tables)) a) m.changes) o
        ≤ on_row 0 (λ (m : Message). 1 + 14 * count_by (brings w a) m.changes) o
        + cond (eqb a.node (or_none x.node)) (14 * bit (not (has_executor w x))) 0
    go None at = omega arith
    go (Some m) at =
        omega (
          arith,
          all-more w a x.id m.changes,
          of_inbox m at (eqb a.node (or_none x.node)) refl,
          times (eqb a.node (or_none x.node)) (bit (not (has_executor w x))),
        )

abbrev own_left : World → NodeAgent → ℕ
own_left w a = sum_by executor_left a.executors + inbox_left w a

-- where no more can come than before
pub falls-left : (m : ℕ) (w : World) (x : Task) → Known w → Has w.tables.tasks x →
    coming m (without_task x.id w.tables) ≤ coming m w.tables →
    measure m (with_tables w (without_task x.id w.tables)) + 1 ≤ measure m w
falls-left m w x known there come =
    let moved = move-drop w.tables x.id in
    let messages = one-messages w v x.id known.orderly known.gives (with-tables w _ moved)
    (gives-still w v moved refl refl known.gives) refl (but-left w.tables x.id) in
    let tasks = filtered-falls (task_left w) (λ y. not (eqb (task_id y) x.id)) w.tables.tasks x there out in
    let own = sum-le (own_left v) (λ a. own_left w a + cond (eqb a.node (or_none x.node)) more 0) w.agents
    (λ a h. let inbox = inbox-more w a x known h there in omega (arith, inbox)) in
    let parts = sum-join (own_left w) (λ a. cond (eqb a.node (or_none x.node)) more 0) w.agents in
    let one = sum-one agent_node more (or_none x.node) 0 w.agents
    (rises-from agent_node 1 w.tables.next_id 0 w.agents (omega arith) known.orderly.agents) in
    let after = sum-join (own_left v) (λ (a : NodeAgent). message_left v a.node) w.agents in
    let before = sum-join (own_left w) (λ (a : NodeAgent). message_left w a.node) w.agents in
    omega (arith, messages, tasks, own, parts, one, after, before, come)
  where
    v : World
    v = with_tables w (without_task x.id w.tables)

    more : ℕ
    more = 14 * bit (not (has_executor w x))

    out : not (eqb (task_id x) x.id) ≡ false
    out = let same : eqb x.id x.id ≡ true = grind (arith, nat_tests) in ap not same
