-- The next message is no longer than the node's tasks, its agent's executors and the changes in the inbox together.
use Rattle.std.proofs.Common.{Bool, List, None, Option, Some, [], ap, arith, cond, count_by, eqb, false, length, refl, subst, suc, true, zero, ℕ, ◌+◌, ◌∙◌, ◌∷◌, ◌≡◌, ◌≤◌}
use Rattle.std.proofs.lemmas.Bool.Decides.{nat_tests}
use Rattle.std.specs.List.{list_any}
use Rattle.std.specs.Option.{option_map}
use Rattle.std.specs.Prelude.{is_some, ◌||◌}
use Rattle.swarm_settle.proofs.Bound.Messages.Updates.{will-update}
use Rattle.swarm_settle.proofs.Bound.Messages.World.{Known}
use Rattle.swarm_settle.proofs.Bound.Sending.Differing.{differs}
use Rattle.swarm_settle.proofs.Bound.Sending.DueRows.{due_of}
use Rattle.swarm_settle.proofs.Bound.Sending.Numbers.{count-none, count-one, count-rows, count-same, count-tested, count-within, count_below}
use Rattle.swarm_settle.proofs.Bound.Sending.Worlds.{InNumbers, below-from, changes-named, in-numbers, is_named, rises-from, tasks_sent}
use Rattle.swarm_settle.specs.Bound.Left.{changes_due}
use Rattle.swarm_model.proofs.Laws.GivesOut.{IsGivenAgent}
use Rattle.swarm_model.specs.Laws.Size.{size_of_agent}
use Rattle.swarm_objects.proofs.Aims.{Aim, aim}
use Rattle.swarm_objects.proofs.RowLemmas.{Has-from_row_at}
use Rattle.swarm_objects.proofs.Tests.{has-any}
use Rattle.swarm_objects.specs.Agents.Messages.{assigned, assigned_task, is_assigned_on, names, sent_of}
use Rattle.swarm_objects.specs.Kinds.{bit}
use Rattle.swarm_objects.specs.Rows.{Has, executor_task, has_row, is_row_and, is_some_and, on_row, row_at, task_id}
use Rattle.swarm_objects.specs.World.{World}
use Rattle.swarm_objects.specs.declared.agents.Executor.{Executor}
use Rattle.swarm_objects.specs.declared.agents.NodeAgent.{NodeAgent}
use Rattle.swarm_objects.specs.declared.messages.AssignChange.TheVariants as assign
use Rattle.swarm_objects.specs.declared.messages.AssignChange.{AssignChange}
use Rattle.swarm_objects.specs.declared.messages.Assigned.{Assigned}
use Rattle.swarm_objects.specs.declared.messages.Message.{Message}
use Rattle.swarm_objects.specs.declared.messages.NodeSent.{NodeSent}
use Rattle.swarm_objects.specs.declared.tasks.Task.{Task}
use Rattle.swarm_settle.proofs.Aims.{aim_at, will}

count-or : (p q : ℕ → Bool) (n : ℕ) → count_below (λ k. p k || q k) n ≤ count_below p n + count_below q n
count-or p q zero = omega arith
count-or p q (suc n) = let rest = count-or p q n in omega (arith, rest, either (p n) (q n))
  where
    either : (a b : Bool) → bit (a || b) ≤ bit a + bit b
    either true b = omega arith
    either false b = omega arith

count-named : (cs : List AssignChange) (n : ℕ) → count_below (λ k. list_any (names k) cs) n ≤ length cs
count-named [] n = omega (arith, count-none (λ k. false) n (λ k. refl))
count-named (c ∷ cs) n =
    let parts = count-or (λ k. names k c) (λ k. list_any (names k) cs) n in
    let rest = count-named cs n in
    let one = single c in
    omega (arith, parts, rest, one)
  where
    turned : (i k : ℕ) → eqb i k ≡ eqb k i
    turned i k = grind (arith, nat_tests)

    single : (c : AssignChange) → count_below (λ k. names k c) n ≤ 1
    single (assign.Update a) =
        let one = count-one a.task n in
        omega (arith, one, count-same (λ k. eqb a.task k) (λ k. eqb k a.task) n (λ k. turned a.task k))
    single (assign.Remove gone) = omega (arith, count-none (λ k. false) n (λ k. refl))

-- the inbox updates the task
abbrev is_updated : Option Message → ℕ → Bool
is_updated inbox k = on_row false (λ (m : Message). list_any (names k) m.changes) inbox

count-updated : (inbox : Option Message) (n : ℕ) →
    count_below (is_updated inbox) n ≤ on_row 0 (λ (m : Message). length m.changes) inbox
count-updated None n = omega (arith, count-none (λ k. false) n (λ k. refl))
count-updated (Some m) n = count-named m.changes n

-- what was sent has an executor, or an update in the inbox
sent-there : (w : World) (a : NodeAgent) (k : ℕ) → Known w → Has w.agents a →
    has_row assigned_task k (tasks_sent (sent_of w a.node)) ≡ true →
    (has_row executor_task k a.executors || is_updated a.inbox k) ≡ true
sent-there w a k known h there = sent (sent_of w a.node) refl there
  where
    own : (j : ℕ) → eqb j j ≡ true
    own j = grind (arith, nat_tests)

    update : (o : Option Aim) → aim_at a.executors k ≡ o → is_some (will k a.inbox o) ≡ true →
        (o ≡ None → is_updated a.inbox k ≡ true)
    update o at some none = go (will k a.inbox None) refl
        (subst (λ (p : Option Aim). is_some (will k a.inbox p) ≡ true) none some)
      where
        go : (p : Option Aim) → will k a.inbox None ≡ p → is_some p ≡ true → is_updated a.inbox k ≡ true
        go None e some = absurd cc
        go (Some q) e some =
            let from = will-update k a.inbox q e in
            ap (λ (o : Option Message). is_updated o k) from.1
            ∙ has-any (names k) from.0.changes (assign.Update from.2) from.3
            (ap (λ (j : ℕ). eqb j k) from.4 ∙ own k)

    executor : (o : Option Executor) → row_at executor_task k a.executors ≡ o →
        is_some (will k a.inbox (option_map aim o)) ≡ true → (is_some o || is_updated a.inbox k) ≡ true
    executor None at some = update None (ap (option_map aim) at) some refl
    executor (Some e) at some = refl

    item : (s : NodeSent) → sent_of w a.node ≡ Some s → (o : Option Assigned) → row_at assigned_task k s.tasks ≡ o →
        is_some o ≡ true → (has_row executor_task k a.executors || is_updated a.inbox k) ≡ true
    item s e None at some = absurd cc
    item s e (Some i) at some =
        let row = Has-from_row_at assigned_task k s.tasks i at in
        let said : will k a.inbox (aim_at a.executors k) ≡ Some (i.desired, false) =
        subst (λ (j : ℕ). will j a.inbox (aim_at a.executors j) ≡ Some (i.desired, false)) row.1
        ((known.steps a h).items s i e row.0) in
        executor (row_at executor_task k a.executors) refl (ap is_some said)

    sent : (o : Option NodeSent) → sent_of w a.node ≡ o → has_row assigned_task k (tasks_sent o) ≡ true →
        (has_row executor_task k a.executors || is_updated a.inbox k) ≡ true
    sent None e none = absurd (let wrong : false ≡ true = none in cc)
    sent (Some s) e some = item s e (row_at assigned_task k s.tasks) refl some

named-there : (w : World) (a : NodeAgent) (k : ℕ) → Known w → Has w.agents a → is_named w a.node k ≡ true →
    (is_row_and task_id (is_assigned_on a.node) w.tables.tasks k
    || (has_row executor_task k a.executors || is_updated a.inbox k)) ≡ true
named-there w a k known h named = row (row_at task_id k w.tables.tasks) named
  where
    others : Bool
    others = has_row executor_task k a.executors || is_updated a.inbox k

    row : (o : Option Task) → differs (tasks_sent (sent_of w a.node)) k (due_of a.node o) ≡ true →
        (is_some_and (is_assigned_on a.node) o || others) ≡ true
    row None e = sent-there w a k known h e
    row (Some x) e = go (is_assigned_on a.node x) e
      where
        go : (b : Bool) → differs (tasks_sent (sent_of w a.node)) k (cond b (Some (assigned x)) None) ≡ true →
            (b || others) ≡ true
        go true e = refl
        go false e = sent-there w a k known h e

pub changes-most : (w : World) (a : NodeAgent) → Known w → Has w.agents a →
    changes_due w a.node ≤ count_by (is_assigned_on a.node) w.tables.tasks + size_of_agent a
changes-most w a known h =
    let named = changes-named w a.node n is in
    let within = count-within (is_named w a.node)
    (λ k. is_row_and task_id (is_assigned_on a.node) w.tables.tasks k
    || (has_row executor_task k a.executors || is_updated a.inbox k)) n (λ k e. named-there w a k known h e) in
    let first = count-or (is_row_and task_id (is_assigned_on a.node) w.tables.tasks)
    (λ k. has_row executor_task k a.executors || is_updated a.inbox k) n in
    let second = count-or (λ k. has_row executor_task k a.executors) (is_updated a.inbox) n in
    let tasks = count-tested task_id (is_assigned_on a.node) 0 n w.tables.tasks is.rises is.below in
    let executors = count-rows executor_task 0 n a.executors
    (rises-from executor_task 1 n 0 a.executors (omega arith) given.executors.rises)
    (below-from executor_task n a.executors (λ e k. (given.executors.given e k).below)) in
    omega (arith, named, within, first, second, tasks, executors, count-updated a.inbox n)
  where
    n : ℕ
    n = w.tables.next_id

    is : InNumbers w.tables.next_id w
    is = in-numbers w w.tables.next_id (omega arith) known.orderly known.gives

    given : IsGivenAgent w.tables a
    given = known.gives.agents a h
