-- An inbox updates each task once.
use Rattle.std.proofs.Common.{Bool, List, None, Option, Some, [], ap, arith, cond, count_by, eqb, false, inl, inr, not, refl, subst, sym, true, ℕ, ◌++◌, ◌∙◌, ◌∷◌, ◌≡◌, ◌≤◌, ◌⊎◌}
use Rattle.std.proofs.lemmas.Bool.Decides.{nat_tests}
use Rattle.std.proofs.lemmas.List.Sums.{sum_by-append, sum_by-cons}
use Rattle.std.specs.Prelude.{filter, flat_map, map}
use Rattle.swarm_settle.proofs.Bound.Messages.Agents.{AgentsCome, IsBare, KeepsAgent}
use Rattle.swarm_model.proofs.Laws.Timely.{each-changed}
use Rattle.swarm_objects.proofs.Hearing.{update-row}
use Rattle.swarm_objects.proofs.Rising.{rising-rises}
use Rattle.swarm_objects.proofs.RowLemmas.{Has-from_row_at}
use Rattle.swarm_objects.specs.Agents.Messages.{assigned_task, change_executor, change_of, changes_of, due_set, is_sent, message_for, message_with, names, next_message, sent_of, tasks_of_either, update_of}
use Rattle.swarm_objects.specs.Duties.{effect_by}
use Rattle.swarm_objects.specs.Loops.Agents.{after_pull, begun, received, stepped, take_in, told}
use Rattle.swarm_objects.specs.Rows.{Has, IsRising, RisesFrom, agent_node, drop_row, executor_task, has_row, itself, on_row, row_at}
use Rattle.swarm_objects.specs.World.{World}
use Rattle.swarm_objects.specs.declared.agents.NodeAgent.{NodeAgent}
use Rattle.swarm_objects.specs.declared.duties.Duty.TheVariants as duty
use Rattle.swarm_objects.specs.declared.duties.Duty.{Duty}
use Rattle.swarm_objects.specs.declared.messages.AssignChange.TheVariants as assign
use Rattle.swarm_objects.specs.declared.messages.AssignChange.{AssignChange}
use Rattle.swarm_objects.specs.declared.messages.Assigned.{Assigned}
use Rattle.swarm_objects.specs.declared.messages.Message.{Message}
use Rattle.swarm_objects.specs.declared.messages.NodeSent.{NodeSent}

abbrev pub IsOnce : List AssignChange → Type 0
IsOnce cs = (k : ℕ) → count_by (names k) cs ≤ 1

abbrev pub AllOnce : List NodeAgent → Type 0
AllOnce agents = (a : NodeAgent) → Has agents a → (m : Message) → a.inbox ≡ Some m → IsOnce m.changes

abbrev one_if : Bool → ℕ
one_if b = cond b 1 0

-- A whole message.

none-named : (k low : ℕ) (rows : List Assigned) → RisesFrom assigned_task low rows → k ≤ low →
    count_by (names k) (map assign.Update rows) ≡ 0
none-named k low [] rises under = refl
none-named k low (a ∷ rows) rises under =
    let apart : eqb a.task k ≡ false = (let above = rises.0 in grind (arith, nat_tests, above, under)) in
    let rest = none-named k a.task rows rises.1 (omega (arith, rises.0, under)) in
    omega (
      arith,
      sum_by-cons (λ (c : AssignChange). one_if (names k c)) (assign.Update a) (map assign.Update rows),
      ap one_if apart,
      rest,
    )

tail : (low : ℕ) (rows : List Assigned) → RisesFrom assigned_task low rows → IsRising assigned_task rows
tail low [] rises = tt
tail low (a ∷ rows) rises = rises.1

all-named : (k : ℕ) (rows : List Assigned) → IsRising assigned_task rows →
    count_by (names k) (map assign.Update rows) ≤ 1
all-named k [] rises = omega arith
all-named k (a ∷ rows) rises = go (eqb a.task k) refl (all-named k rows (tail a.task rows rises))
  where
    go : (b : Bool) → eqb a.task k ≡ b → count_by (names k) (map assign.Update rows) ≤ 1 →
        count_by (names k) (map assign.Update (a ∷ rows)) ≤ 1
    go true e rest =
        let is : a.task ≡ k = grind (arith, nat_tests, e) in
        let none = none-named k a.task rows rises (omega (arith, is)) in
        omega (
          arith,
          sum_by-cons (λ (c : AssignChange). one_if (names k c)) (assign.Update a) (map assign.Update rows),
          ap one_if e,
          none,
        )
    go false e rest =
        omega (
          arith,
          sum_by-cons (λ (c : AssignChange). one_if (names k c)) (assign.Update a) (map assign.Update rows),
          ap one_if e,
          rest,
        )

-- A difference.

change-named : (sent due : List Assigned) (j k : ℕ) → count_by (names k) (change_of sent due j) ≤ one_if (eqb j k)
change-named sent due j k = go (not (has_row assigned_task j due))
  where
    left : List Assigned
    left = filter (λ a. not (is_sent sent a)) due

    update : (o : Option Assigned) → row_at assigned_task j left ≡ o →
        count_by (names k) (on_row [] (λ (a : Assigned). assign.Update a ∷ []) o) ≤ one_if (eqb j k)
    update None at = omega arith
    update (Some a) at =
        let same = (Has-from_row_at assigned_task j left a at).1 in
        omega (arith, ap (λ (i : ℕ). one_if (eqb i k)) same)

    go : (b : Bool) → count_by (names k) (cond b (assign.Remove j ∷ []) (update_of left j)) ≤ one_if (eqb j k)
    go true = omega arith
    go false =
        let few = update (row_at assigned_task j left) refl in
        omega (arith, few, ap (count_by (names k)) (update-row j left))

none-changed : (sent due : List Assigned) (k low : ℕ) (js : List ℕ) → RisesFrom itself low js → k ≤ low →
    count_by (names k) (flat_map (change_of sent due) js) ≡ 0
none-changed sent due k low [] rises under = refl
none-changed sent due k low (j ∷ js) rises under =
    let apart : eqb j k ≡ false = (let above = rises.0 in grind (arith, nat_tests, above, under)) in
    let rest = none-changed sent due k j js rises.1 (omega (arith, rises.0, under)) in
    omega (
      arith,
      sum_by-append (λ (c : AssignChange). one_if (names k c)) (change_of sent due j) (flat_map (change_of sent due) js),
      change-named sent due j k,
      ap one_if apart,
      rest,
    )

number-tail : (low : ℕ) (js : List ℕ) → RisesFrom itself low js → IsRising itself js
number-tail low [] rises = tt
number-tail low (j ∷ js) rises = rises.1

all-changed : (sent due : List Assigned) (k : ℕ) (js : List ℕ) → IsRising itself js →
    count_by (names k) (flat_map (change_of sent due) js) ≤ 1
all-changed sent due k [] rises = omega arith
all-changed sent due k (j ∷ js) rises = go (eqb j k) refl (all-changed sent due k js (number-tail j js rises))
  where
    go : (b : Bool) → eqb j k ≡ b → count_by (names k) (flat_map (change_of sent due) js) ≤ 1 →
        count_by (names k) (flat_map (change_of sent due) (j ∷ js)) ≤ 1
    go true e rest =
        let is : j ≡ k = grind (arith, nat_tests, e) in
        let none = none-changed sent due k j js rises (omega (arith, is)) in
        omega (
          arith,
          sum_by-append (λ (c : AssignChange). one_if (names k c)) (change_of sent due j)
              (flat_map (change_of sent due) js),
          change-named sent due j k,
          ap one_if e,
          none,
        )
    go false e rest =
        omega (
          arith,
          sum_by-append (λ (c : AssignChange). one_if (names k c)) (change_of sent due j)
              (flat_map (change_of sent due) js),
          change-named sent due j k,
          ap one_if e,
          rest,
        )

pub message-once : (sent : Option NodeSent) (due : List Assigned) (m : Message) → IsRising assigned_task due →
    next_message sent due ≡ Some m → IsOnce m.changes
message-once None due m rises e k =
    let changes : map assign.Update due ≡ m.changes = cc in
    subst (λ (cs : List AssignChange). count_by (names k) cs ≤ 1) changes (all-named k due rises)
message-once (Some s) due m rises e k = go (changes_of s.tasks due) refl e
  where
    go : (cs : List AssignChange) → changes_of s.tasks due ≡ cs → message_with s.count cs ≡ Some m →
        count_by (names k) m.changes ≤ 1
    go [] at q = absurd cc
    go (c ∷ cs) at q =
        let changes : c ∷ cs ≡ m.changes = cc in
        subst (λ (ds : List AssignChange). count_by (names k) ds ≤ 1) (at ∙ changes)
        (all-changed s.tasks due k (tasks_of_either s.tasks due)
        (rising-rises (map assigned_task (s.tasks ++ due))))

-- Duties.

no-inbox : (a : NodeAgent) → a.inbox ≡ None → (m : Message) → a.inbox ≡ Some m → IsOnce m.changes
no-inbox a none m at = absurd (let wrong : None ≡ Some m = sym none ∙ at in cc)

taken-inbox : (clock : ℕ) (o : Option Message) (a : NodeAgent) → a.inbox ≡ o → (take_in clock o a).inbox ≡ None
taken-inbox clock None a at = at
taken-inbox clock (Some m) a at = refl

some-is : {A : Type 0} (a b : A) → Some a ≡ Some b → a ≡ b
some-is a b e = cc

abbrev OnceAgent : NodeAgent → Type 0
OnceAgent a = (m : Message) → a.inbox ≡ Some m → IsOnce m.changes

pull-once : (w : World) (n : ℕ) (o : Option Message) → message_for w n ≡ o → IsRising assigned_task (due_set w.tables n) →
    AllOnce w.agents → AllOnce (after_pull w n o).agents
pull-once w n None at rises is = is
pull-once w n (Some message) at rises is =
    each-changed OnceAgent agent_node n (received message) w.agents is
    (λ a h e m same.
    subst (λ (z : Message). IsOnce z.changes) (some-is message m same)
    (message-once (sent_of w n) (due_set w.tables n) message rises at))

pub duty-once : (version : ℕ) (w : World) (d : Duty) → ((n : ℕ) → IsRising assigned_task (due_set w.tables n)) →
    AllOnce w.agents → AllOnce (effect_by version w d).agents
duty-once version w (duty.Register n) rises is =
    each-changed OnceAgent agent_node n begun w.agents is (λ a h e. no-inbox (begun a) refl)
duty-once version w (duty.Apply n) rises is =
    each-changed OnceAgent agent_node n (λ a. take_in w.tables.clock a.inbox a) w.agents is
    (λ a h e. no-inbox (take_in w.tables.clock a.inbox a) (taken-inbox w.tables.clock a.inbox a refl))
duty-once version w (duty.Pull n) rises is = pull-once w n (message_for w n) refl (rises n) is
duty-once version w (duty.Exec n x) rises is =
    each-changed OnceAgent agent_node n
    (λ a. record a { executors = change_executor x (stepped w.tables.clock) a.executors }) w.agents is
    (λ a h e. is a h)
duty-once version w (duty.Report n x) rises is =
    each-changed OnceAgent agent_node n
    (λ a. record a { executors = change_executor x told a.executors }) w.agents is (λ a h e. is a h)
duty-once version w (duty.Forget n x) rises is =
    each-changed OnceAgent agent_node n
    (λ a. record a { executors = drop_row executor_task x a.executors }) w.agents is (λ a h e. is a h)
duty-once version w d rises is = is

-- Calls.

pub come-once : (w v : World) → AgentsCome w v → AllOnce w.agents → AllOnce v.agents
come-once w v come is b h = go (come b h)
  where
    go : ((a : NodeAgent) × Has w.agents a × KeepsAgent a b) ⊎ IsBare b → OnceAgent b
    go (inl r) m at = is r.0 r.1 m (sym r.2.inbox ∙ at)
    go (inr bare) m at = no-inbox b bare.inbox m at
