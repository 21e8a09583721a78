-- A message counts once.
use Rattle.std.proofs.Common.{◌≡◌, ℕ, ◌+◌, ◌≤◌, Bool, true, false, cond, eqb, List, [], ◌∷◌, Option, Some, None, sym, ap, arith}
use Rattle.swarm_assign.specs.Told.{HasBy, IsNext, Told, sent_to}
use Rattle.swarm_objects.specs.Agents.Messages.{assigned_task, changes_of, complete_message, difference_message, message_with, next_message}
use Rattle.swarm_objects.specs.Rows.{IsRising}
use Rattle.swarm_objects.specs.declared.messages.AssignChange.{AssignChange}
use Rattle.swarm_objects.specs.declared.messages.Assigned.{Assigned}
use Rattle.swarm_objects.specs.declared.messages.Message.{Message}
use Rattle.swarm_objects.specs.declared.messages.NodeSent.{NodeSent}

pub is_next : (told : Told) (due : List Assigned) (m : Message) → IsRising assigned_task due →
    ((node : ℕ) → Some m ≡ next_message (sent_to node told) due) → IsNext told due m
is_next told due m rises next = record { rises = rises; next = λ node. sym (next node) }

later_number : (n : ℕ) (changes : List AssignChange) (m : Message) → message_with n changes ≡ Some m →
    m.results_in ≡ n + 1
later_number n [] m e = absurd cc
later_number n (c ∷ cs) m e = let is : difference_message n (c ∷ cs) ≡ m = cc in ap (λ (x : Message). x.results_in) (sym is)

one_later : (told : Told) (due : List Assigned) (m : Message) → IsNext told due m → m.results_in ≤ told.count + 1
one_later told due m next = go (eqb told.count 0) (next.next 0)
  where
    go : (b : Bool) →
        next_message (cond {A = Option NodeSent} b None (Some (record { node = 0; count = told.count; tasks = told.tasks }))) due
        ≡ Some m → m.results_in ≤ told.count + 1
    go true some =
        let is : complete_message due ≡ m = cc in
        let number : 1 ≡ m.results_in = ap (λ (x : Message). x.results_in) is in
        omega (arith, number)
    go false some = let number = later_number told.count (changes_of told.tasks due) m some in omega (arith, number)

some_count : (a b : NodeSent) → Some a ≡ Some b → a.count ≡ b.count
some_count a b e = let same : a ≡ b = cc in ap (λ (s : NodeSent). s.count) same

counts : (node n : ℕ) (due : List Assigned) (told : Told) →
    sent_to node told ≡ Some (record { node = node; count = n; tasks = due }) → told.count ≡ n
counts node n due told e = go (eqb told.count 0) e
  where
    go : (b : Bool) →
        cond {A = Option NodeSent} b None (Some (record { node = node; count = told.count; tasks = told.tasks }))
        ≡ Some (record { node = node; count = n; tasks = due }) → told.count ≡ n
    go true is = absurd cc
    go false is =
        some_count (record { node = node; count = told.count; tasks = told.tasks })
        (record { node = node; count = n; tasks = due }) is

pub one_more_message : (told after : Told) (due : List Assigned) (m : Message) → IsNext told due m →
    HasBy told m after → after.count ≤ told.count + 1
one_more_message told after due m next has =
    let count = counts 0 m.results_in due after (has 0 due next) in
    let later = one_later told due m next in
    omega (arith, count, later)
