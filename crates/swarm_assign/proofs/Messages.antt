-- The next message, and what it leaves.
use Rattle.std.proofs.Common.{◌≡◌, ℕ, ◌+◌, ◌<◌, Bool, true, false, cond, eqb, List, [], ◌∷◌, Option, Some, None, refl, sym, ap, subst, ◌∙◌, arith}
use Rattle.std.specs.Prelude.{◌↔◌, Err, IfOk, is_some, IsTrue, not, Ok, Result}
use Rattle.std.specs.Cmp.Lexicographic.{pointwise}
use Rattle.std.proofs.lemmas.Bool.Decides.{nat_tests}
use Rattle.swarm_assign.proofs.Confirmed.{Decides-all, all-updated, differing, differing-is-rising, left-due, left_by, nothing-differs, unchanged, updates-rise}
use Rattle.swarm_assign.proofs.Differing.{changes-are}
use Rattle.swarm_assign.specs.Inside.Merging.{change_task}
use Rattle.swarm_assign.specs.Told.{HasBy, IsNext, Told, sent_to}
use Rattle.swarm_objects.specs.Agents.Messages.{assigned_task, changes_of, complete_message, difference_message, message_with, next_message, same_assigned}
use Rattle.swarm_objects.specs.Rows.{IsRising}
use Rattle.swarm_objects.specs.declared.messages.AssignChange.{AssignChange}
use Rattle.swarm_objects.specs.declared.messages.Assigned.{Assigned}
use Rattle.swarm_objects.specs.declared.messages.Message.{Message}

-- Whether there is one.

no-message : (n : ℕ) (changes : List AssignChange) → message_with n changes ≡ None → changes ≡ []
no-message n [] e = refl
no-message n (c ∷ cs) e = absurd cc

same-of : (sent due : List Assigned) → IsRising assigned_task sent → IsRising assigned_task due →
    changes_of sent due ≡ [] → sent ≡ due
same-of sent due r q none =
    sym (unchanged sent r)
    ∙ ap (λ cs. left_by cs sent) (sym (sym (changes-are sent due r q) ∙ none))
    ∙ left-due sent due r q

none-of : (sent due : List Assigned) → IsRising assigned_task sent → IsRising assigned_task due → sent ≡ due →
    changes_of sent due ≡ []
none-of sent due r q same =
    changes-are sent due r q
    ∙ ap (λ xs. differing xs due) same
    ∙ nothing-differs due q

-- a message is there where what was sent isn't what is due
pub is-message : (n : ℕ) (sent due : List Assigned) → IsRising assigned_task sent → IsRising assigned_task due →
    is_some (message_with n (changes_of sent due)) ≡ not (pointwise same_assigned sent due)
is-message n sent due r q = go (pointwise same_assigned sent due) refl (changes_of sent due) refl
  where
    go : (b : Bool) → pointwise same_assigned sent due ≡ b → (cs : List AssignChange) → changes_of sent due ≡ cs →
        is_some (message_with n cs) ≡ not b
    go true e [] is = refl
    go true e (c ∷ cs) is =
        let none = none-of sent due r q ((Decides-all sent due).0 e) in absurd (let bad : c ∷ cs ≡ [] = sym is ∙ none in cc)
    go false e [] is =
        let all = (Decides-all sent due).1 (same-of sent due r q is) in
        absurd (let bad : false ≡ true = sym e ∙ all in cc)
    go false e (c ∷ cs) is = refl

-- By how many messages there were.

pub first-is : (count : ℕ) (tasks : List Assigned) (told : Told) (due : List Assigned) →
    record { count = count; tasks = tasks } ≡ told → eqb count 0 ≡ true → (node : ℕ) →
    next_message (sent_to node told) due ≡ Some (complete_message due)
first-is count tasks told due is e node =
    ap (λ (t : Told). next_message (sent_to node t) due) (sym is)
    ∙ ap (λ b. next_message (cond b None (Some (record { node = node; count = count; tasks = tasks }))) due) e

pub later-is : (count : ℕ) (tasks : List Assigned) (told : Told) (due : List Assigned) →
    record { count = count; tasks = tasks } ≡ told → eqb count 0 ≡ false → (node : ℕ) →
    next_message (sent_to node told) due ≡ message_with count (changes_of tasks due)
later-is count tasks told due is e node =
    ap (λ (t : Told). next_message (sent_to node t) due) (sym is)
    ∙ ap (λ b. next_message (cond b None (Some (record { node = node; count = count; tasks = tasks }))) due) e

-- The answers of `next`.

pub zero-is : (n : ℕ) → eqb n 0 ≡ true → n ≡ 0
zero-is n e = grind (arith, nat_tests, e)

above-zero : (n : ℕ) → eqb n 0 ≡ false → 0 < n
above-zero n e = grind (arith, nat_tests, e)

count-is : (count : ℕ) (tasks : List Assigned) (told : Told) → record { count = count; tasks = tasks } ≡ told →
    count ≡ told.count
count-is count tasks told is = ap (λ (t : Told). t.count) is

tasks-are : (count : ℕ) (tasks : List Assigned) (told : Told) → record { count = count; tasks = tasks } ≡ told →
    tasks ≡ told.tasks
tasks-are count tasks told is = ap (λ (t : Told). t.tasks) is

pub first-none : (count : ℕ) (tasks : List Assigned) (told : Told) (due : List Assigned) (m : Message) →
    record { count = count; tasks = tasks } ≡ told → eqb count 0 ≡ true →
    (Some m ≡ None) ↔ ((0 < told.count) × (told.tasks ≡ due))
first-none count tasks told due m is e = (
  λ no'. absurd cc,
  λ both. absurd (let none = zero-is count e in omega (arith, none, count-is count tasks told is, both.0)),
)

pub later-ok : {E : Type 0} (count : ℕ) (tasks : List Assigned) (told : Told) (due : List Assigned)
    (answer : Result (Option Message) E) → record { count = count; tasks = tasks } ≡ told → eqb count 0 ≡ false →
    IfOk answer (λ m. m ≡ message_with count (changes_of tasks due)) →
    IfOk answer (λ m. (node : ℕ) → m ≡ next_message (sent_to node told) due)
later-ok count tasks told due (Ok m) is e gives = λ node. gives ∙ sym (later-is count tasks told due is e node)
later-ok count tasks told due (Err n) is e gives = tt

pub later-none : {E : Type 0} (count : ℕ) (tasks : List Assigned) (told : Told) (due : List Assigned)
    (answer : Result (Option Message) E) → record { count = count; tasks = tasks } ≡ told → eqb count 0 ≡ false →
    IsRising assigned_task tasks → IsRising assigned_task due →
    IfOk answer (λ m. m ≡ message_with count (changes_of tasks due)) →
    IfOk answer (λ m. (m ≡ None) ↔ ((0 < told.count) × (told.tasks ≡ due)))
later-none count tasks told due (Ok m) is e r q gives = (
  λ none. (
    subst (λ n. 0 < n) (count-is count tasks told is) (above-zero count e),
    sym (tasks-are count tasks told is)
        ∙ same-of tasks due r q (no-message count (changes_of tasks due) (sym gives ∙ none)),
  ),
  λ both. gives ∙ ap (message_with count)
      (none-of tasks due r q (tasks-are count tasks told is ∙ both.1)),
)
later-none count tasks told due (Err n) is e r q gives = tt

-- What `confirm` makes.

-- the message by cases: what it is, what changes it has, and what these leave
pub record Confirms (told : Told) (due : List Assigned) (m : Message) : Type 0 where
  pub rising : IsRising change_task m.changes
  pub left : left_by m.changes (cond m.complete [] told.tasks) ≡ due
  pub counted : eqb m.results_in 0 ≡ false

whole-confirms : (told : Told) (due : List Assigned) → IsRising assigned_task due →
    Confirms told due (complete_message due)
whole-confirms told due q = record { rising = updates-rise due q; left = all-updated due q; counted = refl }

one-more : (n : ℕ) → eqb (n + 1) 0 ≡ false
one-more n = grind (arith, nat_tests)

difference-confirms : (told : Told) (due : List Assigned) → IsRising assigned_task told.tasks →
    IsRising assigned_task due → Confirms told due (difference_message told.count (changes_of told.tasks due))
difference-confirms told due r q = record {
  rising =
      subst (IsRising change_task) (sym (changes-are told.tasks due r q)) (differing-is-rising told.tasks due r q);
  left = ap (λ cs. left_by cs told.tasks) (changes-are told.tasks due r q) ∙ left-due told.tasks due r q;
  counted = one-more told.count;
}

pub some-message : (n : ℕ) (changes : List AssignChange) (m : Message) → message_with n changes ≡ Some m →
    difference_message n changes ≡ m
some-message n [] m e = absurd cc
some-message n (c ∷ cs) m e = cc

pub confirms : (told : Told) (due : List Assigned) (m : Message) → IsRising assigned_task told.tasks →
    IsNext told due m → Confirms told due m
confirms told due m r next = go (eqb told.count 0) refl
  where
    go : (b : Bool) → eqb told.count 0 ≡ b → Confirms told due m
    go true e =
        let some = sym (first-is told.count told.tasks told due refl e 0) ∙ next.next 0 in
        let is : complete_message due ≡ m = cc in
        subst (Confirms told due) is (whole-confirms told due next.rises)
    go false e =
        let some = sym (later-is told.count told.tasks told due refl e 0) ∙ next.next 0 in
        let is = some-message told.count (changes_of told.tasks due) m some in
        subst (Confirms told due) is (difference-confirms told due r next.rises)

-- some tasks are due whose next message this is
abbrev IsAsked : Told → Message → Type 0
IsAsked told m = (due : List Assigned) × IsNext told due m

module _ (told : Told) (m : Message) (tasks : List Assigned) (seen : List AssignChange) (before after : List Assigned)
    (rises : IsRising assigned_task tasks) (were : tasks ≡ told.tasks) (read : seen ≡ m.changes)
    (was : before ≡ cond m.complete [] tasks) (is : after ≡ left_by seen before) where
  told-rises : IsRising assigned_task told.tasks
  told-rises = subst (IsRising assigned_task) were rises

  after-is : (due : List Assigned) → IsNext told due m → after ≡ due
  after-is due next =
      is
      ∙ ap (λ cs. left_by cs before) read
      ∙ ap (left_by m.changes) (was ∙ ap (λ xs. cond m.complete [] xs) were)
      ∙ (confirms told due m told-rises next).left

  pub confirmed-rises : IsAsked told m → IsRising assigned_task after
  confirmed-rises asked = subst (IsRising assigned_task) (sym (after-is asked.0 asked.1)) asked.1.rises

  pub confirmed-has : HasBy told m (record { count = m.results_in; tasks = after })
  confirmed-has = λ node due next.
      ap (λ b. cond b None (Some (record { node = node; count = m.results_in; tasks = after })))
      (confirms told due m told-rises next).counted
      ∙ ap (λ xs. Some (record { node = node; count = m.results_in; tasks = xs })) (after-is due next)

pub asked-rises : (told : Told) (m : Message) (tasks : List Assigned) (seen : List AssignChange) → IsAsked told m →
    IsRising assigned_task tasks → tasks ≡ told.tasks → seen ≡ m.changes → IsRising change_task seen
asked-rises told m tasks seen asked rises were read =
    subst (IsRising change_task) (sym read)
    (confirms told asked.0 m (subst (IsRising assigned_task) were rises) asked.1).rising

pub before-rises : (complete : Bool) (tasks before : List Assigned) → IsRising assigned_task tasks →
    before ≡ cond complete [] tasks → IsRising assigned_task before
before-rises complete tasks before rises is = subst (IsRising assigned_task) (sym is) (go complete)
  where
    go : (b : Bool) → IsRising assigned_task (cond b [] tasks)
    go true = tt
    go false = rises

-- What the code makes of a difference.

pub empty-message : (n : ℕ) (sent due : List Assigned) (changes : List AssignChange) (b : Bool) →
    IsRising assigned_task sent → IsRising assigned_task due → changes ≡ differing sent due →
    (IsTrue b ↔ (changes ≡ [])) → b ≡ true → None ≡ message_with n (changes_of sent due)
empty-message n sent due changes b r q are empty e =
    ap (message_with n) (sym (changes-are sent due r q ∙ sym are ∙ empty.0 e))

pub full-message : (n : ℕ) (sent due : List Assigned) (changes : List AssignChange) (b : Bool) →
    IsRising assigned_task sent → IsRising assigned_task due → changes ≡ differing sent due →
    (IsTrue b ↔ (changes ≡ [])) → b ≡ false →
    Some (difference_message n changes) ≡ message_with n (changes_of sent due)
full-message n sent due changes b r q are empty e =
    go changes refl ∙ ap (message_with n) (are ∙ sym (changes-are sent due r q))
  where
    go : (cs : List AssignChange) → changes ≡ cs → Some (difference_message n cs) ≡ message_with n cs
    go [] none = let is : b ≡ true = empty.1 none in absurd (let bad : true ≡ false = sym is ∙ e in cc)
    go (c ∷ cs) some = refl

pub due-is : (count : ℕ) (tasks : List Assigned) (told : Told) (seen : List Assigned) (node : ℕ) (due : List Assigned)
    (b : Bool) → record { count = count; tasks = tasks } ≡ told → eqb count 0 ≡ false → IsRising assigned_task tasks →
    IsRising assigned_task due → seen ≡ tasks → b ≡ pointwise same_assigned seen due →
    not b ≡ is_some (next_message (sent_to node told) due)
due-is count tasks told seen node due b is e r q read all =
    ap not (all ∙ ap (λ xs. pointwise same_assigned xs due) read)
    ∙ sym (is-message count tasks due r q)
    ∙ ap is_some (sym (later-is count tasks told due is e node))
