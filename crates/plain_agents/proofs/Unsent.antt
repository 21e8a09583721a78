-- A message is there exactly where what a node is to have differs from what was sent.
use Rattle.std.proofs.Common.{◌≡◌, ℕ, Bool, true, false, cond, List, [], ◌∷◌, ◌++◌, Option, Some, None, inl, inr, refl, sym, ap, subst, ◌∙◌, arith}
use Rattle.std.specs.Cmp.Lexicographic.{pointwise}
use Rattle.std.specs.Prelude.{◌&&◌, ◌||◌, ◌==◌, filter, fold, is_some, map, not}
use Rattle.std.specs.List.{list_any}
use Rattle.std.proofs.lemmas.Bool.Decides.{nat_tests}
use Rattle.std.proofs.lemmas.List.Folds.{list_any-append}
use Rattle.swarm_model.proofs.Moves.Rows.{has_row-Has}
use Rattle.swarm_model.proofs.Laws.OneEach.{none-any}
use Rattle.swarm_plain.proofs.DirtyPlaces.{both_ways}
use Rattle.swarm_plain.proofs.Looks.{same_row}
use Rattle.swarm_plain.proofs.Numbers.{any_with}
use Rattle.plain_agents.specs.Inside.News.{differs, is_due_on, is_unsent_on}
use Rattle.swarm_objects.proofs.RowLemmas.{Has-filter, Has-filter_cases, Has-map, Has-map_cases, Has-from_row_at}
use Rattle.swarm_objects.proofs.Tests.{any-has, any_each, any_map, any_same, both_are, has-any, not-true, or_false, or_left, or_right}
use Rattle.swarm_objects.specs.Agents.Messages.{assigned, assigned_task, change_of, changes_of, due_set, is_assigned_on, is_sent, message_for, message_with, next_message, same_assigned, sent_of, tasks_of_either, update_of}
use Rattle.swarm_objects.specs.Rows.{Has, has_row, is_some_and, row_at, task_id, with_number}
use Rattle.swarm_objects.specs.Values.Ranks.{desired_rank}
use Rattle.swarm_objects.specs.World.{Tables, World}
use Rattle.swarm_objects.specs.declared.messages.NodeSent.{NodeSent}
use Rattle.swarm_objects.specs.declared.messages.AssignChange.{AssignChange}
use Rattle.swarm_objects.specs.declared.messages.AssignChange.TheVariants as assign
use Rattle.swarm_objects.specs.declared.messages.Assigned.{Assigned}
use Rattle.swarm_objects.specs.declared.tasks.Task.{Task}
use Rattle.swarm_plain.proofs.Passes.{any_both}
use Rattle.swarm_plain.specs.Entries.{HasOrder}

abbrev has_one : {X : Type 0} → List X → Bool
has_one xs = list_any (λ _. true) xs

one_message : (n : ℕ) (cs : List AssignChange) → is_some (message_with n cs) ≡ has_one cs
one_message n [] = refl
one_message n (c ∷ cs) = refl

any_rising : (p : ℕ → Bool) (ks numbers : List ℕ) →
    list_any p (fold (λ ks n. with_number n ks) ks numbers) ≡ (list_any p numbers || list_any p ks)
any_rising p ks [] = refl
any_rising p ks (n ∷ numbers) =
    any_rising p (with_number n ks) numbers
    ∙ ap (λ b. list_any p numbers || b) (any_with p n ks)
    ∙ turn (list_any p numbers) (p n) (list_any p ks)
  where
    turn : (a b c : Bool) → (a || (b || c)) ≡ ((b || a) || c)
    turn true true c = refl
    turn true false c = refl
    turn false true c = refl
    turn false false c = refl

-- a change is there of this task
abbrev is_changed : List Assigned → List Assigned → ℕ → Bool
is_changed sent due k = has_one (change_of sent due k)

any_change : (sent due : List Assigned) → has_one (changes_of sent due)
    ≡ (list_any (λ (a : Assigned). is_changed sent due a.task) sent
    || list_any (λ (a : Assigned). is_changed sent due a.task) due)
any_change sent due =
    any_each (λ _. true) (change_of sent due) (tasks_of_either sent due)
    ∙ any_rising (is_changed sent due) [] (map assigned_task (sent ++ due))
    ∙ or_false (list_any (is_changed sent due) (map assigned_task (sent ++ due)))
    ∙ any_map (is_changed sent due) assigned_task (sent ++ due)
    ∙ list_any-append (λ (a : Assigned). is_changed sent due a.task) sent due

abbrev is_new : List Assigned → Assigned → Bool
is_new sent a = not (is_sent sent a)

same_task : (a b : ℕ) → (a == b) ≡ true → a ≡ b
same_task a b e = grind (arith, nat_tests)

task_same : (a : ℕ) → (a == a) ≡ true
task_same a = grind (arith, nat_tests)

-- an update is there where a row of the task is
update_has : (rows : List Assigned) (k : ℕ) → has_one (update_of rows k) ≡ list_any (λ (a : Assigned). a.task == k) rows
update_has [] k = refl
update_has (a ∷ rows) k = go (a.task == k) (update_has rows k)
  where
    go : (b : Bool) → has_one (update_of rows k) ≡ list_any (λ (a : Assigned). a.task == k) rows →
        has_one (cond b (assign.Update a ∷ []) (update_of rows k))
        ≡ (b || list_any (λ (a : Assigned). a.task == k) rows)
    go true e = refl
    go false e = e

changed_is : (sent due : List Assigned) (k : ℕ) → is_changed sent due k
    ≡ (not (has_row assigned_task k due) || list_any (λ (a : Assigned). a.task == k) (filter (is_new sent) due))
changed_is sent due k = go (has_row assigned_task k due) (update_has (filter (is_new sent) due) k)
  where
    go : (b : Bool) → has_one (update_of (filter (is_new sent) due) k)
        ≡ list_any (λ (a : Assigned). a.task == k) (filter (is_new sent) due) →
        has_one (cond (not b) (assign.Remove k ∷ []) (update_of (filter (is_new sent) due) k))
        ≡ (not b || list_any (λ (a : Assigned). a.task == k) (filter (is_new sent) due))
    go true e = e
    go false e = refl

has_row_of : (due : List Assigned) (a : Assigned) → Has due a → has_row assigned_task a.task due ≡ true
has_row_of due a h = has_row-Has assigned_task due a a.task h refl

-- the difference, by either list
abbrev apart : List Assigned → List Assigned → Bool
apart sent due = list_any (λ (a : Assigned). not (has_row assigned_task a.task due)) sent || list_any (is_new sent) due

or_cases : {A : Type 0} (a b : Bool) → (a ≡ true → A) → (b ≡ true → A) → (a || b) ≡ true → A
or_cases true b left right e = left refl
or_cases false b left right e = right e

new_row : (sent due : List Assigned) (k : ℕ) → list_any (λ (a : Assigned). a.task == k) (filter (is_new sent) due)
    ≡ true →
    list_any (is_new sent) due ≡ true
new_row sent due k e =
    let a = any-has (λ (a : Assigned). a.task == k) (filter (is_new sent) due) e in
    let row = Has-filter_cases (is_new sent) due a.0 a.1 in
    has-any (is_new sent) due a.0 row.0 row.1

pub apart_is : (sent due : List Assigned) → apart sent due ≡ has_one (changes_of sent due)
apart_is sent due = both_ways _ _ to from ∙ sym (any_change sent due)
  where
    changed : Assigned → Bool
    changed a = is_changed sent due a.task

    here : (a : Assigned) → is_changed sent due a.task
        ≡ (not (has_row assigned_task a.task due)
        || list_any (λ (b : Assigned). b.task == a.task) (filter (is_new sent) due))
    here a = changed_is sent due a.task

    to_gone : list_any (λ (a : Assigned). not (has_row assigned_task a.task due)) sent ≡ true →
        (list_any changed sent || list_any changed due) ≡ true
    to_gone e =
        let a = any-has (λ (a : Assigned). not (has_row assigned_task a.task due)) sent e in
        or_left (list_any changed sent) (list_any changed due)
        (has-any changed sent a.0 a.1 (here a.0 ∙ or_left (not (has_row assigned_task a.0.task due)) _ a.2))

    to_new : list_any (is_new sent) due ≡ true → (list_any changed sent || list_any changed due) ≡ true
    to_new e =
        let a = any-has (is_new sent) due e in
        or_right (list_any changed sent) (list_any changed due)
        (has-any changed due a.0 a.1 (here a.0 ∙ or_right (not (has_row assigned_task a.0.task due)) _
        (has-any (λ (b : Assigned). b.task == a.0.task) (filter (is_new sent) due) a.0
        (Has-filter (is_new sent) due a.0 a.1 a.2) (task_same a.0.task))))

    to : apart sent due ≡ true → (list_any changed sent || list_any changed due) ≡ true
    to e = or_cases (list_any (λ (a : Assigned). not (has_row assigned_task a.task due)) sent)
        (list_any (is_new sent) due) to_gone to_new e

    from_sent : list_any changed sent ≡ true → apart sent due ≡ true
    from_sent e =
        let a = any-has changed sent e in
        or_cases (not (has_row assigned_task a.0.task due))
        (list_any (λ (b : Assigned). b.task == a.0.task) (filter (is_new sent) due))
        (λ gone. or_left (list_any (λ (a : Assigned). not (has_row assigned_task a.task due)) sent)
        (list_any (is_new sent) due)
        (has-any (λ (a : Assigned). not (has_row assigned_task a.task due)) sent a.0 a.1 gone))
        (λ new. or_right (list_any (λ (a : Assigned). not (has_row assigned_task a.task due)) sent)
        (list_any (is_new sent) due)
        (new_row sent due a.0.task new))
        (sym (here a.0) ∙ a.2)

    absent : (a : Assigned) → Has due a → not (has_row assigned_task a.task due) ≡ true → apart sent due ≡ true
    absent a h gone =
        absurd (let e = not-true (has_row assigned_task a.task due) gone in let f = has_row_of due a h in cc)

    from_due : list_any changed due ≡ true → apart sent due ≡ true
    from_due e =
        let a = any-has changed due e in
        or_cases (not (has_row assigned_task a.0.task due))
        (list_any (λ (b : Assigned). b.task == a.0.task) (filter (is_new sent) due))
        (absent a.0 a.1)
        (λ new. or_right (list_any (λ (a : Assigned). not (has_row assigned_task a.task due)) sent)
        (list_any (is_new sent) due)
        (new_row sent due a.0.task new))
        (sym (here a.0) ∙ a.2)

    from : (list_any changed sent || list_any changed due) ≡ true → apart sent due ≡ true
    from e = or_cases (list_any changed sent) (list_any changed due) from_sent from_due e

-- Both tests without the list of what is due.

apart_none : {X : Type 0} (o : Option X) → o ≡ None → is_some o ≡ true → ⊥
apart_none None e there = cc
apart_none (Some x) e there = cc

due_row : (t : Tables) (node k : ℕ) → HasOrder t → is_due_on t node k ≡ has_row assigned_task k (due_set t node)
due_row t node k order = both_ways _ _ to from
  where
    to : is_due_on t node k ≡ true → has_row assigned_task k (due_set t node) ≡ true
    to e = go (row_at task_id k t.tasks) refl e
      where
        go : (o : Option Task) → row_at task_id k t.tasks ≡ o → is_some_and (is_assigned_on node) o ≡ true →
            has_row assigned_task k (due_set t node) ≡ true
        go None is passes = absurd cc
        go (Some x) is passes =
            let row = Has-from_row_at task_id k t.tasks x is in
            subst (λ n. has_row assigned_task n (due_set t node) ≡ true) row.1
            (has_row_of (due_set t node) (assigned x)
            (Has-map assigned (filter (is_assigned_on node) t.tasks) x
            (Has-filter (is_assigned_on node) t.tasks x row.0 passes)))

    of_row : (o : Option Assigned) → row_at assigned_task k (due_set t node) ≡ o → is_some o ≡ true →
        is_due_on t node k ≡ true
    of_row None is there = absurd cc
    of_row (Some a) is there =
        let row = Has-from_row_at assigned_task k (due_set t node) a is in
        let made = Has-map_cases assigned (filter (is_assigned_on node) t.tasks) a row.0 in
        let x = made.0 in
        let kept = Has-filter_cases (is_assigned_on node) t.tasks x made.1 in
        found x kept.0 kept.1 (ap assigned_task made.2 ∙ row.1)
      where
        found : (x : Task) → Has t.tasks x → is_assigned_on node x ≡ true → x.id ≡ k → is_due_on t node k ≡ true
        found x has passes is = at (row_at task_id k t.tasks) refl
          where
            at : (o : Option Task) → row_at task_id k t.tasks ≡ o → is_some_and (is_assigned_on node) o ≡ true
            at None none =
                absurd (apart_none (row_at task_id k t.tasks) none (has_row-Has task_id t.tasks x k has is))
            at (Some y) got =
                let other = Has-from_row_at task_id k t.tasks y got in
                ap (is_assigned_on node) (same_row task_id t.tasks y x order.tasks other.0 has (other.1 ∙ sym is))
                ∙ passes

    from : has_row assigned_task k (due_set t node) ≡ true → is_due_on t node k ≡ true
    from e = of_row (row_at assigned_task k (due_set t node)) refl e

unsent_is : (t : Tables) (node : ℕ) (sent : List Assigned) →
    list_any (is_unsent_on node sent) t.tasks ≡ list_any (is_new sent) (due_set t node)
unsent_is t node sent =
    any_both (is_assigned_on node) (λ (x : Task). is_new sent (assigned x)) t.tasks
    ∙ sym (any_map (is_new sent) assigned (filter (is_assigned_on node) t.tasks))

differs_is : (t : Tables) (node : ℕ) (sent : List Assigned) → HasOrder t → differs t node sent
    ≡ apart sent (due_set t node)
differs_is t node sent order =
    ap (λ b. b || list_any (is_unsent_on node sent) t.tasks)
    (any_same (λ (a : Assigned). not (is_due_on t node a.task))
    (λ (a : Assigned). not (has_row assigned_task a.task (due_set t node)))
    sent (λ a. ap not (due_row t node a.task order)))
    ∙ ap (λ b. list_any (λ (a : Assigned). not (has_row assigned_task a.task (due_set t node))) sent || b)
    (unsent_is t node sent)

-- a message is there where what was sent differs
pub message_is : (w : World) (node : ℕ) (sent : NodeSent) → HasOrder w.tables → sent_of w node ≡ Some sent →
    differs w.tables node sent.tasks ≡ is_some (message_for w node)
message_is w node sent order found =
    differs_is w.tables node sent.tasks order
    ∙ apart_is sent.tasks (due_set w.tables node)
    ∙ sym (one_message sent.count (changes_of sent.tasks (due_set w.tables node)))
    ∙ ap (λ o. is_some (next_message o (due_set w.tables node))) (sym found)

-- Where what was sent is what is due, in its order, nothing differs.

step_sent : (due sent : List Assigned) → pointwise same_assigned due sent ≡ true → (a : Assigned) → Has due a →
    is_sent sent a ≡ true
step_sent [] sent e a h = absurd h
step_sent (d ∷ due) [] e a h = absurd (let f : false ≡ true = e in cc)
step_sent (d ∷ due) (s ∷ sent) e a (inl same) =
    or_left (same_assigned a s) (is_sent sent a)
    (ap (λ z. same_assigned z s) (sym same) ∙ (both_are (same_assigned d s) (pointwise same_assigned due sent) e).0)
step_sent (d ∷ due) (s ∷ sent) e a (inr h) =
    or_right (same_assigned a s) (is_sent sent a)
    (step_sent due sent (both_are (same_assigned d s) (pointwise same_assigned due sent) e).1 a h)

step_due : (due sent : List Assigned) → pointwise same_assigned due sent ≡ true → (b : Assigned) → Has sent b →
    has_row assigned_task b.task due ≡ true
step_due due [] e b h = absurd h
step_due [] (s ∷ sent) e b h = absurd (let f : false ≡ true = e in cc)
step_due (d ∷ due) (s ∷ sent) e b (inl same) =
    let first = (both_are (same_assigned d s) (pointwise same_assigned due sent) e).0 in
    let second = (both_are (d.task == s.task && desired_rank d.desired == desired_rank s.desired) _ first).0 in
    let tasks = (both_are (d.task == s.task) _ second).0 in
    has_row-Has assigned_task (d ∷ due) d b.task (inl refl) (same_task d.task s.task tasks ∙ ap assigned_task same)
step_due (d ∷ due) (s ∷ sent) e b (inr h) =
    go (d.task == b.task) (step_due due sent (both_are (same_assigned d s) (pointwise same_assigned due sent) e).1 b h)
  where
    go : (c : Bool) → has_row assigned_task b.task due ≡ true →
        is_some (cond c (Some d) (row_at assigned_task b.task due)) ≡ true
    go true k = refl
    go false k = k

-- the same, once it was gone through in step
pub step_same : (t : Tables) (node : ℕ) (sent : List Assigned) → HasOrder t →
    pointwise same_assigned (due_set t node) sent ≡ true → differs t node sent ≡ false
step_same t node sent order e =
    differs_is t node sent order
    ∙ ap (λ b. b || list_any (is_new sent) (due_set t node))
    (none-any (λ (a : Assigned). not (has_row assigned_task a.task (due_set t node))) sent
    (λ a h. ap not (step_due (due_set t node) sent e a h)))
    ∙ none-any (is_new sent) (due_set t node) (λ a h. ap not (step_sent (due_set t node) sent e a h))
