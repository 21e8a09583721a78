-- What an agent makes of a message, task by task; and what the next message makes of each executor.
use Rattle.std.proofs.Common.{Bool, List, None, Option, Some, [], ap, arith, cond, eqb, false, ltb, not, refl, subst, sym, true, ℕ, ◌++◌, ◌∙◌, ◌∷◌, ◌≡◌, ◌≤◌}
use Rattle.std.proofs.lemmas.Bool.Decides.{nat_tests}
use Rattle.std.specs.List.{list_any}
use Rattle.std.specs.Option.{option_map}
use Rattle.std.specs.Prelude.{filter, flat_map, fold, is_some, map, ◌&&◌, ◌||◌}
use Rattle.swarm_objects.specs.Agents.Hearing.{MessageLaw, aimed_or_new, executor_after}
use Rattle.swarm_objects.proofs.Gaps.{IsRising-with_row}
use Rattle.swarm_objects.proofs.RowLemmas.{Has-from_row_at, RisesFrom-filter, row_at-None_below, row_at-map}
use Rattle.swarm_objects.proofs.RowChanges.{row_at-with_row}
use Rattle.swarm_objects.proofs.Tests.{or_false}
use Rattle.swarm_objects.specs.Agents.Messages.{applied, apply_change, assigned_task, change_executor, change_of, changes_of, complete_message, difference_message, gone_executor, is_sent, left_out, message_with, names, new_executor, tasks_of_either, update_of}
use Rattle.swarm_objects.specs.Rows.{IsRising, RisesFrom, change_row, executor_task, has_row, itself, on_row, row_at, with_number, with_row}
use Rattle.swarm_objects.specs.declared.agents.Executor.{Executor}
use Rattle.swarm_objects.specs.declared.messages.AssignChange.TheVariants as assign
use Rattle.swarm_objects.specs.declared.messages.AssignChange.{AssignChange}
use Rattle.swarm_objects.specs.declared.messages.Assigned.{Assigned}
use Rattle.swarm_objects.specs.declared.messages.Message.{Message}
use Rattle.swarm_objects.specs.declared.messages.NodeSent.{NodeSent}

either_way : {A : Type 0} (b : Bool) (x : A) → x ≡ cond b x x
either_way true x = refl
either_way false x = refl

pub row_at-change_row : {X : Type 0} (key : X → ℕ) (id at : ℕ) (f : X → X) (rows : List X) →
    ((x : X) → key (f x) ≡ key x) →
    row_at key at (change_row key id f rows) ≡ cond (eqb id at) (option_map f (row_at key at rows)) (row_at key at rows)
row_at-change_row key id at f [] same = either_way (eqb id at) None
row_at-change_row key id at f (x ∷ rows) same =
    grind (arith, nat_tests, row_at-change_row key id at f rows same, same x)

abbrev aimed : Assigned → Executor → Executor
aimed a e = record e { desired = a.desired }

abbrev pub heard : ℕ → ℕ → AssignChange → Option Executor → Option Executor
heard clock x (assign.Update a) e = cond (eqb a.task x) (Some (aimed_or_new clock a e)) e
heard clock x (assign.Remove gone) e = cond (eqb gone x) (option_map gone_executor e) e

hears : (clock x : ℕ) (es : List Executor) (c : AssignChange) →
    row_at executor_task x (apply_change clock es c) ≡ heard clock x c (row_at executor_task x es)
hears clock x es (assign.Remove gone) = row_at-change_row executor_task gone x gone_executor es (λ e. refl)
hears clock x es (assign.Update a) = go (row_at executor_task a.task es) refl
  where
    there : (f : Executor) (o : Option Executor) → o ≡ Some f → option_map (aimed a) o ≡ Some (aimed_or_new clock a o)
    there f (Some h) e = refl
    there f None e = grind (arith, e)

    away : (o : Option Executor) → o ≡ None → Some (new_executor clock a) ≡ Some (aimed_or_new clock a o)
    away None e = refl
    away (Some h) e = grind (arith, e)

    both : (b : Bool) (p q r : Option Executor) → (b ≡ true → p ≡ q) → cond b p r ≡ cond b q r
    both true p q r e = e refl
    both false p q r e = refl

    is : eqb a.task x ≡ true → a.task ≡ x
    is p = grind (arith, nat_tests)

    go : (o : Option Executor) → row_at executor_task a.task es ≡ o →
        row_at executor_task x (cond (is_some o) (change_executor a.task (aimed a) es)
        (with_row executor_task (new_executor clock a) es)) ≡ heard clock x (assign.Update a)
        (row_at executor_task x es)
    go (Some f) e =
        row_at-change_row executor_task a.task x (aimed a) es (λ e. refl)
        ∙ both (eqb a.task x) _ _ _
        (λ p. there f (row_at executor_task x es) (subst (λ k. row_at executor_task k es ≡ Some f) (is p) e))
    go None e =
        row_at-with_row executor_task x (new_executor clock a) es
        ∙ both (eqb a.task x) _ _ _
        (λ p. away (row_at executor_task x es) (subst (λ k. row_at executor_task k es ≡ None) (is p) e))

hears_all : (clock x : ℕ) (cs : List AssignChange) (es : List Executor) →
    row_at executor_task x (fold (apply_change clock) es cs)
    ≡ fold (λ e c. heard clock x c e) (row_at executor_task x es) cs
hears_all clock x [] es = refl
hears_all clock x (c ∷ cs) es =
    hears_all clock x cs (apply_change clock es c) ∙ ap (λ e. fold (λ e c. heard clock x c e) e cs) (hears clock x es c)

left_out_task : (m : Message) (e : Executor) → executor_task (left_out m e) ≡ executor_task e
left_out_task m e = go (m.complete && not (list_any (names e.task) m.changes))
  where
    go : (b : Bool) → executor_task (cond b (gone_executor e) e) ≡ executor_task e
    go true = refl
    go false = refl

-- what a message makes of one task's executor
pub applied-at : (clock x : ℕ) (m : Message) (es : List Executor) →
    row_at executor_task x (applied clock m es)
    ≡ option_map (left_out m) (fold (λ e c. heard clock x c e) (row_at executor_task x es) m.changes)
applied-at clock x m es =
    row_at-map executor_task x (left_out m) (fold (apply_change clock) es m.changes) (left_out_task m)
    ∙ ap (option_map (left_out m)) (hears_all clock x m.changes es)

-- Rising rows.

pub rows-left : (p : Assigned → Bool) (x : ℕ) (rows : List Assigned) → IsRising assigned_task rows →
    row_at assigned_task x (filter p rows)
    ≡ on_row None (λ (a : Assigned). cond (p a) (Some a) None) (row_at assigned_task x rows)
rows-left p x [] rises = refl
rows-left p x (a ∷ rows) rises =
    go (p a) refl (eqb a.task x) refl (rows-left p x rows (rising-rest rows rises))
  where
    rising-rest : (ys : List Assigned) → RisesFrom assigned_task a.task ys → IsRising assigned_task ys
    rising-rest [] r = tt
    rising-rest (y ∷ ys) r = r.1

    none : eqb a.task x ≡ true → row_at assigned_task x (filter p rows) ≡ None
    none e =
        row_at-None_below assigned_task a.task x (filter p rows)
        (RisesFrom-filter assigned_task a.task p rows rises) (let same : a.task ≡ x = grind (arith, nat_tests, e) in
        omega (arith, same))

    go : (b : Bool) → p a ≡ b → (c : Bool) → eqb a.task x ≡ c →
        row_at assigned_task x (filter p rows)
        ≡ on_row None (λ (d : Assigned). cond (p d) (Some d) None) (row_at assigned_task x rows) →
        row_at assigned_task x (cond b (a ∷ filter p rows) (filter p rows))
        ≡ on_row None (λ (d : Assigned). cond (p d) (Some d) None) (cond c (Some a) (row_at assigned_task x rows))
    go true e true f rest =
        ap (λ (z : Bool). cond z (Some a) (row_at assigned_task x (filter p rows))) f
        ∙ sym (ap (λ (z : Bool). cond z (Some a) None) e)
    go true e false f rest =
        ap (λ (z : Bool). cond z (Some a) (row_at assigned_task x (filter p rows))) f ∙ rest
    go false e true f rest = none f ∙ sym (ap (λ (z : Bool). cond z (Some a) None) e)
    go false e false f rest = rest

pub update-row : (x : ℕ) (rows : List Assigned) →
    update_of rows x ≡ on_row [] (λ (a : Assigned). assign.Update a ∷ []) (row_at assigned_task x rows)
update-row x [] = refl
update-row x (a ∷ rows) = go (eqb a.task x) (update-row x rows)
  where
    go : (b : Bool) → update_of rows x ≡ on_row [] (λ (d : Assigned). assign.Update d ∷ [])
        (row_at assigned_task x rows) →
        cond b (assign.Update a ∷ []) (update_of rows x)
        ≡ on_row [] (λ (d : Assigned). assign.Update d ∷ []) (cond b (Some a) (row_at assigned_task x rows))
    go true rest = refl
    go false rest = rest

abbrev hear : ℕ → ℕ → Option Executor → List AssignChange → Option Executor
hear clock x e cs = fold (λ o c. heard clock x c o) e cs

hear-append : (clock x : ℕ) (e : Option Executor) (cs ds : List AssignChange) →
    hear clock x e (cs ++ ds) ≡ hear clock x (hear clock x e cs) ds
hear-append clock x e [] ds = refl
hear-append clock x e (c ∷ cs) ds = hear-append clock x (heard clock x c e) cs ds

-- the changes for one task say nothing of another
hear-other : (clock x : ℕ) (e : Option Executor) (sent due : List Assigned) (k : ℕ) → eqb k x ≡ false →
    hear clock x e (change_of sent due k) ≡ e
hear-other clock x e sent due k other = go (not (has_row assigned_task k due))
  where
    left : List Assigned
    left = filter (λ a. not (is_sent sent a)) due

    update : (o : Option Assigned) → row_at assigned_task k left ≡ o →
        hear clock x e (on_row [] (λ (a : Assigned). assign.Update a ∷ []) o) ≡ e
    update None at = refl
    update (Some a) at =
        let number = (Has-from_row_at assigned_task k left a at).1 in
        let away : eqb a.task x ≡ false = ap (λ (j : ℕ). eqb j x) number ∙ other in
        ap (λ (b : Bool). cond b (Some (aimed_or_new clock a e)) e) away

    go : (b : Bool) → hear clock x e (cond b (assign.Remove k ∷ []) (update_of left k)) ≡ e
    go true = ap (λ (b : Bool). cond b (option_map gone_executor e) e) other
    go false = ap (hear clock x e) (update-row k left) ∙ update (row_at assigned_task k left) refl

abbrev pub has-number : ℕ → List ℕ → Bool
has-number x ks = list_any (λ k. eqb k x) ks

rising-tail : (k : ℕ) (ks : List ℕ) → RisesFrom itself k ks → IsRising itself ks
rising-tail k [] r = tt
rising-tail k (j ∷ ks) r = r.1

none-below : (x m : ℕ) (js : List ℕ) → RisesFrom itself m js → x ≤ m → has-number x js ≡ false
none-below x m [] r low = refl
none-below x m (j ∷ js) r low =
    let first : eqb j x ≡ false = (let more = r.0 in grind (arith, nat_tests, more, low)) in
    ap (λ (b : Bool). b || has-number x js) first ∙ none-below x j js r.1 (omega (arith, r.0, low))

-- of rising numbers only the task's own counts
hear-keys : (clock x : ℕ) (e : Option Executor) (sent due : List Assigned) (ks : List ℕ) → IsRising itself ks →
    hear clock x e (flat_map (change_of sent due) ks)
    ≡ cond (has-number x ks) (hear clock x e (change_of sent due x)) e
hear-keys clock x e sent due [] rises = refl
hear-keys clock x e sent due (k ∷ ks) rises =
    hear-append clock x e (change_of sent due k) (flat_map (change_of sent due) ks)
    ∙ hear-keys clock x (hear clock x e (change_of sent due k)) sent due ks (rising-tail k ks rises)
    ∙ go (eqb k x) refl
  where
    go : (b : Bool) → eqb k x ≡ b →
        cond (has-number x ks) (hear clock x (hear clock x e (change_of sent due k)) (change_of sent due x))
        (hear clock x e (change_of sent due k))
        ≡ cond (b || has-number x ks) (hear clock x e (change_of sent due x)) e
    go true same =
        let is : k ≡ x = grind (arith, nat_tests, same) in
        ap (λ (b : Bool). cond b (hear clock x (hear clock x e (change_of sent due k)) (change_of sent due x))
        (hear clock x e (change_of sent due k))) (none-below x k ks rises (omega (arith, is)))
        ∙ ap (λ (j : ℕ). hear clock x e (change_of sent due j)) is
    go false other =
        ap (λ (o : Option Executor). cond (has-number x ks) (hear clock x o (change_of sent due x)) o)
        (hear-other clock x e sent due k other)

-- The numbers of either.

with-has : (x k : ℕ) (ks : List ℕ) → has-number x (with_number k ks) ≡ (eqb k x || has-number x ks)
with-has x k [] = refl
with-has x k (j ∷ ks) = go (ltb k j) (eqb k j) refl (with-has x k ks)
  where
    turn : (a b c : Bool) → (a || (b || c)) ≡ (b || (a || c))
    turn true true c = refl
    turn true false c = refl
    turn false b c = refl

    twice : (a b c : Bool) → a ≡ b → (a || c) ≡ (a || (b || c))
    twice true b c e = refl
    twice false true c e = absurd cc
    twice false false c e = refl

    go : (less same : Bool) → eqb k j ≡ same → has-number x (with_number k ks) ≡ (eqb k x || has-number x ks) →
        has-number x (cond less (k ∷ j ∷ ks) (cond same (k ∷ ks) (j ∷ with_number k ks)))
        ≡ (eqb k x || (eqb j x || has-number x ks))
    go true same e rest = refl
    go false true e rest =
        let is : k ≡ j = grind (arith, nat_tests, e) in
        twice (eqb k x) (eqb j x) (has-number x ks) (ap (λ (i : ℕ). eqb i x) is)
    go false false e rest =
        ap (λ (b : Bool). eqb j x || b) rest ∙ turn (eqb j x) (eqb k x) (has-number x ks)

fold-has : (x : ℕ) (ks js : List ℕ) →
    has-number x (fold (λ is i. with_number i is) ks js) ≡ (has-number x js || has-number x ks)
fold-has x ks [] = refl
fold-has x ks (j ∷ js) =
    fold-has x (with_number j ks) js ∙ ap (λ (b : Bool). has-number x js || b) (with-has x j ks)
    ∙ turn (has-number x js) (eqb j x) (has-number x ks)
  where
    turn : (a b c : Bool) → (a || (b || c)) ≡ ((b || a) || c)
    turn true true c = refl
    turn true false c = refl
    turn false true c = refl
    turn false false c = refl

rows-has : (x : ℕ) (rows : List Assigned) → has-number x (map assigned_task rows) ≡ has_row assigned_task x rows
rows-has x [] = refl
rows-has x (a ∷ rows) = go (eqb a.task x) (rows-has x rows)
  where
    go : (b : Bool) → has-number x (map assigned_task rows) ≡ has_row assigned_task x rows →
        (b || has-number x (map assigned_task rows)) ≡ is_some (cond b (Some a) (row_at assigned_task x rows))
    go true rest = refl
    go false rest = rest

either-has : (x : ℕ) (rows more : List Assigned) →
    has_row assigned_task x (rows ++ more) ≡ (has_row assigned_task x rows || has_row assigned_task x more)
either-has x [] more = refl
either-has x (a ∷ rows) more = go (eqb a.task x) (either-has x rows more)
  where
    go : (b : Bool) →
        has_row assigned_task x (rows ++ more) ≡ (has_row assigned_task x rows || has_row assigned_task x more) →
        is_some (cond b (Some a) (row_at assigned_task x (rows ++ more)))
        ≡ (is_some (cond b (Some a) (row_at assigned_task x rows)) || has_row assigned_task x more)
    go true rest = refl
    go false rest = rest

pub keys-has : (x : ℕ) (sent due : List Assigned) →
    has-number x (tasks_of_either sent due) ≡ (has_row assigned_task x sent || has_row assigned_task x due)
keys-has x sent due =
    fold-has x [] (map assigned_task (sent ++ due)) ∙ or_false (has-number x (map assigned_task (sent ++ due)))
    ∙ rows-has x (sent ++ due) ∙ either-has x sent due

keys-rise : (ks js : List ℕ) → IsRising itself ks → IsRising itself (fold (λ is i. with_number i is) ks js)
keys-rise ks [] rises = rises
keys-rise ks (j ∷ js) rises = keys-rise (with_number j ks) js (IsRising-with_row itself j ks rises)

-- A difference.

difference : (clock x : ℕ) (s : NodeSent) (due : List Assigned) (e : Option Executor) → IsRising assigned_task due →
    hear clock x e (changes_of s.tasks due) ≡ executor_after clock (Some s) (row_at assigned_task x due) x e
difference clock x s due e rises =
    hear-keys clock x e s.tasks due (tasks_of_either s.tasks due) (keys-rise [] (map assigned_task (s.tasks ++ due)) tt)
    ∙ ap (λ (b : Bool). cond b (hear clock x e (change_of s.tasks due x)) e) (keys-has x s.tasks due)
    ∙ go (row_at assigned_task x due) refl
  where
    left : List Assigned
    left = filter (λ a. not (is_sent s.tasks a)) due

    own : eqb x x ≡ true
    own = grind (arith, nat_tests)

    or-true : (b : Bool) → (b || true) ≡ true
    or-true true = refl
    or-true false = refl

    update : (a : Assigned) → a.task ≡ x → (b : Bool) →
        hear clock x e (on_row [] (λ (d : Assigned). assign.Update d ∷ []) (cond (not b) (Some a) None))
        ≡ cond b e (Some (aimed_or_new clock a e))
    update a same true = refl
    update a same false =
        let is : eqb a.task x ≡ true = grind (arith, nat_tests, same) in
        ap (λ (b : Bool). cond b (Some (aimed_or_new clock a e)) e) is

    go : (o : Option Assigned) → row_at assigned_task x due ≡ o →
        cond (has_row assigned_task x s.tasks || has_row assigned_task x due)
        (hear clock x e (change_of s.tasks due x)) e
        ≡ executor_after clock (Some s) o x e
    go (Some a) at =
        let there : has_row assigned_task x due ≡ true = ap (λ (o : Option Assigned). is_some o) at in
        let same = (Has-from_row_at assigned_task x due a at).1 in
        ap (λ (b : Bool). cond (has_row assigned_task x s.tasks || b) (hear clock x e (change_of s.tasks due x)) e)
        there
        ∙ ap (λ (b : Bool). cond b (hear clock x e (change_of s.tasks due x)) e)
        (or-true (has_row assigned_task x s.tasks))
        ∙ ap (λ (b : Bool). hear clock x e (cond (not b) (assign.Remove x ∷ []) (update_of left x))) there
        ∙ ap (hear clock x e) (update-row x left)
        ∙ ap (λ (o : Option Assigned). hear clock x e (on_row [] (λ (d : Assigned). assign.Update d ∷ []) o))
        (rows-left (λ d. not (is_sent s.tasks d)) x due rises
        ∙ ap (λ (o : Option Assigned). on_row None (λ (d : Assigned). cond (not (is_sent s.tasks d)) (Some d) None) o)
        at)
        ∙ update a same (is_sent s.tasks a)
    go None at =
        let none : has_row assigned_task x due ≡ false = ap (λ (o : Option Assigned). is_some o) at in
        ap (λ (b : Bool). cond (has_row assigned_task x s.tasks || b) (hear clock x e (change_of s.tasks due x)) e) none
        ∙ ap (λ (b : Bool). cond b (hear clock x e (change_of s.tasks due x)) e)
        (or_false (has_row assigned_task x s.tasks))
        ∙ ap (λ (o : Option Executor). cond (has_row assigned_task x s.tasks) o e)
        (ap (λ (b : Bool). hear clock x e (cond (not b) (assign.Remove x ∷ []) (update_of left x))) none
        ∙ ap (λ (b : Bool). cond b (option_map gone_executor e) e) own)

-- A first message.

hear-none : (clock x m : ℕ) (e : Option Executor) (due : List Assigned) → RisesFrom assigned_task m due → x ≤ m →
    hear clock x e (map assign.Update due) ≡ e
hear-none clock x m e [] rises low = refl
hear-none clock x m e (a ∷ due) rises low =
    let away : eqb a.task x ≡ false = (let more = rises.0 in grind (arith, nat_tests, more, low)) in
    ap (λ (b : Bool). hear clock x (cond b (Some (aimed_or_new clock a e)) e) (map assign.Update due)) away
    ∙ hear-none clock x a.task e due rises.1 (omega (arith, rises.0, low))

assigned-tail : (m : ℕ) (due : List Assigned) → RisesFrom assigned_task m due → IsRising assigned_task due
assigned-tail m [] r = tt
assigned-tail m (a ∷ due) r = r.1

hear-updates : (clock x : ℕ) (e : Option Executor) (due : List Assigned) → IsRising assigned_task due →
    hear clock x e (map assign.Update due)
    ≡ on_row e (λ (a : Assigned). Some (aimed_or_new clock a e)) (row_at assigned_task x due)
hear-updates clock x e [] rises = refl
hear-updates clock x e (a ∷ due) rises =
    go (eqb a.task x) refl (hear-updates clock x e due (assigned-tail a.task due rises))
  where
    go : (b : Bool) → eqb a.task x ≡ b →
        hear clock x e (map assign.Update due)
        ≡ on_row e (λ (d : Assigned). Some (aimed_or_new clock d e)) (row_at assigned_task x due) →
        hear clock x (cond b (Some (aimed_or_new clock a e)) e) (map assign.Update due)
        ≡ on_row e (λ (d : Assigned). Some (aimed_or_new clock d e)) (cond b (Some a) (row_at assigned_task x due))
    go true same rest =
        let is : a.task ≡ x = grind (arith, nat_tests, same) in
        hear-none clock x a.task (Some (aimed_or_new clock a e)) due rises (omega (arith, is))
    go false other rest = rest

named : (x : ℕ) (due : List Assigned) → list_any (names x) (map assign.Update due) ≡ has_row assigned_task x due
named x [] = refl
named x (a ∷ due) = go (eqb a.task x) (named x due)
  where
    go : (b : Bool) → list_any (names x) (map assign.Update due) ≡ has_row assigned_task x due →
        (b || list_any (names x) (map assign.Update due)) ≡ is_some (cond b (Some a) (row_at assigned_task x due))
    go true rest = refl
    go false rest = rest

left-out : (x : ℕ) (due : List Assigned) (e : Executor) → e.task ≡ x →
    left_out (complete_message due) e ≡ cond (not (has_row assigned_task x due)) (gone_executor e) e
left-out x due e same =
    ap (λ (k : ℕ). cond (not (list_any (names k) (map assign.Update due))) (gone_executor e) e) same
    ∙ ap (λ (b : Bool). cond (not b) (gone_executor e) e) (named x due)

first : (clock x : ℕ) (due : List Assigned) (e : Option Executor) → IsRising assigned_task due →
    ((f : Executor) → e ≡ Some f → f.task ≡ x) →
    option_map (left_out (complete_message due)) (hear clock x e (map assign.Update due))
    ≡ executor_after clock None (row_at assigned_task x due) x e
first clock x due e rises own =
    ap (option_map (left_out (complete_message due))) (hear-updates clock x e due rises)
    ∙ go (row_at assigned_task x due) refl
  where
    number : (a : Assigned) → a.task ≡ x → (o : Option Executor) → e ≡ o → (aimed_or_new clock a o).task ≡ x
    number a same None at = same
    number a same (Some f) at = own f at

    taken : (o : Option Executor) → e ≡ o → has_row assigned_task x due ≡ false →
        option_map (left_out (complete_message due)) o ≡ option_map gone_executor o
    taken None at none = refl
    taken (Some f) at none =
        ap (λ (g : Executor). Some g)
        (left-out x due f (own f at) ∙ ap (λ (b : Bool). cond (not b) (gone_executor f) f) none)

    go : (o : Option Assigned) → row_at assigned_task x due ≡ o →
        option_map (left_out (complete_message due)) (on_row e (λ (a : Assigned). Some (aimed_or_new clock a e)) o)
        ≡ executor_after clock None o x e
    go (Some a) at =
        let there : has_row assigned_task x due ≡ true = ap (λ (o : Option Assigned). is_some o) at in
        let same = (Has-from_row_at assigned_task x due a at).1 in
        ap (λ (g : Executor). Some g)
        (left-out x due (aimed_or_new clock a e) (number a same e refl)
        ∙ ap (λ (b : Bool). cond (not b) (gone_executor (aimed_or_new clock a e)) (aimed_or_new clock a e)) there)
    go None at = taken e refl (ap (λ (o : Option Assigned). is_some o) at)

-- Any message.

stays-in : (m : Message) (o : Option Executor) → m.complete ≡ false → option_map (left_out m) o ≡ o
stays-in m None e = refl
stays-in m (Some f) e =
    ap (λ (b : Bool). Some (cond (b && not (list_any (names f.task) m.changes)) (gone_executor f) f)) e

pub message-tells : MessageLaw
message-tells clock None due m executors x rises e =
    let same : complete_message due ≡ m = cc in
    subst (λ (z : Message). row_at executor_task x (applied clock z executors)
    ≡ executor_after clock None (row_at assigned_task x due) x (row_at executor_task x executors)) same
    (applied-at clock x (complete_message due) executors
    ∙ first clock x due (row_at executor_task x executors) rises
    (λ f at. (Has-from_row_at executor_task x executors f at).1))
message-tells clock (Some s) due m executors x rises e = go (changes_of s.tasks due) refl e
  where
    go : (cs : List AssignChange) → changes_of s.tasks due ≡ cs → message_with s.count cs ≡ Some m →
        row_at executor_task x (applied clock m executors)
        ≡ executor_after clock (Some s) (row_at assigned_task x due) x (row_at executor_task x executors)
    go [] at k = absurd cc
    go (c ∷ cs) at k =
        let same : difference_message s.count (c ∷ cs) ≡ m = cc in
        subst (λ (z : Message). row_at executor_task x (applied clock z executors)
        ≡ executor_after clock (Some s) (row_at assigned_task x due) x (row_at executor_task x executors)) same
        (applied-at clock x (difference_message s.count (c ∷ cs)) executors
        ∙ stays-in (difference_message s.count (c ∷ cs)) _ refl
        ∙ ap (hear clock x (row_at executor_task x executors)) (sym at)
        ∙ difference clock x s due (row_at executor_task x executors) rises)
