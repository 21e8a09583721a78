-- Changes of one executor, and taking them back.
use Rattle.std.proofs.Common.{Bool, List, None, Option, Some, [], ap, arith, cond, eqb, false, ltb, not, refl, sym, true, ℕ, ◌++◌, ◌≤◌, ◌∙◌, ◌∷◌, ◌≡◌}
use Rattle.std.proofs.lemmas.Bool.Decides.{nat_tests}
use Rattle.std.specs.List.{list_all}
use Rattle.std.specs.Prelude.{Err, Ok, OnErr, OnOk, is_some, ◌&&◌}
use Rattle.std.specs.declared.result.Result.{Result}
use Rattle.swarm_agent.specs.Inside.Undo.{instead_of, restored, undone}
use Rattle.swarm_agent.specs.declared.messages.Former.{Former}
use Rattle.swarm_objects.proofs.RowChanges.{change_row-None}
use Rattle.swarm_objects.proofs.RowLemmas.{change_row_above}
use Rattle.swarm_objects.specs.Agents.Messages.{change_executor, new_executor, updated}
use Rattle.swarm_objects.specs.Rows.{IsRising, RisesFrom, drop_row, executor_task, row_at, rows_above, with_row}
use Rattle.swarm_objects.specs.declared.agents.Executor.{Executor}
use Rattle.swarm_objects.specs.declared.messages.Assigned.{Assigned}

-- The row that is there, as the function leaves it, is the change by the function.

set-from : (n k : ℕ) (f : Executor → Executor) (x : Executor) (rows : List Executor) → RisesFrom executor_task n rows →
    row_at executor_task k rows ≡ Some x → change_executor k (λ _. f x) rows ≡ change_executor k f rows
set-from n k f x [] r at = refl
set-from n k f x (y ∷ rows) r at = go (eqb y.task k) refl (set-from y.task k f x rows r.1) at
  where
    go : (b : Bool) → eqb y.task k ≡ b →
        (row_at executor_task k rows ≡ Some x → change_executor k (λ _. f x) rows ≡ change_executor k f rows) →
        cond b (Some y) (row_at executor_task k rows) ≡ Some x →
        cond b (f x) y ∷ change_executor k (λ _. f x) rows ≡ cond b (f y) y ∷ change_executor k f rows
    go true same rest at =
        let is : y ≡ x = cc in
        let le : k ≤ y.task = grind (arith, nat_tests, same) in
        let left = change_row_above executor_task y.task k (λ _. f x) rows r.1 le in
        let right = change_row_above executor_task y.task k f rows r.1 le in
        ap (λ (z : Executor). f z ∷ change_executor k (λ _. f x) rows) (sym is)
        ∙ ap (λ (zs : List Executor). f y ∷ zs) (left ∙ sym right)
    go false other rest at = ap (λ (zs : List Executor). y ∷ zs) (rest at)

tail-rises : (n : ℕ) (rows : List Executor) → RisesFrom executor_task n rows → IsRising executor_task rows
tail-rises n [] r = tt
tail-rises n (x ∷ rows) r = r.1

pub set-as : (k : ℕ) (f : Executor → Executor) (x : Executor) (rows : List Executor) → IsRising executor_task rows →
    Some x ≡ row_at executor_task k rows → change_executor k (λ _. f x) rows ≡ change_executor k f rows
set-as k f x [] r at = refl
set-as k f x (y ∷ rows) r at = go (eqb y.task k) refl (sym at)
  where
    go : (b : Bool) → eqb y.task k ≡ b → cond b (Some y) (row_at executor_task k rows) ≡ Some x →
        cond b (f x) y ∷ change_executor k (λ _. f x) rows ≡ cond b (f y) y ∷ change_executor k f rows
    go true same at =
        let is : y ≡ x = cc in
        let le : k ≤ y.task = grind (arith, nat_tests, same) in
        let left = change_row_above executor_task y.task k (λ _. f x) rows r le in
        let right = change_row_above executor_task y.task k f rows r le in
        ap (λ (z : Executor). f z ∷ change_executor k (λ _. f x) rows) (sym is)
        ∙ ap (λ (zs : List Executor). f y ∷ zs) (left ∙ sym right)
    go false other at = ap (λ (zs : List Executor). y ∷ zs) (set-from y.task k f x rows r at)

-- its task is the one that was asked for
pub task-at : (k : ℕ) (x : Executor) (rows : List Executor) → Some x ≡ row_at executor_task k rows → x.task ≡ k
task-at k x [] at = absurd cc
task-at k x (y ∷ rows) at = go (eqb y.task k) refl (task-at k x rows) at
  where
    go : (b : Bool) → eqb y.task k ≡ b → (Some x ≡ row_at executor_task k rows → x.task ≡ k) →
        Some x ≡ cond b (Some y) (row_at executor_task k rows) → x.task ≡ k
    go true same rest at =
        let is : x ≡ y = cc in ap executor_task is ∙ grind (arith, nat_tests, same)
    go false other rest at = rest at

-- a set of what the function makes of it
pub set-is : (k : ℕ) (f : Executor → Executor) (x z : Executor) (rows : List Executor) → IsRising executor_task rows →
    Some x ≡ row_at executor_task k rows → z ≡ f x → (f x).task ≡ x.task →
    change_executor z.task (λ _. z) rows ≡ change_executor k f rows
set-is k f x z rows r at is same =
    ap (λ (y : Executor). change_executor y.task (λ _. y) rows) is
    ∙ ap (λ (j : ℕ). change_executor j (λ _. f x) rows) (same ∙ task-at k x rows at)
    ∙ set-as k f x rows r at

-- Taking back.

back-from : (k : ℕ) (f : Executor → Executor) (x : Executor) (n : ℕ) (rows : List Executor) →
    RisesFrom executor_task n rows → row_at executor_task k rows ≡ Some x → (f x).task ≡ k →
    change_executor k (λ _. x) (change_executor k f rows) ≡ rows
back-from k f x n [] r at same = refl
back-from k f x n (y ∷ rows) r at same = go (eqb y.task k) refl (back-from k f x y.task rows r.1) at
  where
    go : (b : Bool) → eqb y.task k ≡ b →
        (row_at executor_task k rows ≡ Some x → (f x).task ≡ k →
        change_executor k (λ _. x) (change_executor k f rows) ≡ rows) →
        cond b (Some y) (row_at executor_task k rows) ≡ Some x →
        change_executor k (λ _. x) (cond b (f y) y ∷ change_executor k f rows) ≡ y ∷ rows
    go true is rest at =
        let it : y ≡ x = cc in
        let le : k ≤ y.task = grind (arith, nat_tests, is) in
        let one = change_row_above executor_task y.task k f rows r.1 le in
        let two = change_row_above executor_task y.task k (λ _. x) rows r.1 le in
        let own : eqb (f y).task k ≡ true =
        ap (λ (z : Executor). eqb (f z).task k) it ∙ (let number = same in grind (arith, nat_tests, number)) in
        ap (λ (b : Bool). cond b x (f y) ∷ change_executor k (λ _. x) (change_executor k f rows)) own
        ∙ ap (λ (zs : List Executor). x ∷ change_executor k (λ _. x) zs) one
        ∙ ap (λ (zs : List Executor). x ∷ zs) two ∙ ap (λ (z : Executor). z ∷ rows) (sym it)
    go false other rest at =
        ap (λ (b : Bool). cond b x y ∷ change_executor k (λ _. x) (change_executor k f rows)) other
        ∙ ap (λ (zs : List Executor). y ∷ zs) (rest at same)

-- rising from the first one on is rising from below it, or there is nothing below
lowered : (k : ℕ) (f : Executor → Executor) (x : Executor) (rows : List Executor) → IsRising executor_task rows →
    row_at executor_task k rows ≡ Some x → (f x).task ≡ k →
    change_executor k (λ _. x) (change_executor k f rows) ≡ rows
lowered k f x [] r at same = refl
lowered k f x (y ∷ rows) r at same = go (eqb y.task k) refl at
  where
    go : (b : Bool) → eqb y.task k ≡ b → cond b (Some y) (row_at executor_task k rows) ≡ Some x →
        change_executor k (λ _. x) (cond b (f y) y ∷ change_executor k f rows) ≡ y ∷ rows
    go true is at =
        let it : y ≡ x = cc in
        let le : k ≤ y.task = grind (arith, nat_tests, is) in
        let one = change_row_above executor_task y.task k f rows r le in
        let two = change_row_above executor_task y.task k (λ _. x) rows r le in
        let own : eqb (f y).task k ≡ true =
        ap (λ (z : Executor). eqb (f z).task k) it ∙ (let number = same in grind (arith, nat_tests, number)) in
        ap (λ (b : Bool). cond b x (f y) ∷ change_executor k (λ _. x) (change_executor k f rows)) own
        ∙ ap (λ (zs : List Executor). x ∷ change_executor k (λ _. x) zs) one
        ∙ ap (λ (zs : List Executor). x ∷ zs) two ∙ ap (λ (z : Executor). z ∷ rows) (sym it)
    go false other at =
        ap (λ (b : Bool). cond b x y ∷ change_executor k (λ _. x) (change_executor k f rows)) other
        ∙ ap (λ (zs : List Executor). y ∷ zs) (back-from k f x y.task rows r at same)

pub change-back : (k : ℕ) (f : Executor → Executor) (x : Executor) (rows : List Executor) → IsRising executor_task rows →
    Some x ≡ row_at executor_task k rows → (f x).task ≡ x.task →
    change_executor x.task (λ _. x) (change_executor k f rows) ≡ rows
change-back k f x rows r at same =
    let is = task-at k x rows at in
    ap (λ (j : ℕ). change_executor j (λ _. x) (change_executor k f rows)) is
    ∙ lowered k f x rows r (sym at) (same ∙ is)

pub drop-none : (k : ℕ) (rows : List Executor) → None ≡ row_at executor_task k rows →
    drop_row executor_task k rows ≡ rows
drop-none k [] at = refl
drop-none k (y ∷ rows) at = go (eqb y.task k) (drop-none k rows) at
  where
    go : (b : Bool) → (None ≡ row_at executor_task k rows → drop_row executor_task k rows ≡ rows) →
        None ≡ cond b (Some y) (row_at executor_task k rows) →
        cond (not b) (y ∷ drop_row executor_task k rows) (drop_row executor_task k rows) ≡ y ∷ rows
    go true rest at = absurd cc
    go false rest at = ap (λ (zs : List Executor). y ∷ zs) (rest at)

pub put-back : (new : Executor) (rows : List Executor) → None ≡ row_at executor_task new.task rows →
    drop_row executor_task new.task (with_row executor_task new rows) ≡ rows
put-back new [] at = ap (λ (b : Bool). cond (not b) (new ∷ []) []) (own new.task)
  where
    own : (k : ℕ) → eqb k k ≡ true
    own k = grind (arith, nat_tests)
put-back new (y ∷ rows) at =
    go (ltb new.task y.task) (eqb new.task y.task) refl (eqb y.task new.task) refl (put-back new rows) at
  where
    own : (k : ℕ) → eqb k k ≡ true
    own k = grind (arith, nat_tests)

    go : (a b : Bool) → eqb new.task y.task ≡ b → (c : Bool) → eqb y.task new.task ≡ c →
        (None ≡ row_at executor_task new.task rows →
        drop_row executor_task new.task (with_row executor_task new rows) ≡ rows) →
        None ≡ cond c (Some y) (row_at executor_task new.task rows) →
        drop_row executor_task new.task (cond a (new ∷ y ∷ rows) (cond b (new ∷ rows) (y ∷ with_row executor_task new rows)))
        ≡ y ∷ rows
    go a b e true q rest at = absurd cc
    go true b e false q rest at =
        ap (λ (d : Bool). cond (not d) (new ∷ drop_row executor_task new.task (y ∷ rows))
        (drop_row executor_task new.task (y ∷ rows))) (own new.task)
        ∙ drop-none new.task (y ∷ rows)
        (at ∙ sym (ap (λ (d : Bool). cond d (Some y) (row_at executor_task new.task rows)) q))
    go false true e false q rest at =
        absurd (let same : new.task ≡ y.task = grind (arith, nat_tests, e) in
        let wrong : eqb y.task new.task ≡ true = grind (arith, nat_tests, same) in
        let no : true ≡ false = sym wrong ∙ q in cc)
    go false false e false q rest at =
        ap (λ (d : Bool). cond (not d) (y ∷ drop_row executor_task new.task (with_row executor_task new rows))
        (drop_row executor_task new.task (with_row executor_task new rows))) q
        ∙ ap (λ (zs : List Executor). y ∷ zs) (rest at)

pub undone-push : (fs : List Former) (f : Former) (rows : List Executor) →
    undone (fs ++ f ∷ []) rows ≡ undone fs (restored f rows)
undone-push [] f rows = refl
undone-push (g ∷ fs) f rows = ap (restored g) (undone-push fs f rows)

-- Updates.

pub update-some : (a : Assigned) (x : Executor) (rows : List Executor) → Some x ≡ row_at executor_task a.task rows →
    change_executor a.task (λ e. record e { desired = a.desired }) rows ≡ updated 0 rows a
update-some a x rows at =
    sym (ap (λ (o : Option Executor). cond (is_some o) (change_executor a.task (λ e. record e { desired = a.desired }) rows)
    (with_row executor_task (new_executor 0 a) rows)) (sym at))

pub update-none : (a : Assigned) (rows : List Executor) → None ≡ row_at executor_task a.task rows →
    with_row executor_task (new_executor 0 a) rows ≡ updated 0 rows a
update-none a rows at =
    sym (ap (λ (o : Option Executor). cond (is_some o) (change_executor a.task (λ e. record e { desired = a.desired }) rows)
    (with_row executor_task (new_executor 0 a) rows)) (sym at))

-- Where none was found.

pub nowhere : (k : ℕ) (f : Executor → Executor) (o : Option Executor) (rows : List Executor) →
    o ≡ row_at executor_task k rows → ((x : Executor) → o ≡ Some x → ⊥) → rows ≡ change_executor k f rows
nowhere k f None rows at none = sym (change_row-None executor_task k f rows (sym at))
nowhere k f (Some x) rows at none = absurd (none x refl)

-- an update or a removal of a task, and the log that has what it had before

pub logged : (log fs : List Former) (f : Former) (rows after : List Executor) → log ≡ fs ++ f ∷ [] →
    restored f after ≡ rows → undone log after ≡ undone fs rows
logged log fs f rows after is back =
    ap (λ (gs : List Former). undone gs after) is ∙ undone-push fs f after ∙ ap (undone fs) back

pub logged-some : (log fs : List Former) (k : ℕ) (f : Executor → Executor) (x z : Executor) (o : Option Executor)
    (rows after : List Executor) → log ≡ fs ++ record { task = k; executor = o } ∷ [] → IsRising executor_task rows →
    o ≡ row_at executor_task k rows → o ≡ Some x → after ≡ change_executor z.task (λ _. z) rows → z ≡ f x →
    (f x).task ≡ x.task → undone log after ≡ undone fs rows
logged-some log fs k f x z o rows after is r at some set same task =
    logged log fs (record { task = k; executor = o }) rows after is
    (ap (λ (p : Option Executor). instead_of k p after) some
    ∙ ap (change_executor x.task (λ _. x)) (set ∙ set-is k f x z rows r (sym some ∙ at) same task)
    ∙ change-back k f x rows r (sym some ∙ at) task)

pub logged-none : (log fs : List Former) (k : ℕ) (o : Option Executor) (rows : List Executor) →
    log ≡ fs ++ record { task = k; executor = o } ∷ [] → o ≡ row_at executor_task k rows → o ≡ None →
    undone log rows ≡ undone fs rows
logged-none log fs k o rows is at none =
    logged log fs (record { task = k; executor = o }) rows rows is
    (ap (λ (p : Option Executor). instead_of k p rows) none ∙ drop-none k rows (sym none ∙ at))

pub logged-absent : (log fs : List Former) (k : ℕ) (o : Option Executor) (rows : List Executor) →
    log ≡ fs ++ record { task = k; executor = o } ∷ [] → o ≡ row_at executor_task k rows →
    ((x : Executor) → o ≡ Some x → ⊥) → undone log rows ≡ undone fs rows
logged-absent log fs k None rows is at none = logged-none log fs k None rows is at refl
logged-absent log fs k (Some x) rows is at none = absurd (none x refl)

pub logged-new : (log fs : List Former) (new : Executor) (o : Option Executor) (rows after : List Executor) →
    log ≡ fs ++ record { task = new.task; executor = o } ∷ [] → o ≡ row_at executor_task new.task rows → o ≡ None →
    after ≡ with_row executor_task new rows → undone log after ≡ undone fs rows
logged-new log fs new o rows after is at none put =
    logged log fs (record { task = new.task; executor = o }) rows after is
    (ap (λ (p : Option Executor). instead_of new.task p after) none
    ∙ ap (drop_row executor_task new.task) put ∙ put-back new rows (sym none ∙ at))

-- A step's `requires`.

pub near-at : (test : Executor → Bool) (k : ℕ) (x : Executor) (rows : List Executor) → list_all test rows ≡ true →
    Some x ≡ row_at executor_task k rows → test x ≡ true
near-at test k x [] all at = absurd cc
near-at test k x (y ∷ rows) all at = go (eqb y.task k) (test y) refl (near-at test k x rows) all at
  where
    go : (b c : Bool) → test y ≡ c → (list_all test rows ≡ true → Some x ≡ row_at executor_task k rows → test x ≡ true) →
        (c && list_all test rows) ≡ true → Some x ≡ cond b (Some y) (row_at executor_task k rows) → test x ≡ true
    go true true q rest all at = let is : x ≡ y = cc in ap test is ∙ q
    go false true q rest all at = rest all at
    go b false q rest all at = absurd cc

pub near-above : (test : Executor → Bool) (k : ℕ) (rows : List Executor) → list_all test rows ≡ true →
    list_all test (rows_above executor_task k rows) ≡ true
near-above test k [] all = refl
near-above test k (y ∷ rows) all = go (ltb k y.task) (test y) refl (near-above test k rows) all
  where
    go : (b c : Bool) → test y ≡ c → (list_all test rows ≡ true → list_all test (rows_above executor_task k rows) ≡ true) →
        (c && list_all test rows) ≡ true →
        list_all test (cond b (y ∷ rows_above executor_task k rows) (rows_above executor_task k rows)) ≡ true
    go true true q rest all =
        ap (λ (d : Bool). d && list_all test (rows_above executor_task k rows)) q ∙ rest all
    go false true q rest all = rest all
    go b false q rest all = absurd cc

pub logged-put : {E : Type 0} (r : Result (Unit {0}) E) (log fs : List Former) (k : ℕ) (new : Executor)
    (o : Option Executor) (rows after : List Executor) → log ≡ fs ++ record { task = k; executor = o } ∷ [] →
    o ≡ row_at executor_task k rows → o ≡ None → new.task ≡ k →
    OnOk r (after ≡ with_row executor_task new rows) → OnErr r (after ≡ rows) → undone log after ≡ undone fs rows
logged-put (Ok done) log fs k new o rows after is at none same put stays =
    logged-new log fs new o rows after
    (is ∙ ap (λ (j : ℕ). fs ++ record { task = j; executor = o } ∷ []) (sym same))
    (at ∙ ap (λ (j : ℕ). row_at executor_task j rows) (sym same)) none put
logged-put (Err fault) log fs k new o rows after is at none same put stays =
    ap (undone log) stays ∙ logged-none log fs k o rows is at none

-- The last one of a log.

pub undone-last : (log fs : List Former) (f : Former) (rows after : List Executor) → log ≡ fs ++ f ∷ [] →
    after ≡ restored f rows → undone fs after ≡ undone log rows
undone-last log fs f rows after is back =
    ap (undone fs) back ∙ sym (undone-push fs f rows) ∙ ap (λ (gs : List Former). undone gs rows) (sym is)
