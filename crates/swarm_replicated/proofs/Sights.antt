-- What rows of tasks show is as before where each change puts a row that shows what the one before did.
use Rattle.std.proofs.Common.{Bool, List, None, Option, Some, [], ap, arith, cond, eqb, false, inl, inr, is_some, not, refl, sym, true, ℕ, ◌++◌, ◌∙◌, ◌∷◌, ◌≡◌, ◌⊎◌}
use Rattle.std.proofs.lemmas.Bool.Decides.{nat_tests}
use Rattle.std.specs.Prelude.{⊤}
use Rattle.swarm_objects.proofs.RowLemmas.{Has-append_cases, Has-append_left, Has-filter, Has-filter_cases, Has-from_row_at, Has-map, Has-map_cases}
use Rattle.swarm_objects.specs.ChangeLists.{apply_change, apply_changes}
use Rattle.swarm_objects.specs.Rows.{Has, drop_row, has_row, put_row, row_at, task_id}
use Rattle.swarm_objects.specs.Tasks.New.{with_task}
use Rattle.swarm_objects.specs.World.{Tables}
use Rattle.swarm_objects.specs.declared.rows.Change.TheVariants as change
use Rattle.swarm_objects.specs.declared.rows.Change.{Change}
use Rattle.swarm_objects.specs.declared.tasks.Task.{Task}

-- one thing more that is shown, where there is one
abbrev pub shown : {Y : Type 0} → Option Y → List Y → List Y
shown None ys = ys
shown (Some y) ys = y ∷ ys

-- what the tasks show, one after the other
abbrev pub seen : {Y : Type 0} → (Task → Option Y) → List Task → List Y
seen show [] = []
seen show (x ∷ tasks) = shown (show x) (seen show tasks)

-- the task with this id shows this; nothing where there is none
pub record Shows {Y : Type 0} (show : Task → Option Y) (tasks : List Task) (id : ℕ) (what : Option Y) : Type 0 where
  pub each : (y : Task) → Has tasks y → y.id ≡ id → show y ≡ what
  pub none : ((y : Task) → Has tasks y → y.id ≡ id → ⊥) → what ≡ None

-- the change leaves what is shown
abbrev pub Keeps : {Y : Type 0} → (Task → Option Y) → List Task → Change → Type 0
Keeps show tasks (change.PutNode n) = ⊤
Keeps show tasks (change.PutService s) = ⊤
Keeps show tasks (change.PutTask x) = Shows show tasks x.id (show x)
Keeps show tasks (change.DropTask id) = Shows show tasks id None
Keeps show tasks (change.Keep a) = ⊤

-- One change.

seen-put : {Y : Type 0} (show : Task → Option Y) (x : Task) (tasks : List Task) →
    ((y : Task) → Has tasks y → y.id ≡ x.id → show y ≡ show x) → seen show (put_row task_id x tasks) ≡ seen show tasks
seen-put show x [] each = refl
seen-put show x (y ∷ tasks) each = go (eqb y.id x.id) refl (seen-put show x tasks (λ z h e. each z (inr h) e))
  where
    go : (b : Bool) → eqb y.id x.id ≡ b → seen show (put_row task_id x tasks) ≡ seen show tasks →
        seen show (cond b x y ∷ put_row task_id x tasks) ≡ seen show (y ∷ tasks)
    go true is rest =
        ap (λ o. shown o (seen show (put_row task_id x tasks))) (sym (each y (inl refl) (grind (arith, nat_tests, is))))
        ∙ ap (shown (show y)) rest
    go false is rest = ap (shown (show y)) rest

seen-last : {Y : Type 0} (show : Task → Option Y) (x : Task) (tasks : List Task) → show x ≡ None →
    seen show (tasks ++ x ∷ []) ≡ seen show tasks
seen-last show x [] off = ap (λ o. shown o []) off
seen-last show x (y ∷ tasks) off = ap (shown (show y)) (seen-last show x tasks off)

seen-drop : {Y : Type 0} (show : Task → Option Y) (id : ℕ) (tasks : List Task) →
    ((y : Task) → Has tasks y → y.id ≡ id → show y ≡ None) → seen show (drop_row task_id id tasks) ≡ seen show tasks
seen-drop show id [] none = refl
seen-drop show id (y ∷ tasks) none = go (eqb y.id id) refl (seen-drop show id tasks (λ z h e. none z (inr h) e))
  where
    go : (b : Bool) → eqb y.id id ≡ b → seen show (drop_row task_id id tasks) ≡ seen show tasks →
        seen show (cond (not b) (y ∷ drop_row task_id id tasks) (drop_row task_id id tasks)) ≡ seen show (y ∷ tasks)
    go true is rest =
        rest ∙ sym (ap (λ o. shown o (seen show tasks)) (none y (inl refl) (grind (arith, nat_tests, is))))
    go false is rest = ap (shown (show y)) rest

-- no row has the id
pub none-there : (id : ℕ) (tasks : List Task) → has_row task_id id tasks ≡ false → (y : Task) → Has tasks y → y.id ≡ id → ⊥
none-there id [] off y h same = h
none-there id (z ∷ tasks) off y h same = go (eqb z.id id) refl off (none-there id tasks) h
  where
    go : (b : Bool) → eqb z.id id ≡ b → is_some (cond b (Some z) (row_at task_id id tasks)) ≡ false →
        (has_row task_id id tasks ≡ false → (y : Task) → Has tasks y → y.id ≡ id → ⊥) → Has (z ∷ tasks) y → ⊥
    go true is off below h = absurd cc
    go false is off below (inl e) = absurd (let at : z.id ≡ id = ap task_id e ∙ same in grind (arith, nat_tests, is, at))
    go false is off below (inr h) = below off y h same

seen-change : {Y : Type 0} (show : Task → Option Y) (t : Tables) (c : Change) → Keeps show t.tasks c →
    seen show (apply_change t c).tasks ≡ seen show t.tasks
seen-change show t (change.PutNode n) keeps = refl
seen-change show t (change.PutService s) keeps = refl
seen-change show t (change.PutTask x) keeps = go (has_row task_id x.id t.tasks) refl
  where
    go : (b : Bool) → has_row task_id x.id t.tasks ≡ b →
        seen show (cond b (record t { tasks = put_row task_id x t.tasks }) (with_task t x)).tasks ≡ seen show t.tasks
    go true is = seen-put show x t.tasks keeps.each
    go false is = seen-last show x t.tasks (keeps.none (none-there x.id t.tasks is))
seen-change show t (change.DropTask id) keeps = seen-drop show id t.tasks keeps.each
seen-change show t (change.Keep a) keeps = refl

-- What another row shows after it.

one-there : (id : ℕ) (tasks : List Task) (x y : Task) (b : Bool) → eqb y.id x.id ≡ b → y.id ≡ id → (cond b x y).id ≡ id
one-there id tasks x y true is same = let at : y.id ≡ x.id = grind (arith, nat_tests, is) in sym at ∙ same
one-there id tasks x y false is same = same

still-put : {Y : Type 0} (show : Task → Option Y) (x : Task) (tasks : List Task) (id : ℕ) (what : Option Y) →
    Shows show tasks x.id (show x) → Shows show tasks id what → Shows show (put_row task_id x tasks) id what
still-put show x tasks id what keeps has = record {
  each = λ y h same. let from = Has-map_cases (λ z. cond (eqb z.id x.id) x z) tasks y h in
      here from.0 from.1 y same (eqb from.0.id x.id) refl from.2;
  none = λ off. has.none (λ y h same.
      off (cond (eqb y.id x.id) x y) (Has-map (λ z. cond (eqb z.id x.id) x z) tasks y h)
      (one-there id tasks x y (eqb y.id x.id) refl same));
}
  where
    here : (z : Task) → Has tasks z → (y : Task) → y.id ≡ id → (b : Bool) → eqb z.id x.id ≡ b → cond b x z ≡ y → show y ≡ what
    here z h y same true is e =
        let put : z.id ≡ x.id = grind (arith, nat_tests, is) in
        ap show (sym e) ∙ sym (keeps.each z h put) ∙ has.each z h (put ∙ ap task_id e ∙ same)
    here z h y same false is e = ap show (sym e) ∙ has.each z h (ap task_id e ∙ same)

still-last : {Y : Type 0} (show : Task → Option Y) (x : Task) (tasks : List Task) (id : ℕ) (what : Option Y) →
    has_row task_id x.id tasks ≡ false → Shows show tasks x.id (show x) → Shows show tasks id what →
    Shows show (tasks ++ x ∷ []) id what
still-last show x tasks id what new keeps has = record {
  each = λ y h same. here y same (Has-append_cases tasks (x ∷ []) y h);
  none = λ off. has.none (λ y h same. off y (Has-append_left tasks (x ∷ []) y h) same);
}
  where
    here : (y : Task) → y.id ≡ id → Has tasks y ⊎ Has (x ∷ []) y → show y ≡ what
    here y same (inl h) = has.each y h same
    here y same (inr (inl e)) =
        let at : x.id ≡ id = ap task_id e ∙ same in
        ap show (sym e) ∙ keeps.none (none-there x.id tasks new)
        ∙ sym (has.none (λ z h is. none-there x.id tasks new z h (is ∙ sym at)))
    here y same (inr (inr h)) = absurd h

not-it : (b : Bool) → b ≡ false → not b ≡ true
not-it true e = absurd cc
not-it false e = refl

still-drop : {Y : Type 0} (show : Task → Option Y) (k : ℕ) (tasks : List Task) (id : ℕ) (what : Option Y) →
    Shows show tasks k None → Shows show tasks id what → Shows show (drop_row task_id k tasks) id what
still-drop show k tasks id what keeps has = record {
  each = λ y h same. has.each y (Has-filter_cases (λ z. not (eqb z.id k)) tasks y h).0 same;
  none = λ off. go (row_at task_id id tasks) refl off;
}
  where
    there : (y : Task) → Has tasks y → y.id ≡ id → (b : Bool) → eqb y.id k ≡ b →
        ((z : Task) → Has (drop_row task_id k tasks) z → z.id ≡ id → ⊥) → what ≡ None
    there y h same true is off = sym (has.each y h same) ∙ keeps.each y h (grind (arith, nat_tests, is))
    there y h same false is off =
        absurd (off y (Has-filter (λ z. not (eqb z.id k)) tasks y h (not-it (eqb y.id k) is)) same)

    go : (o : Option Task) → row_at task_id id tasks ≡ o → ((z : Task) → Has (drop_row task_id k tasks) z → z.id ≡ id → ⊥) →
        what ≡ None
    go None at off = has.none (none-there id tasks (ap is_some at))
    go (Some y) at off =
        let row = Has-from_row_at task_id id tasks y at in there y row.0 row.1 (eqb y.id k) refl off

still-shows : {Y : Type 0} (show : Task → Option Y) (t : Tables) (c : Change) (id : ℕ) (what : Option Y) →
    Keeps show t.tasks c → Shows show t.tasks id what → Shows show (apply_change t c).tasks id what
still-shows show t (change.PutNode n) id what keeps has = has
still-shows show t (change.PutService s) id what keeps has = has
still-shows show t (change.PutTask x) id what keeps has = go (has_row task_id x.id t.tasks) refl
  where
    go : (b : Bool) → has_row task_id x.id t.tasks ≡ b →
        Shows show (cond b (record t { tasks = put_row task_id x t.tasks }) (with_task t x)).tasks id what
    go true is = still-put show x t.tasks id what keeps has
    go false is = still-last show x t.tasks id what is keeps has
still-shows show t (change.DropTask k) id what keeps has = still-drop show k t.tasks id what keeps has
still-shows show t (change.Keep a) id what keeps has = has

still-keeps : {Y : Type 0} (show : Task → Option Y) (t : Tables) (c d : Change) → Keeps show t.tasks c →
    Keeps show t.tasks d → Keeps show (apply_change t c).tasks d
still-keeps show t c (change.PutNode n) keeps also = tt
still-keeps show t c (change.PutService s) keeps also = tt
still-keeps show t c (change.PutTask x) keeps also = still-shows show t c x.id (show x) keeps also
still-keeps show t c (change.DropTask id) keeps also = still-shows show t c id None keeps also
still-keeps show t c (change.Keep a) keeps also = tt

-- Any changes.

pub seen-changes : {Y : Type 0} (show : Task → Option Y) (cs : List Change) (t : Tables) →
    ((c : Change) → Has cs c → Keeps show t.tasks c) → seen show (apply_changes t cs).tasks ≡ seen show t.tasks
seen-changes show [] t keeps = refl
seen-changes show (c ∷ cs) t keeps =
    seen-changes show cs (apply_change t c)
    (λ d h. still-keeps show t c d (keeps c (inl refl)) (keeps d (inr h)))
    ∙ seen-change show t c (keeps c (inl refl))
