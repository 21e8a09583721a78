-- What a walk over rows meets.
use Rattle.std.proofs.Common.{◌≡◌, ℕ, ◌+◌, ◌<◌, ◌≤◌, Bool, true, false, cond, ltb, List, [], ◌∷◌, ◌++◌, Some, None, refl, sym, ap, ◌∙◌, subst, arith}
use Rattle.std.proofs.lemmas.Bool.Decides.{nat_tests}
use Rattle.std.proofs.lemmas.List.Sums.{sum_by-cons}
use Rattle.std.specs.Iterator.{MakesProgress, item_count}
use Rattle.std.specs.List.{cons_option}
use Rattle.std.specs.Prelude.{Option, length, ⊤, map, filter, find, count_by}
use Rattle.std.specs.Option.{option_map}
use Rattle.swarm_objects.specs.Rows.{row_above, row_at, rows_named, task_id, RisesFrom, first_of}
use Rattle.swarm_objects.specs.Tasks.Words.{has_key}
use Rattle.swarm_objects.specs.declared.tasks.Task.{Task}
use Rattle.swarm_objects.specs.declared.tasks.TaskKey.{TaskKey}
use Rattle.swarm_objects.proofs.RowLemmas.{RisesFrom-filter}
use Rattle.swarm_objects.specs.Walks.{named_with, walk}

pub walk-Some : {X : Type 0} (key : X → ℕ) (after : ℕ) (rows : List X) (x : X) → row_above key after rows ≡ Some x
    → (walk key after rows ≡ x ∷ walk key (key x) rows) × (after < key x)
walk-Some key after [] x e = cc
walk-Some key after (y ∷ rows) x e = go (ltb after (key y)) refl (walk-Some key after rows x) e
  where
    go : (b : Bool) → ltb after (key y) ≡ b
        → (row_above key after rows ≡ Some x → (walk key after rows ≡ x ∷ walk key (key x) rows) × (after < key x))
        → cond b (Some y) (row_above key after rows) ≡ Some x
        → (cond b (y ∷ walk key (key y) rows) (walk key after rows) ≡ x ∷ walk key (key x) (y ∷ rows))
        × (after < key x)
    go true t below k =
        let same : y ≡ x = cc in
        let self : ltb (key y) (key y) ≡ false = grind (arith, nat_tests) in
        let lt : after < key y = grind (arith, nat_tests) in
        subst (λ z. (y ∷ walk key (key y) rows ≡ z ∷ walk key (key z) (y ∷ rows)) × (after < key z)) same
        (rw self refl, lt)
    go false t below k =
        let b = below k in
        let high : key y ≤ after = grind (arith, nat_tests) in
        let self : ltb (key x) (key y) ≡ false = grind (arith, nat_tests, b.1) in
        (rw self b.0, b.1)

pub walk-None : {X : Type 0} (key : X → ℕ) (after : ℕ) (rows : List X) → row_above key after rows ≡ None
    → walk key after rows ≡ []
walk-None key after [] e = refl
walk-None key after (y ∷ rows) e = go (ltb after (key y)) (walk-None key after rows) e
  where
    go : (b : Bool) → (row_above key after rows ≡ None → walk key after rows ≡ [])
        → cond b (Some y) (row_above key after rows) ≡ None → cond b (y ∷ walk key (key y) rows) (walk key after rows)
        ≡ []
    go true below k = absurd cc
    go false below k = below k

-- a step, as the reading of rows tells it
pub walk_step : {X : Type 0} (key : X → ℕ) (after : ℕ) (rows : List X) (x : X) → Some x ≡ row_above key after rows
    → walk key after rows ≡ x ∷ walk key (key x) rows
walk_step key after rows x e = (walk-Some key after rows x (sym e)).0

pub walk_end : {X : Type 0} (key : X → ℕ) (after : ℕ) (rows : List X) → None ≡ row_above key after rows
    → walk key after rows ≡ []
walk_end key after rows e = walk-None key after rows (sym e)

-- all rows are met where their keys rise
pub walk-all : {X : Type 0} (key : X → ℕ) (n after : ℕ) (rows : List X) → RisesFrom key n rows → after ≤ n
    → walk key after rows ≡ rows
walk-all key n after [] r le = refl
walk-all key n after (x ∷ rows) r le = grind (arith, nat_tests, walk-all key (key x) (key x) rows r.1, r.0)

pub walk_begins : {X : Type 0} (key : X → ℕ) (rows : List X) → RisesFrom key 0 rows → walk key 0 rows ≡ rows
walk_begins key rows r = walk-all key 0 0 rows r (omega arith)

pub walk_begins_among : {X : Type 0} (key : X → ℕ) (p : X → Bool) (rows : List X) → RisesFrom key 0 rows
    → walk key 0 (filter p rows) ≡ filter p rows
walk_begins_among key p rows r = walk_begins key (filter p rows) (RisesFrom-filter key 0 p rows r)

-- an iterator that is seen as what is left is nearer to its end after each row
pub makes_progress : {A X : Type 0} {xs ys : List X} {x : X} {o : A} → xs ≡ x ∷ ys
    → MakesProgress {S = List X} {A = A} (λ _. ⊤) (item_count (λ it. it)) xs (Some o) ys
makes_progress e = record { on = λ _. (tt, tt, omega (arith, ap length e)); keeps = tt; rests = λ _. tt }

pub first_of-map_filter : {X Y : Type 0} (f : X → Y) (p : X → Bool) (xs : List X) → first_of (map f (filter p xs))
    ≡ option_map f (find p xs)
first_of-map_filter f p [] = refl
first_of-map_filter f p (x ∷ xs) = go (p x) (first_of-map_filter f p xs)
  where
    go : (b : Bool) → first_of (map f (filter p xs)) ≡ option_map f (find p xs)
        → first_of (map f (cond b (x ∷ filter p xs) (filter p xs))) ≡ option_map f (cond b (Some x) (find p xs))
    go true e = refl
    go false e = e

-- counting

pub count_by_yes : {X : Type 0} (p : X → Bool) (x : X) (xs : List X) → p x ≡ true → count_by p (x ∷ xs)
    ≡ 1 + count_by p xs
count_by_yes p x xs e = sum_by-cons (λ y. cond (p y) 1 0) x xs ∙ ap (λ b. cond b 1 0 + count_by p xs) e

pub count_by_no : {X : Type 0} (p : X → Bool) (x : X) (xs : List X) → p x ≡ false → count_by p (x ∷ xs) ≡ count_by p xs
count_by_no p x xs e = omega (arith, sum_by-cons (λ y. cond (p y) 1 0) x xs, ap {B = ℕ} (λ b. cond b 1 0) e)

pub ruleset count_steps = (count_by_yes, count_by_no)

-- the first of two lists, one behind the other

pub first_left : {X : Type 0} (xs ys : List X) (x : X) → Some x ≡ first_of xs → Some x ≡ first_of (xs ++ ys)
first_left [] ys x e = absurd cc
first_left (y ∷ xs) ys x e = e

pub first_right : {X : Type 0} (xs ys : List X) → None ≡ first_of xs → first_of (xs ++ ys) ≡ first_of ys
first_right [] ys e = refl
first_right (y ∷ xs) ys e = absurd cc

pub ruleset first_steps = (first_left, first_right)

-- tasks by their ids

-- the first id is that of a task with the key
pub named_first : (key : TaskKey) (tasks : List Task) (ids rest : List ℕ) (id : ℕ) (x : Task) → ids ≡ id ∷ rest
    → Some x ≡ row_at task_id id tasks → has_key key x ≡ true
    → named_with key ids tasks ≡ x ∷ named_with key rest tasks
named_first key tasks ids rest id x is row has =
    ap (λ (l : List ℕ). named_with key l tasks) is
    ∙ ap (λ (r : Option Task). filter (has_key key) (cons_option r (rows_named task_id rest tasks))) (sym row)
    ∙ ap (λ (b : Bool). cond b (x ∷ named_with key rest tasks) (named_with key rest tasks)) has

-- or of another one
pub named_other : (key : TaskKey) (tasks : List Task) (ids rest : List ℕ) (id : ℕ) (x : Task) → ids ≡ id ∷ rest
    → Some x ≡ row_at task_id id tasks → has_key key x ≡ false → named_with key ids tasks ≡ named_with key rest tasks
named_other key tasks ids rest id x is row has =
    ap (λ (l : List ℕ). named_with key l tasks) is
    ∙ ap (λ (r : Option Task). filter (has_key key) (cons_option r (rows_named task_id rest tasks))) (sym row)
    ∙ ap (λ (b : Bool). cond b (x ∷ named_with key rest tasks) (named_with key rest tasks)) has

-- or of none
pub named_none : (key : TaskKey) (tasks : List Task) (ids rest : List ℕ) (id : ℕ) → ids ≡ id ∷ rest
    → None ≡ row_at task_id id tasks → named_with key ids tasks ≡ named_with key rest tasks
named_none key tasks ids rest id is row =
    ap (λ (l : List ℕ). named_with key l tasks) is
    ∙ ap (λ (r : Option Task). filter (has_key key) (cons_option r (rows_named task_id rest tasks))) (sym row)

-- or there is none
pub named_end : (key : TaskKey) (tasks : List Task) (ids : List ℕ) → length ids ≡ 0 → named_with key ids tasks ≡ []
named_end key tasks [] is = refl
named_end key tasks (id ∷ ids) is = absurd (omega (arith, is))
