-- What those who keep rows in indexes may want to know of them.
use Rattle.std.proofs.Common.{◌≡◌, ℕ, ◌<◌, Bool, true, false, cond, eqb, ltb, List, [], ◌∷◌, ◌++◌, Option, Some, None, refl, ap, ◌∙◌, inl, inr, arith}
use Rattle.std.proofs.lemmas.Bool.Decides.{nat_tests}
use Rattle.std.specs.Option.{option_eq, option_map}
use Rattle.std.specs.Prelude.{filter, find}
use Rattle.swarm_index.specs.Keys.{Num, has_key, same_key}
use Rattle.swarm_index.specs.Rows.{task_key}
use Rattle.swarm_objects.specs.Rows.{Has, IsBelow, is_some_and, row_above, row_at, with_row}
use Rattle.swarm_objects.specs.Same.{same_number}
use Rattle.swarm_objects.specs.Tasks.Words.{is_of, is_on}
use Rattle.swarm_objects.specs.declared.tasks.Task.{Task}

-- a row whose id is above all others comes last
pub with_row_last : {X : Type 0} (key : X → ℕ) (new : X) (rows : List X) → IsBelow key (key new) rows → with_row key new rows ≡ rows ++ new ∷ []
with_row_last key new [] below = refl
with_row_last key new (x ∷ rows) below = go (ltb (key new) (key x)) refl (eqb (key new) (key x)) refl (with_row_last key new rows below.1)
  where
    go : (a : Bool) → ltb (key new) (key x) ≡ a → (b : Bool) → eqb (key new) (key x) ≡ b → with_row key new rows ≡ rows ++ new ∷ [] → cond a (new ∷ x ∷ rows) (cond b (new ∷ rows) (x ∷ with_row key new rows)) ≡ x ∷ (rows ++ new ∷ [])
    go true e b f rest = absurd (grind (arith, nat_tests, e, below.0))
    go false e true f rest = absurd (grind (arith, nat_tests, f, below.0))
    go false e false f rest = ap (λ zs. x ∷ zs) rest

-- and no row has its id
pub row_at_last : {X : Type 0} (key : X → ℕ) (id : ℕ) (rows : List X) → IsBelow key id rows → row_at key id rows ≡ None
row_at_last key id [] below = refl
row_at_last key id (x ∷ rows) below = grind (arith, nat_tests, row_at_last key id rows below.1, below.0)

same_tests : {X : Type 0} (p q : X → Bool) (rows : List X) → ((x : X) → p x ≡ q x) → filter p rows ≡ filter q rows
same_tests p q [] same = refl
same_tests p q (x ∷ rows) same = ap (λ b. cond b (x ∷ filter p rows) (filter p rows)) (same x) ∙ ap (λ ys. cond (q x) (x ∷ ys) ys) (same_tests p q rows same)

-- the tasks of a service, and of a node
pub tasks_of_service : (service : ℕ) (tasks : List Task) → filter (has_key task_key 0 (Num service)) tasks ≡ filter (is_of service) tasks
tasks_of_service service tasks = same_tests (has_key task_key 0 (Num service)) (is_of service) tasks (λ t. refl)

pub tasks_on_node : (node : ℕ) (tasks : List Task) → filter (has_key task_key 1 (Num node)) tasks ≡ filter (is_on node) tasks
tasks_on_node node tasks = same_tests (has_key task_key 1 (Num node)) (is_on node) tasks (λ t. go t.node)
  where
    go : (o : Option ℕ) → is_some_and (λ k. same_key k (Num node)) (option_map Num o) ≡ option_eq same_number o (Some node)
    go None = refl
    go (Some n) = refl

-- where ids are above 0, the first row above 0 that passes is the first that passes
pub first_passing : {X : Type 0} (key : X → ℕ) (p : X → Bool) (rows : List X) → ((x : X) → Has rows x → 0 < key x) → row_above key 0 (filter p rows) ≡ find p rows
first_passing key p [] above = refl
first_passing key p (x ∷ rows) above = go (p x) (first_passing key p rows (λ y h. above y (inr h)))
  where
    first : ltb 0 (key x) ≡ true
    first = let lt : 0 < key x = above x (inl refl) in grind (arith, nat_tests, lt)

    go : (b : Bool) → row_above key 0 (filter p rows) ≡ find p rows → row_above key 0 (cond b (x ∷ filter p rows) (filter p rows)) ≡ cond b (Some x) (find p rows)
    go true e = ap (λ b. cond b (Some x) (row_above key 0 (filter p rows))) first
    go false e = e
