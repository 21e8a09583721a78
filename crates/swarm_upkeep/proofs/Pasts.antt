-- A task that is trimmed has ended, and was to stop.
use Rattle.std.proofs.Common.{◌≡◌, Bool, true, false, cond, inl, inr, List, [], ◌∷◌, Option, Some, None, refl, sym, ap, ◌∙◌, subst, arith}
use Rattle.std.proofs.lemmas.Bool.Decides.{nat_tests}
use Rattle.std.specs.Prelude.{◌&&◌, count_by, filter, find, map, nat_lt, not}
use Rattle.swarm_objects.proofs.RowLemmas.{Has-filter_cases, row_at-Some}
use Rattle.swarm_objects.proofs.Tests.{find_has, second_so}
use Rattle.swarm_objects.specs.Loops.Reaper.{is_oldest_past, is_past, is_trimmed, is_trimmed_in}
use Rattle.swarm_objects.specs.Loops.Words.{duty_where}
use Rattle.swarm_objects.specs.Rows.{Has, RisesFrom, first_of, is_some_and, row_at, service_id, task_id}
use Rattle.swarm_objects.specs.Services.Runs.{has_open_run}
use Rattle.swarm_objects.specs.Tasks.Places.{is_in_place, newest, tasks_of_place}
use Rattle.swarm_objects.specs.Tasks.Words.{is_task}
use Rattle.swarm_objects.specs.World.{Tables}
use Rattle.swarm_objects.specs.declared.duties.Duty.TheVariants as duty
use Rattle.swarm_objects.specs.declared.services.Service.{Service}
use Rattle.swarm_objects.specs.declared.tasks.Task.{Task}
use Rattle.swarm_objects.proofs.PlaceLemmas.{and_left}
use Rattle.swarm_objects.specs.Usable.{IsUsable}

-- rows with one number are one row
one_row : (t : Tables) (x y : Task) → RisesFrom task_id 0 t.tasks → Has t.tasks x → Has t.tasks y → y.id ≡ x.id → y ≡ x
one_row t x y rises has_x has_y same =
    let found_x = row_at-Some task_id 0 t.tasks x rises has_x in
    let found_y = row_at-Some task_id 0 t.tasks y rises has_y in
    let both : Some y ≡ Some x = sym found_y ∙ ap (λ k. row_at task_id k t.tasks) same ∙ found_x in
    cc

-- the oldest such task of the place is one
past_oldest : (t : Tables) (x : Task) (s : Service) → RisesFrom task_id 0 t.tasks → Has t.tasks x
    → is_some_and (is_task x.id) (find is_past (tasks_of_place s x.place t.tasks)) ≡ true → is_past x ≡ true
past_oldest t x s rises has e = go (find is_past (tasks_of_place s x.place t.tasks)) refl e
  where
    go : (o : Option Task) → find is_past (tasks_of_place s x.place t.tasks) ≡ o
        → is_some_and (is_task x.id) o ≡ true → is_past x ≡ true
    go None is k = absurd cc
    go (Some y) is k =
        let found = find_has is_past (tasks_of_place s x.place t.tasks) y is in
        let row = (Has-filter_cases (is_in_place s x.place) t.tasks y found.0).0 in
        let number : y.id ≡ x.id = grind (arith, nat_tests, k) in
        subst (λ z. is_past z ≡ true) (one_row t x y rises has row number) found.1

past_trimmed : (t : Tables) (x : Task) → RisesFrom task_id 0 t.tasks → Has t.tasks x → is_trimmed t x ≡ true
    → is_past x ≡ true
past_trimmed t x rises has e = go (row_at service_id x.service t.services) e
  where
    go : (o : Option Service) → is_some_and (is_trimmed_in t x) o ≡ true → is_past x ≡ true
    go None k = absurd cc
    go (Some s) k =
        let tasks = tasks_of_place s x.place t.tasks in
        let many = nat_lt t.settings.history (count_by is_past tasks) in
        let oldest = is_some_and (is_task x.id) (find is_past tasks) in
        past_oldest t x s rises has
        (second_so many oldest
        (and_left (many && oldest) (not (is_some_and (is_task x.id) (newest tasks)))
        (second_so (not (has_open_run s)) (is_oldest_past t.settings.history tasks x) k)))

filter_first : {X : Type 0} (p q : X → Bool) (xs : List X) → ((x : X) → Has xs x → q x ≡ true → p x ≡ true)
    → filter (λ x. p x && q x) xs ≡ filter q xs
filter_first p q [] implies = refl
filter_first p q (x ∷ xs) implies =
    go (p x) (q x) (implies x (inl refl)) (filter_first p q xs (λ y has. implies y (inr has)))
  where
    go : (a b : Bool) → (b ≡ true → a ≡ true) → filter (λ y. p y && q y) xs ≡ filter q xs
        → cond (a && b) (x ∷ filter (λ y. p y && q y) xs) (filter (λ y. p y && q y) xs)
        ≡ cond b (x ∷ filter q xs) (filter q xs)
    go true true one below = ap (λ ys. x ∷ ys) below
    go true false one below = below
    go false true one below = absurd (let wrong : false ≡ true = one refl in cc)
    go false false one below = below

pub trimmed_is_past : (t : Tables) → IsUsable t
    → first_of (duty_where (λ x. is_past x && is_trimmed t x) (λ x. duty.Trim x.id) t.tasks)
    ≡ first_of (duty_where (is_trimmed t) (λ x. duty.Trim x.id) t.tasks)
trimmed_is_past t usable =
    ap (λ xs. first_of (map (λ x. duty.Trim x.id) xs))
    (filter_first is_past (is_trimmed t) t.tasks (λ x has. past_trimmed t x usable.sound.ordered.tasks has))
