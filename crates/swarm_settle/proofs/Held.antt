-- Which places are held and which have a live task, where tasks change.
use Rattle.std.proofs.Common.{Bool, List, Some, [], ap, arith, cond, eqb, false, inl, inr, length, refl, subst, sym, true, ltb, ℕ, ◌+◌, ◌<◌, ◌∙◌, ◌∷◌, ◌≡◌, ◌≤◌, ◌⊎◌}
use Rattle.std.specs.List.{list_any}
use Rattle.std.specs.Prelude.{filter, map, ◌||◌}
use Rattle.swarm_settle.proofs.PlaceLists.{newest-filter, newest-mapped, newest-some, place-counts, place-is}
use Rattle.swarm_settle.proofs.Wholes.{IsWhole}
use Rattle.swarm_model.proofs.Laws.Alone.{has-number, number-at, numbers-rise}
use Rattle.swarm_objects.proofs.Gaps.{IsRising-filter}
use Rattle.swarm_objects.proofs.RowLemmas.{Has-filter, Has-filter_cases, Has-map_cases, number_above}
use Rattle.swarm_objects.proofs.Tests.{any-has, has-any, or_cases, or_left, or_right, second_so, some-and, some-and-cases}
use Rattle.swarm_objects.proofs.Newest.{newest_has}
use Rattle.swarm_objects.specs.Rows.{Has, IsRising, RisesFrom, is_some_and, itself, with_number}
use Rattle.swarm_objects.specs.Tasks.Places.{closes, counts_for, has_live, held_places, is_held_place, is_in_place, live_places, newest, place_at, place_number, place_numbers, tasks_of_place}
use Rattle.swarm_objects.specs.Tasks.Words.{is_kept, is_live}
use Rattle.swarm_objects.specs.World.{Tables}
use Rattle.swarm_objects.specs.declared.services.Service.{Service}
use Rattle.swarm_objects.specs.declared.tasks.Task.{Task}

-- a live task is one of them, or the newest closes the place
abbrev pub holds : List Task → Bool
holds xs = list_any is_live xs || is_some_and closes (newest xs)

-- what is held or live afterwards was so before
pub record Falls (xs ys : List Task) : Type 0 where
  pub held : holds ys ≡ true → holds xs ≡ true
  pub live : list_any is_live ys ≡ true → list_any is_live xs ≡ true

pub falls-same : (xs : List Task) → Falls xs xs
falls-same xs = record { held = λ e. e; live = λ e. e }

-- a place with a live task
pub falls-live : (xs ys : List Task) → list_any is_live xs ≡ true → Falls xs ys
falls-live xs ys live = record { held = λ e. or_left (list_any is_live xs) _ live; live = λ e. live }

live-before : (f : Task → Task) (xs : List Task) → ((x : Task) → Has xs x → is_live (f x) ≡ true → is_live x ≡ true) →
    list_any is_live (map f xs) ≡ true → list_any is_live xs ≡ true
live-before f xs back e =
    let one = any-has is_live (map f xs) e in
    let from = Has-map_cases f xs one.0 one.1 in
    has-any is_live xs from.0 from.1 (back from.0 from.1 (ap is_live from.2 ∙ one.2))

pub falls-map : (f : Task → Task) (xs : List Task) → ((x : Task) → Has xs x → is_live (f x) ≡ true → is_live x ≡ true) →
    ((x : Task) → Has xs x → closes (f x) ≡ true → closes x ≡ true) → Falls xs (map f xs)
falls-map f xs back shut = record { held = λ e. go (or_cases _ _ e); live = live-before f xs back }
  where
    go : (list_any is_live (map f xs) ≡ true) ⊎ (is_some_and closes (newest (map f xs)) ≡ true) → holds xs ≡ true
    go (inl e) = or_left (list_any is_live xs) _ (live-before f xs back e)
    go (inr e) =
        let last = some-and-cases closes (newest (map f xs)) e in
        let from = newest-mapped f xs last.0 last.1 in
        or_right (list_any is_live xs) (is_some_and closes (newest xs))
        (some-and closes (newest xs) from.0 from.1
        (shut from.0 (newest_has xs from.0 from.1) (ap closes from.2 ∙ last.2)))

pub closes-kept : (x : Task) → closes x ≡ true → is_kept x ≡ true
closes-kept x e = second_so _ (is_kept x) e

-- the newest of those that are left, where it isn't to be removed, was the newest
pub newest-left : (test : Task → Bool) (xs : List Task) (z : Task) → IsWhole xs →
    ((y : Task) → newest xs ≡ Some y → is_kept y ≡ true → test y ≡ true) → newest (filter test xs) ≡ Some z →
    is_kept z ≡ true → newest xs ≡ Some z
newest-left test xs z whole passes last kept =
    let old = Has-filter_cases test xs z (newest_has (filter test xs) z last) in
    let top = newest-some xs z old.0 in
    let top_kept = whole z top.0 old.0 kept top.1 in
    let left = newest-filter test xs top.0 top.1 (passes top.0 top.1 top_kept) in
    let is : Some top.0 ≡ Some z = sym left ∙ last in
    top.1 ∙ is

pub falls-filter : (test : Task → Bool) (xs : List Task) → IsWhole xs →
    ((z : Task) → newest xs ≡ Some z → is_kept z ≡ true → test z ≡ true) → Falls xs (filter test xs)
falls-filter test xs whole passes = record { held = λ e. go (or_cases _ _ e); live = back }
  where
    back : list_any is_live (filter test xs) ≡ true → list_any is_live xs ≡ true
    back e =
        let one = any-has is_live (filter test xs) e in
        has-any is_live xs one.0 (Has-filter_cases test xs one.0 one.1).0 one.2

    go : (list_any is_live (filter test xs) ≡ true) ⊎ (is_some_and closes (newest (filter test xs)) ≡ true) →
        holds xs ≡ true
    go (inl e) = or_left (list_any is_live xs) _ (back e)
    go (inr e) =
        let last = some-and-cases closes (newest (filter test xs)) e in
        or_right (list_any is_live xs) (is_some_and closes (newest xs))
        (some-and closes (newest xs) last.0
        (newest-left test xs last.0 whole passes last.1 (closes-kept last.0 last.2)) last.2)

-- Numbers of places.

-- the number of a task's place
pub task-number : (t : Tables) (s : Service) (x : Task) → Has t.tasks x → counts_for s x ≡ true →
    Has (place_numbers t s) (place_number x.place)
task-number t s x h counts =
    has-number [] (filter (counts_for s) t.tasks) x (Has-filter (counts_for s) t.tasks x h counts)

-- and of a place with a task
pub member-number : (t : Tables) (s : Service) (k : ℕ) (x : Task) →
    Has (tasks_of_place s (place_at s.spec.mode k) t.tasks) x → Has (place_numbers t s) k
member-number t s k x h =
    let inside = Has-filter_cases (is_in_place s (place_at s.spec.mode k)) t.tasks x h in
    let at = place-is s (place_at s.spec.mode k) x inside.1 in
    subst (Has (place_numbers t s)) (ap place_number at ∙ number-at s.spec.mode k)
    (task-number t s x inside.0 (place-counts s (place_at s.spec.mode k) x inside.1))

-- a held place has a task
pub held-member : (xs : List Task) → holds xs ≡ true → (x : Task) × Has xs x
held-member xs e = go (or_cases _ _ e)
  where
    go : (list_any is_live xs ≡ true) ⊎ (is_some_and closes (newest xs) ≡ true) → (x : Task) × Has xs x
    go (inl k) = let one = any-has is_live xs k in (one.0, one.1)
    go (inr k) = let last = some-and-cases closes (newest xs) k in (last.0, newest_has xs last.0 last.1)

pub held-has : (t : Tables) (s : Service) (k : ℕ) → is_held_place t s k ≡ true → Has (held_places t s) k
held-has t s k e =
    let one = held-member (tasks_of_place s (place_at s.spec.mode k) t.tasks) e in
    Has-filter (is_held_place t s) (place_numbers t s) k (member-number t s k one.0 one.1) e

pub live-has : (t : Tables) (s : Service) (k : ℕ) → has_live t s k ≡ true → Has (live_places t s) k
live-has t s k e =
    let one = any-has is_live (tasks_of_place s (place_at s.spec.mode k) t.tasks) e in
    Has-filter (has_live t s) (place_numbers t s) k (member-number t s k one.0 one.1) e

pub live-rise : (t : Tables) (s : Service) → IsRising itself (live_places t s)
live-rise t s =
    IsRising-filter itself (has_live t s) (place_numbers t s) (numbers-rise [] (filter (counts_for s) t.tasks) tt)

-- Lengths of rising lists of numbers.

pub beyond : (y k : ℕ) (ys : List ℕ) → y < k → Has (y ∷ ys) k → Has ys k
beyond y k ys less (inl e) = absurd (omega (arith, less, e))
beyond y k ys less (inr h) = h

length-within : (n : ℕ) (xs ys : List ℕ) → RisesFrom itself n xs → RisesFrom itself n ys →
    ((k : ℕ) → Has xs k → Has ys k) → length xs ≤ length ys
length-within n [] ys rx ry all = omega arith
length-within n (x ∷ xs) [] rx ry all = absurd (all x (inl refl))
length-within n (x ∷ xs) (y ∷ ys) rx ry all =
    go (all x (inl refl))
    (λ e. length-within x xs ys rx.1 (subst (λ k. RisesFrom itself k ys) e ry.1)
    (λ k h. beyond y k ys (subst (λ z. z < k) (sym e) (number_above itself x xs k rx.1 h)) (all k (inr h))))
    (λ h. length-within y (x ∷ xs) ys (number_above itself y ys x ry.1 h, rx.1) ry.1
    (λ k m. beyond y k ys (number_above itself y (x ∷ xs) k (number_above itself y ys x ry.1 h, rx.1) m) (all k m)))
  where
    go : Has (y ∷ ys) x → (y ≡ x → length xs ≤ length ys) → (Has ys x → length (x ∷ xs) ≤ length ys) →
        length (x ∷ xs) ≤ length (y ∷ ys)
    go (inl e) p q = let le = p e in omega arith
    go (inr h) p q = let le = q h in omega arith

-- a rising list whose members are all in another rising one is no longer than it
pub rising-within : (xs ys : List ℕ) → IsRising itself xs → IsRising itself ys → ((k : ℕ) → Has xs k → Has ys k) →
    length xs ≤ length ys
rising-within [] ys rx ry all = omega arith
rising-within (x ∷ xs) [] rx ry all = absurd (all x (inl refl))
rising-within (x ∷ xs) (y ∷ ys) rx ry all = go (all x (inl refl))
  where
    go : Has (y ∷ ys) x → length (x ∷ xs) ≤ length (y ∷ ys)
    go (inl e) =
        let le =
        length-within x xs ys rx (subst (λ k. RisesFrom itself k ys) e ry)
        (λ k h. beyond y k ys (subst (λ z. z < k) (sym e) (number_above itself x xs k rx h)) (all k (inr h))) in
        omega arith
    go (inr h) =
        let above = number_above itself y ys x ry h in
        let le =
        length-within y (x ∷ xs) ys (above, rx) ry
        (λ k m. beyond y k ys (number_above itself y (x ∷ xs) k (above, rx) m) (all k m)) in
        omega arith

pub one-more : (k : ℕ) (ks : List ℕ) → length (with_number k ks) ≤ 1 + length ks
one-more k [] = omega arith
one-more k (j ∷ ks) = go (ltb k j) (eqb k j) (one-more k ks)
  where
    go : (less same : Bool) → length (with_number k ks) ≤ 1 + length ks →
        length (cond less (k ∷ j ∷ ks) (cond same (k ∷ ks) (j ∷ with_number k ks))) ≤ 1 + length (j ∷ ks)
    go true same rest = omega arith
    go false true rest = omega arith
    go false false rest = omega (arith, rest)
