-- The held places of a service, counted over all numbers.
use Rattle.std.proofs.Common.{Bool, List, [], ap, arith, cond, false, inl, inr, length, refl, subst, true, ℕ, ◌+◌, ◌<◌, ◌∙◌, ◌∷◌, ◌≡◌, ◌⊎◌}
use Rattle.std.proofs.lemmas.List.Sums.{sum_by-cons}
use Rattle.std.specs.List.{list_any}
use Rattle.std.specs.Prelude.{filter, fold, not, sum_by}
use Rattle.swarm_settle.proofs.Bound.Spans.{span, sum-span}
use Rattle.swarm_settle.specs.Bound.Coming.{is_renewed, places_held, places_lost, waiting_places}
use Rattle.swarm_model.proofs.Laws.Alone.{has-number, is-place, number-at}
use Rattle.swarm_model.proofs.Moves.Rows.{RisesBetween, between-with_row}
use Rattle.swarm_objects.proofs.Newest.{newest_has}
use Rattle.swarm_objects.proofs.RowLemmas.{Has-filter, Has-filter_cases, sum_by-filter}
use Rattle.swarm_objects.proofs.Tests.{any-has, first_so, or_cases, second_so, some-and-cases}
use Rattle.swarm_objects.specs.Rows.{Has, has_row, is_some_and, itself, node_id, with_number}
use Rattle.swarm_objects.specs.Same.{same_place}
use Rattle.swarm_objects.specs.Tasks.Places.{closes, counts_for, held_places, is_held_place, is_in_place, newest, place_at, place_number, place_numbers, place_tasks}
use Rattle.swarm_objects.specs.Tasks.Words.{is_live}
use Rattle.swarm_objects.specs.World.{Tables}
use Rattle.swarm_objects.specs.declared.services.Service.{Service}
use Rattle.swarm_objects.specs.declared.tasks.Task.{Task}

-- the numbers of all places are below this one
abbrev pub PlacesBelow : ℕ → List Task → Type 0
PlacesBelow b tasks = (x : Task) → Has tasks x → place_number x.place < b

-- there is such a number
abbrev pub places_end : List Task → ℕ
places_end tasks = 1 + sum_by (λ x. place_number x.place) tasks

pub ends : (tasks : List Task) → PlacesBelow (places_end tasks) tasks
ends [] x h = absurd h
ends (y ∷ ys) x (inl e) =
    omega (arith, sum_by-cons (λ (z : Task). place_number z.place) y ys, ap (λ (z : Task). place_number z.place) e)
ends (y ∷ ys) x (inr h) = omega (arith, sum_by-cons (λ (z : Task). place_number z.place) y ys, ends ys x h)

-- Numbers of held places.

pub member-number : (t : Tables) (s : Service) (k : ℕ) (x : Task) → Has (place_tasks t s k) x →
    Has (place_numbers t s) k
member-number t s k x h =
    let p = place_at s.spec.mode k in
    let inside = Has-filter_cases (is_in_place s p) t.tasks x h in
    let counts = first_so (counts_for s x) (same_place x.place p) inside.1 in
    let at = is-place x.place p (second_so (counts_for s x) (same_place x.place p) inside.1) in
    subst (Has (place_numbers t s)) (ap place_number at ∙ number-at s.spec.mode k)
    (has-number [] (filter (counts_for s) t.tasks) x (Has-filter (counts_for s) t.tasks x inside.0 counts))

pub held-number : (t : Tables) (s : Service) (k : ℕ) → is_held_place t s k ≡ true → Has (place_numbers t s) k
held-number t s k e = go (or_cases _ _ e)
  where
    go : (list_any is_live (place_tasks t s k) ≡ true) ⊎ (is_some_and closes (newest (place_tasks t s k)) ≡ true) →
        Has (place_numbers t s) k
    go (inl live) = let one = any-has is_live (place_tasks t s k) live in member-number t s k one.0 one.1
    go (inr shut) =
        let last = some-and-cases closes (newest (place_tasks t s k)) shut in
        member-number t s k last.0 (newest_has (place_tasks t s k) last.0 last.1)

numbers-below : (b : ℕ) (numbers : List ℕ) (xs : List Task) → PlacesBelow b xs → RisesBetween itself 0 (0 + b) numbers →
    RisesBetween itself 0 (0 + b) (fold (λ ks (t : Task). with_number (place_number t.place) ks) numbers xs)
numbers-below b numbers [] below rises = rises
numbers-below b numbers (x ∷ xs) below rises =
    numbers-below b (with_number (place_number x.place) numbers) xs (λ y h. below y (inr h))
    (between-with_row itself 0 (0 + b) (place_number x.place) numbers (omega arith)
    (omega (arith, below x (inl refl))) rises)

-- A sum over the held places.

abbrev pub where_held : Tables → Service → (ℕ → ℕ) → ℕ → ℕ
where_held t s f k = cond (is_held_place t s k) (f k) 0

pub held-span : (t : Tables) (s : Service) (b : ℕ) (f : ℕ → ℕ) → PlacesBelow b t.tasks →
    sum_by f (held_places t s) ≡ span (where_held t s f) 0 b
held-span t s b f below =
    sum_by-filter f (is_held_place t s) (place_numbers t s)
    ∙ sum-span (where_held t s f) 0 b (place_numbers t s)
    (numbers-below b [] (filter (counts_for s) t.tasks)
    (λ x h. below x (Has-filter_cases (counts_for s) t.tasks x h).0) tt)
    (λ k least more. held-number t s k (go (is_held_place t s k) (f k) more))
  where
    go : (b : Bool) (n : ℕ) → ¬ (cond b n 0 ≡ 0) → b ≡ true
    go true n more = refl
    go false n more = absurd (more refl)

length-sum : {X : Type 0} (xs : List X) → length xs ≡ sum_by (λ x. 1) xs
length-sum [] = refl
length-sum (x ∷ xs) = omega (arith, sum_by-cons (λ y. 1) x xs, length-sum xs)

abbrev pub one_each : ℕ → ℕ
one_each k = 1

abbrev pub where_not : (ℕ → Bool) → ℕ → ℕ
where_not test k = cond (not (test k)) 1 0

pub held-counted : (t : Tables) (s : Service) (b : ℕ) → PlacesBelow b t.tasks →
    places_held t s ≡ span (where_held t s one_each) 0 b
held-counted t s b below = length-sum (held_places t s) ∙ held-span t s b one_each below

pub waiting-counted : (m : ℕ) (t : Tables) (s : Service) (b : ℕ) → PlacesBelow b t.tasks →
    waiting_places m t s ≡ span (where_held t s (where_not (is_renewed m t s))) 0 b
waiting-counted m t s b below = held-span t s b (where_not (is_renewed m t s)) below

pub lost-counted : (t : Tables) (s : Service) (b : ℕ) → PlacesBelow b t.tasks →
    places_lost t s ≡ span (where_held t s (where_not (λ k. has_row node_id k t.nodes))) 0 b
lost-counted t s b below = held-span t s b (where_not (λ k. has_row node_id k t.nodes)) below
