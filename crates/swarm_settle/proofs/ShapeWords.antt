-- The words on places say of a shape what they say of the tables.
use Rattle.std.proofs.Common.{Bool, List, None, Option, Some, [], ap, not, refl, subst, ℕ, ◌∙◌, ◌∷◌, ◌≡◌, ◌≤◌}
use Rattle.std.specs.List.{list_any}
use Rattle.std.specs.Option.{option_map}
use Rattle.std.specs.Prelude.{filter, fold, map, ◌&&◌, ◌==◌, ◌||◌}
use Rattle.swarm_settle.proofs.PlaceLists.{newest-map}
use Rattle.swarm_settle.proofs.Shapes.{Base, bare, blank, shape}
use Rattle.swarm_model.proofs.Laws.OfService.{OfServices}
use Rattle.swarm_model.proofs.Moves.Rows.{between-map}
use Rattle.swarm_model.proofs.Moves.Worlds.{IsOrderly}
use Rattle.swarm_objects.proofs.RowLemmas.{Has-map_cases}
use Rattle.swarm_objects.proofs.Tests.{any_map, any_same}
use Rattle.swarm_objects.proofs.Filters.{filter_map, filter_same}
use Rattle.swarm_objects.specs.Rows.{Has, is_some_and, service_id, task_id, with_number}
use Rattle.swarm_objects.specs.Services.Words.{is_live_dirty}
use Rattle.swarm_objects.specs.Tasks.Places.{closes, closes_dirty, counts_for, has_dirty_place, has_live, has_other, held_places, is_dirty_place, is_held_place, is_in_place, live_places, newest, place_at, place_number, place_numbers, place_tasks, tasks_of_place}
use Rattle.swarm_objects.specs.Tasks.Words.{is_live}
use Rattle.swarm_objects.specs.Values.Ranks.{desired_rank}
use Rattle.swarm_objects.specs.World.{Tables, World}
use Rattle.swarm_objects.specs.declared.services.Service.{Service}
use Rattle.swarm_objects.specs.declared.tasks.Desired.TheVariants as desired
use Rattle.swarm_objects.specs.declared.tasks.Place.{Place}
use Rattle.swarm_objects.specs.declared.tasks.Task.{Task}

pub each-mapped : {X Y : Type 0} (P : Y → Type 0) (f : X → Y) (xs : List X) → ((x : X) → Has xs x → P (f x)) → (y : Y) →
    Has (map f xs) y → P y
each-mapped P f xs each y h = let from = Has-map_cases f xs y h in subst P from.2 (each from.0 from.1)

some-and-map : {X : Type 0} (test : X → Bool) (f : X → X) (o : Option X) →
    is_some_and test (option_map f o) ≡ is_some_and (λ x. test (f x)) o
some-and-map test f None = refl
some-and-map test f (Some x) = refl

pub place-blank : (s : Service) (p : Place) (xs : List Task) →
    tasks_of_place (bare s) p (map blank xs) ≡ map blank (tasks_of_place s p xs)
place-blank s p xs = filter_map (is_in_place s p) blank xs (λ x. refl)

pub newest-blank : (s : Service) (p : Place) (xs : List Task) →
    newest (tasks_of_place (bare s) p (map blank xs)) ≡ option_map blank (newest (tasks_of_place s p xs))
newest-blank s p xs = ap newest (place-blank s p xs) ∙ newest-map blank (tasks_of_place s p xs)

-- a test of tasks that reads nothing else
any-blank : (test : Task → Bool) (s : Service) (p : Place) (xs : List Task) → ((x : Task) → test (blank x) ≡ test x) →
    list_any test (tasks_of_place (bare s) p (map blank xs)) ≡ list_any test (tasks_of_place s p xs)
any-blank test s p xs same =
    ap (list_any test) (place-blank s p xs) ∙ any_map test blank (tasks_of_place s p xs)
    ∙ any_same (λ x. test (blank x)) test (tasks_of_place s p xs) same

last-blank : (test : Task → Bool) (s : Service) (p : Place) (xs : List Task) → ((x : Task) → test (blank x) ≡ test x) →
    is_some_and test (newest (tasks_of_place (bare s) p (map blank xs)))
    ≡ is_some_and test (newest (tasks_of_place s p xs))
last-blank test s p xs same =
    ap (is_some_and test) (newest-blank s p xs) ∙ some-and-map test blank (newest (tasks_of_place s p xs))
    ∙ go (newest (tasks_of_place s p xs))
  where
    go : (o : Option Task) → is_some_and (λ x. test (blank x)) o ≡ is_some_and test o
    go None = refl
    go (Some x) = same x

both-same : (a b c d : Bool) → a ≡ c → b ≡ d → (a || b) ≡ (c || d)
both-same a b c d e f = ap (λ (z : Bool). z || b) e ∙ ap (λ (z : Bool). c || z) f

pub other-blank : (t : Tables) (s : Service) (x : Task) → has_other (shape t) (bare s) (blank x) ≡ has_other t s x
other-blank t s x = any-blank (λ y. is_live y && not (y.id == x.id)) s x.place t.tasks (λ y. refl)

pub held-blank : (t : Tables) (s : Service) (k : ℕ) → is_held_place (shape t) (bare s) k ≡ is_held_place t s k
held-blank t s k =
    both-same _ _ _ _ (any-blank is_live s (place_at s.spec.mode k) t.tasks (λ y. refl))
    (last-blank closes s (place_at s.spec.mode k) t.tasks (λ y. refl))

pub live-blank : (t : Tables) (s : Service) (k : ℕ) → has_live (shape t) (bare s) k ≡ has_live t s k
live-blank t s k = any-blank is_live s (place_at s.spec.mode k) t.tasks (λ y. refl)

pub dirty-blank : (t : Tables) (s : Service) (k : ℕ) → is_dirty_place (shape t) (bare s) k ≡ is_dirty_place t s k
dirty-blank t s k =
    both-same _ _ _ _ (any-blank (is_live_dirty s) s (place_at s.spec.mode k) t.tasks (λ y. refl))
    (ap (λ (b : Bool). not b && is_some_and (closes_dirty s) (newest (place_tasks (shape t) (bare s) k)))
    (live-blank t s k)
    ∙ ap (λ (b : Bool). not (has_live t s k) && b)
    (last-blank (closes_dirty s) s (place_at s.spec.mode k) t.tasks (λ y. refl)))

fold-blank : (ks : List ℕ) (xs : List Task) →
    fold (λ ks x. with_number (place_number x.place) ks) ks (map blank xs)
    ≡ fold (λ ks x. with_number (place_number x.place) ks) ks xs
fold-blank ks [] = refl
fold-blank ks (x ∷ xs) = fold-blank (with_number (place_number x.place) ks) xs

pub numbers-blank : (t : Tables) (s : Service) → place_numbers (shape t) (bare s) ≡ place_numbers t s
numbers-blank t s =
    ap (λ (xs : List Task). fold (λ ks x. with_number (place_number x.place) ks) [] xs)
    (filter_map (counts_for s) blank t.tasks (λ x. refl))
    ∙ fold-blank [] (filter (counts_for s) t.tasks)

filter-numbers : (p q : ℕ → Bool) (ks js : List ℕ) → ks ≡ js → ((k : ℕ) → p k ≡ q k) → filter p ks ≡ filter q js
filter-numbers p q ks js e same = ap (filter p) e ∙ filter_same p q js same

pub held-places-blank : (t : Tables) (s : Service) → held_places (shape t) (bare s) ≡ held_places t s
held-places-blank t s =
    filter-numbers (is_held_place (shape t) (bare s)) (is_held_place t s) _ _ (numbers-blank t s) (held-blank t s)

pub live-places-blank : (t : Tables) (s : Service) → live_places (shape t) (bare s) ≡ live_places t s
live-places-blank t s =
    filter-numbers (has_live (shape t) (bare s)) (has_live t s) _ _ (numbers-blank t s) (live-blank t s)

pub has-dirty-blank : (t : Tables) (s : Service) → has_dirty_place (shape t) (bare s) ≡ has_dirty_place t s
has-dirty-blank t s =
    ap (list_any (is_dirty_place (shape t) (bare s))) (numbers-blank t s)
    ∙ any_same (is_dirty_place (shape t) (bare s)) (is_dirty_place t s) (place_numbers t s) (dirty-blank t s)

-- What is known of the shape.

pub base-of : (w : World) → IsOrderly w → OfServices w.tables → Base (shape w.tables)
base-of w orderly of = record {
  high = w.tables.next_id;
  tasks = between-map task_id 1 w.tables.next_id blank w.tables.tasks (λ x. refl) orderly.tasks;
  services = between-map service_id 1 w.tables.next_id bare w.tables.services (λ s. refl) orderly.services;
  most = λ x s h k.
      each-mapped (λ (y : Task). y.service ≡ s.id → y.iteration ≤ s.iteration) blank w.tables.tasks
      (λ y there.
      each-mapped (λ (v : Service). y.service ≡ v.id → y.iteration ≤ v.iteration) bare w.tables.services
      (λ v at e. (of.one.iterations y v there at e).most) s k) x h;
  goal = each-mapped (λ (y : Task). desired_rank y.goal ≤ desired_rank desired.Complete) blank w.tables.tasks
      (λ y there. (orderly.good y there).goal);
  place = λ x s h k.
      each-mapped (λ (y : Task). y.service ≡ s.id → (j : ℕ) × (y.place ≡ place_at s.spec.mode j)) blank w.tables.tasks
      (λ y there.
      each-mapped (λ (v : Service). y.service ≡ v.id → (j : ℕ) × (y.place ≡ place_at v.spec.mode j)) bare
      w.tables.services (λ v at e. (of.of y v there at e).place) s k) x h;
}
