-- The times of places in flight, as they are gone through.
use Rattle.std.proofs.Common.{Bool, List, None, Option, [], ap, cond, false, refl, sym, true, ℕ, ◌+◌, ◌++◌, ◌∷◌, ◌≡◌}
use Rattle.std.specs.Ordering.{nat_cmp}
use Rattle.std.specs.Prelude.{filter, flat_map, map, ◌&&◌, ◌||◌}
use Rattle.std.specs.List.{list_any}
use Rattle.swarm_model.specs.Settle.{flight_times, least_time}
use Rattle.swarm_objects.specs.Rows.{least_by}
use Rattle.swarm_objects.specs.Services.Runs.{flying_tasks, is_flying, is_in_flight}
use Rattle.swarm_objects.specs.Tasks.Words.{is_running}
use Rattle.swarm_objects.specs.Tasks.Places.{tasks_of_place}
use Rattle.swarm_objects.specs.World.{Tables}
use Rattle.swarm_objects.specs.declared.services.Replaced.{Replaced}
use Rattle.swarm_objects.specs.declared.services.Service.{Service}
use Rattle.swarm_objects.specs.declared.services.UpdateRun.{UpdateRun}
use Rattle.swarm_objects.specs.declared.tasks.Task.{Task}
use Rattle.swarm_settle.proofs.LeastWaits.{made_of_each}
use Rattle.swarm_settle.specs.Flights.{item_times, task_times}

-- those of all places are those of each
pub flight_made : (t : Tables) (s : Service) (run : UpdateRun) →
    least_by nat_cmp None (flat_map (item_times t s) run.replaced) ≡ least_time (flight_times t s run)
flight_made t s run =
    ap (least_by nat_cmp None) (sym (made_of_each (λ (x : Task). x.since + s.spec.update.delay) is_running (flying_tasks t s) run.replaced))

-- those of a place are those of each of its tasks
pub flights_made : (t : Tables) (s : Service) (tasks : List Task) → flat_map (task_times t s) tasks
    ≡ map (λ (x : Task). x.since + s.spec.update.delay) (filter is_running (filter (is_flying t s) tasks))
flights_made t s [] = refl
flights_made t s (x ∷ tasks) = go (is_flying t s x) (is_running x) refl (flights_made t s tasks)
  where
    go : (a b : Bool) → is_running x ≡ b → flat_map (task_times t s) tasks
        ≡ map (λ (x : Task). x.since + s.spec.update.delay) (filter is_running (filter (is_flying t s) tasks)) →
        cond (a && b) ((x.since + s.spec.update.delay) ∷ []) [] ++ flat_map (task_times t s) tasks
        ≡ map (λ (x : Task). x.since + s.spec.update.delay)
        (filter is_running (cond a (x ∷ filter (is_flying t s) tasks) (filter (is_flying t s) tasks)))
    go true true runs rest = rw runs (ap (λ times. (x.since + s.spec.update.delay) ∷ times) rest)
    go true false runs rest = rw runs rest
    go false b runs rest = rest

-- a place without a task in flight has no time

filter_none : {X : Type 0} (p : X → Bool) (xs : List X) → list_any p xs ≡ false → filter p xs ≡ []
filter_none p [] none = refl
filter_none p (x ∷ xs) none = go (p x) none (filter_none p xs)
  where
    go : (b : Bool) → (b || list_any p xs) ≡ false → (list_any p xs ≡ false → filter p xs ≡ [])
        → cond b (x ∷ filter p xs) (filter p xs) ≡ []
    go true e rest = absurd cc
    go false e rest = rest e

pub none_flying : (t : Tables) (s : Service) (item : Replaced) (least : Option ℕ) → is_in_flight t s item ≡ false
    → least ≡ least_by nat_cmp least (item_times t s item)
none_flying t s item least none =
    ap (λ xs. least_by nat_cmp least (map (λ (x : Task). x.since + s.spec.update.delay) (filter is_running xs)))
    (sym (filter_none (is_flying t s) (tasks_of_place s item.place t.tasks) none))
