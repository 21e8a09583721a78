-- What decides when a place goes, of a window of place numbers.
use Rattle.std.specs.List.{list_any}
use Rattle.std.specs.Prelude.{Bool, List, false, filter, fold, get_or, length, map, max, replicate, set, true, ℕ, ◌&&◌, ◌+◌, ◌<◌, ◌||◌, ◌≡◌}
use Rattle.role_words.specs.Marks.{stands, tasks_at}
use Rattle.swarm_objects.specs.Loops.Replicated.{crowd, is_up, place_crowd}
use Rattle.swarm_objects.specs.Tasks.Places.{is_in_place, place_at, place_number}
use Rattle.swarm_objects.specs.Tasks.Words.{is_live, is_running}
use Rattle.swarm_objects.specs.World.{Tables}
use Rattle.swarm_objects.specs.declared.services.Service.{Service}
use Rattle.swarm_objects.specs.declared.tasks.Task.{Task}
use Rattle.swarm_replicated.specs.declared.weights.TheConstants.{BLANK, WIDTH}
use Rattle.swarm_replicated.specs.declared.weights.Weight.{Weight}
use Rattle.swarm_replicated.specs.declared.weights.Weights.{Weights}

-- a live task that runs is among these, or was before them
abbrev pub is_up_with : Bool → List Task → Bool
is_up_with was tasks = was || list_any (λ (x : Task). is_live x && is_running x) tasks

-- the most of what live tasks have, or what was the most before them
abbrev pub most_with : (Task → ℕ) → ℕ → List Task → ℕ
most_with crowd was tasks = fold max was (map crowd (filter is_live tasks))

-- the place with this number
abbrev pub weight_of : Tables → Service → ℕ → Weight
weight_of t s k = record { is_up = is_up t s k; crowd = place_crowd t s k }

-- what is in the window of the place at this index
abbrev pub weight_at : Weights → ℕ → Weight
weight_at w i = get_or w.weights i BLANK

abbrev pub blank : ℕ → Weights
blank first = record { first = first; weights = replicate WIDTH BLANK }

-- with a live task more, on a node with so many
abbrev pub heavier : Weight → Bool → ℕ → Weight
heavier w runs most = record { is_up = w.is_up || runs; crowd = max w.crowd most }

abbrev pub noted_at : ℕ → Bool → ℕ → Weights → Weights
noted_at i runs most w = record w { weights = set w.weights i (heavier (weight_at w i) runs most) }

-- the task is live and stands in the place at this index
pub record IsAt (w : Weights) (s : Service) (x : Task) (i : ℕ) : Type 0 where
  pub within : i < WIDTH
  pub live : is_live x ≡ true
  pub in_place : stands s x ≡ true
  pub number : place_number x.place ≡ w.first + i

-- it isn't, at any index
abbrev pub IsApart : Weights → Service → Task → Type 0
IsApart w s x = (i : ℕ) → i < WIDTH → is_in_place s (place_at s.spec.mode (w.first + i)) x && is_live x ≡ false

-- with these tasks the window has what all tasks say of its places
pub record Remains (t : Tables) (s : Service) (w : Weights) (tasks : List Task) : Type 0 where
  pub wide : length w.weights ≡ WIDTH
  pub up : (i : ℕ) → i < WIDTH →
      is_up_with (weight_at w i).is_up (tasks_at s tasks (w.first + i)) ≡ is_up t s (w.first + i)
  pub most : (i : ℕ) → i < WIDTH →
      most_with (λ (x : Task). crowd t s x.node) (weight_at w i).crowd (tasks_at s tasks (w.first + i))
      ≡ place_crowd t s (w.first + i)

-- it has it
pub record Weighs (t : Tables) (s : Service) (w : Weights) : Type 0 where
  pub wide : length w.weights ≡ WIDTH
  pub each : (i : ℕ) → i < WIDTH → weight_at w i ≡ weight_of t s (w.first + i)
