-- A history that ends in a line that isn't done.
use Rattle.std.specs.Prelude.{List, [], ◌∷◌, ◌++◌, ℕ, ◌<◌, ◌≡◌, ◌⊎◌, true, None, Option, Some, ⊤}
use Rattle.swarm_model.specs.Follows.{FollowsFrom, FollowsPart, IsPart, left_after}
use Rattle.swarm_model.specs.History.{replay, replay_from}
use Rattle.swarm_model.specs.Own.{own_from}
use Rattle.swarm_model.specs.Script.{Asked, Asks, Nothing, Settles, Waits, full_stretch, is_busy, own_call, own_duties}
use Rattle.swarm_objects.specs.World.{World, empty_world}
use Rattle.swarm_objects.specs.declared.calls.Call.TheVariants as call
use Rattle.swarm_objects.specs.declared.calls.Entry.{Entry}

-- caller 0 saw this world at a look, and has made no entry since
pub record Sees (before : List Entry) (w : World) : Type 0 where
  pub seen : List Entry
  pub others : List Entry
  pub history : before ≡ seen ++ others
  pub none : own_from 0 seen others ≡ []
  pub world : w ≡ replay seen

-- a world since caller 0's last entry is busy
pub record SeesBusy (before : List Entry) : Type 0 where
  pub world : World
  pub sees : Sees before world
  pub busy : is_busy world ≡ true

-- there is a next line, and it isn't done: of a wait line time is left, or its last stretch isn't full and has more to
-- do
abbrev pub IsUndone : (start : List Entry) (w : World) (next : Option Asked) (part : List Entry) → IsPart w next part →
    Type 0
IsUndone start w None part is = ⊥
IsUndone start w (Some Nothing) part is = ⊥
IsUndone start w (Some (Asks c)) part is = ⊤
IsUndone start w (Some (Settles budget)) part is = ⊤
IsUndone start w (Some (Waits ms)) part is =
    (0 < left_after ms is.strides) ⊎ ((own_duties is.tail < full_stretch) × SeesBusy start)

-- after the lines
abbrev pub IsUndoneFrom : (start : List Entry) (w : World) (lines : List Asked) (next : Option Asked) (h : List Entry) →
    FollowsFrom w lines next h → Type 0
IsUndoneFrom start w [] next h follows = IsUndone start w next follows.part follows.part_is
IsUndoneFrom start w (line ∷ lines) next h follows =
    IsUndoneFrom start (replay_from w follows.0) lines next follows.1 follows.4

-- the history is that of these lines and of a part of the next one, which isn't done
pub record FollowsUndone (h : List Entry) (lines : List Asked) (next : Option Asked) (workers : ℕ) : Type 0 where
  pub follows : FollowsPart h lines next workers
  pub start : List Entry
  pub ends : h ≡ start ++ own_call call.Halt ∷ []
  pub undone : IsUndoneFrom start empty_world lines next h follows.lines_are
