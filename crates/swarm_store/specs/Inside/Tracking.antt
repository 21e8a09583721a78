-- Rows under change, with what each changed one was before.
use Rattle.std.specs.Prelude.{◌≡◌, ◌<◌, ◌≤◌, ◌+◌, ◌-◌, ◌^◌, ℕ, ⊤, List, [], ◌∷◌, length, Option, Some, None, if◌then◌else◌, map}
use Rattle.swarm_index.specs.Index.{RowsWithRoom}
use Rattle.swarm_model.specs.Changed.{event, verb_of}
use Rattle.swarm_objects.specs.Rows.{RisesFrom, drop_row, has_row, row_at, with_row}
use Rattle.swarm_objects.specs.declared.ids.Kind.{Kind}
use Rattle.swarm_objects.specs.declared.watches.Event.{Event}
use Rattle.swarm_store.specs.declared.tracked.Before.{Before}
use Rattle.std.specs.Prelude.{Bool}
use Rattle.std.specs.Bool.{Decides}

abbrev pub before_id : {X : Type 0} → Before X → ℕ
before_id b = b.id

-- the row as it was
abbrev pub put_back : {X : Type 0} → (X → ℕ) → Before X → List X → List X
put_back key b rows = elim b.row [
  | None ↦ drop_row key b.id rows
  | Some old ↦ with_row key old (drop_row key b.id rows)
]

-- all of them
abbrev pub restored : {X : Type 0} → (X → ℕ) → List (Before X) → List X → List X
restored key [] rows = rows
restored key (b ∷ before) rows = put_back key b (restored key before rows)

-- what a row was is remembered once, by rising id
abbrev pub remembered : {X : Type 0} → Before X → List (Before X) → List (Before X)
remembered b before = if has_row before_id b.id before then before else with_row before_id b before

-- how many there are then: one fewer where it is there, one more where it was
abbrev pub count_back : Bool → Bool → ℕ → ℕ
count_back is_there was_there count =
    let left = if is_there then count - 1 else count in
    if was_there then left + 1 else left

abbrev pub IsImage : {X : Type 0} → (X → ℕ) → ℕ → Option X → Type 0
IsImage key id None = ⊤
IsImage key id (Some row) = key row ≡ id

abbrev pub AreImages : {X : Type 0} → (X → ℕ) → List (Before X) → Type 0
AreImages key [] = ⊤
AreImages key (b ∷ before) = (0 < b.id) × IsImage key b.id b.row × AreImages key before

pub record IsTracked {X : Type 0} (key : X → ℕ) (before : List (Before X)) (rows : RowsWithRoom X) : Type 0 where
  pub rising : RisesFrom key 0 rows.rows
  pub ids : RisesFrom before_id 0 before
  pub images : AreImages key before
  -- each can be put back
  pub room : length before ≤ rows.room

-- what became of a changed row
abbrev pub image_events : {X : Type 0} → ℕ → Kind → (X → ℕ) → (X → X → Bool) → List X → Before X → List Event
image_events version k key same rows b = map (event version k b.id) (verb_of same b.row (row_at key b.id rows))

-- the test tells whether two rows with one key are equal
abbrev pub DecidesRows : {X : Type 0} → (X → ℕ) → (X → X → Bool) → Type 0
DecidesRows {X} key same = (x y : X) → key x ≡ key y → Decides (same x y) (x ≡ y)

-- the rows are under change still, and can be put back as before
abbrev pub GoBackAsBefore :
    {X : Type 0} → (X → ℕ) → List (Before X) → RowsWithRoom X → List (Before X) → RowsWithRoom X → Type 0
GoBackAsBefore key old rows new now = IsTracked key new now × (restored key new now.rows ≡ restored key old rows.rows)

-- and they are counted, and can be while they are put back one by one
pub record IsCounted {X : Type 0} (key : X → ℕ) (before : List (Before X)) (rows : RowsWithRoom X)
    (count : ℕ) : Type 0 where
  pub tracked : IsTracked key before rows
  pub now : count ≡ length rows.rows
  pub few : count + length before < 2 ^ 64
