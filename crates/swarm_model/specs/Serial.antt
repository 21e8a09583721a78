-- The one history that a single caller makes of lines.
use Rattle.std.specs.Prelude.{List, None, Option, Some, [], length, suc, take, zero, ℕ, ◌-◌, ◌<◌, ◌∷◌, ◌++◌, ◌+◌, ◌≡◌, false, nat_lt, true}
use Rattle.swarm_model.specs.History.{replay, step_world, replay_from}
use Rattle.swarm_model.specs.Script.{own_duty, next_tick, own_call, full_stretch, Asked, Asks, Nothing, Settles, Waits}
use Rattle.swarm_model.specs.Settle.{settle_answer}
use Rattle.swarm_objects.specs.Kinds.{duty_named}
use Rattle.swarm_objects.specs.World.{World, empty_world}
use Rattle.swarm_objects.specs.declared.calls.Call.TheVariants as call
use Rattle.swarm_objects.specs.declared.calls.Entry.{Entry}

-- the duties that the settle test names one after the other, at most so many, until it names none
abbrev pub settle_entries : ℕ → World → List Entry
settle_entries zero w = []
settle_entries (suc n) w =
    elim (duty_named (settle_answer w)) [
      | Some d ↦ own_duty d ∷ settle_entries n (step_world w (own_duty d))
      | None ↦ []
    ]

-- duties, and then a tick
abbrev pub stride_entries : World → List Entry → ℕ → List Entry
stride_entries w done left = done ++ own_call (call.Tick (next_tick (replay_from w done) left)) ∷ []

abbrev pub next_stride : World → ℕ → List Entry
next_stride w left = stride_entries w (settle_entries full_stretch w) left

-- strides until a time is reached, at most so many, and the duties at the end
abbrev pub wait_entries : ℕ → World → ℕ → List Entry
wait_entries zero w time = settle_entries full_stretch w
wait_entries (suc n) w time =
    elim (nat_lt w.tables.clock time) [
      | true ↦ next_stride w (time - w.tables.clock)
          ++ wait_entries n (replay_from w (next_stride w (time - w.tables.clock))) time
      | false ↦ settle_entries full_stretch w
    ]

-- each tick is at least 1, so there are at most as many as the time has milliseconds
abbrev pub asked_entries : World → Asked → List Entry
asked_entries w Nothing = []
asked_entries w (Asks c) = own_call c ∷ []
asked_entries w (Settles budget) = settle_entries budget w ++ own_call (call.Settle budget) ∷ []
asked_entries w (Waits ms) = wait_entries ms w (w.tables.clock + ms)

-- the entries of lines, one line after the other
abbrev pub entries_from : World → List Asked → List Entry
entries_from w [] = []
entries_from w (line ∷ lines) = asked_entries w line ++ entries_from (replay_from w (asked_entries w line)) lines

abbrev pub entries : List Asked → List Entry
entries lines = entries_from empty_world lines

abbrev pub serial : List Asked → List Entry
serial lines = entries lines ++ own_call call.Halt ∷ []

-- the first entries that the next line makes
abbrev pub BeginsNext : World → Option Asked → List Entry → Type 0
BeginsNext w None part = part ≡ []
BeginsNext w (Some line) part = (n : ℕ) × (part ≡ take n (asked_entries w line))

-- the entries of lines, and the first ones of the next line
pub record AreSerial (lines : List Asked) (next : Option Asked) (es : List Entry) : Type 0 where
  pub part : List Entry
  pub entries_are : es ≡ entries lines ++ part
  pub begins : BeginsNext (replay (entries lines)) next part

-- the entries of lines, and less than all of the next line
pub record StopsSerial (lines : List Asked) (next : Option Asked) (es : List Entry) : Type 0 where
  pub line : Asked
  pub next_is : next ≡ Some line
  pub count : ℕ
  pub more : count < length (asked_entries (replay (entries lines)) line)
  pub entries_are : es ≡ entries lines ++ take count (asked_entries (replay (entries lines)) line)
