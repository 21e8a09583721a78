-- What makes a history that follows lines the serial one: a single caller, which does what the settle test names.
use Rattle.std.specs.Prelude.{List, [], ◌∷◌, ◌++◌, ℕ, ◌-◌, ◌<◌, ◌≡◌, ◌↔◌, false, true, None, Option, Some, ⊤}
use Rattle.std.specs.List.{list_all}
use Rattle.swarm_model.specs.Follows.{FollowsFrom, FollowsPart, IsLine, IsPart, Stride, entries_of_stride, entries_of_strides}
use Rattle.swarm_model.specs.History.{replay_from, replies}
use Rattle.swarm_model.specs.Laws.Steps.{EachStep}
use Rattle.swarm_model.specs.Own.{own_replies}
use Rattle.swarm_model.specs.Script.{Asked, Asks, Nothing, Settles, Waits, full_stretch, is_busy, is_of_a_caller, next_tick, own_call, own_duties}
use Rattle.swarm_model.specs.Serial.{AreSerial, StopsSerial, serial}
use Rattle.swarm_model.specs.Settle.{settle_answer}
use Rattle.swarm_model.specs.Undone.{IsUndoneFrom}
use Rattle.swarm_objects.specs.Kinds.{duty_named}
use Rattle.swarm_objects.specs.World.{World, empty_world}
use Rattle.swarm_objects.specs.declared.calls.Call.TheVariants as call
use Rattle.swarm_objects.specs.declared.calls.Entry.{Entry}
use Rattle.swarm_objects.specs.declared.calls.What.{What}
use Rattle.swarm_objects.specs.declared.calls.What.TheVariants as what

-- a duty is the one that the settle test names just before it
abbrev pub IsNamed : World → What → World → Type 0
IsNamed w (what.Call c) after = ⊤
IsNamed w (what.Duty d) after = duty_named (settle_answer w) ≡ Some d

-- each tick is the next one, also after a full stretch
abbrev pub AreNextTicks : World → ℕ → List Stride → Type 0
AreNextTicks w left [] = ⊤
AreNextTicks w left (s ∷ ss) =
    (s.ms ≡ next_tick (replay_from w s.stretch) left)
    × AreNextTicks (replay_from w (entries_of_stride s)) (left - s.ms) ss

-- the stretch after the last tick leaves nothing to be done, unless it is full
abbrev pub EndsIdle : World → List Entry → Type 0
EndsIdle w tail = own_duties tail < full_stretch → is_busy (replay_from w tail) ≡ false

-- of a wait line the ticks and the end
abbrev pub IsLineAlone : (w : World) (line : Asked) (part rest : List Entry) → IsLine w line part rest → Type 0
IsLineAlone w Nothing part rest is = ⊤
IsLineAlone w (Asks c) part rest is = ⊤
IsLineAlone w (Settles budget) part rest is = ⊤
IsLineAlone w (Waits ms) part rest is =
    AreNextTicks w ms is.strides × EndsIdle (replay_from w (entries_of_strides is.strides)) is.tail

-- of a wait line that isn't done the ticks
abbrev pub IsPartAlone : (w : World) (next : Option Asked) (part : List Entry) → IsPart w next part → Type 0
IsPartAlone w None part is = ⊤
IsPartAlone w (Some Nothing) part is = ⊤
IsPartAlone w (Some (Asks c)) part is = ⊤
IsPartAlone w (Some (Settles budget)) part is = ⊤
IsPartAlone w (Some (Waits ms)) part is = AreNextTicks w ms is.strides

abbrev pub AreLinesAlone : (w : World) (lines : List Asked) (next : Option Asked) (h : List Entry) →
    FollowsFrom w lines next h → Type 0
AreLinesAlone w [] next h follows = IsPartAlone w next follows.part follows.part_is
AreLinesAlone w (line ∷ lines) next h follows =
    IsLineAlone w line follows.0 follows.1 follows.3
    × AreLinesAlone (replay_from w follows.0) lines next follows.1 follows.4

-- without workers the history follows the lines; its duties are those that the settle test names, and its wait lines
-- go on by that test
pub record FollowsAlone (h : List Entry) (lines : List Asked) (next : Option Asked) : Type 0 where
  pub follows : FollowsPart h lines next 0
  pub duties : EachStep IsNamed empty_world h
  pub waits : AreLinesAlone empty_world lines next h follows.lines_are

-- that is the serial history, and there is no other
abbrev pub SerialLaw : Type 0
SerialLaw = (h : List Entry) (lines : List Asked) → FollowsAlone h lines None ↔ (h ≡ serial lines)

-- and where a line was begun, the serial one up to there
abbrev pub SerialPartLaw : Type 0
SerialPartLaw =
    (start : List Entry) (lines : List Asked) (next : Option Asked) →
    FollowsAlone (start ++ own_call call.Halt ∷ []) lines next → AreSerial lines next start

-- where that line isn't done, less than all of it
abbrev pub SerialUndoneLaw : Type 0
SerialUndoneLaw =
    (start : List Entry) (lines : List Asked) (next : Option Asked) →
    (alone : FollowsAlone (start ++ own_call call.Halt ∷ []) lines next) →
    IsUndoneFrom start empty_world lines next (start ++ own_call call.Halt ∷ []) alone.follows.lines_are →
    StopsSerial lines next start

-- the replies to a single caller are all replies
abbrev pub RepliesLaw : Type 0
RepliesLaw = (h : List Entry) → list_all (is_of_a_caller 0) h ≡ true → own_replies 0 h ≡ replies h
