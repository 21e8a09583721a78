-- What a history has to do with a script's lines and a number of workers, and the one history that a single caller
-- makes.
use Rattle.std.specs.Prelude.{List, true, ◌≡◌, ◌-◌, Bool, [], if◌then◌else◌, not, ◌∷◌, ℕ, ◌++◌, flat_map, sum_by, ◌≤◌, false, ◌<◌, ⊤, None, Option, Some}
use Rattle.std.specs.List.{list_all}
use Rattle.swarm_model.specs.History.{step_world, replay, replay_from}
use Rattle.swarm_model.specs.Script.{Asks, Nothing, Settles, Waits, is_duty_entry, own_duties, is_own_call, is_busy, own_call, full_stretch, next_tick, Asked, is_of_a_caller}
use Rattle.swarm_objects.specs.World.{World, empty_world}
use Rattle.swarm_objects.specs.declared.calls.Call.{Call}
use Rattle.swarm_objects.specs.declared.calls.Call.TheVariants as call
use Rattle.swarm_objects.specs.declared.calls.Entry.{Entry}

abbrev pub AreDuties : List Entry → Type 0
AreDuties es = list_all (λ e. is_duty_entry e.what) es ≡ true

-- duties of workers alone
abbrev pub AreOthers : List Entry → Type 0
AreOthers es = AreDuties es × (own_duties es ≡ 0)

-- the next call of caller 0 comes in a world that isn't busy
abbrev pub quiet_at_next_call : World → List Entry → Bool
quiet_at_next_call w [] = true
quiet_at_next_call w (e ∷ es) = if is_own_call e then not (is_busy w) else quiet_at_next_call (step_world w e) es

-- a stretch, and the tick after it
pub record Stride : Type 0 where
  pub stretch : List Entry
  pub ms : ℕ

abbrev pub entries_of_stride : Stride → List Entry
entries_of_stride s = s.stretch ++ own_call (call.Tick s.ms) ∷ []

abbrev pub entries_of_strides : List Stride → List Entry
entries_of_strides ss = flat_map entries_of_stride ss

-- what is left of the time
abbrev pub left_after : ℕ → List Stride → ℕ
left_after left ss = left - sum_by (λ s. s.ms) ss

abbrev pub IsStretch : List Entry → Type 0
IsStretch es = AreDuties es × (own_duties es ≤ full_stretch)

-- unless the stretch was full, the world before the tick isn't busy, and the tick is the next one
abbrev pub EndsStretch : World → ℕ → Stride → Type 0
EndsStretch w left s = own_duties s.stretch < full_stretch → (is_busy w ≡ false) × (s.ms ≡ next_tick w left)

-- the tick of a line of which so much is left, in the world before it
pub record IsTickOf (w : World) (left : ℕ) (s : Stride) : Type 0 where
  pub stretch : IsStretch s.stretch
  pub some : 1 ≤ s.ms
  pub most : s.ms ≤ 1000
  pub in_line : s.ms ≤ left
  pub rule : EndsStretch w left s

abbrev pub AreStrides : World → ℕ → List Stride → Type 0
AreStrides w left [] = ⊤
AreStrides w left (s ∷ ss) =
    IsTickOf (replay_from w s.stretch) left s × AreStrides (replay_from w (entries_of_stride s)) (left - s.ms) ss

-- the stretch after the last tick, before these entries: unless it is full, caller 0's next call finds a world that
-- isn't busy
abbrev pub IsTail : World → List Entry → List Entry → Type 0
IsTail w tail rest =
    IsStretch tail × (own_duties tail < full_stretch → quiet_at_next_call (replay_from w tail) rest ≡ true)

-- What a line makes.

-- a wait line's entries, before the rest
pub record IsWaited (w : World) (ms : ℕ) (part rest : List Entry) : Type 0 where
  pub strides : List Stride
  pub tail : List Entry
  pub entries : part ≡ entries_of_strides strides ++ tail
  pub ticks : AreStrides w ms strides
  pub all : left_after ms strides ≡ 0
  pub tail_is : IsTail (replay_from w (entries_of_strides strides)) tail rest

-- a settle line's: at most so many duties of caller 0, and then its call, which finds the world busy only after just
-- so many
pub record IsSettleLine (w : World) (budget : ℕ) (part : List Entry) : Type 0 where
  pub duties : List Entry
  pub entries : part ≡ duties ++ own_call (call.Settle budget) ∷ []
  pub are_duties : AreDuties duties
  pub most : own_duties duties ≤ budget
  pub busy : is_busy (replay_from w duties) ≡ true → own_duties duties ≡ budget

-- a call line's
pub record IsCalled (c : Call) (part : List Entry) : Type 0 where
  pub others : List Entry
  pub entries : part ≡ others ++ own_call c ∷ []
  pub are_others : AreOthers others

abbrev pub IsLine : World → Asked → List Entry → List Entry → Type 0
IsLine w Nothing part rest = part ≡ []
IsLine w (Asks c) part rest = IsCalled c part
IsLine w (Settles budget) part rest = IsSettleLine w budget part
IsLine w (Waits ms) part rest = IsWaited w ms part rest

-- What was done of a line that isn't.

-- a wait line's duties and ticks, cut after any entry
pub record IsWaitedPart (w : World) (ms : ℕ) (part : List Entry) : Type 0 where
  pub strides : List Stride
  pub tail : List Entry
  pub entries : part ≡ entries_of_strides strides ++ tail
  pub ticks : AreStrides w ms strides
  pub tail_is : IsStretch tail

-- a settle line's duties, without its call; of another line nothing; and what workers did meanwhile
abbrev pub IsPart : World → Option Asked → List Entry → Type 0
IsPart w None part = AreOthers part
IsPart w (Some Nothing) part = AreOthers part
IsPart w (Some (Asks c)) part = AreOthers part
IsPart w (Some (Settles budget)) part = AreDuties part × (own_duties part ≤ budget)
IsPart w (Some (Waits ms)) part = IsWaitedPart w ms part

-- All lines.

-- the last entries: what was done of the line that comes next, and Halt
pub record IsEnd (w : World) (next : Option Asked) (h : List Entry) : Type 0 where
  pub part : List Entry
  pub entries : h ≡ part ++ own_call call.Halt ∷ []
  pub part_is : IsPart w next part

-- line by line, then the end
abbrev pub FollowsFrom : World → List Asked → Option Asked → List Entry → Type 0
FollowsFrom w [] next h = IsEnd w next h
FollowsFrom w (line ∷ lines) next h =
    (part : List Entry) × (rest : List Entry) × (h ≡ part ++ rest) × IsLine w line part rest
    × FollowsFrom (replay_from w part) lines next rest

-- the history is that of these lines and of what was done of the next one, with so many workers
pub record FollowsPart (h : List Entry) (lines : List Asked) (next : Option Asked) (workers : ℕ) : Type 0 where
  pub callers : list_all (is_of_a_caller workers) h ≡ true
  pub lines_are : FollowsFrom empty_world lines next h

abbrev pub Follows : List Entry → List Asked → ℕ → Type 0
Follows h lines workers = FollowsPart h lines None workers

-- Cut before the last line.

-- the entries of lines, one line after the other, before the rest
abbrev pub AreOfLines : World → List Asked → List Entry → List Entry → Type 0
AreOfLines w [] es rest = es ≡ []
AreOfLines w (line ∷ lines) es rest =
    (part : List Entry) × (more : List Entry) × (es ≡ part ++ more) × IsLine w line part (more ++ rest)
    × AreOfLines (replay_from w part) lines more rest

-- the history of lines, cut before the last one
pub record IsCut (h : List Entry) (lines : List Asked) (last : Asked) : Type 0 where
  pub before : List Entry
  pub part : List Entry
  pub rest : List Entry
  pub entries : h ≡ before ++ (part ++ rest)
  pub lines_are : AreOfLines empty_world lines before (part ++ rest)
  pub last_is : IsLine (replay before) last part rest
  pub end_is : IsEnd (replay (before ++ part)) None rest
