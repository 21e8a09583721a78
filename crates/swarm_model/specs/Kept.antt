-- What caller 0 knows of its entries while it reads lines, of each with the history before it, whatever others append.
use Rattle.std.specs.Prelude.{List, [], ◌∷◌, ◌++◌, length, ℕ, ◌-◌, ◌<◌, ◌≤◌, ◌≡◌, ◌⊎◌, true, false, None, Option, Some, sum_by}
use Rattle.std.specs.List.{list_all}
use Rattle.swarm_model.specs.Follows.{FollowsPart, IsCut}
use Rattle.swarm_model.specs.History.{IsLegal, replay}
use Rattle.swarm_model.specs.Own.{Step, own, own_from, step_at}
use Rattle.swarm_model.specs.Script.{Asked, Asks, Nothing, Settles, Waits, full_stretch, is_busy, is_of_a_caller, next_tick, own_call, own_duty}
use Rattle.swarm_model.specs.Serial.{AreSerial, StopsSerial}
use Rattle.swarm_model.specs.Settle.{settle_answer}
use Rattle.swarm_model.specs.Undone.{FollowsUndone, Sees, SeesBusy}
use Rattle.swarm_objects.specs.Duties.{duties}
use Rattle.swarm_objects.specs.Kinds.{duty_named, role_of}
use Rattle.swarm_objects.specs.Rows.{Has, first_of}
use Rattle.swarm_objects.specs.World.{World}
use Rattle.swarm_objects.specs.declared.calls.Call.TheVariants as call
use Rattle.swarm_objects.specs.declared.calls.Entry.{Entry}
use Rattle.swarm_objects.specs.declared.duties.Duty.{Duty}

-- at the last look nothing was to be done
pub record SeesIdle (before : List Entry) : Type 0 where
  pub world : World
  pub sees : Sees before world
  pub idle : is_busy world ≡ false

-- the first duty of the role of the one that the last look named
pub record IsTurn (s : Step) : Type 0 where
  pub world : World
  pub sees : Sees s.before world
  pub named : Duty
  pub busy : duty_named (settle_answer world) ≡ Some named
  pub duty : Duty
  pub first : first_of (duties (role_of named) (replay s.before)) ≡ Some duty
  pub entry : s.entry ≡ own_duty duty

abbrev pub AreTurns : List Step → Type 0
AreTurns turns = (s : Step) → Has turns s → IsTurn s

-- A settle line: its turns, and its call.
pub record KeepsSettled (budget : ℕ) (part : List Step) : Type 0 where
  pub turns : List Step
  pub before : List Entry
  pub steps : part ≡ turns ++ step_at before (own_call (call.Settle budget)) ∷ []
  pub are_turns : AreTurns turns
  pub most : length turns ≤ budget
  pub idle : length turns < budget → SeesIdle before

-- A wait line: turns, the history before the tick after them, and the tick.
pub record Stretch : Type 0 where
  pub turns : List Step
  pub before : List Entry
  pub ms : ℕ

-- the tick of a line of which so much is left: by the last look, which named no duty unless the stretch is full
pub record KeepsTick (left : ℕ) (s : Stretch) : Type 0 where
  pub are_turns : AreTurns s.turns
  pub few : length s.turns ≤ full_stretch
  pub some : 1 ≤ s.ms
  pub most : s.ms ≤ 1000
  pub in_line : s.ms ≤ left
  pub world : World
  pub sees : Sees s.before world
  pub tick : s.ms ≡ next_tick world left
  pub idle : length s.turns < full_stretch → is_busy world ≡ false

-- stretches with their ticks, and the turns after the last tick
abbrev pub KeepsTicks : ℕ → List Stretch → List Step → List Step → Type 0
KeepsTicks left [] last part = part ≡ last
KeepsTicks left (s ∷ ss) last part =
    (rest : List Step) × (part ≡ s.turns ++ step_at s.before (own_call (call.Tick s.ms)) ∷ rest) × KeepsTick left s
    × KeepsTicks (left - s.ms) ss last rest

pub record KeepsBegun (ms : ℕ) (part : List Step) : Type 0 where
  pub stretches : List Stretch
  pub last : List Step
  pub ticks : KeepsTicks ms stretches last part
  pub are_turns : AreTurns last
  pub few : length last ≤ full_stretch

-- `next` is the history before caller 0's next entry
pub record KeepsWaited (ms : ℕ) (part : List Step) (next : List Entry) : Type 0 where
  pub begun : KeepsBegun ms part
  pub all : ms - sum_by (λ s. s.ms) begun.stretches ≡ 0
  pub idle : length begun.last < full_stretch → SeesIdle next

-- what was kept of a line
abbrev pub KeepsLine : Asked → List Step → List Entry → Type 0
KeepsLine Nothing part next = part ≡ []
KeepsLine (Asks c) part next = (before : List Entry) × (part ≡ step_at before (own_call c) ∷ [])
KeepsLine (Settles budget) part next = KeepsSettled budget part
KeepsLine (Waits ms) part next = KeepsWaited ms part next

-- and of a line that isn't done
abbrev pub KeepsPart : Option Asked → List Step → Type 0
KeepsPart None part = part ≡ []
KeepsPart (Some Nothing) part = part ≡ []
KeepsPart (Some (Asks c)) part = part ≡ []
KeepsPart (Some (Settles budget)) part = AreTurns part × (length part ≤ budget)
KeepsPart (Some (Waits ms)) part = KeepsBegun ms part

-- what was kept of a wait line: time is left, or the last look named a duty, and its turn would be of the last stretch
pub record KeepsStopped (ms : ℕ) (part : List Step) (now : List Entry) : Type 0 where
  pub begun : KeepsBegun ms part
  pub more : (0 < ms - sum_by (λ s. s.ms) begun.stretches) ⊎ ((length begun.last < full_stretch) × SeesBusy now)

-- of a line that is there and isn't done
abbrev pub KeepsUndone : List Entry → Option Asked → List Step → Type 0
KeepsUndone now None part = ⊥
KeepsUndone now (Some Nothing) part = ⊥
KeepsUndone now (Some (Asks c)) part = part ≡ []
KeepsUndone now (Some (Settles budget)) part = AreTurns part × (length part ≤ budget)
KeepsUndone now (Some (Waits ms)) part = KeepsStopped ms part now

-- the history before the first of these steps, or the one that is seen now
abbrev pub before_next : List Step → List Entry → List Entry
before_next [] now = now
before_next (s ∷ steps) now = s.before

-- of lines, and of what was done of the next one
abbrev pub KeepsLines : List Asked → Option Asked → List Step → List Entry → Type 0
KeepsLines [] next part now = KeepsPart next part
KeepsLines (line ∷ lines) next part now =
    (first : List Step) × (rest : List Step) × (part ≡ first ++ rest) × KeepsLine line first (before_next rest now)
    × KeepsLines lines next rest now

-- where the workers have only duties of theirs, the history follows the lines
abbrev pub KeptLaw : Type 0
KeptLaw =
    (workers : ℕ) (lines : List Asked) (next : Option Asked) (start : List Entry) →
    let h = start ++ own_call call.Halt ∷ [] in
    IsLegal h → list_all (is_of_a_caller workers) h ≡ true → KeepsLines lines next (own 0 start) start →
    FollowsPart h lines next workers

-- without workers it is the serial one up to Halt
abbrev pub KeptAloneLaw : Type 0
KeptAloneLaw =
    (lines : List Asked) (next : Option Asked) (start : List Entry) →
    let h = start ++ own_call call.Halt ∷ [] in
    IsLegal h → list_all (is_of_a_caller 0) h ≡ true → KeepsLines lines next (own 0 start) start →
    AreSerial lines next start

-- the history is cut before the last line as what was kept is
pub record KeepsCut (h : List Entry) (lines : List Asked) (last : Asked) (earlier later : List Step) : Type 0 where
  pub cut : IsCut h lines last
  pub earlier_are : own 0 cut.before ≡ earlier
  pub later_are : own_from 0 cut.before cut.part ≡ later

-- what was kept of lines and of a last one
abbrev pub KeptLastLaw : Type 0
KeptLastLaw =
    (workers : ℕ) (lines : List Asked) (last : Asked) (earlier later : List Step) (start : List Entry) →
    let h = start ++ own_call call.Halt ∷ [] in
    IsLegal h → list_all (is_of_a_caller workers) h ≡ true → own 0 start ≡ earlier ++ later →
    KeepsLines lines None earlier (before_next later start) → KeepsLine last later start →
    KeepsCut h lines last earlier later

-- what was kept of lines, and of a next one that isn't done
abbrev pub KeptUndoneLaw : Type 0
KeptUndoneLaw =
    (workers : ℕ) (lines : List Asked) (next : Option Asked) (earlier later : List Step) (start : List Entry) →
    let h = start ++ own_call call.Halt ∷ [] in
    IsLegal h → list_all (is_of_a_caller workers) h ≡ true → own 0 start ≡ earlier ++ later →
    KeepsLines lines None earlier (before_next later start) → KeepsUndone start next later →
    FollowsUndone h lines next workers

-- without workers it is less than all of that line
abbrev pub KeptStopLaw : Type 0
KeptStopLaw =
    (lines : List Asked) (next : Option Asked) (earlier later : List Step) (start : List Entry) →
    let h = start ++ own_call call.Halt ∷ [] in
    IsLegal h → list_all (is_of_a_caller 0) h ≡ true → own 0 start ≡ earlier ++ later →
    KeepsLines lines None earlier (before_next later start) → KeepsUndone start next later →
    StopsSerial lines next start
