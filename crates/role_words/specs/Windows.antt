-- What a window shows of a service's places.
use Rattle.std.specs.Prelude.{ℕ, ◌≡◌, ◌+◌, ◌-◌, ◌<◌, ◌≤◌, ◌%◌, ◌^◌, ◌||◌, ◌∷◌, not, true, false, nat_lt, nat_le, if◌then◌else◌, List, Option, None, Some, get_or, set, length, max, replicate}
use Rattle.std.specs.Iterator.{YieldsFirst}
use Rattle.swarm_objects.specs.Tasks.Places.{counts_for}
use Rattle.swarm_objects.specs.declared.services.Service.{Service}
use Rattle.swarm_objects.specs.declared.tasks.Task.{Task}
use Rattle.role_words.specs.Marks.{has_number, mark_of, mark_with}
use Rattle.role_words.specs.Slots.{slots_from}
use Rattle.role_words.specs.declared.window.Mark.{Mark}
use Rattle.role_words.specs.declared.window.Slot.{Slot}
use Rattle.role_words.specs.declared.window.TheConstants.{WIDTH, BLANK}
use Rattle.role_words.specs.declared.window.Window.{Window}

-- the marks of the places in it, from the first on
abbrev pub mark_at : Window → ℕ → Mark
mark_at w i = get_or w.marks i BLANK

-- it is there, and not above the number
abbrev pub IsFrom : Option ℕ → ℕ → Type 0
IsFrom None k = ⊥
IsFrom (Some b) k = b ≤ k

-- the window shows what the tasks say of the service's places
pub record Shows (w : Window) (s : Service) (tasks : List Task) : Type 0 where
  pub wide : length w.marks ≡ WIDTH
  pub marks : (i : ℕ) → i < WIDTH → mark_at w i ≡ mark_of s tasks (w.first + i)
  pub reach : (i : ℕ) → w.reach ≤ i → i < WIDTH → (mark_at w i).has_task ≡ false
  pub beyond : (k : ℕ) → has_number s tasks k ≡ true → w.first + WIDTH ≤ k → IsFrom w.beyond k
  pub behind : (b : ℕ) → w.beyond ≡ Some b → (has_number s tasks b ≡ true) × (w.first + WIDTH ≤ b)
  pub index : w.index ≤ WIDTH
  pub small : (k : ℕ) → has_number s tasks k ≡ true → k < 2 ^ 64

-- a window from this number on
abbrev pub blank : ℕ → Window
blank first = record { first = first; marks = replicate WIDTH BLANK; reach = 0; beyond = None; index = 0 }

-- no place was asked for of a window from this number on
abbrev pub IsFresh : Window → ℕ → Type 0
IsFresh w first = (w.first ≡ first) × (w.index ≡ 0)

-- the lesser of the best number so far and this one
abbrev pub lesser : Option ℕ → ℕ → Option ℕ
lesser None k = Some k
lesser (Some best) k = if nat_le best k then Some best else Some k

-- the window with a task more, that counts and whose place is at this index
abbrev pub noted_at : Service → Task → ℕ → Window → Window
noted_at s x i w = record w { marks = set w.marks i (mark_with s x (mark_at w i)); reach = max w.reach (i + 1) }

-- the window with a task more, whose place has this number
abbrev pub noted : Service → Task → ℕ → Window → Window
noted s x k w =
    if not (counts_for s x) || nat_lt k w.first then w
    else if nat_lt (k - w.first) WIDTH then noted_at s x (k - w.first) w
    else record w { beyond = lesser w.beyond k }

-- no place from the next one on and before this index has a task
abbrev pub NoneBefore : ℕ → Window → Type 0
NoneBefore end w = (i : ℕ) → w.index ≤ i → i < end → i < WIDTH → (mark_at w i).has_task ≡ false

-- the next place that has a task is at this index
pub record IsNext (w : Window) (i : ℕ) : Type 0 where
  pub from : w.index ≤ i
  pub within : i < WIDTH
  pub has_task : (mark_at w i).has_task ≡ true
  pub none_before : NoneBefore i w

-- the place at this index
abbrev pub slot_at : Window → ℕ → Slot
slot_at w i = record {
  number = (w.first + i) % 2 ^ 64;
  is_live = (mark_at w i).is_live;
  is_held = (mark_at w i).is_live || (mark_at w i).is_closed;
}

-- the places that are left, from the next one on
abbrev pub rest : Window → Service → List Task → List Slot
rest w s tasks = slots_from (w.first + w.index) s tasks

-- no place is left in the window
abbrev pub IsOut : Window → Service → List Task → Type 0
IsOut w s tasks = (k : ℕ) → has_number s tasks k ≡ true → w.first + w.index ≤ k → w.first + WIDTH ≤ k

-- the next place comes first of what is left, or none is left in the window and nothing changes
abbrev pub GivesNext : Window → Window → Option Slot → Service → List Task → Type 0
GivesNext old new (Some slot) s tasks = rest old s tasks ≡ slot ∷ rest new s tasks
GivesNext old new None s tasks = (new ≡ old) × IsOut old s tasks

-- the window goes on to the next place, and shows the same
pub record Steps (old new : Window) (next : Option Slot) (s : Service) (tasks : List Task) : Type 0 where
  pub shows : Shows new s tasks
  pub gives : GivesNext old new next s tasks

-- what is left of the places when the next one was given, and the window still shows them
pub record IsNextPlace (old new : Window) (next : Option Slot) (s : Service) (tasks : List Task) : Type 0 where
  pub shows : Shows new s tasks
  pub left : YieldsFirst (λ it. it) (rest old s tasks) next (rest new s tasks)
