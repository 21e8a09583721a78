-- What a line of a script asks for, and the entries of callers.
use Rattle.std.specs.Prelude.{ℕ, ◌-◌, Bool, min, ◌%◌, ◌==◌, List, filter, false, nat_le, ◌&&◌, ◌||◌, true, not, count_by, is_some}
use Rattle.swarm_model.specs.Settle.{settle_answer}
use Rattle.swarm_objects.specs.Kinds.{duty_named, roles, role_of}
use Rattle.swarm_objects.specs.World.{World}
use Rattle.swarm_objects.specs.declared.calls.Call.{Call}
use Rattle.swarm_objects.specs.declared.calls.Entry.{Entry}
use Rattle.swarm_objects.specs.declared.calls.What.{What}
use Rattle.swarm_objects.specs.declared.calls.What.TheVariants as what
use Rattle.swarm_objects.specs.declared.duties.Duty.{Duty}
use Rattle.swarm_objects.specs.declared.duties.Settle.{Settle}
use Rattle.swarm_objects.specs.declared.duties.Settle.TheVariants as settle
use Rattle.swarm_objects.specs.declared.loops.Role.{Role}
use Rattle.swarm_objects.specs.declared.loops.Role.TheVariants as role

-- what a line asks for; a line that is blank asks for nothing
pub data Asked : Type 0 where
  Nothing : Asked
  Asks : Call → Asked
  Settles : ℕ → Asked
  Waits : ℕ → Asked

-- Callers.

-- the place of a role among all
abbrev pub role_place : Role → ℕ
role_place role.Dispatcher = 0
role_place role.Enforcer = 1
role_place role.Restart = 2
role_place role.Update = 3
role_place role.Replicated = 4
role_place role.Global = 5
role_place role.Job = 6
role_place role.Allocator = 7
role_place role.Scheduler = 8
role_place role.Reaper = 9
role_place role.Agents = 10

-- the role is one of worker i of so many, i from 1
abbrev pub is_share : ℕ → ℕ → Role → Bool
is_share i workers r = role_place r % min workers 11 == (i - 1) % min workers 11

abbrev pub share : ℕ → ℕ → List Role
share i workers = filter (is_share i workers) roles

-- a duty of one of the caller's roles
abbrev pub is_shared : ℕ → ℕ → What → Bool
is_shared by workers (what.Call c) = false
is_shared by workers (what.Duty d) = nat_le by workers && is_share by workers (role_of d)

-- caller 0's entry, or a worker's duty of its share; there is no other caller
abbrev pub is_of_a_caller : ℕ → Entry → Bool
is_of_a_caller workers e = e.by == 0 || is_shared e.by workers e.what

abbrev pub is_duty_entry : What → Bool
is_duty_entry (what.Call c) = false
is_duty_entry (what.Duty d) = true

abbrev pub is_own_duty : Entry → Bool
is_own_duty e = e.by == 0 && is_duty_entry e.what

abbrev pub is_own_call : Entry → Bool
is_own_call e = e.by == 0 && not (is_duty_entry e.what)

-- how many of the duties are caller 0's
abbrev pub own_duties : List Entry → ℕ
own_duties es = count_by is_own_duty es

abbrev pub own_call : Call → Entry
own_call c = record { by = 0; what = what.Call c }

abbrev pub own_duty : Duty → Entry
own_duty d = record { by = 0; what = what.Duty d }

-- The settle test.

abbrev pub is_busy : World → Bool
is_busy w = is_some (duty_named (settle_answer w))

-- Wait lines.

-- the most duties of a stretch; one with so many is full
abbrev pub full_stretch : ℕ
full_stretch = 100000

-- the time till what is waited for
abbrev pub time_till : ℕ → Settle → ℕ → ℕ
time_till clock (settle.Waiting time why id) most = min most (time - clock)
time_till clock _ most = most

-- the least of 1,000, what is left, and the time till what is waited for
abbrev pub next_tick : World → ℕ → ℕ
next_tick w left = time_till w.tables.clock (settle_answer w) (min 1000 left)
