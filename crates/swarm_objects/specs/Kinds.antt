-- The kinds of duty, the control loop of each, and when two duties are the same.
use Rattle.std.specs.Prelude.{ℕ, Bool, true, false, List, [], ◌∷◌, nat_eq, ◌&&◌, Option, Some, None}
use Rattle.std.specs.Str.{bytes_eq}
use Rattle.swarm_objects.specs.declared.duties.Duty.{Duty}
use Rattle.swarm_objects.specs.declared.duties.Duty.TheVariants as duty
use Rattle.swarm_objects.specs.declared.duties.Settle.{Settle}
use Rattle.swarm_objects.specs.declared.duties.Settle.TheVariants.{Busy}
use Rattle.swarm_objects.specs.declared.loops.Role.{Role}
use Rattle.swarm_objects.specs.declared.loops.Role.TheVariants as role

abbrev pub role_of : Duty → Role
role_of (duty.Expire n) = role.Dispatcher
role_of (duty.Orphan x) = role.Dispatcher
role_of (duty.Reject x) = role.Enforcer
role_of (duty.Restart x) = role.Restart
role_of (duty.Raise x) = role.Restart
role_of (duty.Start s) = role.Update
role_of (duty.Fail s) = role.Update
role_of (duty.Swap s p) = role.Update
role_of (duty.Replace s p) = role.Update
role_of (duty.Finish s) = role.Update
role_of (duty.Gone x) = role.Replicated
role_of (duty.Down s k) = role.Replicated
role_of (duty.ReplicatedCreate s k) = role.Replicated
role_of (duty.Leave s n) = role.Global
role_of (duty.GlobalCreate s n) = role.Global
role_of (duty.Old x) = role.Job
role_of (duty.JobCreate s k) = role.Job
role_of (duty.Port s target udp) = role.Allocator
role_of (duty.Address x) = role.Allocator
role_of (duty.Note x) = role.Allocator
role_of (duty.Drop x) = role.Scheduler
role_of (duty.Place x n) = role.Scheduler
role_of (duty.Explain x) = role.Scheduler
role_of (duty.Delete x) = role.Reaper
role_of (duty.Trim x) = role.Reaper
role_of (duty.Register n) = role.Agents
role_of (duty.Beat n) = role.Agents
role_of (duty.Apply n) = role.Agents
role_of (duty.Pull n) = role.Agents
role_of (duty.Exec n x) = role.Agents
role_of (duty.Report n x) = role.Agents
role_of (duty.Forget n x) = role.Agents

-- the place of its kind among all kinds, loop after loop
abbrev pub kind_place : Duty → ℕ
kind_place (duty.Expire n) = 0
kind_place (duty.Orphan x) = 1
kind_place (duty.Reject x) = 2
kind_place (duty.Restart x) = 3
kind_place (duty.Raise x) = 4
kind_place (duty.Start s) = 5
kind_place (duty.Fail s) = 6
kind_place (duty.Swap s p) = 7
kind_place (duty.Replace s p) = 8
kind_place (duty.Finish s) = 9
kind_place (duty.Gone x) = 10
kind_place (duty.Down s k) = 11
kind_place (duty.ReplicatedCreate s k) = 12
kind_place (duty.Leave s n) = 13
kind_place (duty.GlobalCreate s n) = 14
kind_place (duty.Old x) = 15
kind_place (duty.JobCreate s k) = 16
kind_place (duty.Port s target udp) = 17
kind_place (duty.Address x) = 18
kind_place (duty.Note x) = 19
kind_place (duty.Drop x) = 20
kind_place (duty.Place x n) = 21
kind_place (duty.Explain x) = 22
kind_place (duty.Delete x) = 23
kind_place (duty.Trim x) = 24
kind_place (duty.Register n) = 25
kind_place (duty.Beat n) = 26
kind_place (duty.Apply n) = 27
kind_place (duty.Pull n) = 28
kind_place (duty.Exec n x) = 29
kind_place (duty.Report n x) = 30
kind_place (duty.Forget n x) = 31

-- yes is 1, and no is 0
abbrev pub bit : Bool → ℕ
bit true = 1
bit false = 0

abbrev pub duty_numbers : Duty → List ℕ
duty_numbers (duty.Expire n) = n ∷ []
duty_numbers (duty.Orphan x) = x ∷ []
duty_numbers (duty.Reject x) = x ∷ []
duty_numbers (duty.Restart x) = x ∷ []
duty_numbers (duty.Raise x) = x ∷ []
duty_numbers (duty.Start s) = s ∷ []
duty_numbers (duty.Fail s) = s ∷ []
duty_numbers (duty.Swap s p) = s ∷ p ∷ []
duty_numbers (duty.Replace s p) = s ∷ p ∷ []
duty_numbers (duty.Finish s) = s ∷ []
duty_numbers (duty.Gone x) = x ∷ []
duty_numbers (duty.Down s k) = s ∷ k ∷ []
duty_numbers (duty.ReplicatedCreate s k) = s ∷ k ∷ []
duty_numbers (duty.Leave s n) = s ∷ n ∷ []
duty_numbers (duty.GlobalCreate s n) = s ∷ n ∷ []
duty_numbers (duty.Old x) = x ∷ []
duty_numbers (duty.JobCreate s k) = s ∷ k ∷ []
duty_numbers (duty.Port s target udp) = s ∷ target ∷ bit udp ∷ []
duty_numbers (duty.Address x) = x ∷ []
duty_numbers (duty.Note x) = x ∷ []
duty_numbers (duty.Drop x) = x ∷ []
duty_numbers (duty.Place x n) = x ∷ n ∷ []
duty_numbers (duty.Explain x) = x ∷ []
duty_numbers (duty.Delete x) = x ∷ []
duty_numbers (duty.Trim x) = x ∷ []
duty_numbers (duty.Register n) = n ∷ []
duty_numbers (duty.Beat n) = n ∷ []
duty_numbers (duty.Apply n) = n ∷ []
duty_numbers (duty.Pull n) = n ∷ []
duty_numbers (duty.Exec n x) = n ∷ x ∷ []
duty_numbers (duty.Report n x) = n ∷ x ∷ []
duty_numbers (duty.Forget n x) = n ∷ x ∷ []

abbrev pub same_duty : Duty → Duty → Bool
same_duty d e = nat_eq (kind_place d) (kind_place e) && bytes_eq (duty_numbers d) (duty_numbers e)

-- the control loops, in their order
abbrev pub roles : List Role
roles =
    role.Dispatcher
    ∷ role.Enforcer
    ∷ role.Restart
    ∷ role.Update
    ∷ role.Replicated
    ∷ role.Global
    ∷ role.Job
    ∷ role.Allocator
    ∷ role.Scheduler
    ∷ role.Reaper
    ∷ role.Agents
    ∷ []

-- the duty that an answer names
abbrev pub duty_named : Settle → Option Duty
duty_named (Busy d) = Some d
duty_named _ = None
