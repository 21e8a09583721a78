-- Duties as a machine that reads words, behind the word `duty`.
use Rattle.std.specs.Prelude.{ℕ, List, codes, Bool, true, false, if◌then◌else◌, Option, Some, None, find}
use Rattle.std.specs.Str.{bytes_eq}
use Rattle.swarm_objects.specs.Kinds.{roles}
use Rattle.swarm_objects.specs.DutyTexts.{loop_word}
use Rattle.swarm_objects.specs.declared.loops.Role.{Role}
use Rattle.swarm_objects.specs.declared.loops.Role.TheVariants as role
use Rattle.swarm_objects.specs.declared.duties.Duty.{Duty}
use Rattle.swarm_objects.specs.declared.duties.Duty.TheVariants as duty
use Rattle.script_grammar.specs.declared.duties.OneNumber.{OneNumber}
use Rattle.script_grammar.specs.declared.duties.OneNumber.TheVariants as one
use Rattle.script_grammar.specs.declared.duties.TwoNumbers.{TwoNumbers}
use Rattle.script_grammar.specs.declared.duties.TwoNumbers.TheVariants as two
use Rattle.script_grammar.specs.declared.duties.DutyState.{DutyState}
use Rattle.script_grammar.specs.declared.duties.DutyState.TheVariants as state
use Rattle.script_grammar.specs.Machines.{Machine}
use Rattle.script_grammar.specs.Words.{number_of, port_number, ◌>>=◌}

abbrev pub loop_of : List ℕ → Option Role
loop_of word = find (λ r. bytes_eq (loop_word r) word) roles

-- the kinds of a loop's duties
abbrev pub kind_of : Role → List ℕ → Option DutyState
kind_of role.Dispatcher word =
    if bytes_eq word (codes "expire") then Some (state.One one.Expire)
    else if bytes_eq word (codes "orphan") then Some (state.One one.Orphan)
    else None
kind_of role.Enforcer word = if bytes_eq word (codes "reject") then Some (state.One one.Reject) else None
kind_of role.Restart word =
    if bytes_eq word (codes "restart") then Some (state.One one.Restart)
    else if bytes_eq word (codes "raise") then Some (state.One one.Raise)
    else None
kind_of role.Update word =
    if bytes_eq word (codes "start") then Some (state.One one.Start)
    else if bytes_eq word (codes "fail") then Some (state.One one.Fail)
    else if bytes_eq word (codes "swap") then Some (state.Two two.Swap)
    else if bytes_eq word (codes "replace") then Some (state.Two two.Replace)
    else if bytes_eq word (codes "finish") then Some (state.One one.Finish)
    else None
kind_of role.Replicated word =
    if bytes_eq word (codes "gone") then Some (state.One one.Gone)
    else if bytes_eq word (codes "down") then Some (state.Two two.Down)
    else if bytes_eq word (codes "create") then Some (state.Two two.ReplicatedCreate)
    else None
kind_of role.Global word =
    if bytes_eq word (codes "leave") then Some (state.Two two.Leave)
    else if bytes_eq word (codes "create") then Some (state.Two two.GlobalCreate)
    else None
kind_of role.Job word =
    if bytes_eq word (codes "old") then Some (state.One one.Old)
    else if bytes_eq word (codes "create") then Some (state.Two two.JobCreate)
    else None
kind_of role.Allocator word =
    if bytes_eq word (codes "port") then Some state.Port
    else if bytes_eq word (codes "address") then Some (state.One one.Address)
    else if bytes_eq word (codes "note") then Some (state.One one.Note)
    else None
kind_of role.Scheduler word =
    if bytes_eq word (codes "drop") then Some (state.One one.Drop)
    else if bytes_eq word (codes "place") then Some (state.Two two.Place)
    else if bytes_eq word (codes "explain") then Some (state.One one.Explain)
    else None
kind_of role.Reaper word =
    if bytes_eq word (codes "delete") then Some (state.One one.Delete)
    else if bytes_eq word (codes "trim") then Some (state.One one.Trim)
    else None
kind_of role.Agents word =
    if bytes_eq word (codes "register") then Some (state.One one.Register)
    else if bytes_eq word (codes "beat") then Some (state.One one.Beat)
    else if bytes_eq word (codes "apply") then Some (state.One one.Apply)
    else if bytes_eq word (codes "pull") then Some (state.One one.Pull)
    else if bytes_eq word (codes "exec") then Some (state.Two two.Exec)
    else if bytes_eq word (codes "report") then Some (state.Two two.Report)
    else if bytes_eq word (codes "forget") then Some (state.Two two.Forget)
    else None

abbrev pub one_duty : OneNumber → ℕ → Duty
one_duty one.Expire n = duty.Expire n
one_duty one.Orphan n = duty.Orphan n
one_duty one.Reject n = duty.Reject n
one_duty one.Restart n = duty.Restart n
one_duty one.Raise n = duty.Raise n
one_duty one.Start n = duty.Start n
one_duty one.Fail n = duty.Fail n
one_duty one.Finish n = duty.Finish n
one_duty one.Gone n = duty.Gone n
one_duty one.Old n = duty.Old n
one_duty one.Address n = duty.Address n
one_duty one.Note n = duty.Note n
one_duty one.Drop n = duty.Drop n
one_duty one.Explain n = duty.Explain n
one_duty one.Delete n = duty.Delete n
one_duty one.Trim n = duty.Trim n
one_duty one.Register n = duty.Register n
one_duty one.Beat n = duty.Beat n
one_duty one.Apply n = duty.Apply n
one_duty one.Pull n = duty.Pull n

abbrev pub two_duty : TwoNumbers → ℕ → ℕ → Duty
two_duty two.Swap a b = duty.Swap a b
two_duty two.Replace a b = duty.Replace a b
two_duty two.Down a b = duty.Down a b
two_duty two.ReplicatedCreate a b = duty.ReplicatedCreate a b
two_duty two.Leave a b = duty.Leave a b
two_duty two.GlobalCreate a b = duty.GlobalCreate a b
two_duty two.JobCreate a b = duty.JobCreate a b
two_duty two.Place a b = duty.Place a b
two_duty two.Exec a b = duty.Exec a b
two_duty two.Report a b = duty.Report a b
two_duty two.Forget a b = duty.Forget a b

-- 1 is yes, and 0 is no
abbrev pub bit_of : List ℕ → Option Bool
bit_of word = if bytes_eq word (codes "1") then Some true else if bytes_eq word (codes "0") then Some false else None

-- one word more
abbrev pub duty_step : DutyState → List ℕ → Option DutyState
duty_step state.Opening word = loop_of word >>= λ r. Some (state.Loop r)
duty_step (state.Loop r) word = kind_of r word
duty_step (state.One k) word = number_of word >>= λ n. Some (state.Done (one_duty k n))
duty_step (state.Two k) word = number_of word >>= λ n. Some (state.Second k n)
duty_step (state.Second k a) word = number_of word >>= λ n. Some (state.Done (two_duty k a n))
duty_step state.Port word = number_of word >>= λ n. Some (state.PortTarget n)
duty_step (state.PortTarget s) word = port_number word >>= λ n. Some (state.PortProtocol s n)
duty_step (state.PortProtocol s target) word = bit_of word >>= λ udp. Some (state.Done (duty.Port s target udp))
duty_step (state.Done d) word = None

-- the duty, where it is whole
abbrev pub duty_whole : DutyState → Option Duty
duty_whole (state.Done d) = Some d
duty_whole s = None

-- the grammar of duties
abbrev pub duty_grammar : Machine DutyState Duty
duty_grammar = record { start = state.Opening; step = duty_step; whole = duty_whole }
