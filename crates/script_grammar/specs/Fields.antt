-- The fields of lines: what a word says, and the one spelling of each.
use Rattle.std.specs.Prelude.{ℕ, List, [], ◌∷◌, ◌++◌, codes, decimal, Bool, true, false, if◌then◌else◌, Option, Some, None, find}
use Rattle.std.specs.Str.{bytes_eq}
use Rattle.swarm_objects.specs.declared.services.Mode.{Mode}
use Rattle.swarm_objects.specs.declared.services.Mode.TheVariants as mode
use Rattle.swarm_objects.specs.declared.templates.End.{End}
use Rattle.swarm_objects.specs.declared.templates.End.TheVariants as end
use Rattle.swarm_objects.specs.declared.templates.Port.{Port}
use Rattle.swarm_objects.specs.declared.templates.RestartCondition.{RestartCondition}
use Rattle.swarm_objects.specs.declared.templates.RestartCondition.TheVariants as condition
use Rattle.swarm_objects.specs.declared.services.FailureAction.{FailureAction}
use Rattle.swarm_objects.specs.declared.services.FailureAction.TheVariants as action
use Rattle.swarm_objects.specs.declared.services.UpdateOrder.{UpdateOrder}
use Rattle.swarm_objects.specs.declared.services.UpdateOrder.TheVariants as order
use Rattle.swarm_objects.specs.declared.nodes.NodeRole.TheVariants as role
use Rattle.swarm_objects.specs.declared.nodes.Availability.{Availability}
use Rattle.swarm_objects.specs.declared.nodes.Availability.TheVariants as availability
use Rattle.swarm_objects.specs.Values.Texts.{role_text}
use Rattle.script_grammar.specs.declared.fields.NumberField.{NumberField}
use Rattle.script_grammar.specs.declared.fields.NumberField.TheVariants as number
use Rattle.script_grammar.specs.declared.fields.Field.{Field}
use Rattle.script_grammar.specs.declared.fields.Field.TheVariants as field
use Rattle.swarm_filters.specs.Keys.{key_of}
use Rattle.swarm_filters.specs.Machine.{constraint_of}
use Rattle.swarm_filters.specs.Spellings.{constraint_text, key_text}
use Rattle.script_grammar.specs.Words.{byte_number, name_of, number_of, port_number, split_at, ◌>>=◌}

-- ## Fields that hold a number

abbrev pub number_word : NumberField → List ℕ
number_word number.Prepare = codes "prepare"
number_word number.Start = codes "start"
number_word number.Stop = codes "stop"
number_word number.Cpu = codes "cpu"
number_word number.Mem = codes "mem"
number_word number.MaxReplicas = codes "max-replicas"
number_word number.RestartDelay = codes "restart-delay"
number_word number.RestartMax = codes "restart-max"
number_word number.RestartWindow = codes "restart-window"
number_word number.Parallelism = codes "parallelism"
number_word number.UpdateDelay = codes "update-delay"
number_word number.Monitor = codes "monitor"
number_word number.Ratio = codes "ratio"
number_word number.Heartbeat = codes "heartbeat"
number_word number.Orphan = codes "orphan"
number_word number.History = codes "history"

abbrev pub number_fields : List NumberField
number_fields =
    number.Prepare ∷ number.Start ∷ number.Stop ∷ number.Cpu ∷ number.Mem ∷ number.MaxReplicas ∷
    number.RestartDelay ∷ number.RestartMax ∷ number.RestartWindow ∷ number.Parallelism ∷ number.UpdateDelay ∷
    number.Monitor ∷ number.Ratio ∷ number.Heartbeat ∷ number.Orphan ∷ number.History ∷ []

abbrev pub number_field : List ℕ → Option NumberField
number_field word = find (λ f. bytes_eq (number_word f) word) number_fields

-- ## The other fields' values

-- CONCURRENT/TOTAL
abbrev pub job_of : List ℕ → Option Field
job_of text = do
  parts ← split_at 47 text
  concurrent ← number_of parts.0
  total ← number_of parts.1
  Some (field.Mode (mode.Job concurrent total))

-- MS:CODE
abbrev pub exit_of : List ℕ → Option Field
exit_of text = do
  parts ← split_at 58 text
  ms ← number_of parts.0
  code ← byte_number parts.1
  Some (field.End (end.Exit ms code))

-- two names with a byte between them
abbrev pub two_names : ℕ → List ℕ → Option (List ℕ × List ℕ)
two_names sep text = do
  parts ← split_at sep text
  left ← name_of parts.0
  right ← name_of parts.1
  Some (left, right)

abbrev pub names_of : ℕ → (List ℕ → List ℕ → Field) → List ℕ → Option Field
names_of sep make text = two_names sep text >>= λ names. Some (make names.0 names.1)

abbrev pub platform_field : List ℕ → List ℕ → Field
platform_field os arch = field.Platform (record { os = os; arch = arch })

abbrev pub named : (List ℕ → Field) → List ℕ → Option Field
named make text = name_of text >>= λ name. Some (make name)

abbrev pub port_with : Bool → List ℕ → Option Port
port_with udp text = elim (split_at 58 text) [
  | None ↦ port_number text >>= λ target. Some (record { target = target; number = None; udp = udp })
  | Some parts ↦ port_number parts.0 >>= λ target. port_number parts.1
      >>= λ n. Some (record { target = target; number = Some n; udp = udp })
]

-- TARGET or TARGET:NUMBER, with /udp at the end for UDP
abbrev pub port_of : List ℕ → Option Port
port_of text = elim (split_at 47 text) [
  | None ↦ port_with false text
  | Some parts ↦ if bytes_eq parts.1 (codes "udp") then port_with true parts.0 else None
]

-- a host port has its number
abbrev pub host_of : Port → Option Field
host_of port = elim port.number [ Some n ↦ Some (field.Host port) | None ↦ None ]

abbrev pub condition_of : List ℕ → Option Field
condition_of text =
    if bytes_eq text (codes "none") then Some (field.Restart condition.Never)
    else if bytes_eq text (codes "on-failure") then Some (field.Restart condition.OnFailure)
    else if bytes_eq text (codes "any") then Some (field.Restart condition.Any)
    else None

abbrev pub failure_of : List ℕ → Option Field
failure_of text =
    if bytes_eq text (codes "pause") then Some (field.Failure action.Pause)
    else if bytes_eq text (codes "continue") then Some (field.Failure action.Continue)
    else if bytes_eq text (codes "rollback") then Some (field.Failure action.Rollback)
    else None

abbrev pub order_of : List ℕ → Option Field
order_of text =
    if bytes_eq text (codes "stop-first") then Some (field.Order order.StopFirst)
    else if bytes_eq text (codes "start-first") then Some (field.Order order.StartFirst)
    else None

abbrev pub role_of : List ℕ → Option Field
role_of text =
    if bytes_eq text (codes "worker") then Some (field.Role role.Worker)
    else if bytes_eq text (codes "manager") then Some (field.Role role.Manager)
    else None

abbrev pub availability_of : List ℕ → Option Field
availability_of text =
    if bytes_eq text (codes "active") then Some (field.Availability availability.Active)
    else if bytes_eq text (codes "pause") then Some (field.Availability availability.Pause)
    else if bytes_eq text (codes "drain") then Some (field.Availability availability.Drain)
    else None

-- ## A field's word

-- the values that are no names
abbrev pub flat_field : List ℕ → List ℕ → Option Field
flat_field k v =
    if bytes_eq k (codes "replicas") then (number_of v >>= λ n. Some (field.Mode (mode.Replicated n)))
    else if bytes_eq k (codes "job") then job_of v
    else if bytes_eq k (codes "exit") then exit_of v
    else if bytes_eq k (codes "role") then role_of v
    else if bytes_eq k (codes "availability") then availability_of v
    else if bytes_eq k (codes "restart") then condition_of v
    else if bytes_eq k (codes "port") then (port_of v >>= λ p. Some (field.Port p))
    else if bytes_eq k (codes "host") then (port_of v >>= host_of)
    else if bytes_eq k (codes "failure") then failure_of v
    else if bytes_eq k (codes "order") then order_of v
    else None

abbrev pub constraint_field : List ℕ → Option Field
constraint_field v = constraint_of v >>= λ c. Some (field.Constraint c)

abbrev pub spread_field : List ℕ → Option Field
spread_field v = key_of v >>= λ s. Some (field.Spread s)

abbrev pub other_field : List ℕ → List ℕ → Option Field
other_field k v =
    if bytes_eq k (codes "label") then names_of 58 field.Label v
    else if bytes_eq k (codes "os") then named field.Os v
    else if bytes_eq k (codes "arch") then named field.Arch v
    else if bytes_eq k (codes "engine") then names_of 58 field.Engine v
    else if bytes_eq k (codes "constraint") then constraint_field v
    else if bytes_eq k (codes "spread") then spread_field v
    else if bytes_eq k (codes "platform") then names_of 47 platform_field v
    else if bytes_eq k (codes "net") then named field.Net v
    else flat_field k v

abbrev pub keyed_field : List ℕ → List ℕ → Option Field
keyed_field k v = elim (number_field k) [
  | Some which ↦ number_of v >>= λ n. Some (field.Number which n)
  | None ↦ other_field k v
]

abbrev pub field_of : List ℕ → Option Field
field_of word =
    if bytes_eq word (codes "global") then Some (field.Mode mode.Global)
    else if bytes_eq word (codes "reject") then Some (field.End end.Reject)
    else if bytes_eq word (codes "remote") then Some field.Remote
    else split_at 61 word >>= λ parts. keyed_field parts.0 parts.1

-- ## The spelling of a field

abbrev pub udp_text : Bool → List ℕ
udp_text true = codes "/udp"
udp_text false = []

abbrev pub port_text : Port → List ℕ
port_text port = elim (port.number) [
  | Some n ↦ decimal port.target ++ 58 ∷ (decimal n ++ udp_text port.udp)
  | None ↦ decimal port.target ++ udp_text port.udp
]

abbrev pub mode_text : Mode → List ℕ
mode_text (mode.Replicated n) = codes "replicas=" ++ decimal n
mode_text mode.Global = codes "global"
mode_text (mode.Job concurrent total) = codes "job=" ++ (decimal concurrent ++ 47 ∷ decimal total)

-- a workload that runs for ever has no field
abbrev pub end_text : End → List ℕ
end_text end.Never = []
end_text (end.Exit ms code) = codes "exit=" ++ (decimal ms ++ 58 ∷ decimal code)
end_text end.Reject = codes "reject"

abbrev pub condition_text : RestartCondition → List ℕ
condition_text condition.Never = codes "none"
condition_text condition.OnFailure = codes "on-failure"
condition_text condition.Any = codes "any"

abbrev pub failure_text : FailureAction → List ℕ
failure_text action.Pause = codes "pause"
failure_text action.Continue = codes "continue"
failure_text action.Rollback = codes "rollback"

abbrev pub order_text : UpdateOrder → List ℕ
order_text order.StopFirst = codes "stop-first"
order_text order.StartFirst = codes "start-first"

abbrev pub availability_text : Availability → List ℕ
availability_text availability.Active = codes "active"
availability_text availability.Pause = codes "pause"
availability_text availability.Drain = codes "drain"

-- the one spelling of a field
abbrev pub field_text : Field → List ℕ
field_text (field.Mode m) = mode_text m
field_text (field.End e) = end_text e
field_text (field.Number which n) = number_word which ++ 61 ∷ decimal n
field_text (field.Label k v) = codes "label=" ++ (k ++ 58 ∷ v)
field_text (field.Role r) = codes "role=" ++ role_text r
field_text (field.Availability a) = codes "availability=" ++ availability_text a
field_text (field.Os name) = codes "os=" ++ name
field_text (field.Arch name) = codes "arch=" ++ name
field_text (field.Engine k v) = codes "engine=" ++ (k ++ 58 ∷ v)
field_text field.Remote = codes "remote"
field_text (field.Constraint c) = codes "constraint=" ++ constraint_text c
field_text (field.Spread k) = codes "spread=" ++ key_text k
field_text (field.Platform p) = codes "platform=" ++ (p.os ++ 47 ∷ p.arch)
field_text (field.Net name) = codes "net=" ++ name
field_text (field.Restart c) = codes "restart=" ++ condition_text c
field_text (field.Port p) = codes "port=" ++ port_text p
field_text (field.Host p) = codes "host=" ++ port_text p
field_text (field.Failure a) = codes "failure=" ++ failure_text a
field_text (field.Order o) = codes "order=" ++ order_text o
