-- The rules of services, in the order in which they are tested.
use Rattle.std.specs.Prelude.{Bool, false, ◌||◌, List, [], ◌∷◌, nat_lt, ◌==◌, ℕ, length, Option, Some, None, ◌&&◌}
use Rattle.std.specs.Prelude.{true, not, ◌++◌, find}
use Rattle.std.specs.List.{list_any}
use Rattle.std.specs.Str.{bytes_eq}
use Rattle.swarm_objects.specs.Limits.{most_replicas, longest_time, most_cpu, most_mem, most_items, most_ratio}
use Rattle.swarm_objects.specs.Same.{same_bool}
use Rattle.swarm_objects.specs.declared.rules.SpecRule.{SpecRule}
use Rattle.swarm_objects.specs.declared.rules.SpecRule.TheVariants.{Replicas, Concurrent, Time, Reservation, Count, Ports, Spread, Ratio}
use Rattle.swarm_objects.specs.declared.services.Draft.{Draft}
use Rattle.swarm_objects.specs.declared.services.Mode.{Mode}
use Rattle.swarm_objects.specs.declared.services.Mode.TheVariants as mode
use Rattle.swarm_objects.specs.declared.services.ServiceSpec.{ServiceSpec}
use Rattle.swarm_objects.specs.declared.templates.End.{End}
use Rattle.swarm_objects.specs.declared.templates.End.TheVariants as end
use Rattle.swarm_objects.specs.declared.templates.Key.{Key}
use Rattle.swarm_objects.specs.declared.templates.Key.TheVariants as key
use Rattle.swarm_objects.specs.declared.templates.Port.{Port}
use Rattle.swarm_objects.specs.declared.templates.Template.{Template}
use Rattle.swarm_objects.specs.declared.templates.Workload.{Workload}

-- two items of the list are alike
abbrev pub has_alike : {X : Type 0} → (X → X → Bool) → List X → Bool
has_alike alike [] = false
has_alike alike (x ∷ xs) = list_any (alike x) xs || has_alike alike xs

-- replicas, or the tasks of a job
abbrev pub wants_too_many : Mode → Bool
wants_too_many (mode.Replicated n) = nat_lt most_replicas n
wants_too_many mode.Global = false
wants_too_many (mode.Job concurrent total) = nat_lt most_replicas total

-- a job of no tasks, or of none at a time
abbrev pub is_empty_job : Mode → Bool
is_empty_job (mode.Replicated n) = false
is_empty_job mode.Global = false
is_empty_job (mode.Job concurrent total) = concurrent == 0 || total == 0

abbrev pub is_too_long : ℕ → Bool
is_too_long time = nat_lt longest_time time

-- a time of a workload is at least 1
abbrev pub is_wrong_work_time : ℕ → Bool
is_wrong_work_time time = time == 0 || is_too_long time

abbrev pub has_wrong_exit : End → Bool
has_wrong_exit end.Never = false
has_wrong_exit (end.Exit time code) = is_wrong_work_time time
has_wrong_exit end.Reject = false

abbrev pub has_wrong_work : Workload → Bool
has_wrong_work w =
    is_wrong_work_time w.prepare || is_wrong_work_time w.start || is_wrong_work_time w.stop || has_wrong_exit w.end

-- a time that is too long, or one of the workload that is 0
abbrev pub has_wrong_time : ServiceSpec → Bool
has_wrong_time s =
    has_wrong_work s.template.workload
    || is_too_long s.template.restart.delay
    || is_too_long s.template.restart.window
    || is_too_long s.update.delay
    || is_too_long s.update.monitor

abbrev pub reserves_too_much : Template → Bool
reserves_too_much t = nat_lt most_cpu t.cpu || nat_lt most_mem t.mem

abbrev pub is_too_many : ℕ → Bool
is_too_many items = nat_lt most_items items

-- a field with too many items, or a network that is named twice
abbrev pub has_too_many_items : Draft → Bool
has_too_many_items d =
    is_too_many (length d.spec.template.constraints)
    || is_too_many (length d.spec.template.spread)
    || is_too_many (length d.spec.template.platforms)
    || is_too_many (length d.networks)
    || is_too_many (length d.spec.ports)
    || is_too_many (length d.spec.template.host_ports)

abbrev pub names_twice : List (List ℕ) → Bool
names_twice names = has_alike bytes_eq names

abbrev pub is_zero : Option ℕ → Bool
is_zero None = false
is_zero (Some n) = n == 0

-- a port whose target or number is 0
abbrev pub is_zero_port : Port → Bool
is_zero_port p = p.target == 0 || is_zero p.number

-- the same number; a number that isn't there is none
abbrev pub shares_number : Option ℕ → Option ℕ → Bool
shares_number None b = false
shares_number (Some a) None = false
shares_number (Some a) (Some b) = a == b

-- host ports of one protocol and number
abbrev pub is_host_clash : Port → Port → Bool
is_host_clash a b = same_bool a.udp b.udp && shares_number a.number b.number

-- ingress ports of one protocol, and of one target or number
abbrev pub is_ingress_clash : Port → Port → Bool
is_ingress_clash a b = same_bool a.udp b.udp && (a.target == b.target || shares_number a.number b.number)

abbrev pub has_wrong_ingress : List Port → Bool
has_wrong_ingress ports = list_any is_zero_port ports || has_alike is_ingress_clash ports

abbrev pub has_wrong_hosts : List Port → Bool
has_wrong_hosts ports = list_any is_zero_port ports || has_alike is_host_clash ports

abbrev pub is_label : Key → Bool
is_label (key.Label name) = true
is_label (key.Engine name) = true
is_label _ = false

-- the draft breaks this rule
abbrev pub service_breaks : Draft → SpecRule → Bool
service_breaks d Replicas = wants_too_many d.spec.mode
service_breaks d Concurrent = is_empty_job d.spec.mode
service_breaks d Time = has_wrong_time d.spec
service_breaks d Reservation = reserves_too_much d.spec.template
service_breaks d Count = has_too_many_items d || names_twice d.networks
service_breaks d Ports = has_wrong_ingress d.spec.ports || has_wrong_hosts d.spec.template.host_ports
service_breaks d Spread = list_any (λ k. not (is_label k)) d.spec.template.spread
service_breaks d Ratio = nat_lt most_ratio d.spec.update.ratio
service_breaks d _ = false

-- how much, and for how long
abbrev pub extent_rules : List SpecRule
extent_rules = Replicas ∷ Concurrent ∷ Time ∷ Reservation ∷ []

-- what the fields hold
abbrev pub field_rules : List SpecRule
field_rules = Count ∷ Ports ∷ Spread ∷ Ratio ∷ []

abbrev pub service_rules : List SpecRule
service_rules = extent_rules ++ field_rules

-- the rule that the draft breaks first
abbrev pub broken_rule : Draft → Option SpecRule
broken_rule draft = find (service_breaks draft) service_rules
