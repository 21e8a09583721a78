-- The words that replies have: those of states, availabilities and how an update stands are in capitals, the others
-- in small letters.
use Rattle.std.specs.Prelude.{ℕ, List, Bool, true, false, codes, Option, Some, None}
use Rattle.swarm_objects.specs.declared.duties.Cause.{Cause}
use Rattle.swarm_objects.specs.declared.duties.Cause.TheVariants as cause
use Rattle.swarm_objects.specs.declared.nodes.Availability.{Availability}
use Rattle.swarm_objects.specs.declared.nodes.Availability.TheVariants.{Active, Pause, Drain}
use Rattle.swarm_objects.specs.declared.nodes.NodeState.{NodeState}
use Rattle.swarm_objects.specs.declared.nodes.NodeState.TheVariants.{Unknown, Down, Ready, Disconnected}
use Rattle.swarm_objects.specs.declared.services.Mode.{Mode}
use Rattle.swarm_objects.specs.declared.services.Mode.TheVariants as mode
use Rattle.swarm_objects.specs.declared.services.RunStatus.{RunStatus}
use Rattle.swarm_objects.specs.declared.services.RunStatus.TheVariants as status
use Rattle.swarm_objects.specs.declared.rules.SpecRule.{SpecRule}
use Rattle.swarm_objects.specs.declared.rules.SpecRule.TheVariants.{Replicas, Concurrent, Time, Reservation, Count, Ports, Spread, Ratio, Resources, Subnet, Settings}
use Rattle.swarm_objects.specs.declared.tasks.Desired.{Desired}
use Rattle.swarm_objects.specs.declared.tasks.Desired.TheVariants as Wanted
use Rattle.swarm_objects.specs.declared.watches.Verb.{Verb}
use Rattle.swarm_objects.specs.declared.watches.Verb.TheVariants as verb

abbrev pub availability_word : Availability → List ℕ
availability_word Active = codes "ACTIVE"
availability_word Pause = codes "PAUSE"
availability_word Drain = codes "DRAIN"

abbrev pub state_word : NodeState → List ℕ
state_word Unknown = codes "UNKNOWN"
state_word Down = codes "DOWN"
state_word Ready = codes "READY"
state_word Disconnected = codes "DISCONNECTED"

abbrev pub rule_word : SpecRule → List ℕ
rule_word Replicas = codes "replicas"
rule_word Concurrent = codes "concurrent"
rule_word Time = codes "time"
rule_word Reservation = codes "reservation"
rule_word Count = codes "count"
rule_word Ports = codes "ports"
rule_word Spread = codes "spread"
rule_word Ratio = codes "ratio"
rule_word Resources = codes "resources"
rule_word Subnet = codes "subnet"
rule_word Settings = codes "settings"

abbrev pub desired_word : Desired → List ℕ
desired_word Wanted.Ready = codes "READY"
desired_word Wanted.Running = codes "RUNNING"
desired_word Wanted.Complete = codes "COMPLETE"
desired_word Wanted.Shutdown = codes "SHUTDOWN"
desired_word Wanted.Remove = codes "REMOVE"

abbrev pub mode_word : Mode → List ℕ
mode_word (mode.Replicated replicas) = codes "replicated"
mode_word mode.Global = codes "global"
mode_word (mode.Job concurrent total) = codes "job"

abbrev pub status_word : RunStatus → List ℕ
status_word status.Updating = codes "UPDATING"
status_word status.Paused = codes "PAUSED"
status_word status.Completed = codes "COMPLETED"
status_word status.RollbackStarted = codes "ROLLBACK_STARTED"
status_word status.RollbackPaused = codes "ROLLBACK_PAUSED"
status_word status.RollbackCompleted = codes "ROLLBACK_COMPLETED"

-- how the last update stands; a dash where there was none
abbrev pub update_word : Option RunStatus → List ℕ
update_word None = codes "-"
update_word (Some status) = status_word status

-- what happened to a row
abbrev pub verb_word : Verb → List ℕ
verb_word verb.Created = codes "create"
verb_word verb.Updated = codes "update"
verb_word verb.Deleted = codes "delete"

-- what a world waits for
abbrev pub cause_word : Cause → List ℕ
cause_word cause.Start = codes "start"
cause_word cause.Update = codes "update"
cause_word cause.Executor = codes "executor"
cause_word cause.Session = codes "session"
cause_word cause.Remote = codes "remote"

-- whether a message has all that is assigned, or the changes alone
abbrev pub extent_word : Bool → List ℕ
extent_word true = codes "COMPLETE"
extent_word false = codes "INCREMENTAL"

-- whether a report raised the state of its task
abbrev pub report_word : Bool → List ℕ
report_word true = codes "status"
report_word false = codes "passed"

-- UDP, or else TCP
abbrev pub protocol_word : Bool → List ℕ
protocol_word true = codes "udp"
protocol_word false = codes "tcp"
