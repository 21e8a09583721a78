-- What the fields of a line say together.
use Rattle.std.specs.Prelude.{ℕ, ◌+◌, take, drop, nat_eq, List, [], ◌∷◌, ◌++◌, Bool, true, if◌then◌else◌, Option, Some, None, filter_map, unwrap_or}
use Rattle.std.specs.Option.{option_or}
use Rattle.swarm_objects.specs.Defaults.{usual_mode, usual_node, usual_restart, usual_update, usual_workload}
use Rattle.swarm_objects.specs.declared.services.Mode.{Mode}
use Rattle.swarm_objects.specs.declared.templates.End.{End}
use Rattle.swarm_objects.specs.declared.templates.Key.{Key}
use Rattle.swarm_objects.specs.declared.templates.Constraint.{Constraint}
use Rattle.swarm_objects.specs.declared.templates.Platform.{Platform}
use Rattle.swarm_objects.specs.declared.templates.Port.{Port}
use Rattle.swarm_objects.specs.declared.templates.RestartCondition.{RestartCondition}
use Rattle.swarm_objects.specs.declared.services.FailureAction.{FailureAction}
use Rattle.swarm_objects.specs.declared.services.UpdateOrder.{UpdateOrder}
use Rattle.swarm_objects.specs.declared.nodes.NodeRole.{NodeRole}
use Rattle.swarm_objects.specs.declared.nodes.Availability.{Availability}
use Rattle.swarm_objects.specs.declared.services.Draft.{Draft}
use Rattle.swarm_objects.specs.declared.nodes.NodeDraft.{NodeDraft}
use Rattle.swarm_objects.specs.declared.settings.Settings.{Settings}
use Rattle.script_grammar.specs.declared.fields.NumberField.{NumberField}
use Rattle.script_grammar.specs.declared.fields.NumberField.TheVariants as number
use Rattle.script_grammar.specs.declared.fields.Field.{Field}
use Rattle.script_grammar.specs.declared.fields.Field.TheVariants as field
use Rattle.script_grammar.specs.declared.fields.Table.{Table}
use Rattle.script_grammar.specs.declared.fields.Table.TheVariants as table
use Rattle.script_grammar.specs.Tables.{number_row, number_default, bytes_lt}

-- ## The value in a field of one row

abbrev pub mode_in : Field → Option Mode
mode_in (field.Mode m) = Some m
mode_in f = None

abbrev pub end_in : Field → Option End
end_in (field.End e) = Some e
end_in f = None

abbrev pub number_in : NumberField → Field → Option ℕ
number_in w (field.Number v n) = if nat_eq (number_row v) (number_row w) then Some n else None
number_in w f = None

abbrev pub label_in : Field → Option (List ℕ × List ℕ)
label_in (field.Label k v) = Some (k, v)
label_in f = None

abbrev pub engine_in : Field → Option (List ℕ × List ℕ)
engine_in (field.Engine k v) = Some (k, v)
engine_in f = None

abbrev pub role_in : Field → Option NodeRole
role_in (field.Role r) = Some r
role_in f = None

abbrev pub availability_in : Field → Option Availability
availability_in (field.Availability a) = Some a
availability_in f = None

abbrev pub os_in : Field → Option (List ℕ)
os_in (field.Os name) = Some name
os_in f = None

abbrev pub arch_in : Field → Option (List ℕ)
arch_in (field.Arch name) = Some name
arch_in f = None

abbrev pub remote_in : Field → Option Bool
remote_in field.Remote = Some true
remote_in f = None

abbrev pub constraint_in : Field → Option Constraint
constraint_in (field.Constraint c) = Some c
constraint_in f = None

abbrev pub spread_in : Field → Option Key
spread_in (field.Spread k) = Some k
spread_in f = None

abbrev pub platform_in : Field → Option Platform
platform_in (field.Platform p) = Some p
platform_in f = None

abbrev pub net_in : Field → Option (List ℕ)
net_in (field.Net name) = Some name
net_in f = None

abbrev pub restart_in : Field → Option RestartCondition
restart_in (field.Restart c) = Some c
restart_in f = None

abbrev pub port_in : Field → Option Port
port_in (field.Port p) = Some p
port_in f = None

abbrev pub host_in : Field → Option Port
host_in (field.Host p) = Some p
host_in f = None

abbrev pub failure_in : Field → Option FailureAction
failure_in (field.Failure a) = Some a
failure_in f = None

abbrev pub order_in : Field → Option UpdateOrder
order_in (field.Order o) = Some o
order_in f = None

-- ## What the fields say

-- what the field says, or what holds where it isn't named
abbrev pub named_or : {A : Type 0} → (Field → Option A) → A → List Field → A
named_or p d [] = d
named_or p d (f ∷ fs) = unwrap_or (p f) (named_or p d fs)

abbrev pub number_named : Table → NumberField → List Field → ℕ
number_named t w fs = named_or (number_in w) (number_default t w) fs

-- the number that the first such field says, where there is one
abbrev pub number_given : NumberField → List Field → Option ℕ
number_given w [] = None
number_given w (f ∷ fs) = option_or (number_in w f) (number_given w fs)

-- how many labels stand before this one among rising ones
abbrev pub label_place : List ℕ → List (List ℕ × List ℕ) → ℕ
label_place k [] = 0
label_place k (m ∷ ms) = if bytes_lt k m.0 then 0 else 1 + label_place k ms

-- a label put among rising ones
abbrev pub with_label : List ℕ × List ℕ → List (List ℕ × List ℕ) → List (List ℕ × List ℕ)
with_label l ms = take (label_place l.0 ms) ms ++ l ∷ drop (label_place l.0 ms) ms

-- labels put among rising ones, one after the other
abbrev pub labels_onto : List (List ℕ × List ℕ) → List (List ℕ × List ℕ) → List (List ℕ × List ℕ)
labels_onto ms [] = ms
labels_onto ms (l ∷ ls) = labels_onto (with_label l ms) ls

abbrev pub labels_of : List (List ℕ × List ℕ) → List (List ℕ × List ℕ)
labels_of ls = labels_onto [] ls

abbrev pub draft_of : List Field → Draft
draft_of fs = record {
  spec = record {
    mode = named_or mode_in usual_mode fs;
    template = record {
      workload = record {
        prepare = number_named table.Service number.Prepare fs;
        start = number_named table.Service number.Start fs;
        stop = number_named table.Service number.Stop fs;
        end = named_or end_in usual_workload.end fs;
      };
      cpu = number_named table.Service number.Cpu fs;
      mem = number_named table.Service number.Mem fs;
      constraints = filter_map constraint_in fs;
      spread = filter_map spread_in fs;
      platforms = filter_map platform_in fs;
      max_replicas = number_named table.Service number.MaxReplicas fs;
      networks = [];
      host_ports = filter_map host_in fs;
      restart = record {
        condition = named_or restart_in usual_restart.condition fs;
        delay = number_named table.Service number.RestartDelay fs;
        max_attempts = number_named table.Service number.RestartMax fs;
        window = number_named table.Service number.RestartWindow fs;
      };
    };
    ports = filter_map port_in fs;
    update = record {
      parallelism = number_named table.Service number.Parallelism fs;
      delay = number_named table.Service number.UpdateDelay fs;
      monitor = number_named table.Service number.Monitor fs;
      action = named_or failure_in usual_update.action fs;
      ratio = number_named table.Service number.Ratio fs;
      order = named_or order_in usual_update.order fs;
    };
  };
  networks = filter_map net_in fs;
}

abbrev pub node_draft_of : List Field → NodeDraft
node_draft_of fs = record {
  labels = labels_of (filter_map label_in fs);
  role = named_or role_in usual_node.role fs;
  availability = named_or availability_in usual_node.availability fs;
  cpu = number_named table.NewNode number.Cpu fs;
  mem = number_named table.NewNode number.Mem fs;
  os = named_or os_in usual_node.os fs;
  arch = named_or arch_in usual_node.arch fs;
  engine = labels_of (filter_map engine_in fs);
  remote = named_or remote_in usual_node.remote fs;
}

abbrev pub settings_of : List Field → Settings
settings_of fs = record {
  heartbeat = number_named table.Cluster number.Heartbeat fs;
  orphan = number_named table.Cluster number.Orphan fs;
  history = number_named table.Cluster number.History fs;
}
