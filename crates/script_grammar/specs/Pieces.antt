-- The fields that say a draft: those of each row, where it isn't the default.
use Rattle.std.specs.Prelude.{ℕ, nat_eq, List, [], ◌∷◌, ◌++◌, map, Bool, true, false, if◌then◌else◌, Option, Some, None}
use Rattle.std.specs.Str.{bytes_eq}
use Rattle.swarm_objects.specs.Defaults.{usual_node}
use Rattle.swarm_objects.specs.declared.services.Mode.{Mode}
use Rattle.swarm_objects.specs.declared.services.Mode.TheVariants as mode
use Rattle.swarm_objects.specs.declared.templates.End.{End}
use Rattle.swarm_objects.specs.declared.templates.End.TheVariants as end
use Rattle.swarm_objects.specs.declared.templates.RestartCondition.{RestartCondition}
use Rattle.swarm_objects.specs.declared.templates.RestartCondition.TheVariants as condition
use Rattle.swarm_objects.specs.declared.services.FailureAction.{FailureAction}
use Rattle.swarm_objects.specs.declared.services.FailureAction.TheVariants as action
use Rattle.swarm_objects.specs.declared.services.UpdateOrder.{UpdateOrder}
use Rattle.swarm_objects.specs.declared.services.UpdateOrder.TheVariants as order
use Rattle.swarm_objects.specs.declared.nodes.NodeRole.{NodeRole}
use Rattle.swarm_objects.specs.declared.nodes.NodeRole.TheVariants as role
use Rattle.swarm_objects.specs.declared.nodes.Availability.{Availability}
use Rattle.swarm_objects.specs.declared.nodes.Availability.TheVariants as availability
use Rattle.swarm_objects.specs.declared.services.Draft.{Draft}
use Rattle.swarm_objects.specs.declared.nodes.NodeDraft.{NodeDraft}
use Rattle.swarm_objects.specs.declared.settings.Settings.{Settings}
use Rattle.script_grammar.specs.declared.fields.NumberField.{NumberField}
use Rattle.script_grammar.specs.declared.fields.NumberField.TheVariants as number
use Rattle.script_grammar.specs.declared.fields.Field.{Field}
use Rattle.script_grammar.specs.declared.fields.Field.TheVariants as field
use Rattle.script_grammar.specs.declared.fields.Table.{Table}
use Rattle.script_grammar.specs.declared.fields.Table.TheVariants as table
use Rattle.script_grammar.specs.Tables.{number_default, usual_replicas}

abbrev pub number_piece : Table → NumberField → ℕ → List Field
number_piece t w n = if nat_eq n (number_default t w) then [] else field.Number w n ∷ []

abbrev pub mode_piece : Mode → List Field
mode_piece (mode.Replicated n) = if nat_eq n usual_replicas then [] else field.Mode (mode.Replicated n) ∷ []
mode_piece m = field.Mode m ∷ []

abbrev pub end_piece : End → List Field
end_piece end.Never = []
end_piece e = field.End e ∷ []

abbrev pub condition_piece : RestartCondition → List Field
condition_piece condition.Any = []
condition_piece c = field.Restart c ∷ []

abbrev pub failure_piece : FailureAction → List Field
failure_piece action.Pause = []
failure_piece a = field.Failure a ∷ []

abbrev pub order_piece : UpdateOrder → List Field
order_piece order.StopFirst = []
order_piece o = field.Order o ∷ []

abbrev pub role_piece : NodeRole → List Field
role_piece role.Worker = []
role_piece r = field.Role r ∷ []

abbrev pub availability_piece : Availability → List Field
availability_piece availability.Active = []
availability_piece a = field.Availability a ∷ []

abbrev pub os_piece : List ℕ → List Field
os_piece name = if bytes_eq name usual_node.os then [] else field.Os name ∷ []

abbrev pub arch_piece : List ℕ → List Field
arch_piece name = if bytes_eq name usual_node.arch then [] else field.Arch name ∷ []

abbrev pub remote_piece : Bool → List Field
remote_piece false = []
remote_piece true = field.Remote ∷ []

abbrev pub label_field : List ℕ × List ℕ → Field
label_field l = field.Label l.0 l.1

abbrev pub engine_field : List ℕ × List ℕ → Field
engine_field l = field.Engine l.0 l.1

abbrev pub given_piece : NumberField → Option ℕ → List Field
given_piece w None = []
given_piece w (Some n) = field.Number w n ∷ []

-- one row after the other
abbrev pub joined : List (List Field) → List Field
joined [] = []
joined (p ∷ ps) = p ++ joined ps

abbrev pub service_pieces : Draft → List (List Field)
service_pieces d =
    mode_piece d.spec.mode ∷
    end_piece d.spec.template.workload.end ∷
    number_piece table.Service number.Prepare d.spec.template.workload.prepare ∷
    number_piece table.Service number.Start d.spec.template.workload.start ∷
    number_piece table.Service number.Stop d.spec.template.workload.stop ∷
    number_piece table.Service number.Cpu d.spec.template.cpu ∷
    number_piece table.Service number.Mem d.spec.template.mem ∷
    map field.Constraint d.spec.template.constraints ∷
    map field.Spread d.spec.template.spread ∷
    map field.Platform d.spec.template.platforms ∷
    number_piece table.Service number.MaxReplicas d.spec.template.max_replicas ∷
    map field.Net d.networks ∷
    condition_piece d.spec.template.restart.condition ∷
    number_piece table.Service number.RestartDelay d.spec.template.restart.delay ∷
    number_piece table.Service number.RestartMax d.spec.template.restart.max_attempts ∷
    number_piece table.Service number.RestartWindow d.spec.template.restart.window ∷
    map field.Port d.spec.ports ∷
    map field.Host d.spec.template.host_ports ∷
    number_piece table.Service number.Parallelism d.spec.update.parallelism ∷
    number_piece table.Service number.UpdateDelay d.spec.update.delay ∷
    number_piece table.Service number.Monitor d.spec.update.monitor ∷
    failure_piece d.spec.update.action ∷
    number_piece table.Service number.Ratio d.spec.update.ratio ∷
    order_piece d.spec.update.order ∷
    []

abbrev pub node_pieces : NodeDraft → List (List Field)
node_pieces d =
    map label_field d.labels ∷
    role_piece d.role ∷
    availability_piece d.availability ∷
    number_piece table.NewNode number.Cpu d.cpu ∷
    number_piece table.NewNode number.Mem d.mem ∷
    os_piece d.os ∷
    arch_piece d.arch ∷
    map engine_field d.engine ∷
    remote_piece d.remote ∷
    []

abbrev pub settings_pieces : Settings → List (List Field)
settings_pieces s =
    number_piece table.Cluster number.Heartbeat s.heartbeat ∷
    number_piece table.Cluster number.Orphan s.orphan ∷
    number_piece table.Cluster number.History s.history ∷
    []

abbrev pub session_pieces : Option ℕ → Option ℕ → List (List Field)
session_pieces cpu mem = given_piece number.Cpu cpu ∷ given_piece number.Mem mem ∷ []

-- the fields of an update of a node
abbrev pub old_node_pieces : List (List ℕ × List ℕ) → NodeRole → Availability → List (List Field)
old_node_pieces labels r a = map label_field labels ∷ role_piece r ∷ availability_piece a ∷ []
