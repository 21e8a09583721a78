-- The rows of a service's draft and of a node's, some at a time.
use Rattle.std.specs.Prelude.{List, [], ◌∷◌, ◌++◌, map}
use Rattle.swarm_objects.specs.declared.nodes.NodeDraft.{NodeDraft}
use Rattle.swarm_objects.specs.declared.services.Draft.{Draft}
use Rattle.swarm_objects.specs.declared.services.UpdateConfig.{UpdateConfig}
use Rattle.swarm_objects.specs.declared.templates.RestartPolicy.{RestartPolicy}
use Rattle.swarm_objects.specs.declared.templates.Port.{Port}
use Rattle.swarm_objects.specs.declared.services.Mode.{Mode}
use Rattle.swarm_objects.specs.declared.templates.Template.{Template}
use Rattle.script_grammar.specs.declared.fields.Field.{Field}
use Rattle.script_grammar.specs.declared.fields.Field.TheVariants as field
use Rattle.script_grammar.specs.declared.fields.NumberField.TheVariants as number
use Rattle.script_grammar.specs.declared.fields.Table.TheVariants as table
use Rattle.script_grammar.specs.Pieces.{arch_piece, condition_piece, end_piece, engine_field, failure_piece, mode_piece, number_piece, order_piece, os_piece, remote_piece}

-- how many tasks run, how, and with what
abbrev pub run_pieces : Mode → Template → List (List Field)
run_pieces m t =
    mode_piece m ∷
    end_piece t.workload.end ∷
    number_piece table.Service number.Prepare t.workload.prepare ∷
    number_piece table.Service number.Start t.workload.start ∷
    number_piece table.Service number.Stop t.workload.stop ∷
    number_piece table.Service number.Cpu t.cpu ∷
    number_piece table.Service number.Mem t.mem ∷
    []

-- which nodes will do
abbrev pub place_pieces : Template → List (List Field)
place_pieces t =
    map field.Constraint t.constraints ∷
    map field.Spread t.spread ∷
    map field.Platform t.platforms ∷
    number_piece table.Service number.MaxReplicas t.max_replicas ∷
    []

abbrev pub restart_pieces : RestartPolicy → List (List Field)
restart_pieces r =
    condition_piece r.condition ∷
    number_piece table.Service number.RestartDelay r.delay ∷
    number_piece table.Service number.RestartMax r.max_attempts ∷
    number_piece table.Service number.RestartWindow r.window ∷
    []

abbrev pub update_pieces : UpdateConfig → List (List Field)
update_pieces u =
    number_piece table.Service number.Parallelism u.parallelism ∷
    number_piece table.Service number.UpdateDelay u.delay ∷
    number_piece table.Service number.Monitor u.monitor ∷
    failure_piece u.action ∷
    number_piece table.Service number.Ratio u.ratio ∷
    order_piece u.order ∷
    []

-- the ports of a service and of its tasks
abbrev pub port_pieces : List Port → List Port → List (List Field)
port_pieces ports hosts = map field.Port ports ∷ map field.Host hosts ∷ []

-- its networks, when its tasks are made anew, its ports, and how it is updated
abbrev pub rest_pieces : Draft → List (List Field)
rest_pieces d =
    map field.Net d.networks ∷
    (restart_pieces d.spec.template.restart
    ++ (port_pieces d.spec.ports d.spec.template.host_ports ++ update_pieces d.spec.update))

-- what a node has
abbrev pub machine_pieces : NodeDraft → List (List Field)
machine_pieces d =
    number_piece table.NewNode number.Cpu d.cpu ∷
    number_piece table.NewNode number.Mem d.mem ∷
    os_piece d.os ∷
    arch_piece d.arch ∷
    map engine_field d.engine ∷
    remote_piece d.remote ∷
    []
