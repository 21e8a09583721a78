-- Whether two rows have the same content.
use Rattle.std.specs.Prelude.{Bool, List, ℕ, ◌&&◌, false, true, ◌==◌}
use Rattle.std.specs.Cmp.Lexicographic.{pointwise}
use Rattle.std.specs.Option.{option_eq}
use Rattle.std.specs.Str.{bytes_eq}
use Rattle.swarm_objects.specs.Loops.Allocator.{same_note}
use Rattle.swarm_objects.specs.Same.{same_bool, same_port, same_template, same_place, same_number}
use Rattle.swarm_objects.specs.Values.Ranks.{desired_rank, rank}
use Rattle.swarm_objects.specs.declared.networks.Network.{Network}
use Rattle.swarm_objects.specs.declared.nodes.Availability.{Availability}
use Rattle.swarm_objects.specs.declared.nodes.Availability.TheVariants as availability
use Rattle.swarm_objects.specs.declared.nodes.Node.{Node}
use Rattle.swarm_objects.specs.declared.nodes.NodeRole.{NodeRole}
use Rattle.swarm_objects.specs.declared.nodes.NodeRole.TheVariants as node_role
use Rattle.swarm_objects.specs.declared.nodes.NodeState.{NodeState}
use Rattle.swarm_objects.specs.declared.nodes.NodeState.TheVariants as node_state
use Rattle.swarm_objects.specs.declared.services.FailureAction.{FailureAction}
use Rattle.swarm_objects.specs.declared.services.FailureAction.TheVariants as action
use Rattle.swarm_objects.specs.declared.services.Mode.{Mode}
use Rattle.swarm_objects.specs.declared.services.Mode.TheVariants as mode
use Rattle.swarm_objects.specs.declared.services.PortNumber.{PortNumber}
use Rattle.swarm_objects.specs.declared.services.Replaced.{Replaced}
use Rattle.swarm_objects.specs.declared.services.RunStatus.{RunStatus}
use Rattle.swarm_objects.specs.declared.services.RunStatus.TheVariants as status
use Rattle.swarm_objects.specs.declared.services.Service.{Service}
use Rattle.swarm_objects.specs.declared.services.ServiceSpec.{ServiceSpec}
use Rattle.swarm_objects.specs.declared.services.UpdateConfig.{UpdateConfig}
use Rattle.swarm_objects.specs.declared.services.UpdateOrder.{UpdateOrder}
use Rattle.swarm_objects.specs.declared.services.UpdateOrder.TheVariants as order
use Rattle.swarm_objects.specs.declared.services.UpdateRun.{UpdateRun}
use Rattle.swarm_objects.specs.declared.tasks.Address.{Address}
use Rattle.swarm_objects.specs.declared.tasks.Closed.{Closed}
use Rattle.swarm_objects.specs.declared.tasks.Closed.TheVariants as closed
use Rattle.swarm_objects.specs.declared.tasks.Task.{Task}

abbrev pub same_label : List ℕ × List ℕ → List ℕ × List ℕ → Bool
same_label a b = bytes_eq a.0 b.0 && bytes_eq a.1 b.1

abbrev pub same_node_role : NodeRole → NodeRole → Bool
same_node_role node_role.Worker node_role.Worker = true
same_node_role node_role.Manager node_role.Manager = true
same_node_role _ _ = false

abbrev pub same_availability : Availability → Availability → Bool
same_availability availability.Active availability.Active = true
same_availability availability.Pause availability.Pause = true
same_availability availability.Drain availability.Drain = true
same_availability _ _ = false

abbrev pub same_node_state : NodeState → NodeState → Bool
same_node_state node_state.Unknown node_state.Unknown = true
same_node_state node_state.Down node_state.Down = true
same_node_state node_state.Ready node_state.Ready = true
same_node_state node_state.Disconnected node_state.Disconnected = true
same_node_state _ _ = false

-- what an operator gives a node
abbrev pub same_node_wish : Node → Node → Bool
same_node_wish a b =
    bytes_eq a.name b.name && pointwise same_label a.labels b.labels && same_node_role a.role b.role
    && same_availability a.availability b.availability

-- what it is and has
abbrev pub same_node_facts : Node → Node → Bool
same_node_facts a b =
    same_node_state a.state b.state && a.down_since == b.down_since && a.cpu == b.cpu && a.mem == b.mem
    && bytes_eq a.os b.os && bytes_eq a.arch b.arch && pointwise same_label a.engine b.engine
    && same_bool a.remote b.remote

abbrev pub same_node : Node → Node → Bool
same_node a b = a.version == b.version && same_node_wish a b && same_node_facts a b

abbrev pub same_numbers_of_mode : Mode → Mode → Bool
same_numbers_of_mode (mode.Replicated a) (mode.Replicated b) = a == b
same_numbers_of_mode mode.Global mode.Global = true
same_numbers_of_mode (mode.Job a b) (mode.Job c d) = a == c && b == d
same_numbers_of_mode _ _ = false

abbrev pub same_action : FailureAction → FailureAction → Bool
same_action action.Pause action.Pause = true
same_action action.Continue action.Continue = true
same_action action.Rollback action.Rollback = true
same_action _ _ = false

abbrev pub same_order : UpdateOrder → UpdateOrder → Bool
same_order order.StopFirst order.StopFirst = true
same_order order.StartFirst order.StartFirst = true
same_order _ _ = false

abbrev pub same_update : UpdateConfig → UpdateConfig → Bool
same_update a b =
    a.parallelism == b.parallelism && a.delay == b.delay && a.monitor == b.monitor && same_action a.action b.action
    && a.ratio == b.ratio && same_order a.order b.order

abbrev pub same_spec : ServiceSpec → ServiceSpec → Bool
same_spec a b =
    same_numbers_of_mode a.mode b.mode && same_template a.template b.template && pointwise same_port a.ports b.ports
    && same_update a.update b.update

abbrev pub same_status : RunStatus → RunStatus → Bool
same_status status.Updating status.Updating = true
same_status status.Paused status.Paused = true
same_status status.Completed status.Completed = true
same_status status.RollbackStarted status.RollbackStarted = true
same_status status.RollbackPaused status.RollbackPaused = true
same_status status.RollbackCompleted status.RollbackCompleted = true
same_status _ _ = false

abbrev pub same_replaced : Replaced → Replaced → Bool
same_replaced a b = same_place a.place b.place && a.task == b.task && a.created == b.created

abbrev pub same_run : UpdateRun → UpdateRun → Bool
same_run a b =
    same_status a.status b.status && a.version == b.version && a.total == b.total
    && pointwise same_replaced a.replaced b.replaced

abbrev pub same_port_number : PortNumber → PortNumber → Bool
same_port_number a b = a.target == b.target && same_bool a.udp b.udp && a.number == b.number

abbrev pub same_service_wish : Service → Service → Bool
same_service_wish a b = bytes_eq a.name b.name && same_spec a.spec b.spec && option_eq same_spec a.previous b.previous

abbrev pub same_service_facts : Service → Service → Bool
same_service_facts a b =
    a.template_version == b.template_version && same_bool a.rolling_back b.rolling_back && a.iteration == b.iteration
    && pointwise same_port_number a.numbers b.numbers && option_eq same_run a.run b.run

abbrev pub same_service : Service → Service → Bool
same_service a b = a.version == b.version && same_service_wish a b && same_service_facts a b

abbrev pub same_address : Address → Address → Bool
same_address a b = a.network == b.network && a.number == b.number

abbrev pub same_cause : Closed → Closed → Bool
same_cause closed.Condition closed.Condition = true
same_cause closed.Done closed.Done = true
same_cause (closed.Attempts a) (closed.Attempts b) = a == b
same_cause _ _ = false

-- what a task is made with
abbrev pub same_task_making : Task → Task → Bool
same_task_making a b =
    a.service == b.service && same_place a.place b.place && a.iteration == b.iteration
    && same_template a.template b.template
    && a.born == b.born && desired_rank a.goal == desired_rank b.goal && a.created == b.created
    && a.raise_at == b.raise_at

-- what becomes of it
abbrev pub same_task_facts : Task → Task → Bool
same_task_facts a b =
    option_eq same_number a.node b.node && rank a.state == rank b.state && a.since == b.since
    && desired_rank a.desired == desired_rank b.desired
    && pointwise same_address a.addresses b.addresses && same_note a.note b.note
    && option_eq same_cause a.closed b.closed

abbrev pub same_task : Task → Task → Bool
same_task a b = a.version == b.version && same_task_making a b && same_task_facts a b

abbrev pub same_network : Network → Network → Bool
same_network a b = a.version == b.version && bytes_eq a.name b.name && a.base == b.base && a.length == b.length
