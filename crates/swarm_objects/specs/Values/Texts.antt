-- The texts of values that scripts, replies and constraints share.
use Rattle.std.specs.Prelude.{ℕ, List, codes}
use Rattle.swarm_objects.specs.declared.ids.Kind.{Kind}
use Rattle.swarm_objects.specs.declared.ids.Kind.TheVariants as kind
use Rattle.swarm_objects.specs.declared.nodes.NodeRole.{NodeRole}
use Rattle.swarm_objects.specs.declared.nodes.NodeRole.TheVariants as role
use Rattle.swarm_objects.specs.declared.tasks.TaskState.{TaskState}
use Rattle.swarm_objects.specs.declared.tasks.TaskState.TheVariants as task_state

abbrev pub kind_text : Kind → List ℕ
kind_text kind.Node = codes "node"
kind_text kind.Service = codes "service"
kind_text kind.Task = codes "task"
kind_text kind.Network = codes "network"
kind_text kind.Watcher = codes "watcher"

abbrev pub role_text : NodeRole → List ℕ
role_text role.Worker = codes "worker"
role_text role.Manager = codes "manager"

abbrev pub state_text : TaskState → List ℕ
state_text task_state.New = codes "NEW"
state_text task_state.Pending = codes "PENDING"
state_text task_state.Assigned = codes "ASSIGNED"
state_text task_state.Accepted = codes "ACCEPTED"
state_text task_state.Preparing = codes "PREPARING"
state_text task_state.Ready = codes "READY"
state_text task_state.Starting = codes "STARTING"
state_text task_state.Running = codes "RUNNING"
state_text task_state.Complete = codes "COMPLETE"
state_text task_state.Shutdown = codes "SHUTDOWN"
state_text task_state.Failed = codes "FAILED"
state_text task_state.Rejected = codes "REJECTED"
state_text task_state.Remove = codes "REMOVE"
state_text task_state.Orphaned = codes "ORPHANED"
