-- What queries show.
use Rattle.swarm_objects.specs.Shown.{service_counted, detail_counted, task_shown, task_detail, is_shown_running, node_detail, network_detail}
use Rattle.std.specs.Prelude.{ℕ, List, Some, None, Result, count_by, length, map, Ok, filter}
use Rattle.swarm_model.specs.Calls.Refusals.{found, on_network_by, on_node, on_service_by}
use Rattle.swarm_objects.specs.Rows.{row_at, task_id}
use Rattle.swarm_objects.specs.Tasks.Places.{held_places}
use Rattle.swarm_objects.specs.Tasks.Words.{is_of}
use Rattle.swarm_objects.specs.World.{Tables}
use Rattle.swarm_objects.specs.declared.calls.Query.{Query}
use Rattle.swarm_objects.specs.declared.calls.Query.TheVariants as query
use Rattle.swarm_objects.specs.declared.ids.Kind.TheVariants as kind
use Rattle.swarm_objects.specs.declared.networks.Network.{Network}
use Rattle.swarm_objects.specs.declared.nodes.Node.{Node}
use Rattle.swarm_objects.specs.declared.replies.Refusal.{Refusal}
use Rattle.swarm_objects.specs.declared.replies.ViewReply.{ViewReply}
use Rattle.swarm_objects.specs.declared.replies.ViewReply.TheVariants as view
use Rattle.swarm_objects.specs.declared.replies.Wanted.TheVariants as wanted_by
use Rattle.swarm_objects.specs.declared.services.Mode.{Mode}
use Rattle.swarm_objects.specs.declared.services.Mode.TheVariants as mode
use Rattle.swarm_objects.specs.declared.services.Service.{Service}
use Rattle.swarm_objects.specs.declared.tasks.Task.{Task}
use Rattle.swarm_objects.specs.declared.views.NetworkShown.{NetworkShown}
use Rattle.swarm_objects.specs.declared.views.NodeShown.{NodeShown}
use Rattle.swarm_objects.specs.declared.views.ServiceDetail.{ServiceDetail}
use Rattle.swarm_objects.specs.declared.views.ServiceShown.{ServiceShown}

-- what a list of nodes shows of one
abbrev pub shown : Node → NodeShown
shown n = record {
  id = n.id;
  name = n.name;
  state = n.state;
  availability = n.availability;
  role = n.role;
  cpu = n.cpu;
  mem = n.mem;
}

abbrev pub View : Type 0
View = Result ViewReply Refusal

-- the live tasks observed RUNNING, of any iteration
abbrev pub running_of : Tables → Service → ℕ
running_of t s = count_by (is_shown_running s) t.tasks

abbrev pub wanted_of : Tables → Service → Mode → ℕ
wanted_of t s (mode.Replicated replicas) = replicas
wanted_of t s mode.Global = length (held_places t s)
wanted_of t s (mode.Job concurrent total) = total

abbrev pub service_row : Tables → Service → ServiceShown
service_row t s = service_counted (running_of t s) (wanted_of t s s.spec.mode) s

abbrev pub service_detail : Tables → Service → ServiceDetail
service_detail t s = detail_counted (running_of t s) (wanted_of t s s.spec.mode) s

abbrev pub network_row : Network → NetworkShown
network_row n = record { id = n.id; name = n.name; base = n.base; length = n.length }

abbrev pub tasks_shown : Tables → List Task → ViewReply
tasks_shown t tasks = view.Tasks (map (task_shown t) tasks)

abbrev pub shows : Tables → Query → View
shows t query.ListNodes = Ok (view.Nodes (map shown t.nodes))
shows t query.ListServices = Ok (view.Services (map (service_row t) t.services))
shows t query.ListNetworks = Ok (view.Networks (map network_row t.networks))
shows t (query.ListTasks None) = Ok (tasks_shown t t.tasks)
shows t (query.ListTasks (Some name)) = on_service_by t name (λ s. Ok (tasks_shown t (filter (is_of s.id) t.tasks)))
shows t (query.InspectNode name) = on_node t name (λ n. Ok (view.Node (node_detail n)))
shows t (query.InspectService name) = on_service_by t name (λ s. Ok (view.Service (service_detail t s)))
shows t (query.InspectNetwork name) = on_network_by t name (λ n. Ok (view.Network (network_detail n)))
shows t (query.InspectTask id) =
    found kind.Task (wanted_by.Id id) (row_at task_id id t.tasks) (λ x. Ok (view.Task (task_detail t x)))
shows t query.Clock = Ok (view.Clock t.clock)
