-- Which nodes admit a task, and which filter refuses it the others.
use Rattle.std.specs.Prelude.{Bool, true, ℕ, ◌==◌, ◌&&◌, nat_le, ◌+◌, List, [], ◌∷◌, not, count_by, nat_lt, ◌||◌, filter, if◌then◌else◌, Option, find, Some, map, is_none}
use Rattle.std.specs.List.{list_any}
use Rattle.std.specs.Option.{option_eq}
use Rattle.std.specs.Str.{bytes_eq}
use Rattle.swarm_objects.specs.Nodes.Holdings.{reserved_cpu, reserved_mem, is_host_port_used, tasks_placed_on, is_placed_on}
use Rattle.swarm_objects.specs.Nodes.Sessions.{is_session_live}
use Rattle.swarm_objects.specs.Nodes.Words.{is_active, is_ready, meets_all}
use Rattle.swarm_objects.specs.Same.{same_number}
use Rattle.swarm_objects.specs.Tasks.Words.{is_live, is_of}
use Rattle.swarm_objects.specs.World.{Tables}
use Rattle.swarm_objects.specs.declared.nodes.Node.{Node}
use Rattle.swarm_objects.specs.declared.tasks.Place.{Place}
use Rattle.swarm_objects.specs.declared.tasks.Place.TheVariants.{On, Slot}
use Rattle.swarm_objects.specs.declared.tasks.Task.{Task}
use Rattle.swarm_objects.specs.declared.templates.Platform.{Platform}

-- a task whose place is a node is tested on that node alone
abbrev pub is_tested_on : Place → ℕ → Bool
is_tested_on (Slot k) node = true
is_tested_on (On k) node = k == node

-- the node is READY and ACTIVE, and its session is live
abbrev pub takes_tasks : Tables → Node → Bool
takes_tasks t n = is_ready n.state && is_active n.availability && is_session_live t n.id

abbrev pub has_resources : Tables → Task → Node → Bool
has_resources t x n =
    nat_le (reserved_cpu t n.id + x.template.cpu) n.cpu && nat_le (reserved_mem t n.id + x.template.mem) n.mem

abbrev pub is_platform : Node → Platform → Bool
is_platform n p = bytes_eq p.os n.os && bytes_eq p.arch n.arch

-- no platform is named, or one is the node's
abbrev pub is_supported : List Platform → Node → Bool
is_supported [] n = true
is_supported (p ∷ ps) n = list_any (is_platform n) (p ∷ ps)

abbrev pub has_free_host_ports : Tables → Task → Node → Bool
has_free_host_ports t x n = not (list_any (is_host_port_used (tasks_placed_on t n.id)) x.template.host_ports)

-- the service's live tasks from ASSIGNED to RUNNING on the node
abbrev pub here : Tables → ℕ → ℕ → ℕ
here t node service = count_by (λ x. is_of service x && is_live x && is_placed_on node x) t.tasks

-- there is no maximum, or fewer of the service's tasks are on the node
abbrev pub is_below_most : Tables → Task → Node → Bool
is_below_most t x n = x.template.max_replicas == 0 || nat_lt (here t n.id x.service) x.template.max_replicas

-- the filter with this number admits the task to the node
abbrev pub passes : Tables → Task → Node → ℕ → Bool
passes t x n k =
    if k == 0 then takes_tasks t n
    else if k == 1 then has_resources t x n
    else if k == 2 then meets_all x.template.constraints n
    else if k == 3 then is_supported x.template.platforms n
    else if k == 4 then has_free_host_ports t x n
    else is_below_most t x n

abbrev pub filter_numbers : List ℕ
filter_numbers = 0 ∷ 1 ∷ 2 ∷ 3 ∷ 4 ∷ 5 ∷ []

-- the number of the first filter that refuses the task the node
abbrev pub refused_by : Tables → Task → Node → Option ℕ
refused_by t x n = find (λ k. not (passes t x n k)) filter_numbers

abbrev pub tested_nodes : Tables → Task → List Node
tested_nodes t x = filter (λ n. is_tested_on x.place n.id) t.nodes

abbrev pub is_refused_by : Tables → Task → ℕ → Node → Bool
is_refused_by t x k n = option_eq same_number (refused_by t x n) (Some k)

-- for each filter, in order, how many of the tested nodes it refuses the task
abbrev pub refusal_counts : Tables → Task → List ℕ
refusal_counts t x = map (λ k. count_by (is_refused_by t x k) (tested_nodes t x)) filter_numbers

abbrev pub admits : Tables → Task → Node → Bool
admits t x n = is_none (refused_by t x n)

abbrev pub admitting_nodes : Tables → Task → List Node
admitting_nodes t x = filter (admits t x) (tested_nodes t x)
