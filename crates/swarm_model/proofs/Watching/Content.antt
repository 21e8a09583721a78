-- The tests of equal content of two rows with one id decide equality.
use Rattle.std.proofs.Common.{◌≡◌, ℕ, true, List, [], ◌∷◌, refl, ap, sym, ◌∙◌, Some}
use Rattle.std.specs.Prelude.{◌==◌, ◌&&◌, find}
use Rattle.std.specs.Bool.{Decides}
use Rattle.std.specs.Cmp.Lexicographic.{pointwise}
use Rattle.std.proofs.lemmas.Bool.Decides.{Decides-and, Decides-eqb, Decides-like}
use Rattle.std.proofs.lemmas.Slice.Eq.{bytes_eq-Decides}
use Rattle.swarm_model.specs.Content.{same_action, same_address, same_availability, same_cause, same_label, same_network, same_node, same_node_facts, same_node_role, same_node_state, same_node_wish, same_numbers_of_mode, same_order, same_port_number, same_replaced, same_run, same_service, same_service_facts, same_service_wish, same_spec, same_status, same_task, same_task_facts, same_task_making, same_update}
use Rattle.swarm_objects.proofs.SameLemmas.{Decides-option_eq, Decides-pointwise, Decides-same_bool, Decides-same_number, Decides-same_place, Decides-same_port, Decides-same_template}
use Rattle.swarm_objects.specs.Loops.Allocator.{same_note}
use Rattle.swarm_objects.specs.Same.{same_bool, same_number, same_port}
use Rattle.swarm_objects.specs.Values.Ranks.{desired_rank, rank}
use Rattle.swarm_objects.specs.declared.networks.Network.{Network}
use Rattle.swarm_objects.specs.declared.nodes.Availability.{Availability}
use Rattle.swarm_objects.specs.declared.nodes.Availability.TheVariants as availability
use Rattle.swarm_objects.specs.declared.nodes.Node.{Node}
use Rattle.swarm_objects.specs.declared.nodes.NodeRole.{NodeRole}
use Rattle.swarm_objects.specs.declared.nodes.NodeRole.TheVariants as node_role
use Rattle.swarm_objects.specs.declared.nodes.NodeState.{NodeState}
use Rattle.swarm_objects.specs.declared.nodes.NodeState.TheVariants as node_state
use Rattle.swarm_objects.specs.declared.services.FailureAction.{FailureAction}
use Rattle.swarm_objects.specs.declared.services.FailureAction.TheVariants as action
use Rattle.swarm_objects.specs.declared.services.Mode.{Mode}
use Rattle.swarm_objects.specs.declared.services.Mode.TheVariants as mode
use Rattle.swarm_objects.specs.declared.services.PortNumber.{PortNumber}
use Rattle.swarm_objects.specs.declared.services.Replaced.{Replaced}
use Rattle.swarm_objects.specs.declared.services.RunStatus.{RunStatus}
use Rattle.swarm_objects.specs.declared.services.RunStatus.TheVariants as status
use Rattle.swarm_objects.specs.declared.services.Service.{Service}
use Rattle.swarm_objects.specs.declared.services.ServiceSpec.{ServiceSpec}
use Rattle.swarm_objects.specs.declared.services.UpdateConfig.{UpdateConfig}
use Rattle.swarm_objects.specs.declared.services.UpdateOrder.{UpdateOrder}
use Rattle.swarm_objects.specs.declared.services.UpdateOrder.TheVariants as order
use Rattle.swarm_objects.specs.declared.services.UpdateRun.{UpdateRun}
use Rattle.swarm_objects.specs.declared.tasks.Address.{Address}
use Rattle.swarm_objects.specs.declared.tasks.Closed.{Closed}
use Rattle.swarm_objects.specs.declared.tasks.Closed.TheVariants as closed
use Rattle.swarm_objects.specs.declared.tasks.Note.{Note}
use Rattle.swarm_objects.specs.declared.tasks.Note.TheVariants as note
use Rattle.swarm_objects.specs.declared.tasks.Desired.{Desired}
use Rattle.swarm_objects.specs.declared.tasks.Desired.TheVariants as desired
use Rattle.swarm_objects.specs.declared.tasks.Task.{Task}
use Rattle.swarm_objects.specs.declared.tasks.TaskState.{TaskState}
use Rattle.swarm_objects.specs.declared.tasks.TaskState.TheVariants as state

some_same : {X : Type 0} {x y : X} → Some x ≡ Some y → x ≡ y
some_same e = cc

-- Nodes.

Decides-same_label : (a b : List ℕ × List ℕ) → Decides (same_label a b) (a ≡ b)
Decides-same_label a b =
    Decides-like (same_label a b) (λ e i. (e.0 i, e.1 i)) (λ e. (ap (λ (x : List ℕ × List ℕ). x.0) e, ap (λ (x : List ℕ × List ℕ). x.1) e))
    (Decides-and _ _ (bytes_eq-Decides a.0 b.0) (bytes_eq-Decides a.1 b.1))

Decides-same_node_role : (a b : NodeRole) → Decides (same_node_role a b) (a ≡ b)
Decides-same_node_role node_role.Worker node_role.Worker = (λ e. refl, λ e. refl)
Decides-same_node_role node_role.Manager node_role.Manager = (λ e. refl, λ e. refl)
Decides-same_node_role _ _ = (λ e. cc, λ e. cc)

Decides-same_availability : (a b : Availability) → Decides (same_availability a b) (a ≡ b)
Decides-same_availability availability.Active availability.Active = (λ e. refl, λ e. refl)
Decides-same_availability availability.Pause availability.Pause = (λ e. refl, λ e. refl)
Decides-same_availability availability.Drain availability.Drain = (λ e. refl, λ e. refl)
Decides-same_availability _ _ = (λ e. cc, λ e. cc)

Decides-same_node_state : (a b : NodeState) → Decides (same_node_state a b) (a ≡ b)
Decides-same_node_state node_state.Unknown node_state.Unknown = (λ e. refl, λ e. refl)
Decides-same_node_state node_state.Down node_state.Down = (λ e. refl, λ e. refl)
Decides-same_node_state node_state.Ready node_state.Ready = (λ e. refl, λ e. refl)
Decides-same_node_state node_state.Disconnected node_state.Disconnected = (λ e. refl, λ e. refl)
Decides-same_node_state _ _ = (λ e. cc, λ e. cc)

abbrev SameNodeWish : Node → Node → Type 0
SameNodeWish a b = ((((a.name ≡ b.name) × (a.labels ≡ b.labels)) × (a.role ≡ b.role)) × (a.availability ≡ b.availability))

Decides-same_node_wish : (a b : Node) → Decides (same_node_wish a b) (SameNodeWish a b)
Decides-same_node_wish a b =
    (Decides-and _ _ (Decides-and _ _ (Decides-and _ _ (bytes_eq-Decides a.name b.name) (Decides-pointwise same_label Decides-same_label a.labels b.labels)) (Decides-same_node_role a.role b.role)) (Decides-same_availability a.availability b.availability))

abbrev SameNodeFacts : Node → Node → Type 0
SameNodeFacts a b = ((((((((a.state ≡ b.state) × (a.down_since ≡ b.down_since)) × (a.cpu ≡ b.cpu)) × (a.mem ≡ b.mem)) × (a.os ≡ b.os)) × (a.arch ≡ b.arch)) × (a.engine ≡ b.engine)) × (a.remote ≡ b.remote))

Decides-same_node_facts : (a b : Node) → Decides (same_node_facts a b) (SameNodeFacts a b)
Decides-same_node_facts a b =
    (Decides-and _ _ (Decides-and _ _ (Decides-and _ _ (Decides-and _ _ (Decides-and _ _ (Decides-and _ _ (Decides-and _ _ (Decides-same_node_state a.state b.state) (Decides-eqb a.down_since b.down_since)) (Decides-eqb a.cpu b.cpu)) (Decides-eqb a.mem b.mem)) (bytes_eq-Decides a.os b.os)) (bytes_eq-Decides a.arch b.arch)) (Decides-pointwise same_label Decides-same_label a.engine b.engine)) (Decides-same_bool a.remote b.remote))

pub Decides-same_node : (a b : Node) → a.id ≡ b.id → Decides (same_node a b) (a ≡ b)
Decides-same_node a b same =
    Decides-like (same_node a b)
    (λ e i. record {
      id = same i;
      version = e.0.0 i;
      name = e.0.1.0.0.0 i;
      labels = e.0.1.0.0.1 i;
      role = e.0.1.0.1 i;
      availability = e.0.1.1 i;
      state = e.1.0.0.0.0.0.0.0 i;
      down_since = e.1.0.0.0.0.0.0.1 i;
      cpu = e.1.0.0.0.0.0.1 i;
      mem = e.1.0.0.0.0.1 i;
      os = e.1.0.0.0.1 i;
      arch = e.1.0.0.1 i;
      engine = e.1.0.1 i;
      remote = e.1.1 i;
    })
    (λ e. (
      (
        ap (λ (x : Node). x.version) e,
        (((ap (λ (x : Node). x.name) e, ap (λ (x : Node). x.labels) e), ap (λ (x : Node). x.role) e), ap (λ (x : Node). x.availability) e),
      ),
      (((((((ap (λ (x : Node). x.state) e, ap (λ (x : Node). x.down_since) e), ap (λ (x : Node). x.cpu) e), ap (λ (x : Node). x.mem) e), ap (λ (x : Node). x.os) e), ap (λ (x : Node). x.arch) e), ap (λ (x : Node). x.engine) e), ap (λ (x : Node). x.remote) e),
    ))
    (Decides-and _ _ (Decides-and _ _ (Decides-eqb a.version b.version) (Decides-same_node_wish a b)) (Decides-same_node_facts a b))

-- Services.

Decides-same_numbers_of_mode : (a b : Mode) → Decides (same_numbers_of_mode a b) (a ≡ b)
Decides-same_numbers_of_mode (mode.Replicated a) (mode.Replicated b) =
    Decides-like (a == b) (λ e. ap (λ z. mode.Replicated z) e) (λ e. cc) (Decides-eqb a b)
Decides-same_numbers_of_mode mode.Global mode.Global = (λ e. refl, λ e. refl)
Decides-same_numbers_of_mode (mode.Job a b) (mode.Job c d) =
    Decides-like (a == c && b == d) (λ e. let p : a ≡ c = e.0 in let q : b ≡ d = e.1 in cc) (λ e. (cc, cc))
    (Decides-and (a == c) (b == d) (Decides-eqb a c) (Decides-eqb b d))
Decides-same_numbers_of_mode _ _ = (λ e. cc, λ e. cc)

Decides-same_action : (a b : FailureAction) → Decides (same_action a b) (a ≡ b)
Decides-same_action action.Pause action.Pause = (λ e. refl, λ e. refl)
Decides-same_action action.Continue action.Continue = (λ e. refl, λ e. refl)
Decides-same_action action.Rollback action.Rollback = (λ e. refl, λ e. refl)
Decides-same_action _ _ = (λ e. cc, λ e. cc)

Decides-same_order : (a b : UpdateOrder) → Decides (same_order a b) (a ≡ b)
Decides-same_order order.StopFirst order.StopFirst = (λ e. refl, λ e. refl)
Decides-same_order order.StartFirst order.StartFirst = (λ e. refl, λ e. refl)
Decides-same_order _ _ = (λ e. cc, λ e. cc)

Decides-same_update : (a b : UpdateConfig) → Decides (same_update a b) (a ≡ b)
Decides-same_update a b =
    Decides-like (same_update a b)
    (λ e i. record { parallelism = e.0.0.0.0.0 i; delay = e.0.0.0.0.1 i; monitor = e.0.0.0.1 i; action = e.0.0.1 i; ratio = e.0.1 i; order = e.1 i })
    (λ e. (((((ap (λ (x : UpdateConfig). x.parallelism) e, ap (λ (x : UpdateConfig). x.delay) e), ap (λ (x : UpdateConfig). x.monitor) e), ap (λ (x : UpdateConfig). x.action) e), ap (λ (x : UpdateConfig). x.ratio) e), ap (λ (x : UpdateConfig). x.order) e))
    (Decides-and _ _ (Decides-and _ _ (Decides-and _ _ (Decides-and _ _ (Decides-and _ _ (Decides-eqb a.parallelism b.parallelism) (Decides-eqb a.delay b.delay)) (Decides-eqb a.monitor b.monitor)) (Decides-same_action a.action b.action)) (Decides-eqb a.ratio b.ratio)) (Decides-same_order a.order b.order))

Decides-same_spec : (a b : ServiceSpec) → Decides (same_spec a b) (a ≡ b)
Decides-same_spec a b =
    Decides-like (same_spec a b)
    (λ e i. record { mode = e.0.0.0 i; template = e.0.0.1 i; ports = e.0.1 i; update = e.1 i })
    (λ e. (((ap (λ (x : ServiceSpec). x.mode) e, ap (λ (x : ServiceSpec). x.template) e), ap (λ (x : ServiceSpec). x.ports) e), ap (λ (x : ServiceSpec). x.update) e))
    (Decides-and _ _ (Decides-and _ _ (Decides-and _ _ (Decides-same_numbers_of_mode a.mode b.mode) (Decides-same_template a.template b.template)) (Decides-pointwise same_port Decides-same_port a.ports b.ports)) (Decides-same_update a.update b.update))

Decides-same_status : (a b : RunStatus) → Decides (same_status a b) (a ≡ b)
Decides-same_status status.Updating status.Updating = (λ e. refl, λ e. refl)
Decides-same_status status.Paused status.Paused = (λ e. refl, λ e. refl)
Decides-same_status status.Completed status.Completed = (λ e. refl, λ e. refl)
Decides-same_status status.RollbackStarted status.RollbackStarted = (λ e. refl, λ e. refl)
Decides-same_status status.RollbackPaused status.RollbackPaused = (λ e. refl, λ e. refl)
Decides-same_status status.RollbackCompleted status.RollbackCompleted = (λ e. refl, λ e. refl)
Decides-same_status _ _ = (λ e. cc, λ e. cc)

Decides-same_replaced : (a b : Replaced) → Decides (same_replaced a b) (a ≡ b)
Decides-same_replaced a b =
    Decides-like (same_replaced a b)
    (λ e i. record { place = e.0.0 i; task = e.0.1 i; created = e.1 i })
    (λ e. ((ap (λ (x : Replaced). x.place) e, ap (λ (x : Replaced). x.task) e), ap (λ (x : Replaced). x.created) e))
    (Decides-and _ _ (Decides-and _ _ (Decides-same_place a.place b.place) (Decides-eqb a.task b.task)) (Decides-eqb a.created b.created))

Decides-same_run : (a b : UpdateRun) → Decides (same_run a b) (a ≡ b)
Decides-same_run a b =
    Decides-like (same_run a b)
    (λ e i. record { status = e.0.0.0 i; version = e.0.0.1 i; total = e.0.1 i; replaced = e.1 i })
    (λ e. (((ap (λ (x : UpdateRun). x.status) e, ap (λ (x : UpdateRun). x.version) e), ap (λ (x : UpdateRun). x.total) e), ap (λ (x : UpdateRun). x.replaced) e))
    (Decides-and _ _ (Decides-and _ _ (Decides-and _ _ (Decides-same_status a.status b.status) (Decides-eqb a.version b.version)) (Decides-eqb a.total b.total)) (Decides-pointwise same_replaced Decides-same_replaced a.replaced b.replaced))

Decides-same_port_number : (a b : PortNumber) → Decides (same_port_number a b) (a ≡ b)
Decides-same_port_number a b =
    Decides-like (same_port_number a b)
    (λ e i. record { target = e.0.0 i; udp = e.0.1 i; number = e.1 i })
    (λ e. ((ap (λ (x : PortNumber). x.target) e, ap (λ (x : PortNumber). x.udp) e), ap (λ (x : PortNumber). x.number) e))
    (Decides-and _ _ (Decides-and _ _ (Decides-eqb a.target b.target) (Decides-same_bool a.udp b.udp)) (Decides-eqb a.number b.number))

abbrev SameServiceWish : Service → Service → Type 0
SameServiceWish a b = (((a.name ≡ b.name) × (a.spec ≡ b.spec)) × (a.previous ≡ b.previous))

Decides-same_service_wish : (a b : Service) → Decides (same_service_wish a b) (SameServiceWish a b)
Decides-same_service_wish a b =
    (Decides-and _ _ (Decides-and _ _ (bytes_eq-Decides a.name b.name) (Decides-same_spec a.spec b.spec)) (Decides-option_eq same_spec Decides-same_spec a.previous b.previous))

abbrev SameServiceFacts : Service → Service → Type 0
SameServiceFacts a b = (((((a.template_version ≡ b.template_version) × (a.rolling_back ≡ b.rolling_back)) × (a.iteration ≡ b.iteration)) × (a.numbers ≡ b.numbers)) × (a.run ≡ b.run))

Decides-same_service_facts : (a b : Service) → Decides (same_service_facts a b) (SameServiceFacts a b)
Decides-same_service_facts a b =
    (Decides-and _ _ (Decides-and _ _ (Decides-and _ _ (Decides-and _ _ (Decides-eqb a.template_version b.template_version) (Decides-same_bool a.rolling_back b.rolling_back)) (Decides-eqb a.iteration b.iteration)) (Decides-pointwise same_port_number Decides-same_port_number a.numbers b.numbers)) (Decides-option_eq same_run Decides-same_run a.run b.run))

pub Decides-same_service : (a b : Service) → a.id ≡ b.id → Decides (same_service a b) (a ≡ b)
Decides-same_service a b same =
    Decides-like (same_service a b)
    (λ e i. record {
      id = same i;
      version = e.0.0 i;
      name = e.0.1.0.0 i;
      spec = e.0.1.0.1 i;
      previous = e.0.1.1 i;
      template_version = e.1.0.0.0.0 i;
      rolling_back = e.1.0.0.0.1 i;
      iteration = e.1.0.0.1 i;
      numbers = e.1.0.1 i;
      run = e.1.1 i;
    })
    (λ e. (
      (
        ap (λ (x : Service). x.version) e,
        ((ap (λ (x : Service). x.name) e, ap (λ (x : Service). x.spec) e), ap (λ (x : Service). x.previous) e),
      ),
      ((((ap (λ (x : Service). x.template_version) e, ap (λ (x : Service). x.rolling_back) e), ap (λ (x : Service). x.iteration) e), ap (λ (x : Service). x.numbers) e), ap (λ (x : Service). x.run) e),
    ))
    (Decides-and _ _ (Decides-and _ _ (Decides-eqb a.version b.version) (Decides-same_service_wish a b)) (Decides-same_service_facts a b))

-- Tasks.

abbrev states : List TaskState
states =
    state.New ∷ state.Pending ∷ state.Assigned ∷ state.Accepted ∷ state.Preparing ∷ state.Ready ∷ state.Starting
    ∷ state.Running ∷ state.Complete ∷ state.Shutdown ∷ state.Failed ∷ state.Rejected ∷ state.Remove ∷ state.Orphaned ∷ []

ranked : (s : TaskState) → find (λ x. rank x == rank s) states ≡ Some s
ranked state.New = refl
ranked state.Pending = refl
ranked state.Assigned = refl
ranked state.Accepted = refl
ranked state.Preparing = refl
ranked state.Ready = refl
ranked state.Starting = refl
ranked state.Running = refl
ranked state.Complete = refl
ranked state.Shutdown = refl
ranked state.Failed = refl
ranked state.Rejected = refl
ranked state.Remove = refl
ranked state.Orphaned = refl

Decides-rank : (a b : TaskState) → Decides (rank a == rank b) (a ≡ b)
Decides-rank a b =
    Decides-like (rank a == rank b)
    (λ e. some_same (sym (ranked a) ∙ ap (λ n. find (λ x. rank x == n) states) e ∙ ranked b)) (λ e. ap rank e)
    (Decides-eqb (rank a) (rank b))

abbrev all_desired : List Desired
all_desired = desired.Ready ∷ desired.Running ∷ desired.Complete ∷ desired.Shutdown ∷ desired.Remove ∷ []

desired_ranked : (d : Desired) → find (λ x. desired_rank x == desired_rank d) all_desired ≡ Some d
desired_ranked desired.Ready = refl
desired_ranked desired.Running = refl
desired_ranked desired.Complete = refl
desired_ranked desired.Shutdown = refl
desired_ranked desired.Remove = refl

Decides-desired_rank : (a b : Desired) → Decides (desired_rank a == desired_rank b) (a ≡ b)
Decides-desired_rank a b =
    Decides-like (desired_rank a == desired_rank b)
    (λ e. some_same (sym (desired_ranked a) ∙ ap (λ n. find (λ x. desired_rank x == n) all_desired) e ∙ desired_ranked b))
    (λ e. ap desired_rank e) (Decides-eqb (desired_rank a) (desired_rank b))

Decides-same_address : (a b : Address) → Decides (same_address a b) (a ≡ b)
Decides-same_address a b =
    Decides-like (same_address a b)
    (λ e i. record { network = e.0 i; number = e.1 i })
    (λ e. (ap (λ (x : Address). x.network) e, ap (λ (x : Address). x.number) e))
    (Decides-and _ _ (Decides-eqb a.network b.network) (Decides-eqb a.number b.number))

Decides-same_cause : (a b : Closed) → Decides (same_cause a b) (a ≡ b)
Decides-same_cause closed.Condition closed.Condition = (λ e. refl, λ e. refl)
Decides-same_cause closed.Done closed.Done = (λ e. refl, λ e. refl)
Decides-same_cause (closed.Attempts a) (closed.Attempts b) =
    Decides-like (a == b) (λ e. ap (λ z. closed.Attempts z) e) (λ e. cc) (Decides-eqb a b)
Decides-same_cause _ _ = (λ e. cc, λ e. cc)

Decides-same_note : (a b : Note) → Decides (same_note a b) (a ≡ b)
Decides-same_note note.Empty note.Empty = (λ e. refl, λ e. refl)
Decides-same_note (note.Filters a) (note.Filters b) =
    Decides-like (pointwise same_number a b) (λ e. ap (λ z. note.Filters z) e) (λ e. cc)
    (Decides-pointwise same_number Decides-same_number a b)
Decides-same_note (note.NoPort a) (note.NoPort b) =
    Decides-like (same_bool a b) (λ e. ap (λ z. note.NoPort z) e) (λ e. cc) (Decides-same_bool a b)
Decides-same_note (note.NoAddress a) (note.NoAddress b) =
    Decides-like (a == b) (λ e. ap (λ z. note.NoAddress z) e) (λ e. cc) (Decides-eqb a b)
Decides-same_note _ _ = (λ e. cc, λ e. cc)

abbrev SameMaking : Task → Task → Type 0
SameMaking a b = ((((((((a.service ≡ b.service) × (a.place ≡ b.place)) × (a.iteration ≡ b.iteration)) × (a.template ≡ b.template)) × (a.born ≡ b.born)) × (a.goal ≡ b.goal)) × (a.created ≡ b.created)) × (a.raise_at ≡ b.raise_at))

Decides-same_task_making : (a b : Task) → Decides (same_task_making a b) (SameMaking a b)
Decides-same_task_making a b =
    (Decides-and _ _ (Decides-and _ _ (Decides-and _ _ (Decides-and _ _ (Decides-and _ _ (Decides-and _ _ (Decides-and _ _ (Decides-eqb a.service b.service) (Decides-same_place a.place b.place)) (Decides-eqb a.iteration b.iteration)) (Decides-same_template a.template b.template)) (Decides-eqb a.born b.born)) (Decides-desired_rank a.goal b.goal)) (Decides-eqb a.created b.created)) (Decides-eqb a.raise_at b.raise_at))

abbrev SameTaskFacts : Task → Task → Type 0
SameTaskFacts a b = (((((((a.node ≡ b.node) × (a.state ≡ b.state)) × (a.since ≡ b.since)) × (a.desired ≡ b.desired)) × (a.addresses ≡ b.addresses)) × (a.note ≡ b.note)) × (a.closed ≡ b.closed))

Decides-same_task_facts : (a b : Task) → Decides (same_task_facts a b) (SameTaskFacts a b)
Decides-same_task_facts a b =
    (Decides-and _ _ (Decides-and _ _ (Decides-and _ _ (Decides-and _ _ (Decides-and _ _ (Decides-and _ _ (Decides-option_eq same_number Decides-same_number a.node b.node) (Decides-rank a.state b.state)) (Decides-eqb a.since b.since)) (Decides-desired_rank a.desired b.desired)) (Decides-pointwise same_address Decides-same_address a.addresses b.addresses)) (Decides-same_note a.note b.note)) (Decides-option_eq same_cause Decides-same_cause a.closed b.closed))

pub Decides-same_task : (a b : Task) → a.id ≡ b.id → Decides (same_task a b) (a ≡ b)
Decides-same_task a b same =
    Decides-like (same_task a b)
    (λ e i. record {
      id = same i;
      version = e.0.0 i;
      service = e.0.1.0.0.0.0.0.0.0 i;
      place = e.0.1.0.0.0.0.0.0.1 i;
      iteration = e.0.1.0.0.0.0.0.1 i;
      template = e.0.1.0.0.0.0.1 i;
      born = e.0.1.0.0.0.1 i;
      goal = e.0.1.0.0.1 i;
      created = e.0.1.0.1 i;
      raise_at = e.0.1.1 i;
      node = e.1.0.0.0.0.0.0 i;
      state = e.1.0.0.0.0.0.1 i;
      since = e.1.0.0.0.0.1 i;
      desired = e.1.0.0.0.1 i;
      addresses = e.1.0.0.1 i;
      note = e.1.0.1 i;
      closed = e.1.1 i;
    })
    (λ e. (
      (
        ap (λ (x : Task). x.version) e,
        (((((((ap (λ (x : Task). x.service) e, ap (λ (x : Task). x.place) e), ap (λ (x : Task). x.iteration) e), ap (λ (x : Task). x.template) e), ap (λ (x : Task). x.born) e), ap (λ (x : Task). x.goal) e), ap (λ (x : Task). x.created) e), ap (λ (x : Task). x.raise_at) e),
      ),
      ((((((ap (λ (x : Task). x.node) e, ap (λ (x : Task). x.state) e), ap (λ (x : Task). x.since) e), ap (λ (x : Task). x.desired) e), ap (λ (x : Task). x.addresses) e), ap (λ (x : Task). x.note) e), ap (λ (x : Task). x.closed) e),
    ))
    (Decides-and _ _ (Decides-and _ _ (Decides-eqb a.version b.version) (Decides-same_task_making a b)) (Decides-same_task_facts a b))

-- Networks.

pub Decides-same_network : (a b : Network) → a.id ≡ b.id → Decides (same_network a b) (a ≡ b)
Decides-same_network a b same =
    Decides-like (same_network a b)
    (λ e i. record { id = same i; version = e.0.0.0 i; name = e.0.0.1 i; base = e.0.1 i; length = e.1 i })
    (λ e. (((ap (λ (x : Network). x.version) e, ap (λ (x : Network). x.name) e), ap (λ (x : Network). x.base) e), ap (λ (x : Network). x.length) e))
    (Decides-and _ _ (Decides-and _ _ (Decides-and _ _ (Decides-eqb a.version b.version) (bytes_eq-Decides a.name b.name)) (Decides-eqb a.base b.base)) (Decides-eqb a.length b.length))

-- Every row has its own content.

pub node-itself : (n : Node) → same_node n n ≡ true
node-itself n = (Decides-same_node n n refl).1 refl

pub service-itself : (s : Service) → same_service s s ≡ true
service-itself s = (Decides-same_service s s refl).1 refl

pub task-itself : (x : Task) → same_task x x ≡ true
task-itself x = (Decides-same_task x x refl).1 refl

pub network-itself : (n : Network) → same_network n n ≡ true
network-itself n = (Decides-same_network n n refl).1 refl
