-- What stands where nothing is named.
use Rattle.std.specs.Prelude.{[], false}
use Rattle.swarm_objects.specs.Limits.{longest_time}
use Rattle.swarm_objects.specs.declared.nodes.NodeDraft.{NodeDraft}
use Rattle.swarm_objects.specs.declared.nodes.TheConstants.NodeDraft.{USUAL_ROLE, USUAL_AVAILABILITY, USUAL_CPU, USUAL_MEM, USUAL_OS, USUAL_ARCH}
use Rattle.swarm_objects.specs.declared.services.Draft.{Draft}
use Rattle.swarm_objects.specs.declared.services.FailureAction.TheVariants.{Pause}
use Rattle.swarm_objects.specs.declared.services.Mode.{Mode}
use Rattle.swarm_objects.specs.declared.services.Mode.TheVariants.{Replicated}
use Rattle.swarm_objects.specs.declared.services.ServiceSpec.{ServiceSpec}
use Rattle.swarm_objects.specs.declared.services.UpdateConfig.{UpdateConfig}
use Rattle.swarm_objects.specs.declared.services.UpdateOrder.TheVariants.{StopFirst}
use Rattle.swarm_objects.specs.declared.settings.Settings.{Settings}
use Rattle.swarm_objects.specs.declared.templates.End.TheVariants.{Never}
use Rattle.swarm_objects.specs.declared.templates.RestartCondition.TheVariants.{Any}
use Rattle.swarm_objects.specs.declared.templates.RestartPolicy.{RestartPolicy}
use Rattle.swarm_objects.specs.declared.templates.Template.{Template}
use Rattle.swarm_objects.specs.declared.templates.Workload.{Workload}

abbrev pub usual_settings : Settings
usual_settings = record { heartbeat = 5000; orphan = longest_time; history = 5 }

abbrev pub usual_workload : Workload
usual_workload = record { prepare = 1; start = 1; stop = 1; end = Never }

abbrev pub usual_restart : RestartPolicy
usual_restart = record { condition = Any; delay = 5000; max_attempts = 0; window = 0 }

abbrev pub usual_template : Template
usual_template = record {
  workload = usual_workload;
  cpu = 0;
  mem = 0;
  constraints = [];
  spread = [];
  platforms = [];
  max_replicas = 0;
  networks = [];
  host_ports = [];
  restart = usual_restart;
}

abbrev pub usual_update : UpdateConfig
usual_update = record { parallelism = 1; delay = 0; monitor = 5000; action = Pause; ratio = 0; order = StopFirst }

abbrev pub usual_mode : Mode
usual_mode = Replicated 1

abbrev pub usual_spec : ServiceSpec
usual_spec = record { mode = usual_mode; template = usual_template; ports = []; update = usual_update }

abbrev pub usual_draft : Draft
usual_draft = record { spec = usual_spec; networks = [] }

abbrev pub usual_node : NodeDraft
usual_node = record {
  labels = [];
  role = USUAL_ROLE;
  availability = USUAL_AVAILABILITY;
  cpu = USUAL_CPU;
  mem = USUAL_MEM;
  os = USUAL_OS.now;
  arch = USUAL_ARCH.now;
  engine = [];
  remote = false;
}
