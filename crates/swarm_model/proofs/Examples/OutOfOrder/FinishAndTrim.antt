-- Duties out of order, among them finish, trim, expire, drop, beat, raise, start and replace.
use Rattle.std.specs.Prelude.{List, None, Some, [], codes, false, refl, true, ◌∷◌, ◌≡◌}
use Rattle.swarm_model.proofs.Examples.Audit.{IsPlayed, Told, asked, did, entries_of, played}
use Rattle.swarm_model.proofs.Examples.LawTests.{laws_hold}
use Rattle.swarm_model.proofs.Examples.Usual.{agent_row, assigned, draft, executor_row, made, no_node, no_service, node_row, service_row, session_row, task_row, ticks}
use Rattle.swarm_model.proofs.Examples.Words.{one}
use Rattle.swarm_objects.specs.Defaults.{usual_node, usual_restart, usual_spec, usual_template, usual_update, usual_workload}
use Rattle.swarm_objects.specs.World.{World, empty_tables, empty_world}
use Rattle.swarm_objects.specs.declared.agents.AgentMode.TheVariants as agent_mode
use Rattle.swarm_objects.specs.declared.calls.Call.TheVariants as call
use Rattle.swarm_objects.specs.declared.calls.Entry.{Entry}
use Rattle.swarm_objects.specs.declared.calls.Op.TheVariants as op
use Rattle.swarm_objects.specs.declared.duties.Duty.TheVariants as duty
use Rattle.swarm_objects.specs.declared.nodes.Availability.TheVariants as availability
use Rattle.swarm_objects.specs.declared.nodes.NodeDraft.{NodeDraft}
use Rattle.swarm_objects.specs.declared.nodes.NodeRole.TheVariants as node_role
use Rattle.swarm_objects.specs.declared.nodes.NodeState.TheVariants as node_state
use Rattle.swarm_objects.specs.declared.replies.Reply.TheVariants as reply
use Rattle.swarm_objects.specs.declared.services.Mode.TheVariants as mode
use Rattle.swarm_objects.specs.declared.services.RunStatus.TheVariants as status
use Rattle.swarm_objects.specs.declared.services.ServiceSpec.{ServiceSpec}
use Rattle.swarm_objects.specs.declared.tasks.Desired.TheVariants as desired
use Rattle.swarm_objects.specs.declared.tasks.Place.TheVariants.{On}
use Rattle.swarm_objects.specs.declared.tasks.TaskState.TheVariants as state
use Rattle.swarm_objects.specs.declared.templates.End.TheVariants as end
use Rattle.swarm_objects.specs.declared.templates.Key.TheVariants as key
use Rattle.swarm_objects.specs.declared.templates.Template.{Template}
use Rattle.swarm_objects.specs.declared.templates.Workload.{Workload}

abbrev draft_1 : NodeDraft
draft_1 = record usual_node { labels = (codes "zone", codes "A") ∷ []; cpu = 2000 }

abbrev draft_2 : NodeDraft
draft_2 = record usual_node { labels = (codes "zone", codes "b") ∷ []; role = node_role.Manager }

abbrev workload_1 : Workload
workload_1 = record usual_workload { end = end.Exit 1000 1 }

abbrev template_1 : Template
template_1 = record usual_template {
  workload = workload_1;
  constraints = record { key = key.Label (codes "zone"); equal = false; value = codes "a" } ∷ [];
  restart = record usual_restart { delay = 0 };
}

abbrev spec_1 : ServiceSpec
spec_1 = record usual_spec { mode = mode.Global; template = template_1 }

abbrev workload_2 : Workload
workload_2 = record usual_workload { start = 2 }

abbrev template_2 : Template
template_2 = record usual_template {
  workload = workload_2;
  constraints = record { key = key.Label (codes "zone"); equal = false; value = codes "a" } ∷ [];
  restart = record usual_restart { delay = 0 };
}

abbrev spec_2 : ServiceSpec
spec_2 = record usual_spec { mode = mode.Global; template = template_2; update = record usual_update { ratio = 1000 } }

abbrev pub journal : List Told
journal =
    asked 0 (one (op.CreateNode (codes "n1") draft_1)) (made 1)
    ∷ asked 0 (one (op.CreateNode (codes "n2") draft_1)) (made 2)
    ∷ asked 0 (one (op.CreateNode (codes "n3") draft_2)) (made 3)
    ∷ asked 0 (one (op.CreateNetwork (codes "lan") 167772416 29)) (made 4)
    ∷ asked 0 (one (op.CreateNetwork (codes "wan") 167772672 28)) (made 5)
    ∷ asked 0 (one (op.SetCluster (record { heartbeat = 1000; orphan = 4000; history = 0 }))) (made 0)
    ∷ asked 0 (one (op.CreateService (codes "s1") (draft spec_1))) (made 6)
    ∷ did 0 (duty.Register 1)
    ∷ asked 0
    (one (op.UpdateNode (codes "n2") None ((codes "zone", codes "A") ∷ []) node_role.Worker availability.Active))
    (made 2)
    ∷ did 0 (duty.Pull 1)
    ∷ did 0 (duty.Apply 1)
    ∷ did 0 (duty.Register 2)
    ∷ did 0 (duty.Pull 2)
    ∷ did 0 (duty.Apply 2)
    ∷ did 0 (duty.Register 3)
    ∷ did 0 (duty.GlobalCreate 6 3)
    ∷ did 0 (duty.Address 10)
    ∷ asked 0 (one (op.UpdateService (codes "s1") None (draft spec_2))) (made 6)
    ∷ did 0 (duty.Start 6)
    ∷ did 0 (duty.Replace 6 3)
    ∷ did 0 (duty.Raise 11)
    ∷ did 0 (duty.Address 11)
    ∷ did 0 (duty.Drop 10)
    ∷ did 0 (duty.Place 11 3)
    ∷ did 0 (duty.Pull 3)
    ∷ did 0 (duty.Apply 3)
    ∷ did 0 (duty.Exec 3 10)
    ∷ did 0 (duty.Exec 3 11)
    ∷ did 0 (duty.Report 3 10)
    ∷ did 0 (duty.Report 3 11)
    ∷ asked 0 (call.AgentStop (codes "n2")) (reply.AgentDone 2)
    ∷ ticks 5
    ∷ did 0 (duty.Exec 3 11)
    ∷ did 0 (duty.Exec 3 11)
    ∷ did 0 (duty.Report 3 11)
    ∷ asked 0 (call.RemoteBegin (codes "r2") None None) (no_node (codes "r2"))
    ∷ asked 0 (call.RemoteBegin (codes "r2") (Some 1000001) None) (no_node (codes "r2"))
    ∷ asked 0 (call.RemoteBegin (codes "r2") None None) (no_node (codes "r2"))
    ∷ asked 0 (one (op.RemoveService (codes "s3"))) (no_service (codes "s3"))
    ∷ asked 0
    (one (op.UpdateNode (codes "r1") None ((codes "zone", codes "A") ∷ []) node_role.Manager availability.Active))
    (no_node (codes "r1"))
    ∷ asked 0 (call.RemoteBegin (codes "r1") None None) (no_node (codes "r1"))
    ∷ ticks 2
    ∷ did 0 (duty.Exec 3 11)
    ∷ did 0 (duty.Report 3 11)
    ∷ ticks 1000
    ∷ did 0 (duty.Beat 1)
    ∷ did 0 (duty.Beat 3)
    ∷ ticks 1000
    ∷ did 0 (duty.Beat 1)
    ∷ did 0 (duty.Beat 3)
    ∷ ticks 993
    ∷ did 0 (duty.Expire 2)
    ∷ ticks 1000
    ∷ did 0 (duty.Beat 1)
    ∷ did 0 (duty.Beat 3)
    ∷ ticks 1000
    ∷ did 0 (duty.Finish 6)
    ∷ did 0 (duty.Trim 10)
    ∷ did 0 (duty.Beat 1)
    ∷ did 0 (duty.Beat 3)
    ∷ []

abbrev pub world : World
world = record empty_world {
  entries = 60;
  tables = record empty_tables {
    clock = 5000;
    next_id = 12;
    nodes =
        node_row 1 8 (codes "n1") draft_1
        ∷ record (node_row 2 52 (codes "n2") draft_1) { state = node_state.Down; down_since = 3000 }
        ∷ node_row 3 15 (codes "n3") draft_2
        ∷ [];
    services =
        record (service_row 6 57 (codes "s1") spec_2) {
          previous = Some spec_1;
          template_version = 18;
          run = Some (record {
            status = status.Completed;
            version = 18;
            total = 1;
            replaced = record { place = On 3; task = 11; created = 0 } ∷ [];
          });
        }
        ∷ [];
    tasks = record (task_row 11 44 6 18 (On 3) template_2) { node = Some 3; state = state.Running; since = 7 } ∷ [];
    networks =
        record { id = 4; version = 4; name = codes "lan"; base = 167772416; length = 29 }
        ∷ record { id = 5; version = 5; name = codes "wan"; base = 167772672; length = 28 }
        ∷ [];
    sessions = session_row 1 7 8000 5000 ∷ session_row 2 8 3000 0 ∷ session_row 3 9 8000 5000 ∷ [];
    settings = record { heartbeat = 1000; orphan = 4000; history = 0 };
  };
  sent =
      record { node = 1; count = 1; tasks = [] }
      ∷ record { node = 2; count = 1; tasks = [] }
      ∷ record {
        node = 3;
        count = 1;
        tasks = assigned 10 desired.Shutdown workload_1 ∷ assigned 11 desired.Running workload_2 ∷ [];
      }
      ∷ [];
  agents =
      agent_row 1 1 []
      ∷ record (agent_row 2 1 []) { mode = agent_mode.AgentOff }
      ∷ agent_row 3 1 (
      record (executor_row 10 workload_1 state.Shutdown 0) { desired = desired.Shutdown }
      ∷ executor_row 11 workload_2 state.Running 7
      ∷ [])
      ∷ [];
}

abbrev pub history : List Entry
history = entries_of journal

it_goes_so : IsPlayed empty_world journal world
it_goes_so = played empty_world journal world refl

it_keeps_the_laws : laws_hold empty_world history ≡ true
it_keeps_the_laws = refl
