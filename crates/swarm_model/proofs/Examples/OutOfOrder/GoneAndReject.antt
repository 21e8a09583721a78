-- Duties out of order, among them gone, reject and leave.
use Rattle.std.specs.Prelude.{List, None, Some, [], codes, false, refl, true, ◌∷◌, ◌≡◌}
use Rattle.swarm_model.proofs.Examples.Audit.{IsPlayed, Told, asked, did, entries_of, played}
use Rattle.swarm_model.proofs.Examples.LawTests.{laws_hold}
use Rattle.swarm_model.proofs.Examples.Usual.{agent_row, assigned, draft, executor_row, made, no_service, node_row, service_row, session_row, task_row, ticks}
use Rattle.swarm_model.proofs.Examples.Words.{one}
use Rattle.swarm_objects.specs.Defaults.{usual_node, usual_restart, usual_spec, usual_template, usual_update, usual_workload}
use Rattle.swarm_objects.specs.World.{World, empty_tables, empty_world}
use Rattle.swarm_objects.specs.declared.agents.AgentMode.TheVariants as agent_mode
use Rattle.swarm_objects.specs.declared.calls.Call.TheVariants as call
use Rattle.swarm_objects.specs.declared.calls.Entry.{Entry}
use Rattle.swarm_objects.specs.declared.calls.Op.TheVariants as op
use Rattle.swarm_objects.specs.declared.duties.Duty.TheVariants as duty
use Rattle.swarm_objects.specs.declared.ids.Kind.TheVariants as kind
use Rattle.swarm_objects.specs.declared.messages.AssignChange.TheVariants as assign
use Rattle.swarm_objects.specs.declared.nodes.Availability.TheVariants as availability
use Rattle.swarm_objects.specs.declared.nodes.NodeDraft.{NodeDraft}
use Rattle.swarm_objects.specs.declared.nodes.NodeRole.TheVariants as node_role
use Rattle.swarm_objects.specs.declared.replies.Refusal.TheVariants as refusal
use Rattle.swarm_objects.specs.declared.replies.Reply.TheVariants as reply
use Rattle.swarm_objects.specs.declared.services.Mode.TheVariants as mode
use Rattle.swarm_objects.specs.declared.services.ServiceSpec.{ServiceSpec}
use Rattle.swarm_objects.specs.declared.tasks.Desired.TheVariants as desired
use Rattle.swarm_objects.specs.declared.tasks.Place.TheVariants.{On, Slot}
use Rattle.swarm_objects.specs.declared.tasks.TaskState.TheVariants as state
use Rattle.swarm_objects.specs.declared.templates.End.TheVariants as end
use Rattle.swarm_objects.specs.declared.templates.Key.TheVariants as key
use Rattle.swarm_objects.specs.declared.templates.Template.{Template}
use Rattle.swarm_objects.specs.declared.templates.Workload.{Workload}

abbrev draft_1 : NodeDraft
draft_1 = record usual_node {
  labels = (codes "zone", codes "A") ∷ [];
  role = node_role.Manager;
  cpu = 2000;
  engine = (codes "disk", codes "ssd") ∷ [];
}

abbrev draft_2 : NodeDraft
draft_2 = record usual_node { cpu = 2000; engine = (codes "disk", codes "ssd") ∷ [] }

abbrev draft_3 : NodeDraft
draft_3 = record usual_node { labels = (codes "zone", codes "A") ∷ []; cpu = 2000; remote = true }

abbrev workload_1 : Workload
workload_1 = record usual_workload { end = end.Exit 1000 1 }

abbrev template_1 : Template
template_1 = record usual_template {
  workload = workload_1;
  constraints = record { key = key.Label (codes "zone"); equal = true; value = codes "a" } ∷ [];
  restart = record usual_restart { delay = 4; max_attempts = 2 };
}

abbrev spec_1 : ServiceSpec
spec_1 = record usual_spec { mode = mode.Global; template = template_1; update = record usual_update { ratio = 250 } }

abbrev draft_4 : NodeDraft
draft_4 = record usual_node {
  labels = (codes "zone", codes "b") ∷ [];
  role = node_role.Manager;
  cpu = 2000;
  remote = true;
}

abbrev template_2 : Template
template_2 = record usual_template {
  workload = workload_1;
  constraints = record { key = key.Label (codes "zone"); equal = false; value = codes "a" } ∷ [];
  restart = record usual_restart { delay = 0 };
}

abbrev spec_2 : ServiceSpec
spec_2 = record usual_spec {
  mode = mode.Global;
  template = template_2;
  ports = record { target = 80; number = Some 30000; udp = false } ∷ [];
}

abbrev draft_5 : NodeDraft
draft_5 = record usual_node {
  labels = (codes "zone", codes "b") ∷ [];
  role = node_role.Manager;
  cpu = 2000;
  engine = (codes "disk", codes "ssd") ∷ [];
  remote = true;
}

abbrev template_3 : Template
template_3 = record usual_template {
  constraints = record { key = key.Label (codes "zone"); equal = false; value = codes "b" } ∷ [];
}

abbrev spec_3 : ServiceSpec
spec_3 = record usual_spec { mode = mode.Replicated 10001; template = template_3 }

abbrev template_4 : Template
template_4 = record usual_template {
  constraints = record { key = key.Label (codes "zone"); equal = true; value = codes "a" } ∷ [];
  restart = record usual_restart { delay = 1 };
}

abbrev spec_4 : ServiceSpec
spec_4 = record usual_spec { template = template_4 }

abbrev pub journal : List Told
journal =
    asked 0 (one (op.CreateNode (codes "n1") draft_1)) (made 1)
    ∷ asked 0 (one (op.CreateNode (codes "n2") draft_2)) (made 2)
    ∷ asked 0 (one (op.CreateNode (codes "r1") draft_3)) (made 3)
    ∷ asked 0 (call.RemoteBegin (codes "r1") None None) (reply.SessionBegun 4 15000)
    ∷ asked 0 (one (op.CreateNetwork (codes "lan") 167772416 29)) (made 5)
    ∷ asked 0 (one (op.CreateNetwork (codes "wan") 167772672 28)) (made 6)
    ∷ asked 0 (one (op.SetCluster (record { heartbeat = 5000; orphan = 86400000; history = 0 }))) (made 0)
    ∷ asked 0 (one (op.CreateService (codes "s1") (draft spec_1))) (made 7)
    ∷ did 0 (duty.GlobalCreate 7 3)
    ∷ did 0 (duty.Register 1)
    ∷ did 0 (duty.Pull 1)
    ∷ did 0 (duty.Apply 1)
    ∷ did 0 (duty.GlobalCreate 7 1)
    ∷ did 0 (duty.Register 2)
    ∷ asked 0 (one (op.CreateNode (codes "r2") draft_4)) (made 12)
    ∷ did 0 (duty.Address 8)
    ∷ did 0 (duty.Address 10)
    ∷ did 0 (duty.Pull 2)
    ∷ did 0 (duty.Place 8 3)
    ∷ did 0 (duty.Place 10 1)
    ∷ did 0 (duty.Pull 1)
    ∷ did 0 (duty.Apply 1)
    ∷ did 0 (duty.Exec 1 10)
    ∷ did 0 (duty.Report 1 10)
    ∷ did 0 (duty.Apply 2)
    ∷ asked 0 (call.Txn (
    op.UpdateService (codes "s2") None (draft spec_2)
    ∷ op.CreateNode (codes "r1") draft_5
    ∷ op.CreateService (codes "s4") (draft spec_3)
    ∷ op.UpdateNode (codes "r1") None [] node_role.Worker availability.Active
    ∷ [])) (no_service (codes "s2"))
    ∷ asked 0 (call.RemoteBeat (codes "r1") 4) (reply.Beat 15000)
    ∷ asked 0 (call.WatchBegin (record { kind = Some kind.Node; id = None })) (reply.WatchBegun 13)
    ∷ asked 0 (call.AgentStop (codes "r1")) (reply.Refused (refusal.WrongKind 3))
    ∷ ticks 1
    ∷ did 0 (duty.Exec 1 10)
    ∷ did 0 (duty.Exec 1 10)
    ∷ did 0 (duty.Report 1 10)
    ∷ ticks 1
    ∷ did 0 (duty.Exec 1 10)
    ∷ did 0 (duty.Report 1 10)
    ∷ asked 0 (call.RemoteBegin (codes "r2") None None) (reply.SessionBegun 14 15002)
    ∷ asked 0 (one (op.CreateService (codes "s3") (draft spec_4))) (made 15)
    ∷ did 0 (duty.ReplicatedCreate 15 1)
    ∷ did 0 (duty.Address 16)
    ∷ did 0 (duty.Place 16 1)
    ∷ did 0 (duty.Pull 1)
    ∷ did 0 (duty.Apply 1)
    ∷ did 0 (duty.Exec 1 16)
    ∷ did 0 (duty.Report 1 16)
    ∷ ticks 1
    ∷ did 0 (duty.Exec 1 16)
    ∷ did 0 (duty.Exec 1 16)
    ∷ did 0 (duty.Report 1 16)
    ∷ asked 0 (one (op.RemoveService (codes "s3"))) (made 15)
    ∷ did 0 (duty.Gone 16)
    ∷ did 0 (duty.Pull 1)
    ∷ did 0 (duty.Apply 1)
    ∷ did 0 (duty.Exec 1 16)
    ∷ asked 0 (call.AgentStop (codes "n2")) (reply.AgentDone 2)
    ∷ asked 0 (call.WatchFinish 13) (reply.WatchFinished 13)
    ∷ asked 0 (one (op.UpdateNode (codes "n1") None [] node_role.Manager availability.Active)) (made 1)
    ∷ did 0 (duty.Reject 10)
    ∷ did 0 (duty.Leave 7 1)
    ∷ did 0 (duty.Pull 1)
    ∷ []

abbrev pub world : World
world = record empty_world {
  entries = 60;
  tables = record empty_tables {
    clock = 3;
    next_id = 17;
    nodes =
        record (node_row 1 57 (codes "n1") draft_1) { labels = [] }
        ∷ node_row 2 14 (codes "n2") draft_2
        ∷ node_row 3 4 (codes "r1") draft_3
        ∷ node_row 12 37 (codes "r2") draft_4
        ∷ [];
    services = service_row 7 8 (codes "s1") spec_1 ∷ [];
    tasks =
        record (task_row 8 19 7 8 (On 3) template_1) { node = Some 3; state = state.Assigned }
        ∷ record (task_row 10 59 7 8 (On 1) template_1) {
          node = Some 1;
          state = state.Rejected;
          since = 3;
          desired = desired.Remove;
        }
        ∷ record (task_row 16 51 15 38 (Slot 1) template_4) {
          node = Some 1;
          state = state.Starting;
          since = 3;
          desired = desired.Remove;
          created = 2;
          raise_at = 2;
        }
        ∷ [];
    networks =
        record { id = 5; version = 5; name = codes "lan"; base = 167772416; length = 29 }
        ∷ record { id = 6; version = 6; name = codes "wan"; base = 167772672; length = 28 }
        ∷ [];
    sessions =
        session_row 1 9 15000 0 ∷ session_row 2 11 15000 0 ∷ session_row 3 4 15000 0 ∷ session_row 12 14 15002 2 ∷ [];
    settings = record { heartbeat = 5000; orphan = 86400000; history = 0 };
  };
  sent =
      record {
        node = 1;
        count = 5;
        tasks = assigned 10 desired.Remove workload_1 ∷ assigned 16 desired.Remove usual_workload ∷ [];
      }
      ∷ record { node = 2; count = 1; tasks = [] }
      ∷ [];
  agents =
      record (agent_row 1 4 []) {
        inbox = Some (record {
          complete = false;
          applies_to = 4;
          results_in = 5;
          changes = assign.Update (assigned 10 desired.Remove workload_1) ∷ [];
        });
        executors =
            executor_row 10 workload_1 state.Running 2
            ∷ record (executor_row 16 usual_workload state.Starting 3) { desired = desired.Remove; stopping = Some 4 }
            ∷ [];
      }
      ∷ record (agent_row 2 1 []) { mode = agent_mode.AgentOff }
      ∷ [];
}

abbrev pub history : List Entry
history = entries_of journal

it_goes_so : IsPlayed empty_world journal world
it_goes_so = played empty_world journal world refl

it_keeps_the_laws : laws_hold empty_world history ≡ true
it_keeps_the_laws = refl
