-- Duties out of order, among them finish, leave, drop, beat, delete, start and replace.
use Rattle.std.specs.Prelude.{List, None, Some, [], codes, false, refl, true, ◌∷◌, ◌≡◌}
use Rattle.swarm_model.proofs.Examples.Audit.{IsPlayed, Told, asked, did, entries_of, played}
use Rattle.swarm_model.proofs.Examples.LawTests.{laws_hold}
use Rattle.swarm_model.proofs.Examples.Usual.{agent_row, assigned, draft, made, no_node, no_service, node_row, service_row, session_row, ticks}
use Rattle.swarm_model.proofs.Examples.Words.{one}
use Rattle.swarm_objects.specs.Defaults.{usual_node, usual_restart, usual_spec, usual_template, usual_update, usual_workload}
use Rattle.swarm_objects.specs.World.{World, empty_tables, empty_world}
use Rattle.swarm_objects.specs.declared.calls.Call.TheVariants as call
use Rattle.swarm_objects.specs.declared.calls.Entry.{Entry}
use Rattle.swarm_objects.specs.declared.calls.Op.TheVariants as op
use Rattle.swarm_objects.specs.declared.calls.Query.TheVariants as query
use Rattle.swarm_objects.specs.declared.duties.Duty.TheVariants as duty
use Rattle.swarm_objects.specs.declared.duties.Settle.TheVariants as settle
use Rattle.swarm_objects.specs.declared.messages.AssignChange.TheVariants as assign
use Rattle.swarm_objects.specs.declared.nodes.Availability.TheVariants as availability
use Rattle.swarm_objects.specs.declared.nodes.NodeDraft.{NodeDraft}
use Rattle.swarm_objects.specs.declared.nodes.NodeRole.TheVariants as node_role
use Rattle.swarm_objects.specs.declared.replies.Refusal.TheVariants as refusal
use Rattle.swarm_objects.specs.declared.replies.Reply.TheVariants as reply
use Rattle.swarm_objects.specs.declared.services.Mode.TheVariants as mode
use Rattle.swarm_objects.specs.declared.services.RunStatus.TheVariants as status
use Rattle.swarm_objects.specs.declared.services.ServiceSpec.{ServiceSpec}
use Rattle.swarm_objects.specs.declared.services.UpdateOrder.TheVariants as order
use Rattle.swarm_objects.specs.declared.tasks.Desired.TheVariants as desired
use Rattle.swarm_objects.specs.declared.tasks.Place.TheVariants.{On}
use Rattle.swarm_objects.specs.declared.tasks.TaskState.TheVariants as state
use Rattle.swarm_objects.specs.declared.templates.End.TheVariants as end
use Rattle.swarm_objects.specs.declared.templates.Key.TheVariants as key
use Rattle.swarm_objects.specs.declared.templates.Template.{Template}
use Rattle.swarm_objects.specs.declared.templates.Workload.{Workload}

abbrev draft_1 : NodeDraft
draft_1 = record usual_node { engine = (codes "disk", codes "ssd") ∷ [] }

abbrev workload_1 : Workload
workload_1 = record usual_workload { end = end.Exit 1000 1 }

abbrev template_1 : Template
template_1 = record usual_template {
  workload = workload_1;
  constraints = record { key = key.Label (codes "zone"); equal = true; value = codes "a" } ∷ [];
  restart = record usual_restart { delay = 4 };
}

abbrev spec_1 : ServiceSpec
spec_1 = record usual_spec {
  mode = mode.Global;
  template = template_1;
  ports = record { target = 80; number = Some 30000; udp = false } ∷ [];
  update = record usual_update { monitor = 1; order = order.StartFirst };
}

abbrev workload_2 : Workload
workload_2 = record usual_workload { stop = 9 }

abbrev template_2 : Template
template_2 = record usual_template {
  workload = workload_2;
  constraints = record { key = key.Label (codes "zone"); equal = false; value = codes "a" } ∷ [];
}

abbrev spec_2 : ServiceSpec
spec_2 = record usual_spec { mode = mode.Job 1 3; template = template_2 }

abbrev template_3 : Template
template_3 = record usual_template {
  workload = workload_1;
  constraints = record { key = key.Role; equal = true; value = codes "worker" } ∷ [];
  spread = key.Label (codes "zone") ∷ key.Engine (codes "disk") ∷ [];
  restart = record usual_restart { delay = 4 };
}

abbrev spec_3 : ServiceSpec
spec_3 = record usual_spec { mode = mode.Replicated 2; template = template_3 }

abbrev draft_2 : NodeDraft
draft_2 = record usual_node {
  labels = (codes "zone", codes "A") ∷ [];
  role = node_role.Manager;
  cpu = 1000;
  engine = (codes "disk", codes "ssd") ∷ [];
  remote = true;
}

abbrev workload_3 : Workload
workload_3 = record usual_workload { prepare = 2 }

abbrev template_4 : Template
template_4 = record usual_template {
  workload = workload_3;
  constraints = record { key = key.Label (codes "zone"); equal = true; value = codes "a" } ∷ [];
  restart = record usual_restart { delay = 4 };
}

abbrev spec_4 : ServiceSpec
spec_4 = record usual_spec { template = template_4; update = record usual_update { delay = 50 } }

abbrev template_5 : Template
template_5 = record usual_template {
  workload = workload_1;
  mem = 4000000000;
  constraints = record { key = key.Role; equal = true; value = codes "worker" } ∷ [];
  restart = record usual_restart { delay = 4 };
}

abbrev spec_5 : ServiceSpec
spec_5 = record usual_spec {
  mode = mode.Global;
  template = template_5;
  update = record usual_update { monitor = 1; order = order.StartFirst };
}

abbrev template_6 : Template
template_6 = record usual_template {
  constraints = record { key = key.Label (codes "zone"); equal = false; value = codes "b" } ∷ [];
  max_replicas = 2;
  restart = record usual_restart { delay = 0 };
}

abbrev spec_6 : ServiceSpec
spec_6 = record usual_spec { mode = mode.Replicated 0; template = template_6 }

abbrev pub journal : List Told
journal =
    asked 0 (one (op.CreateNode (codes "n1") draft_1)) (made 1)
    ∷ asked 0 (one (op.SetCluster (record { heartbeat = 1000; orphan = 86400000; history = 1 }))) (made 0)
    ∷ asked 0 (one (op.CreateService (codes "s1") (draft spec_1))) (made 2)
    ∷ asked 0 (one (op.CreateService (codes "s2") (draft spec_1))) (reply.Refused (refusal.PortTaken 2))
    ∷ did 0 (duty.Register 1)
    ∷ asked 0
    (one (op.UpdateNode (codes "n3") None ((codes "zone", codes "b") ∷ []) node_role.Manager availability.Drain))
    (no_node (codes "n3"))
    ∷ did 0 (duty.Pull 1)
    ∷ did 0 (duty.Apply 1)
    ∷ ticks 2
    ∷ asked 0 (call.AgentStop (codes "n3")) (no_node (codes "n3"))
    ∷ ticks 1
    ∷ asked 0 (call.Txn (
    op.UpdateNode (codes "r1") None [] node_role.Worker availability.Pause
    ∷ op.UpdateNode (codes "n3") None ((codes "zone", codes "a") ∷ []) node_role.Worker availability.Active
    ∷ op.UpdateService (codes "s2") (Some 9) (draft spec_2)
    ∷ op.UpdateService (codes "s4") None (draft spec_3)
    ∷ [])) (no_node (codes "r1"))
    ∷ asked 0 (call.RemoteBegin (codes "r1") None None) (no_node (codes "r1"))
    ∷ asked 0 (one (op.CreateNode (codes "r1") draft_2)) (made 4)
    ∷ asked 0 (call.AgentStop (codes "n2")) (no_node (codes "n2"))
    ∷ asked 0 (call.Txn (
    op.UpdateNode (codes "n1") None ((codes "zone", codes "b") ∷ []) node_role.Manager availability.Active
    ∷ op.UpdateService (codes "s4") None (draft spec_2)
    ∷ op.UpdateNode (codes "n3") None ((codes "zone", codes "A") ∷ []) node_role.Manager availability.Active
    ∷ [])) (no_service (codes "s4"))
    ∷ ticks 2
    ∷ asked 0 (call.Settle 56738) (reply.Settle 56738 settle.Settled)
    ∷ ticks 1000
    ∷ asked 0 (call.RemoteBegin (codes "r2") None (Some 1000)) (no_node (codes "r2"))
    ∷ did 0 (duty.Beat 1)
    ∷ asked 0
    (one (op.UpdateNode (codes "n1") None ((codes "zone", codes "a") ∷ []) node_role.Manager availability.Pause))
    (made 1)
    ∷ asked 0 (one (op.RemoveNode (codes "n3") false)) (no_node (codes "n3"))
    ∷ asked 0 (call.RemoteBegin (codes "r1") None None) (reply.SessionBegun 5 4005)
    ∷ did 0 (duty.GlobalCreate 2 4)
    ∷ did 0 (duty.Address 6)
    ∷ did 0 (duty.Place 6 4)
    ∷ asked 0 (call.RemoteStatus (codes "r1") 5 6 state.Running) (reply.Status true state.Running)
    ∷ ticks 1000
    ∷ asked 0 (one (op.UpdateService (codes "s2") None (record { spec = spec_4; networks = codes "lan" ∷ [] })))
    (no_service (codes "s2"))
    ∷ did 0 (duty.Beat 1)
    ∷ asked 0 (call.RemoteStatus (codes "r1") 5 6 state.Ready) (reply.Status false state.Running)
    ∷ asked 0 (call.AgentStop (codes "n2")) (no_node (codes "n2"))
    ∷ asked 0 (one (op.RemoveNode (codes "n2") true)) (no_node (codes "n2"))
    ∷ asked 0 (call.RemoteBegin (codes "r2") None (Some 1000)) (no_node (codes "r2"))
    ∷ asked 0 (call.AgentStart (codes "n1")) (reply.AgentDone 1)
    ∷ asked 0 (one (op.UpdateService (codes "s2") None (record { spec = spec_4; networks = codes "lan" ∷ [] })))
    (no_service (codes "s2"))
    ∷ asked 0 (call.NodeStart (codes "n2")) (no_node (codes "n2"))
    ∷ asked 0
    (one (op.UpdateNode (codes "n3") None ((codes "zone", codes "A") ∷ []) node_role.Worker availability.Active))
    (no_node (codes "n3"))
    ∷ asked 0
    (one (op.UpdateNode (codes "n3") None ((codes "zone", codes "b") ∷ []) node_role.Worker availability.Pause))
    (no_node (codes "n3"))
    ∷ asked 0 (call.RemotePull (codes "r1") 5) (reply.Pulled (Some (record {
      complete = true;
      applies_to = 0;
      results_in = 1;
      changes = assign.Update (assigned 6 desired.Running workload_1) ∷ [];
    })))
    ∷ ticks 100
    ∷ asked 0 (call.RemoteBegin (codes "r2") None None) (no_node (codes "r2"))
    ∷ ticks 100
    ∷ asked 0 (call.View (query.ListTasks (Some (codes "s2")))) (no_service (codes "s2"))
    ∷ asked 0 (one (op.CreateNetwork (codes "lan") 167772672 29)) (made 7)
    ∷ ticks 1
    ∷ asked 0 (one (op.UpdateService (codes "s1") (Some 3) (draft spec_5))) (made 2)
    ∷ did 0 (duty.Start 2)
    ∷ did 0 (duty.Replace 2 4)
    ∷ did 0 (duty.Leave 2 4)
    ∷ did 0 (duty.Drop 8)
    ∷ did 0 (duty.Delete 8)
    ∷ ticks 1
    ∷ did 0 (duty.Finish 2)
    ∷ asked 0 (call.RemoteStatus (codes "r1") 5 6 state.Shutdown) (reply.Status true state.Shutdown)
    ∷ did 0 (duty.Delete 6)
    ∷ asked 0 (call.Txn (
    op.UpdateService (codes "s4") None (draft spec_6)
    ∷ op.UpdateNode (codes "n2") None [] node_role.Worker availability.Pause
    ∷ [])) (no_service (codes "s4"))
    ∷ ticks 1
    ∷ ticks 5
    ∷ []

abbrev pub world : World
world = record empty_world {
  entries = 60;
  tables = record empty_tables {
    clock = 2213;
    next_id = 9;
    nodes =
        record (node_row 1 22 (codes "n1") draft_1) {
          labels = (codes "zone", codes "a") ∷ [];
          role = node_role.Manager;
          availability = availability.Pause;
        }
        ∷ node_row 4 24 (codes "r1") draft_2
        ∷ [];
    services =
        record (service_row 2 55 (codes "s1") spec_5) {
          previous = Some spec_1;
          template_version = 48;
          run = Some (record {
            status = status.Completed;
            version = 48;
            total = 1;
            replaced = record { place = On 4; task = 8; created = 2206 } ∷ [];
          });
        }
        ∷ [];
    networks = record { id = 7; version = 46; name = codes "lan"; base = 167772672; length = 29 } ∷ [];
    sessions = session_row 1 3 5005 2005 ∷ session_row 4 5 4005 1005 ∷ [];
    settings = record { heartbeat = 1000; orphan = 86400000; history = 1 };
  };
  sent =
      record { node = 1; count = 1; tasks = [] }
      ∷ record { node = 4; count = 1; tasks = assigned 6 desired.Running workload_1 ∷ [] }
      ∷ [];
  agents = agent_row 1 1 [] ∷ [];
}

abbrev pub history : List Entry
history = entries_of journal

it_goes_so : IsPlayed empty_world journal world
it_goes_so = played empty_world journal world refl

it_keeps_the_laws : laws_hold empty_world history ≡ true
it_keeps_the_laws = refl
