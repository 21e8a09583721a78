-- Duties out of order, among them orphan, note, trim, port, expire, raise and restart.
use Rattle.std.specs.Prelude.{List, None, Some, [], codes, false, refl, true, ◌∷◌, ◌≡◌}
use Rattle.swarm_model.proofs.Examples.Audit.{IsPlayed, Told, asked, did, entries_of, played}
use Rattle.swarm_model.proofs.Examples.LawTests.{laws_hold}
use Rattle.swarm_model.proofs.Examples.Usual.{agent_row, assigned, made, no_node, node_row, service_row, session_row, task_row, ticks}
use Rattle.swarm_model.proofs.Examples.Words.{one}
use Rattle.swarm_objects.specs.Defaults.{usual_node, usual_restart, usual_spec, usual_template, usual_update, usual_workload}
use Rattle.swarm_objects.specs.World.{World, empty_tables, empty_world}
use Rattle.swarm_objects.specs.declared.agents.AgentMode.TheVariants as agent_mode
use Rattle.swarm_objects.specs.declared.calls.Call.TheVariants as call
use Rattle.swarm_objects.specs.declared.calls.Entry.{Entry}
use Rattle.swarm_objects.specs.declared.calls.Op.TheVariants as op
use Rattle.swarm_objects.specs.declared.duties.Duty.TheVariants as duty
use Rattle.swarm_objects.specs.declared.duties.Settle.TheVariants as settle
use Rattle.swarm_objects.specs.declared.messages.AssignChange.TheVariants as assign
use Rattle.swarm_objects.specs.declared.nodes.Availability.TheVariants as availability
use Rattle.swarm_objects.specs.declared.nodes.NodeDraft.{NodeDraft}
use Rattle.swarm_objects.specs.declared.nodes.NodeRole.TheVariants as node_role
use Rattle.swarm_objects.specs.declared.nodes.NodeState.TheVariants as node_state
use Rattle.swarm_objects.specs.declared.replies.Reply.TheVariants as reply
use Rattle.swarm_objects.specs.declared.services.FailureAction.TheVariants as action
use Rattle.swarm_objects.specs.declared.services.Mode.TheVariants as mode
use Rattle.swarm_objects.specs.declared.services.ServiceSpec.{ServiceSpec}
use Rattle.swarm_objects.specs.declared.services.UpdateOrder.TheVariants as order
use Rattle.swarm_objects.specs.declared.tasks.Desired.TheVariants as desired
use Rattle.swarm_objects.specs.declared.tasks.Note.TheVariants as note
use Rattle.swarm_objects.specs.declared.tasks.Place.TheVariants.{Slot}
use Rattle.swarm_objects.specs.declared.tasks.TaskState.TheVariants as state
use Rattle.swarm_objects.specs.declared.templates.Template.{Template}
use Rattle.swarm_objects.specs.declared.templates.Workload.{Workload}

abbrev draft_1 : NodeDraft
draft_1 = record usual_node { cpu = 2000 }

abbrev workload_1 : Workload
workload_1 = record usual_workload { start = 2 }

abbrev template_1 : Template
template_1 = record usual_template { workload = workload_1; restart = record usual_restart { delay = 0 } }

abbrev spec_1 : ServiceSpec
spec_1 = record usual_spec {
  mode = mode.Replicated 3;
  template = template_1;
  ports =
      record { target = 80; number = None; udp = false }
      ∷ record { target = 81; number = None; udp = false }
      ∷ record { target = 82; number = None; udp = false }
      ∷ [];
  update = record usual_update { action = action.Rollback; order = order.StartFirst };
}

abbrev template_2 : Template
template_2 = record usual_template {
  workload = workload_1;
  networks = 2 ∷ [];
  restart = record usual_restart { delay = 0 };
}

abbrev spec_2 : ServiceSpec
spec_2 = record usual_spec {
  mode = mode.Replicated 3;
  template = template_2;
  ports =
      record { target = 80; number = None; udp = false }
      ∷ record { target = 81; number = None; udp = false }
      ∷ record { target = 82; number = None; udp = false }
      ∷ [];
  update = record usual_update { action = action.Rollback; order = order.StartFirst };
}

abbrev pub journal : List Told
journal =
    asked 0 (one (op.CreateNode (codes "n1") draft_1)) (made 1)
    ∷ asked 0 (one (op.CreateNetwork (codes "lan") 167772416 29)) (made 2)
    ∷ asked 0 (one (op.CreateNetwork (codes "wan") 167772672 28)) (made 3)
    ∷ asked 0 (one (op.SetCluster (record { heartbeat = 1000; orphan = 50; history = 0 }))) (made 0)
    ∷ asked 0 (one (op.CreateService (codes "s1") (record { spec = spec_1; networks = codes "lan" ∷ [] }))) (made 4)
    ∷ did 0 (duty.Register 1)
    ∷ did 0 (duty.ReplicatedCreate 4 1)
    ∷ did 0 (duty.ReplicatedCreate 4 2)
    ∷ did 0 (duty.Pull 1)
    ∷ did 0 (duty.ReplicatedCreate 4 3)
    ∷ did 0 (duty.Apply 1)
    ∷ did 0 (duty.Port 4 80 false)
    ∷ did 0 (duty.Port 4 81 false)
    ∷ did 0 (duty.Port 4 82 false)
    ∷ did 0 (duty.Address 6)
    ∷ did 0 (duty.Place 6 1)
    ∷ did 0 (duty.Pull 1)
    ∷ ticks 1
    ∷ ticks 1000
    ∷ asked 0 (call.NodeFail (codes "n1")) (reply.AgentDone 1)
    ∷ did 0 (duty.Address 7)
    ∷ did 0 (duty.Place 7 1)
    ∷ ticks 1000
    ∷ did 0 (duty.Address 8)
    ∷ did 0 (duty.Place 8 1)
    ∷ ticks 999
    ∷ did 0 (duty.Expire 1)
    ∷ did 0 (duty.Restart 8)
    ∷ did 0 (duty.Raise 9)
    ∷ did 0 (duty.Restart 7)
    ∷ did 0 (duty.Raise 10)
    ∷ did 0 (duty.Restart 6)
    ∷ did 0 (duty.Raise 11)
    ∷ did 0 (duty.Address 11)
    ∷ did 0 (duty.Explain 11)
    ∷ asked 0 (call.Settle 46366) (reply.Settle 46366 (settle.Busy (duty.Address 9)))
    ∷ did 0 (duty.Address 9)
    ∷ did 0 (duty.Explain 9)
    ∷ did 0 (duty.Note 10)
    ∷ ticks 1
    ∷ asked 0 (call.NodeFail (codes "n2")) (no_node (codes "n2"))
    ∷ asked 0 (call.RemoteBegin (codes "r1") None None) (no_node (codes "r1"))
    ∷ asked 0 (call.NodeFail (codes "n3")) (no_node (codes "n3"))
    ∷ asked 0
    (one (op.UpdateNode (codes "r1") None ((codes "zone", codes "a") ∷ []) node_role.Manager availability.Active))
    (no_node (codes "r1"))
    ∷ ticks 1
    ∷ asked 0 (call.RemoteBegin (codes "r1") None None) (no_node (codes "r1"))
    ∷ asked 0 (call.RemoteBegin (codes "r1") (Some 1000) (Some 0)) (no_node (codes "r1"))
    ∷ asked 0 (call.RemoteBegin (codes "r1") None None) (no_node (codes "r1"))
    ∷ ticks 1
    ∷ asked 0 (call.RemoteBegin (codes "r1") None None) (no_node (codes "r1"))
    ∷ asked 0 (call.Settle 67988) (reply.Settle 67988 settle.Settled)
    ∷ ticks 1000
    ∷ did 0 (duty.Orphan 7)
    ∷ did 0 (duty.Trim 7)
    ∷ did 0 (duty.Orphan 6)
    ∷ did 0 (duty.Address 10)
    ∷ did 0 (duty.Explain 10)
    ∷ did 0 (duty.Orphan 8)
    ∷ did 0 (duty.Trim 6)
    ∷ did 0 (duty.Trim 8)
    ∷ []

abbrev pub world : World
world = record empty_world {
  entries = 60;
  tables = record empty_tables {
    clock = 4003;
    next_id = 12;
    nodes = record (node_row 1 27 (codes "n1") draft_1) { state = node_state.Down; down_since = 3000 } ∷ [];
    services =
        record (service_row 4 14 (codes "s1") spec_2) {
          template_version = 5;
          numbers =
              record { target = 80; udp = false; number = 30000 }
              ∷ record { target = 81; udp = false; number = 30001 }
              ∷ record { target = 82; udp = false; number = 30002 }
              ∷ [];
        }
        ∷ [];
    tasks =
        record (task_row 9 38 4 5 (Slot 3) template_2) {
          state = state.Pending;
          since = 3000;
          created = 3000;
          raise_at = 3000;
          addresses = record { network = 2; number = 167772422 } ∷ [];
          note = note.Filters (1 ∷ 0 ∷ 0 ∷ 0 ∷ 0 ∷ 0 ∷ []);
        }
        ∷ record (task_row 10 57 4 5 (Slot 2) template_2) {
          state = state.Pending;
          since = 4003;
          created = 3000;
          raise_at = 3000;
          addresses = record { network = 2; number = 167772418 } ∷ [];
          note = note.Filters (1 ∷ 0 ∷ 0 ∷ 0 ∷ 0 ∷ 0 ∷ []);
        }
        ∷ record (task_row 11 35 4 5 (Slot 1) template_2) {
          state = state.Pending;
          since = 3000;
          created = 3000;
          raise_at = 3000;
          addresses = record { network = 2; number = 167772421 } ∷ [];
          note = note.Filters (1 ∷ 0 ∷ 0 ∷ 0 ∷ 0 ∷ 0 ∷ []);
        }
        ∷ [];
    networks =
        record { id = 2; version = 2; name = codes "lan"; base = 167772416; length = 29 }
        ∷ record { id = 3; version = 3; name = codes "wan"; base = 167772672; length = 28 }
        ∷ [];
    attempts =
        record { service = 4; place = Slot 3; version = 5; at = 3000 }
        ∷ record { service = 4; place = Slot 2; version = 5; at = 3000 }
        ∷ record { service = 4; place = Slot 1; version = 5; at = 3000 }
        ∷ [];
    sessions = session_row 1 5 3000 0 ∷ [];
    settings = record { heartbeat = 1000; orphan = 50; history = 0 };
  };
  sent = record { node = 1; count = 2; tasks = assigned 6 desired.Running workload_1 ∷ [] } ∷ [];
  agents =
      record (agent_row 1 1 []) {
        mode = agent_mode.PowerOff;
        inbox = Some (record {
          complete = false;
          applies_to = 1;
          results_in = 2;
          changes = assign.Update (assigned 6 desired.Running workload_1) ∷ [];
        });
      }
      ∷ [];
}

abbrev pub history : List Entry
history = entries_of journal

it_goes_so : IsPlayed empty_world journal world
it_goes_so = played empty_world journal world refl

it_keeps_the_laws : laws_hold empty_world history ≡ true
it_keeps_the_laws = refl
