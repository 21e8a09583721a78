-- Duties out of order, among them swap, beat, start and replace.
use Rattle.std.specs.Prelude.{List, None, Some, [], codes, false, refl, true, ◌∷◌, ◌≡◌}
use Rattle.swarm_model.proofs.Examples.Audit.{IsPlayed, Told, asked, did, entries_of, played}
use Rattle.swarm_model.proofs.Examples.LawTests.{laws_hold}
use Rattle.swarm_model.proofs.Examples.Usual.{agent_row, assigned, draft, executor_row, made, no_node, node_row, service_row, session_row, task_row, ticks}
use Rattle.swarm_model.proofs.Examples.Words.{one}
use Rattle.swarm_objects.specs.Defaults.{usual_node, usual_restart, usual_spec, usual_template, usual_update, usual_workload}
use Rattle.swarm_objects.specs.World.{World, empty_tables, empty_world}
use Rattle.swarm_objects.specs.declared.calls.Call.TheVariants as call
use Rattle.swarm_objects.specs.declared.calls.Entry.{Entry}
use Rattle.swarm_objects.specs.declared.calls.Op.TheVariants as op
use Rattle.swarm_objects.specs.declared.duties.Duty.TheVariants as duty
use Rattle.swarm_objects.specs.declared.duties.Settle.TheVariants as settle
use Rattle.swarm_objects.specs.declared.nodes.Availability.TheVariants as availability
use Rattle.swarm_objects.specs.declared.nodes.NodeDraft.{NodeDraft}
use Rattle.swarm_objects.specs.declared.nodes.NodeRole.TheVariants as node_role
use Rattle.swarm_objects.specs.declared.replies.Reply.TheVariants as reply
use Rattle.swarm_objects.specs.declared.services.Mode.TheVariants as mode
use Rattle.swarm_objects.specs.declared.services.RunStatus.TheVariants as status
use Rattle.swarm_objects.specs.declared.services.ServiceSpec.{ServiceSpec}
use Rattle.swarm_objects.specs.declared.services.UpdateOrder.TheVariants as order
use Rattle.swarm_objects.specs.declared.tasks.Desired.TheVariants as desired
use Rattle.swarm_objects.specs.declared.tasks.Note.TheVariants as note
use Rattle.swarm_objects.specs.declared.tasks.Place.TheVariants.{On, Slot}
use Rattle.swarm_objects.specs.declared.tasks.TaskState.TheVariants as state
use Rattle.swarm_objects.specs.declared.templates.End.TheVariants as end
use Rattle.swarm_objects.specs.declared.templates.Key.TheVariants as key
use Rattle.swarm_objects.specs.declared.templates.Template.{Template}
use Rattle.swarm_objects.specs.declared.templates.Workload.{Workload}

abbrev draft_1 : NodeDraft
draft_1 = record usual_node { labels = (codes "zone", codes "a") ∷ []; cpu = 1000 }

abbrev template_1 : Template
template_1 = record usual_template {
  mem = 1000;
  constraints = record { key = key.Role; equal = true; value = codes "worker" } ∷ [];
  platforms =
      record { os = codes "windows"; arch = codes "amd64" } ∷ record { os = codes "linux"; arch = codes "amd64" } ∷ [];
}

abbrev spec_1 : ServiceSpec
spec_1 = record usual_spec {
  mode = mode.Global;
  template = template_1;
  update = record usual_update { order = order.StartFirst };
}

abbrev workload_2 : Workload
workload_2 = record usual_workload { end = end.Exit 1000 1 }

abbrev template_2 : Template
template_2 = record usual_template {
  workload = workload_2;
  constraints = record { key = key.Label (codes "zone"); equal = false; value = codes "a" } ∷ [];
  restart = record usual_restart { delay = 4 };
}

abbrev spec_2 : ServiceSpec
spec_2 = record usual_spec { template = template_2; update = record usual_update { ratio = 500 } }

abbrev spec_3 : ServiceSpec
spec_3 = record usual_spec {
  mode = mode.Global;
  template = template_1;
  update = record usual_update { delay = 50; order = order.StartFirst };
}

abbrev workload_3 : Workload
workload_3 = record usual_workload { start = 2 }

abbrev template_3 : Template
template_3 = record usual_template {
  workload = workload_3;
  mem = 1000;
  constraints = record { key = key.Role; equal = true; value = codes "worker" } ∷ [];
  platforms =
      record { os = codes "windows"; arch = codes "amd64" } ∷ record { os = codes "linux"; arch = codes "amd64" } ∷ [];
}

abbrev spec_4 : ServiceSpec
spec_4 = record usual_spec {
  mode = mode.Global;
  template = template_3;
  update = record usual_update { order = order.StartFirst };
}

abbrev pub journal : List Told
journal =
    asked 0 (one (op.CreateNode (codes "n1") draft_1)) (made 1)
    ∷ asked 0 (one (op.CreateNetwork (codes "lan") 167772416 29)) (made 2)
    ∷ asked 0 (one (op.CreateNetwork (codes "wan") 167772672 28)) (made 3)
    ∷ asked 0 (one (op.SetCluster (record { heartbeat = 1000; orphan = 50; history = 0 }))) (made 0)
    ∷ asked 0 (one (op.CreateService (codes "s1") (draft spec_1))) (made 4)
    ∷ asked 0 (one (op.CreateService (codes "s2") (draft spec_2))) (made 5)
    ∷ ticks 2
    ∷ did 0 (duty.Register 1)
    ∷ did 0 (duty.GlobalCreate 4 1)
    ∷ did 0 (duty.ReplicatedCreate 5 1)
    ∷ did 0 (duty.Pull 1)
    ∷ did 0 (duty.Apply 1)
    ∷ did 0 (duty.Address 7)
    ∷ did 0 (duty.Place 7 1)
    ∷ did 0 (duty.Pull 1)
    ∷ did 0 (duty.Apply 1)
    ∷ did 0 (duty.Address 8)
    ∷ did 0 (duty.Exec 1 7)
    ∷ asked 0 (call.AgentStop (codes "n3")) (no_node (codes "n3"))
    ∷ did 0 (duty.Report 1 7)
    ∷ did 0 (duty.Explain 8)
    ∷ ticks 1
    ∷ did 0 (duty.Exec 1 7)
    ∷ did 0 (duty.Report 1 7)
    ∷ did 0 (duty.Exec 1 7)
    ∷ asked 0 (one (op.UpdateService (codes "s1") None (draft spec_3))) (made 4)
    ∷ asked 0 (call.Settle 14685) (reply.Settle 14685 (settle.Busy (duty.Report 1 7)))
    ∷ did 0 (duty.Report 1 7)
    ∷ asked 0 (one (op.UpdateNode (codes "n2") None [] node_role.Manager availability.Active)) (no_node (codes "n2"))
    ∷ asked 0 (one (op.UpdateService (codes "s1") None (draft spec_4))) (made 4)
    ∷ did 0 (duty.Start 4)
    ∷ did 0 (duty.Replace 4 1)
    ∷ did 0 (duty.Address 9)
    ∷ did 0 (duty.Place 9 1)
    ∷ did 0 (duty.Pull 1)
    ∷ did 0 (duty.Apply 1)
    ∷ did 0 (duty.Exec 1 9)
    ∷ did 0 (duty.Report 1 9)
    ∷ ticks 1
    ∷ did 0 (duty.Exec 1 9)
    ∷ did 0 (duty.Exec 1 9)
    ∷ did 0 (duty.Report 1 9)
    ∷ did 0 (duty.Exec 1 7)
    ∷ did 0 (duty.Report 1 7)
    ∷ ticks 2
    ∷ did 0 (duty.Exec 1 9)
    ∷ did 0 (duty.Report 1 9)
    ∷ did 0 (duty.Swap 4 1)
    ∷ did 0 (duty.Pull 1)
    ∷ did 0 (duty.Apply 1)
    ∷ did 0 (duty.Exec 1 7)
    ∷ ticks 1
    ∷ did 0 (duty.Exec 1 7)
    ∷ did 0 (duty.Report 1 7)
    ∷ ticks 1000
    ∷ did 0 (duty.Beat 1)
    ∷ ticks 1000
    ∷ did 0 (duty.Beat 1)
    ∷ ticks 1000
    ∷ did 0 (duty.Beat 1)
    ∷ []

abbrev pub world : World
world = record empty_world {
  entries = 60;
  tables = record empty_tables {
    clock = 3007;
    next_id = 10;
    nodes = node_row 1 8 (codes "n1") draft_1 ∷ [];
    services =
        record (service_row 4 32 (codes "s1") spec_4) {
          previous = Some spec_3;
          template_version = 30;
          run = Some (record {
            status = status.Updating;
            version = 30;
            total = 1;
            replaced = record { place = On 1; task = 9; created = 3 } ∷ [];
          });
        }
        ∷ service_row 5 6 (codes "s2") spec_2
        ∷ [];
    tasks =
        record (task_row 7 54 4 5 (On 1) template_1) {
          node = Some 1;
          state = state.Shutdown;
          since = 7;
          desired = desired.Shutdown;
          created = 2;
          raise_at = 2;
        }
        ∷ record (task_row 8 21 5 6 (Slot 1) template_2) {
          state = state.Pending;
          since = 2;
          created = 2;
          raise_at = 2;
          note = note.Filters (0 ∷ 0 ∷ 1 ∷ 0 ∷ 0 ∷ 0 ∷ []);
        }
        ∷ record (task_row 9 47 4 30 (On 1) template_3) {
          node = Some 1;
          state = state.Running;
          since = 6;
          created = 3;
          raise_at = 3;
        }
        ∷ [];
    networks =
        record { id = 2; version = 2; name = codes "lan"; base = 167772416; length = 29 }
        ∷ record { id = 3; version = 3; name = codes "wan"; base = 167772672; length = 28 }
        ∷ [];
    sessions = session_row 1 6 6007 3007 ∷ [];
    settings = record { heartbeat = 1000; orphan = 50; history = 0 };
  };
  sent =
      record {
        node = 1;
        count = 4;
        tasks = assigned 7 desired.Shutdown usual_workload ∷ assigned 9 desired.Running workload_3 ∷ [];
      }
      ∷ [];
  agents =
      agent_row 1 4 (
      record (executor_row 7 usual_workload state.Shutdown 7) { desired = desired.Shutdown; stopping = Some 7 }
      ∷ executor_row 9 workload_3 state.Running 6
      ∷ [])
      ∷ [];
}

abbrev pub history : List Entry
history = entries_of journal

it_goes_so : IsPlayed empty_world journal world
it_goes_so = played empty_world journal world refl

it_keeps_the_laws : laws_hold empty_world history ≡ true
it_keeps_the_laws = refl
