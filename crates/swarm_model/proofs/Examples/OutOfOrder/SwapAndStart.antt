-- Duties out of order, among them swap, beat, start and replace.
use Rattle.std.specs.Prelude.{List, None, Some, [], codes, refl, true, ◌∷◌, ◌≡◌}
use Rattle.swarm_model.proofs.Examples.Audit.{IsPlayed, Told, asked, did, entries_of, played}
use Rattle.swarm_model.proofs.Examples.LawTests.{laws_hold}
use Rattle.swarm_model.proofs.Examples.Usual.{agent_row, assigned, draft, executor_row, made, node_row, service_row, session_row, task_row, ticks}
use Rattle.swarm_model.proofs.Examples.Words.{one}
use Rattle.swarm_objects.specs.Defaults.{usual_node, usual_spec, usual_template, usual_update, usual_workload}
use Rattle.swarm_objects.specs.World.{World, empty_tables, empty_world}
use Rattle.swarm_objects.specs.declared.calls.Call.TheVariants as call
use Rattle.swarm_objects.specs.declared.calls.Entry.{Entry}
use Rattle.swarm_objects.specs.declared.calls.Op.TheVariants as op
use Rattle.swarm_objects.specs.declared.duties.Duty.TheVariants as duty
use Rattle.swarm_objects.specs.declared.nodes.NodeDraft.{NodeDraft}
use Rattle.swarm_objects.specs.declared.replies.Refusal.TheVariants as refusal
use Rattle.swarm_objects.specs.declared.replies.Reply.TheVariants as reply
use Rattle.swarm_objects.specs.declared.services.Mode.TheVariants as mode
use Rattle.swarm_objects.specs.declared.services.RunStatus.TheVariants as status
use Rattle.swarm_objects.specs.declared.services.ServiceSpec.{ServiceSpec}
use Rattle.swarm_objects.specs.declared.services.UpdateOrder.TheVariants as order
use Rattle.swarm_objects.specs.declared.tasks.Desired.TheVariants as desired
use Rattle.swarm_objects.specs.declared.tasks.Place.TheVariants.{On}
use Rattle.swarm_objects.specs.declared.tasks.TaskState.TheVariants as state
use Rattle.swarm_objects.specs.declared.templates.Template.{Template}
use Rattle.swarm_objects.specs.declared.templates.Workload.{Workload}

abbrev draft_1 : NodeDraft
draft_1 = record usual_node {
  labels = (codes "zone", codes "b") ∷ [];
  cpu = 1000;
  engine = (codes "disk", codes "ssd") ∷ [];
}

abbrev draft_2 : NodeDraft
draft_2 = record usual_node { labels = (codes "zone", codes "b") ∷ []; cpu = 2000; remote = true }

abbrev spec_1 : ServiceSpec
spec_1 = record usual_spec { mode = mode.Global }

abbrev workload_2 : Workload
workload_2 = record usual_workload { start = 2 }

abbrev template_2 : Template
template_2 = record usual_template { workload = workload_2 }

abbrev spec_2 : ServiceSpec
spec_2 = record usual_spec {
  mode = mode.Global;
  template = template_2;
  update = record usual_update { order = order.StartFirst };
}

abbrev draft_3 : NodeDraft
draft_3 = record usual_node { labels = (codes "zone", codes "A") ∷ []; cpu = 2000; remote = true }

abbrev pub journal : List Told
journal =
    asked 0 (one (op.CreateNode (codes "n1") draft_1)) (made 1)
    ∷ asked 0 (one (op.CreateNode (codes "r1") draft_2)) (made 2)
    ∷ asked 0 (call.RemoteBegin (codes "r1") None None) (reply.SessionBegun 3 15000)
    ∷ asked 0 (one (op.CreateNetwork (codes "lan") 167772416 29)) (made 4)
    ∷ asked 0 (one (op.CreateNetwork (codes "wan") 167772672 28)) (made 5)
    ∷ asked 0 (one (op.SetCluster (record { heartbeat = 1000; orphan = 86400000; history = 5 }))) (made 0)
    ∷ asked 0 (one (op.CreateService (codes "s1") (draft spec_1))) (made 6)
    ∷ asked 0 (one (op.CreateService (codes "s2") (draft spec_1))) (made 7)
    ∷ did 0 (duty.GlobalCreate 6 2)
    ∷ did 0 (duty.GlobalCreate 7 2)
    ∷ did 0 (duty.Address 8)
    ∷ did 0 (duty.Address 9)
    ∷ did 0 (duty.Place 8 2)
    ∷ did 0 (duty.Place 9 2)
    ∷ did 0 (duty.Register 1)
    ∷ did 0 (duty.GlobalCreate 6 1)
    ∷ did 0 (duty.GlobalCreate 7 1)
    ∷ ticks 2
    ∷ did 0 (duty.Address 11)
    ∷ did 0 (duty.Address 12)
    ∷ ticks 1000
    ∷ asked 0 (one (op.UpdateService (codes "s2") None (draft spec_2))) (made 7)
    ∷ did 0 (duty.Start 7)
    ∷ did 0 (duty.Replace 7 1)
    ∷ did 0 (duty.Address 13)
    ∷ did 0 (duty.Place 11 1)
    ∷ did 0 (duty.Place 12 1)
    ∷ did 0 (duty.Place 13 1)
    ∷ asked 0 (one (op.UpdateService (codes "s1") (Some 7) (draft spec_1))) (made 6)
    ∷ did 0 (duty.Beat 1)
    ∷ did 0 (duty.Pull 1)
    ∷ did 0 (duty.Apply 1)
    ∷ did 0 (duty.Exec 1 11)
    ∷ did 0 (duty.Exec 1 12)
    ∷ did 0 (duty.Exec 1 13)
    ∷ did 0 (duty.Report 1 11)
    ∷ did 0 (duty.Report 1 12)
    ∷ did 0 (duty.Report 1 13)
    ∷ asked 0 (one (op.CreateNode (codes "r1") draft_3)) (reply.Refused (refusal.NameTaken 2))
    ∷ ticks 2
    ∷ did 0 (duty.Exec 1 11)
    ∷ did 0 (duty.Exec 1 11)
    ∷ did 0 (duty.Exec 1 12)
    ∷ did 0 (duty.Exec 1 12)
    ∷ did 0 (duty.Exec 1 13)
    ∷ did 0 (duty.Exec 1 13)
    ∷ did 0 (duty.Report 1 11)
    ∷ did 0 (duty.Report 1 12)
    ∷ did 0 (duty.Report 1 13)
    ∷ ticks 1
    ∷ did 0 (duty.Exec 1 11)
    ∷ did 0 (duty.Exec 1 12)
    ∷ did 0 (duty.Report 1 11)
    ∷ did 0 (duty.Report 1 12)
    ∷ ticks 1
    ∷ did 0 (duty.Exec 1 13)
    ∷ did 0 (duty.Report 1 13)
    ∷ did 0 (duty.Swap 7 1)
    ∷ did 0 (duty.Replace 7 2)
    ∷ did 0 (duty.Address 14)
    ∷ []

abbrev pub world : World
world = record empty_world {
  entries = 60;
  tables = record empty_tables {
    clock = 1006;
    next_id = 15;
    nodes = node_row 1 15 (codes "n1") draft_1 ∷ node_row 2 3 (codes "r1") draft_2 ∷ [];
    services =
        record (service_row 6 29 (codes "s1") spec_1) { previous = Some spec_1; template_version = 7 }
        ∷ record (service_row 7 59 (codes "s2") spec_2) {
          previous = Some spec_1;
          template_version = 22;
          run = Some (record {
            status = status.Updating;
            version = 22;
            total = 2;
            replaced =
                record { place = On 1; task = 13; created = 1002 }
                ∷ record { place = On 2; task = 14; created = 1006 }
                ∷ [];
          });
        }
        ∷ [];
    tasks =
        record (task_row 8 13 6 7 (On 2) usual_template) { node = Some 2; state = state.Assigned }
        ∷ record (task_row 9 14 7 8 (On 2) usual_template) { node = Some 2; state = state.Assigned }
        ∷ record (task_row 11 53 6 7 (On 1) usual_template) { node = Some 1; state = state.Running; since = 1005 }
        ∷ record (task_row 12 58 7 8 (On 1) usual_template) {
          node = Some 1;
          state = state.Running;
          since = 1005;
          desired = desired.Shutdown;
        }
        ∷ record (task_row 13 57 7 22 (On 1) template_2) {
          node = Some 1;
          state = state.Running;
          since = 1006;
          created = 1002;
          raise_at = 1002;
        }
        ∷ record (task_row 14 60 7 22 (On 2) template_2) {
          node = Some 2;
          state = state.Pending;
          since = 1006;
          created = 1006;
          raise_at = 1006;
        }
        ∷ [];
    networks =
        record { id = 4; version = 4; name = codes "lan"; base = 167772416; length = 29 }
        ∷ record { id = 5; version = 5; name = codes "wan"; base = 167772672; length = 28 }
        ∷ [];
    sessions = session_row 1 10 4002 1002 ∷ session_row 2 3 15000 0 ∷ [];
    settings = record { heartbeat = 1000; orphan = 86400000; history = 5 };
  };
  sent =
      record {
        node = 1;
        count = 1;
        tasks =
            assigned 11 desired.Running usual_workload
            ∷ assigned 12 desired.Running usual_workload
            ∷ assigned 13 desired.Running workload_2
            ∷ [];
      }
      ∷ [];
  agents =
      agent_row 1 1 (
      executor_row 11 usual_workload state.Running 1005
      ∷ executor_row 12 usual_workload state.Running 1005
      ∷ executor_row 13 workload_2 state.Running 1006
      ∷ [])
      ∷ [];
}

abbrev pub history : List Entry
history = entries_of journal

it_goes_so : IsPlayed empty_world journal world
it_goes_so = played empty_world journal world refl

it_keeps_the_laws : laws_hold empty_world history ≡ true
it_keeps_the_laws = refl
