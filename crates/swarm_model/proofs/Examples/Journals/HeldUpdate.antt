-- A new task that no node has room for holds its update.
use Rattle.std.specs.Prelude.{List, None, Some, [], codes, false, refl, true, ◌∷◌, ◌≡◌}
use Rattle.swarm_model.proofs.Examples.Audit.{IsPlayed, Told, asked, did, entries_of, played}
use Rattle.swarm_model.proofs.Examples.LawTests.{laws_hold}
use Rattle.swarm_model.proofs.Examples.Usual.{agent_row, assigned, draft, executor_row, made, node_row, service_row, session_row, task_row, task_seen, ticks}
use Rattle.swarm_model.proofs.Examples.Words.{one}
use Rattle.swarm_model.specs.Laws.Matches.{matches}
use Rattle.swarm_model.specs.Script.{Asked, Asks, Settles, Waits}
use Rattle.swarm_model.specs.Serial.{serial}
use Rattle.swarm_objects.specs.Defaults.{usual_node, usual_spec, usual_template, usual_update, usual_workload}
use Rattle.swarm_objects.specs.World.{World, empty_tables, empty_world}
use Rattle.swarm_objects.specs.declared.calls.Call.TheVariants as call
use Rattle.swarm_objects.specs.declared.calls.Entry.{Entry}
use Rattle.swarm_objects.specs.declared.calls.Op.TheVariants as op
use Rattle.swarm_objects.specs.declared.calls.Query.TheVariants as query
use Rattle.swarm_objects.specs.declared.duties.Duty.TheVariants as duty
use Rattle.swarm_objects.specs.declared.duties.Settle.TheVariants as settle
use Rattle.swarm_objects.specs.declared.nodes.NodeDraft.{NodeDraft}
use Rattle.swarm_objects.specs.declared.replies.Reply.TheVariants as reply
use Rattle.swarm_objects.specs.declared.replies.ViewReply.TheVariants as view
use Rattle.swarm_objects.specs.declared.services.RunStatus.TheVariants as status
use Rattle.swarm_objects.specs.declared.services.ServiceSpec.{ServiceSpec}
use Rattle.swarm_objects.specs.declared.services.UpdateOrder.TheVariants as order
use Rattle.swarm_objects.specs.declared.tasks.Desired.TheVariants as desired
use Rattle.swarm_objects.specs.declared.tasks.Note.TheVariants as note
use Rattle.swarm_objects.specs.declared.tasks.Place.TheVariants.{Slot}
use Rattle.swarm_objects.specs.declared.tasks.TaskState.TheVariants as state
use Rattle.swarm_objects.specs.declared.templates.Template.{Template}
use Rattle.swarm_objects.specs.declared.templates.Workload.{Workload}
use Rattle.swarm_objects.specs.declared.views.NoteShown.TheVariants as note_shown
use Rattle.swarm_objects.specs.declared.views.PlaceShown.TheVariants as place_shown
use Rattle.swarm_objects.specs.declared.views.Shown.TheVariants as by

abbrev draft_1 : NodeDraft
draft_1 = record usual_node { cpu = 1000 }

abbrev template_1 : Template
template_1 = record usual_template { cpu = 1000 }

abbrev spec_1 : ServiceSpec
spec_1 = record usual_spec { template = template_1 }

abbrev workload_2 : Workload
workload_2 = record usual_workload { start = 2 }

abbrev template_2 : Template
template_2 = record usual_template { workload = workload_2; cpu = 1000 }

abbrev spec_2 : ServiceSpec
spec_2 = record usual_spec { template = template_2; update = record usual_update { order = order.StartFirst } }

-- the script
abbrev lines : List Asked
lines =
    Asks (one (op.CreateNode (codes "n1") draft_1))
    ∷ Asks (one (op.CreateService (codes "web") (draft spec_1)))
    ∷ Waits 10
    ∷ Asks (one (op.UpdateService (codes "web") None (draft spec_2)))
    ∷ Settles 100000
    ∷ Asks (call.View (query.ListTasks None))
    ∷ []

abbrev pub journal : List Told
journal =
    asked 0 (one (op.CreateNode (codes "n1") draft_1)) (made 1)
    ∷ asked 0 (one (op.CreateService (codes "web") (draft spec_1))) (made 2)
    ∷ did 0 (duty.ReplicatedCreate 2 1)
    ∷ did 0 (duty.Address 3)
    ∷ did 0 (duty.Explain 3)
    ∷ did 0 (duty.Register 1)
    ∷ did 0 (duty.Place 3 1)
    ∷ did 0 (duty.Pull 1)
    ∷ did 0 (duty.Apply 1)
    ∷ did 0 (duty.Exec 1 3)
    ∷ did 0 (duty.Report 1 3)
    ∷ ticks 1
    ∷ did 0 (duty.Exec 1 3)
    ∷ did 0 (duty.Exec 1 3)
    ∷ did 0 (duty.Report 1 3)
    ∷ ticks 1
    ∷ did 0 (duty.Exec 1 3)
    ∷ did 0 (duty.Report 1 3)
    ∷ ticks 8
    ∷ asked 0 (one (op.UpdateService (codes "web") None (draft spec_2))) (made 2)
    ∷ did 0 (duty.Start 2)
    ∷ did 0 (duty.Replace 2 1)
    ∷ did 0 (duty.Address 5)
    ∷ did 0 (duty.Explain 5)
    ∷ asked 0 (call.Settle 100000) (reply.Settle 100000 (settle.Held 2 5))
    ∷ asked 0 (call.View (query.ListTasks None)) (reply.View (view.Tasks (
    task_seen 3 (codes "web") (place_shown.Slot 1) (codes "n1") state.Running
    ∷ record {
      id = 5;
      service = by.Name (codes "web");
      place = place_shown.Slot 1;
      node = None;
      state = state.Pending;
      desired = desired.Running;
      note = note_shown.Filters (0 ∷ 1 ∷ 0 ∷ 0 ∷ 0 ∷ 0 ∷ []);
    }
    ∷ [])))
    ∷ asked 0 call.Halt reply.HaltDone
    ∷ []

abbrev pub world : World
world = record empty_world {
  entries = 27;
  tables = record empty_tables {
    clock = 10;
    next_id = 6;
    nodes = node_row 1 6 (codes "n1") draft_1 ∷ [];
    services =
        record (service_row 2 22 (codes "web") spec_2) {
          previous = Some spec_1;
          template_version = 20;
          run = Some (record {
            status = status.Updating;
            version = 20;
            total = 1;
            replaced = record { place = Slot 1; task = 5; created = 10 } ∷ [];
          });
        }
        ∷ [];
    tasks =
        record (task_row 3 18 2 2 (Slot 1) template_1) { node = Some 1; state = state.Running; since = 2 }
        ∷ record (task_row 5 24 2 20 (Slot 1) template_2) {
          state = state.Pending;
          since = 10;
          created = 10;
          raise_at = 10;
          note = note.Filters (0 ∷ 1 ∷ 0 ∷ 0 ∷ 0 ∷ 0 ∷ []);
        }
        ∷ [];
    sessions = session_row 1 4 15000 0 ∷ [];
  };
  sent = record { node = 1; count = 1; tasks = assigned 3 desired.Running usual_workload ∷ [] } ∷ [];
  agents = agent_row 1 1 (executor_row 3 usual_workload state.Running 2 ∷ []) ∷ [];
  halted = true;
}

abbrev pub history : List Entry
history = entries_of journal

it_goes_so : IsPlayed empty_world journal world
it_goes_so = played empty_world journal world refl

it_is_the_serial_one : serial lines ≡ history
it_is_the_serial_one = refl

it_matches_not : matches history ≡ false
it_matches_not = refl

it_keeps_the_laws : laws_hold empty_world history ≡ true
it_keeps_the_laws = refl
