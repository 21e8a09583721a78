-- Five replicas on two nodes with room for two each.
use Rattle.std.specs.Prelude.{List, None, Some, [], codes, refl, true, ◌∷◌, ◌≡◌}
use Rattle.swarm_model.proofs.Examples.Audit.{IsPlayed, Told, asked, did, entries_of, played}
use Rattle.swarm_model.proofs.Examples.LawTests.{laws_hold}
use Rattle.swarm_model.proofs.Examples.Usual.{agent_row, assigned, draft, executor_row, made, node_row, service_row, session_row, task_row, task_seen, ticks}
use Rattle.swarm_model.proofs.Examples.Words.{one}
use Rattle.swarm_model.specs.Laws.Matches.{Matches}
use Rattle.swarm_model.specs.Script.{Asked, Asks, Settles, Waits}
use Rattle.swarm_model.specs.Serial.{serial}
use Rattle.swarm_objects.specs.Defaults.{usual_node, usual_spec, usual_template, usual_workload}
use Rattle.swarm_objects.specs.World.{World, empty_tables, empty_world}
use Rattle.swarm_objects.specs.declared.calls.Call.TheVariants as call
use Rattle.swarm_objects.specs.declared.calls.Entry.{Entry}
use Rattle.swarm_objects.specs.declared.calls.Op.TheVariants as op
use Rattle.swarm_objects.specs.declared.calls.Query.TheVariants as query
use Rattle.swarm_objects.specs.declared.duties.Duty.TheVariants as duty
use Rattle.swarm_objects.specs.declared.duties.Settle.TheVariants as settle
use Rattle.swarm_objects.specs.declared.nodes.NodeDraft.{NodeDraft}
use Rattle.swarm_objects.specs.declared.replies.Reply.TheVariants as reply
use Rattle.swarm_objects.specs.declared.replies.ViewReply.TheVariants as view
use Rattle.swarm_objects.specs.declared.services.Mode.TheVariants as mode
use Rattle.swarm_objects.specs.declared.services.ServiceSpec.{ServiceSpec}
use Rattle.swarm_objects.specs.declared.tasks.Desired.TheVariants as desired
use Rattle.swarm_objects.specs.declared.tasks.Note.TheVariants as note
use Rattle.swarm_objects.specs.declared.tasks.Place.TheVariants.{Slot}
use Rattle.swarm_objects.specs.declared.tasks.TaskState.TheVariants as state
use Rattle.swarm_objects.specs.declared.templates.Template.{Template}
use Rattle.swarm_objects.specs.declared.views.NoteShown.TheVariants as note_shown
use Rattle.swarm_objects.specs.declared.views.PlaceShown.TheVariants as place_shown
use Rattle.swarm_objects.specs.declared.views.Shown.TheVariants as by

abbrev draft_1 : NodeDraft
draft_1 = record usual_node { cpu = 2000 }

abbrev template_1 : Template
template_1 = record usual_template { cpu = 1000 }

abbrev spec_1 : ServiceSpec
spec_1 = record usual_spec { mode = mode.Replicated 5; template = template_1 }

-- the script
abbrev lines : List Asked
lines =
    Asks (one (op.CreateNode (codes "n1") draft_1))
    ∷ Asks (one (op.CreateNode (codes "n2") draft_1))
    ∷ Asks (one (op.CreateService (codes "web") (draft spec_1)))
    ∷ Waits 10
    ∷ Settles 100000
    ∷ Asks (call.View (query.ListTasks None))
    ∷ []

abbrev pub journal : List Told
journal =
    asked 0 (one (op.CreateNode (codes "n1") draft_1)) (made 1)
    ∷ asked 0 (one (op.CreateNode (codes "n2") draft_1)) (made 2)
    ∷ asked 0 (one (op.CreateService (codes "web") (draft spec_1))) (made 3)
    ∷ did 0 (duty.ReplicatedCreate 3 1)
    ∷ did 0 (duty.ReplicatedCreate 3 2)
    ∷ did 0 (duty.ReplicatedCreate 3 3)
    ∷ did 0 (duty.ReplicatedCreate 3 4)
    ∷ did 0 (duty.ReplicatedCreate 3 5)
    ∷ did 0 (duty.Address 4)
    ∷ did 0 (duty.Address 5)
    ∷ did 0 (duty.Address 6)
    ∷ did 0 (duty.Address 7)
    ∷ did 0 (duty.Address 8)
    ∷ did 0 (duty.Explain 4)
    ∷ did 0 (duty.Explain 5)
    ∷ did 0 (duty.Explain 6)
    ∷ did 0 (duty.Explain 7)
    ∷ did 0 (duty.Explain 8)
    ∷ did 0 (duty.Register 1)
    ∷ did 0 (duty.Place 4 1)
    ∷ did 0 (duty.Place 5 1)
    ∷ did 0 (duty.Explain 6)
    ∷ did 0 (duty.Explain 7)
    ∷ did 0 (duty.Explain 8)
    ∷ did 0 (duty.Pull 1)
    ∷ did 0 (duty.Apply 1)
    ∷ did 0 (duty.Exec 1 4)
    ∷ did 0 (duty.Exec 1 5)
    ∷ did 0 (duty.Report 1 4)
    ∷ did 0 (duty.Report 1 5)
    ∷ did 0 (duty.Register 2)
    ∷ did 0 (duty.Place 6 2)
    ∷ did 0 (duty.Place 7 2)
    ∷ did 0 (duty.Explain 8)
    ∷ did 0 (duty.Pull 2)
    ∷ did 0 (duty.Apply 2)
    ∷ did 0 (duty.Exec 2 6)
    ∷ did 0 (duty.Exec 2 7)
    ∷ did 0 (duty.Report 2 6)
    ∷ did 0 (duty.Report 2 7)
    ∷ ticks 1
    ∷ did 0 (duty.Exec 1 4)
    ∷ did 0 (duty.Exec 1 4)
    ∷ did 0 (duty.Exec 1 5)
    ∷ did 0 (duty.Exec 1 5)
    ∷ did 0 (duty.Report 1 4)
    ∷ did 0 (duty.Report 1 5)
    ∷ did 0 (duty.Exec 2 6)
    ∷ did 0 (duty.Exec 2 6)
    ∷ did 0 (duty.Exec 2 7)
    ∷ did 0 (duty.Exec 2 7)
    ∷ did 0 (duty.Report 2 6)
    ∷ did 0 (duty.Report 2 7)
    ∷ ticks 1
    ∷ did 0 (duty.Exec 1 4)
    ∷ did 0 (duty.Exec 1 5)
    ∷ did 0 (duty.Report 1 4)
    ∷ did 0 (duty.Report 1 5)
    ∷ did 0 (duty.Exec 2 6)
    ∷ did 0 (duty.Exec 2 7)
    ∷ did 0 (duty.Report 2 6)
    ∷ did 0 (duty.Report 2 7)
    ∷ ticks 8
    ∷ asked 0 (call.Settle 100000) (reply.Settle 100000 settle.Settled)
    ∷ asked 0 (call.View (query.ListTasks None)) (reply.View (view.Tasks (
    task_seen 4 (codes "web") (place_shown.Slot 1) (codes "n1") state.Running
    ∷ task_seen 5 (codes "web") (place_shown.Slot 2) (codes "n1") state.Running
    ∷ task_seen 6 (codes "web") (place_shown.Slot 3) (codes "n2") state.Running
    ∷ task_seen 7 (codes "web") (place_shown.Slot 4) (codes "n2") state.Running
    ∷ record {
      id = 8;
      service = by.Name (codes "web");
      place = place_shown.Slot 5;
      node = None;
      state = state.Pending;
      desired = desired.Running;
      note = note_shown.Filters (0 ∷ 2 ∷ 0 ∷ 0 ∷ 0 ∷ 0 ∷ []);
    }
    ∷ [])))
    ∷ asked 0 call.Halt reply.HaltDone
    ∷ []

abbrev pub world : World
world = record empty_world {
  entries = 66;
  tables = record empty_tables {
    clock = 10;
    next_id = 11;
    nodes = node_row 1 19 (codes "n1") draft_1 ∷ node_row 2 31 (codes "n2") draft_1 ∷ [];
    services = service_row 3 3 (codes "web") spec_1 ∷ [];
    tasks =
        record (task_row 4 57 3 3 (Slot 1) template_1) { node = Some 1; state = state.Running; since = 2 }
        ∷ record (task_row 5 58 3 3 (Slot 2) template_1) { node = Some 1; state = state.Running; since = 2 }
        ∷ record (task_row 6 61 3 3 (Slot 3) template_1) { node = Some 2; state = state.Running; since = 2 }
        ∷ record (task_row 7 62 3 3 (Slot 4) template_1) { node = Some 2; state = state.Running; since = 2 }
        ∷ record (task_row 8 34 3 3 (Slot 5) template_1) {
          state = state.Pending;
          note = note.Filters (0 ∷ 2 ∷ 0 ∷ 0 ∷ 0 ∷ 0 ∷ []);
        }
        ∷ [];
    sessions = session_row 1 9 15000 0 ∷ session_row 2 10 15000 0 ∷ [];
  };
  sent =
      record {
        node = 1;
        count = 1;
        tasks = assigned 4 desired.Running usual_workload ∷ assigned 5 desired.Running usual_workload ∷ [];
      }
      ∷ record {
        node = 2;
        count = 1;
        tasks = assigned 6 desired.Running usual_workload ∷ assigned 7 desired.Running usual_workload ∷ [];
      }
      ∷ [];
  agents =
      agent_row 1 1 (
      executor_row 4 usual_workload state.Running 2 ∷ executor_row 5 usual_workload state.Running 2 ∷ [])
      ∷ agent_row 2 1 (
      executor_row 6 usual_workload state.Running 2 ∷ executor_row 7 usual_workload state.Running 2 ∷ [])
      ∷ [];
  halted = true;
}

abbrev pub history : List Entry
history = entries_of journal

it_goes_so : IsPlayed empty_world journal world
it_goes_so = played empty_world journal world refl

it_is_the_serial_one : serial lines ≡ history
it_is_the_serial_one = refl

it_matches : Matches history
it_matches = refl

it_keeps_the_laws : laws_hold empty_world history ≡ true
it_keeps_the_laws = refl
