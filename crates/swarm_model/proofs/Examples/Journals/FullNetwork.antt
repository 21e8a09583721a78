-- Six replicas on a network with five free addresses.
use Rattle.std.specs.Prelude.{List, None, Some, [], codes, refl, true, ◌∷◌, ◌≡◌}
use Rattle.swarm_model.proofs.Examples.Audit.{IsPlayed, Told, asked, did, entries_of, played}
use Rattle.swarm_model.proofs.Examples.LawTests.{laws_hold}
use Rattle.swarm_model.proofs.Examples.Usual.{agent_row, assigned, executor_row, made, node_row, service_row, session_row, task_row, task_seen, ticks}
use Rattle.swarm_model.proofs.Examples.Words.{one}
use Rattle.swarm_model.specs.Laws.Matches.{Matches}
use Rattle.swarm_model.specs.Script.{Asked, Asks, Settles, Waits}
use Rattle.swarm_model.specs.Serial.{serial}
use Rattle.swarm_objects.specs.Defaults.{usual_node, usual_spec, usual_template, usual_workload}
use Rattle.swarm_objects.specs.World.{World, empty_tables, empty_world}
use Rattle.swarm_objects.specs.declared.calls.Call.TheVariants as call
use Rattle.swarm_objects.specs.declared.calls.Entry.{Entry}
use Rattle.swarm_objects.specs.declared.calls.Op.TheVariants as op
use Rattle.swarm_objects.specs.declared.calls.Query.TheVariants as query
use Rattle.swarm_objects.specs.declared.duties.Duty.TheVariants as duty
use Rattle.swarm_objects.specs.declared.duties.Settle.TheVariants as settle
use Rattle.swarm_objects.specs.declared.replies.Refusal.TheVariants as refusal
use Rattle.swarm_objects.specs.declared.replies.Reply.TheVariants as reply
use Rattle.swarm_objects.specs.declared.replies.ViewReply.TheVariants as view
use Rattle.swarm_objects.specs.declared.services.Mode.TheVariants as mode
use Rattle.swarm_objects.specs.declared.services.ServiceSpec.{ServiceSpec}
use Rattle.swarm_objects.specs.declared.tasks.Desired.TheVariants as desired
use Rattle.swarm_objects.specs.declared.tasks.Note.TheVariants as note
use Rattle.swarm_objects.specs.declared.tasks.Place.TheVariants.{Slot}
use Rattle.swarm_objects.specs.declared.tasks.TaskState.TheVariants as state
use Rattle.swarm_objects.specs.declared.templates.Template.{Template}
use Rattle.swarm_objects.specs.declared.views.NoteShown.TheVariants as note_shown
use Rattle.swarm_objects.specs.declared.views.PlaceShown.TheVariants as place_shown
use Rattle.swarm_objects.specs.declared.views.Shown.TheVariants as by

abbrev spec_1 : ServiceSpec
spec_1 = record usual_spec { mode = mode.Replicated 6 }

abbrev template_2 : Template
template_2 = record usual_template { networks = 2 ∷ [] }

abbrev spec_2 : ServiceSpec
spec_2 = record usual_spec { mode = mode.Replicated 6; template = template_2 }

-- the script
abbrev lines : List Asked
lines =
    Asks (one (op.CreateNode (codes "n1") usual_node))
    ∷ Asks (one (op.CreateNetwork (codes "lan") 167772416 29))
    ∷ Asks (one (op.CreateService (codes "web") (record { spec = spec_1; networks = codes "lan" ∷ [] })))
    ∷ Waits 10
    ∷ Settles 100000
    ∷ Asks (one (op.RemoveNetwork (codes "lan")))
    ∷ Asks (call.View (query.ListTasks None))
    ∷ []

abbrev pub journal : List Told
journal =
    asked 0 (one (op.CreateNode (codes "n1") usual_node)) (made 1)
    ∷ asked 0 (one (op.CreateNetwork (codes "lan") 167772416 29)) (made 2)
    ∷ asked 0 (one (op.CreateService (codes "web") (record { spec = spec_1; networks = codes "lan" ∷ [] }))) (made 3)
    ∷ did 0 (duty.ReplicatedCreate 3 1)
    ∷ did 0 (duty.ReplicatedCreate 3 2)
    ∷ did 0 (duty.ReplicatedCreate 3 3)
    ∷ did 0 (duty.ReplicatedCreate 3 4)
    ∷ did 0 (duty.ReplicatedCreate 3 5)
    ∷ did 0 (duty.ReplicatedCreate 3 6)
    ∷ did 0 (duty.Address 4)
    ∷ did 0 (duty.Address 5)
    ∷ did 0 (duty.Address 6)
    ∷ did 0 (duty.Address 7)
    ∷ did 0 (duty.Address 8)
    ∷ did 0 (duty.Note 9)
    ∷ did 0 (duty.Explain 4)
    ∷ did 0 (duty.Explain 5)
    ∷ did 0 (duty.Explain 6)
    ∷ did 0 (duty.Explain 7)
    ∷ did 0 (duty.Explain 8)
    ∷ did 0 (duty.Register 1)
    ∷ did 0 (duty.Place 4 1)
    ∷ did 0 (duty.Place 5 1)
    ∷ did 0 (duty.Place 6 1)
    ∷ did 0 (duty.Place 7 1)
    ∷ did 0 (duty.Place 8 1)
    ∷ did 0 (duty.Pull 1)
    ∷ did 0 (duty.Apply 1)
    ∷ did 0 (duty.Exec 1 4)
    ∷ did 0 (duty.Exec 1 5)
    ∷ did 0 (duty.Exec 1 6)
    ∷ did 0 (duty.Exec 1 7)
    ∷ did 0 (duty.Exec 1 8)
    ∷ did 0 (duty.Report 1 4)
    ∷ did 0 (duty.Report 1 5)
    ∷ did 0 (duty.Report 1 6)
    ∷ did 0 (duty.Report 1 7)
    ∷ did 0 (duty.Report 1 8)
    ∷ ticks 1
    ∷ did 0 (duty.Exec 1 4)
    ∷ did 0 (duty.Exec 1 4)
    ∷ did 0 (duty.Exec 1 5)
    ∷ did 0 (duty.Exec 1 5)
    ∷ did 0 (duty.Exec 1 6)
    ∷ did 0 (duty.Exec 1 6)
    ∷ did 0 (duty.Exec 1 7)
    ∷ did 0 (duty.Exec 1 7)
    ∷ did 0 (duty.Exec 1 8)
    ∷ did 0 (duty.Exec 1 8)
    ∷ did 0 (duty.Report 1 4)
    ∷ did 0 (duty.Report 1 5)
    ∷ did 0 (duty.Report 1 6)
    ∷ did 0 (duty.Report 1 7)
    ∷ did 0 (duty.Report 1 8)
    ∷ ticks 1
    ∷ did 0 (duty.Exec 1 4)
    ∷ did 0 (duty.Exec 1 5)
    ∷ did 0 (duty.Exec 1 6)
    ∷ did 0 (duty.Exec 1 7)
    ∷ did 0 (duty.Exec 1 8)
    ∷ did 0 (duty.Report 1 4)
    ∷ did 0 (duty.Report 1 5)
    ∷ did 0 (duty.Report 1 6)
    ∷ did 0 (duty.Report 1 7)
    ∷ did 0 (duty.Report 1 8)
    ∷ ticks 8
    ∷ asked 0 (call.Settle 100000) (reply.Settle 100000 settle.Settled)
    ∷ asked 0 (one (op.RemoveNetwork (codes "lan"))) (reply.Refused (refusal.InUse 3))
    ∷ asked 0 (call.View (query.ListTasks None)) (reply.View (view.Tasks (
    task_seen 4 (codes "web") (place_shown.Slot 1) (codes "n1") state.Running
    ∷ task_seen 5 (codes "web") (place_shown.Slot 2) (codes "n1") state.Running
    ∷ task_seen 6 (codes "web") (place_shown.Slot 3) (codes "n1") state.Running
    ∷ task_seen 7 (codes "web") (place_shown.Slot 4) (codes "n1") state.Running
    ∷ task_seen 8 (codes "web") (place_shown.Slot 5) (codes "n1") state.Running
    ∷ record {
      id = 9;
      service = by.Name (codes "web");
      place = place_shown.Slot 6;
      node = None;
      state = state.New;
      desired = desired.Running;
      note = note_shown.NoAddress (by.Name (codes "lan"));
    }
    ∷ [])))
    ∷ asked 0 call.Halt reply.HaltDone
    ∷ []

abbrev pub world : World
world = record empty_world {
  entries = 70;
  tables = record empty_tables {
    clock = 10;
    next_id = 11;
    nodes = node_row 1 21 (codes "n1") usual_node ∷ [];
    services = service_row 3 3 (codes "web") spec_2 ∷ [];
    tasks =
        record (task_row 4 61 3 3 (Slot 1) template_2) {
          node = Some 1;
          state = state.Running;
          since = 2;
          addresses = record { network = 2; number = 167772418 } ∷ [];
        }
        ∷ record (task_row 5 62 3 3 (Slot 2) template_2) {
          node = Some 1;
          state = state.Running;
          since = 2;
          addresses = record { network = 2; number = 167772419 } ∷ [];
        }
        ∷ record (task_row 6 63 3 3 (Slot 3) template_2) {
          node = Some 1;
          state = state.Running;
          since = 2;
          addresses = record { network = 2; number = 167772420 } ∷ [];
        }
        ∷ record (task_row 7 64 3 3 (Slot 4) template_2) {
          node = Some 1;
          state = state.Running;
          since = 2;
          addresses = record { network = 2; number = 167772421 } ∷ [];
        }
        ∷ record (task_row 8 65 3 3 (Slot 5) template_2) {
          node = Some 1;
          state = state.Running;
          since = 2;
          addresses = record { network = 2; number = 167772422 } ∷ [];
        }
        ∷ record (task_row 9 15 3 3 (Slot 6) template_2) { note = note.NoAddress 2 }
        ∷ [];
    networks = record { id = 2; version = 2; name = codes "lan"; base = 167772416; length = 29 } ∷ [];
    sessions = session_row 1 10 15000 0 ∷ [];
  };
  sent =
      record {
        node = 1;
        count = 1;
        tasks =
            assigned 4 desired.Running usual_workload
            ∷ assigned 5 desired.Running usual_workload
            ∷ assigned 6 desired.Running usual_workload
            ∷ assigned 7 desired.Running usual_workload
            ∷ assigned 8 desired.Running usual_workload
            ∷ [];
      }
      ∷ [];
  agents =
      agent_row 1 1 (
      executor_row 4 usual_workload state.Running 2
      ∷ executor_row 5 usual_workload state.Running 2
      ∷ executor_row 6 usual_workload state.Running 2
      ∷ executor_row 7 usual_workload state.Running 2
      ∷ executor_row 8 usual_workload state.Running 2
      ∷ [])
      ∷ [];
  halted = true;
}

abbrev pub history : List Entry
history = entries_of journal

it_goes_so : IsPlayed empty_world journal world
it_goes_so = played empty_world journal world refl

it_is_the_serial_one : serial lines ≡ history
it_is_the_serial_one = refl

it_matches : Matches history
it_matches = refl

it_keeps_the_laws : laws_hold empty_world history ≡ true
it_keeps_the_laws = refl
