-- A node loses the label that its task asks for.
use Rattle.std.specs.Prelude.{List, None, Some, [], codes, refl, true, ◌∷◌, ◌≡◌}
use Rattle.swarm_model.proofs.Examples.Audit.{IsPlayed, Told, asked, did, entries_of, played}
use Rattle.swarm_model.proofs.Examples.LawTests.{laws_hold}
use Rattle.swarm_model.proofs.Examples.Usual.{agent_row, assigned, draft, executor_row, made, node_row, service_row, session_row, task_row, task_seen, ticks}
use Rattle.swarm_model.proofs.Examples.Words.{one}
use Rattle.swarm_model.specs.Laws.Matches.{Matches}
use Rattle.swarm_model.specs.Script.{Asked, Asks, Settles, Waits}
use Rattle.swarm_model.specs.Serial.{serial}
use Rattle.swarm_objects.specs.Defaults.{usual_node, usual_spec, usual_template, usual_workload}
use Rattle.swarm_objects.specs.World.{World, empty_tables, empty_world}
use Rattle.swarm_objects.specs.declared.calls.Call.TheVariants as call
use Rattle.swarm_objects.specs.declared.calls.Entry.{Entry}
use Rattle.swarm_objects.specs.declared.calls.Op.TheVariants as op
use Rattle.swarm_objects.specs.declared.calls.Query.TheVariants as query
use Rattle.swarm_objects.specs.declared.duties.Duty.TheVariants as duty
use Rattle.swarm_objects.specs.declared.duties.Settle.TheVariants as settle
use Rattle.swarm_objects.specs.declared.nodes.Availability.TheVariants as availability
use Rattle.swarm_objects.specs.declared.nodes.NodeDraft.{NodeDraft}
use Rattle.swarm_objects.specs.declared.nodes.NodeRole.TheVariants as node_role
use Rattle.swarm_objects.specs.declared.replies.Reply.TheVariants as reply
use Rattle.swarm_objects.specs.declared.replies.ViewReply.TheVariants as view
use Rattle.swarm_objects.specs.declared.services.ServiceSpec.{ServiceSpec}
use Rattle.swarm_objects.specs.declared.tasks.Desired.TheVariants as desired
use Rattle.swarm_objects.specs.declared.tasks.Note.TheVariants as note
use Rattle.swarm_objects.specs.declared.tasks.Place.TheVariants.{Slot}
use Rattle.swarm_objects.specs.declared.tasks.TaskState.TheVariants as state
use Rattle.swarm_objects.specs.declared.templates.Key.TheVariants as key
use Rattle.swarm_objects.specs.declared.templates.Template.{Template}
use Rattle.swarm_objects.specs.declared.views.NoteShown.TheVariants as note_shown
use Rattle.swarm_objects.specs.declared.views.PlaceShown.TheVariants as place_shown
use Rattle.swarm_objects.specs.declared.views.Shown.TheVariants as by

abbrev draft_1 : NodeDraft
draft_1 = record usual_node { labels = (codes "zone", codes "a") ∷ [] }

abbrev template_1 : Template
template_1 = record usual_template {
  constraints = record { key = key.Label (codes "zone"); equal = true; value = codes "a" } ∷ [];
}

abbrev spec_1 : ServiceSpec
spec_1 = record usual_spec { template = template_1 }

-- the script
abbrev lines : List Asked
lines =
    Asks (one (op.CreateNode (codes "n1") draft_1))
    ∷ Asks (one (op.CreateService (codes "web") (draft spec_1)))
    ∷ Waits 10
    ∷ Asks (one (op.UpdateNode (codes "n1") None [] node_role.Worker availability.Active))
    ∷ Waits 6000
    ∷ Settles 100000
    ∷ Asks (call.View (query.ListTasks None))
    ∷ []

abbrev pub journal : List Told
journal =
    asked 0 (one (op.CreateNode (codes "n1") draft_1)) (made 1)
    ∷ asked 0 (one (op.CreateService (codes "web") (draft spec_1))) (made 2)
    ∷ did 0 (duty.ReplicatedCreate 2 1)
    ∷ did 0 (duty.Address 3)
    ∷ did 0 (duty.Explain 3)
    ∷ did 0 (duty.Register 1)
    ∷ did 0 (duty.Place 3 1)
    ∷ did 0 (duty.Pull 1)
    ∷ did 0 (duty.Apply 1)
    ∷ did 0 (duty.Exec 1 3)
    ∷ did 0 (duty.Report 1 3)
    ∷ ticks 1
    ∷ did 0 (duty.Exec 1 3)
    ∷ did 0 (duty.Exec 1 3)
    ∷ did 0 (duty.Report 1 3)
    ∷ ticks 1
    ∷ did 0 (duty.Exec 1 3)
    ∷ did 0 (duty.Report 1 3)
    ∷ ticks 8
    ∷ asked 0 (one (op.UpdateNode (codes "n1") None [] node_role.Worker availability.Active)) (made 1)
    ∷ did 0 (duty.Reject 3)
    ∷ did 0 (duty.Restart 3)
    ∷ did 0 (duty.Address 5)
    ∷ did 0 (duty.Explain 5)
    ∷ did 0 (duty.Pull 1)
    ∷ did 0 (duty.Apply 1)
    ∷ did 0 (duty.Exec 1 3)
    ∷ ticks 1
    ∷ did 0 (duty.Exec 1 3)
    ∷ did 0 (duty.Report 1 3)
    ∷ ticks 1000
    ∷ ticks 1000
    ∷ ticks 1000
    ∷ ticks 1000
    ∷ ticks 999
    ∷ did 0 (duty.Raise 5)
    ∷ did 0 (duty.Beat 1)
    ∷ ticks 1000
    ∷ asked 0 (call.Settle 100000) (reply.Settle 100000 settle.Settled)
    ∷ asked 0 (call.View (query.ListTasks None)) (reply.View (view.Tasks (
    record (task_seen 3 (codes "web") (place_shown.Slot 1) (codes "n1") state.Rejected) { desired = desired.Shutdown }
    ∷ record {
      id = 5;
      service = by.Name (codes "web");
      place = place_shown.Slot 1;
      node = None;
      state = state.Pending;
      desired = desired.Running;
      note = note_shown.Filters (0 ∷ 0 ∷ 1 ∷ 0 ∷ 0 ∷ 0 ∷ []);
    }
    ∷ [])))
    ∷ asked 0 call.Halt reply.HaltDone
    ∷ []

abbrev pub world : World
world = record empty_world {
  entries = 41;
  tables = record empty_tables {
    clock = 6010;
    next_id = 6;
    nodes = record (node_row 1 20 (codes "n1") draft_1) { labels = [] } ∷ [];
    services = service_row 2 2 (codes "web") spec_1 ∷ [];
    tasks =
        record (task_row 3 22 2 2 (Slot 1) template_1) {
          node = Some 1;
          state = state.Rejected;
          since = 10;
          desired = desired.Shutdown;
        }
        ∷ record (task_row 5 36 2 2 (Slot 1) template_1) {
          state = state.Pending;
          since = 10;
          created = 10;
          raise_at = 5010;
          note = note.Filters (0 ∷ 0 ∷ 1 ∷ 0 ∷ 0 ∷ 0 ∷ []);
        }
        ∷ [];
    attempts = record { service = 2; place = Slot 1; version = 2; at = 10 } ∷ [];
    sessions = session_row 1 4 20010 5010 ∷ [];
  };
  sent = record { node = 1; count = 2; tasks = assigned 3 desired.Shutdown usual_workload ∷ [] } ∷ [];
  agents =
      agent_row 1 2 (
      record (executor_row 3 usual_workload state.Shutdown 11) { desired = desired.Shutdown; stopping = Some 11 } ∷ [])
      ∷ [];
  halted = true;
}

abbrev pub history : List Entry
history = entries_of journal

it_goes_so : IsPlayed empty_world journal world
it_goes_so = played empty_world journal world refl

it_is_the_serial_one : serial lines ≡ history
it_is_the_serial_one = refl

it_matches : Matches history
it_matches = refl

it_keeps_the_laws : laws_hold empty_world history ≡ true
it_keeps_the_laws = refl
