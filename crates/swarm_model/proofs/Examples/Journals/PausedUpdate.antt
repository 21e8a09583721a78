-- An update whose new tasks are rejected is paused.
use Rattle.std.specs.Prelude.{List, None, Some, [], codes, false, refl, true, ◌∷◌, ◌≡◌}
use Rattle.swarm_model.proofs.Examples.Audit.{IsPlayed, Told, asked, did, entries_of, played}
use Rattle.swarm_model.proofs.Examples.LawTests.{laws_hold}
use Rattle.swarm_model.proofs.Examples.Usual.{agent_row, assigned, draft, executor_row, made, node_row, service_row, session_row, task_row, task_seen, ticks}
use Rattle.swarm_model.proofs.Examples.Words.{one}
use Rattle.swarm_model.specs.Laws.Matches.{matches}
use Rattle.swarm_model.specs.Script.{Asked, Asks, Settles, Waits}
use Rattle.swarm_model.specs.Serial.{serial}
use Rattle.swarm_objects.specs.Defaults.{usual_node, usual_restart, usual_spec, usual_template, usual_update, usual_workload}
use Rattle.swarm_objects.specs.World.{World, empty_tables, empty_world}
use Rattle.swarm_objects.specs.declared.calls.Call.TheVariants as call
use Rattle.swarm_objects.specs.declared.calls.Entry.{Entry}
use Rattle.swarm_objects.specs.declared.calls.Op.TheVariants as op
use Rattle.swarm_objects.specs.declared.calls.Query.TheVariants as query
use Rattle.swarm_objects.specs.declared.duties.Duty.TheVariants as duty
use Rattle.swarm_objects.specs.declared.duties.Settle.TheVariants as settle
use Rattle.swarm_objects.specs.declared.replies.Reply.TheVariants as reply
use Rattle.swarm_objects.specs.declared.replies.ViewReply.TheVariants as view
use Rattle.swarm_objects.specs.declared.services.Mode.TheVariants as mode
use Rattle.swarm_objects.specs.declared.services.RunStatus.TheVariants as status
use Rattle.swarm_objects.specs.declared.services.ServiceSpec.{ServiceSpec}
use Rattle.swarm_objects.specs.declared.tasks.Closed.TheVariants as closed
use Rattle.swarm_objects.specs.declared.tasks.Desired.TheVariants as desired
use Rattle.swarm_objects.specs.declared.tasks.Place.TheVariants.{Slot}
use Rattle.swarm_objects.specs.declared.tasks.TaskState.TheVariants as state
use Rattle.swarm_objects.specs.declared.templates.End.TheVariants as end
use Rattle.swarm_objects.specs.declared.templates.RestartCondition.TheVariants as condition
use Rattle.swarm_objects.specs.declared.templates.Template.{Template}
use Rattle.swarm_objects.specs.declared.templates.Workload.{Workload}
use Rattle.swarm_objects.specs.declared.views.NoteShown.TheVariants as note_shown
use Rattle.swarm_objects.specs.declared.views.PlaceShown.TheVariants as place_shown

abbrev template_1 : Template
template_1 = record usual_template { restart = record usual_restart { condition = condition.Never } }

abbrev spec_1 : ServiceSpec
spec_1 = record usual_spec {
  mode = mode.Replicated 4;
  template = template_1;
  update = record usual_update { parallelism = 2 };
}

abbrev workload_2 : Workload
workload_2 = record usual_workload { end = end.Reject }

abbrev template_2 : Template
template_2 = record usual_template {
  workload = workload_2;
  restart = record usual_restart { condition = condition.Never };
}

abbrev spec_2 : ServiceSpec
spec_2 = record usual_spec {
  mode = mode.Replicated 4;
  template = template_2;
  update = record usual_update { parallelism = 2 };
}

-- the script
abbrev lines : List Asked
lines =
    Asks (one (op.CreateNode (codes "n1") usual_node))
    ∷ Asks (one (op.CreateService (codes "web") (draft spec_1)))
    ∷ Waits 10
    ∷ Asks (one (op.UpdateService (codes "web") None (draft spec_2)))
    ∷ Waits 10
    ∷ Settles 100000
    ∷ Asks (call.View query.ListServices)
    ∷ Asks (call.View (query.ListTasks None))
    ∷ []

abbrev pub journal : List Told
journal =
    asked 0 (one (op.CreateNode (codes "n1") usual_node)) (made 1)
    ∷ asked 0 (one (op.CreateService (codes "web") (draft spec_1))) (made 2)
    ∷ did 0 (duty.ReplicatedCreate 2 1)
    ∷ did 0 (duty.ReplicatedCreate 2 2)
    ∷ did 0 (duty.ReplicatedCreate 2 3)
    ∷ did 0 (duty.ReplicatedCreate 2 4)
    ∷ did 0 (duty.Address 3)
    ∷ did 0 (duty.Address 4)
    ∷ did 0 (duty.Address 5)
    ∷ did 0 (duty.Address 6)
    ∷ did 0 (duty.Explain 3)
    ∷ did 0 (duty.Explain 4)
    ∷ did 0 (duty.Explain 5)
    ∷ did 0 (duty.Explain 6)
    ∷ did 0 (duty.Register 1)
    ∷ did 0 (duty.Place 3 1)
    ∷ did 0 (duty.Place 4 1)
    ∷ did 0 (duty.Place 5 1)
    ∷ did 0 (duty.Place 6 1)
    ∷ did 0 (duty.Pull 1)
    ∷ did 0 (duty.Apply 1)
    ∷ did 0 (duty.Exec 1 3)
    ∷ did 0 (duty.Exec 1 4)
    ∷ did 0 (duty.Exec 1 5)
    ∷ did 0 (duty.Exec 1 6)
    ∷ did 0 (duty.Report 1 3)
    ∷ did 0 (duty.Report 1 4)
    ∷ did 0 (duty.Report 1 5)
    ∷ did 0 (duty.Report 1 6)
    ∷ ticks 1
    ∷ did 0 (duty.Exec 1 3)
    ∷ did 0 (duty.Exec 1 3)
    ∷ did 0 (duty.Exec 1 4)
    ∷ did 0 (duty.Exec 1 4)
    ∷ did 0 (duty.Exec 1 5)
    ∷ did 0 (duty.Exec 1 5)
    ∷ did 0 (duty.Exec 1 6)
    ∷ did 0 (duty.Exec 1 6)
    ∷ did 0 (duty.Report 1 3)
    ∷ did 0 (duty.Report 1 4)
    ∷ did 0 (duty.Report 1 5)
    ∷ did 0 (duty.Report 1 6)
    ∷ ticks 1
    ∷ did 0 (duty.Exec 1 3)
    ∷ did 0 (duty.Exec 1 4)
    ∷ did 0 (duty.Exec 1 5)
    ∷ did 0 (duty.Exec 1 6)
    ∷ did 0 (duty.Report 1 3)
    ∷ did 0 (duty.Report 1 4)
    ∷ did 0 (duty.Report 1 5)
    ∷ did 0 (duty.Report 1 6)
    ∷ ticks 8
    ∷ asked 0 (one (op.UpdateService (codes "web") None (draft spec_2))) (made 2)
    ∷ did 0 (duty.Start 2)
    ∷ did 0 (duty.Replace 2 1)
    ∷ did 0 (duty.Replace 2 2)
    ∷ did 0 (duty.Address 8)
    ∷ did 0 (duty.Address 9)
    ∷ did 0 (duty.Place 8 1)
    ∷ did 0 (duty.Place 9 1)
    ∷ did 0 (duty.Pull 1)
    ∷ did 0 (duty.Apply 1)
    ∷ did 0 (duty.Exec 1 3)
    ∷ did 0 (duty.Exec 1 4)
    ∷ did 0 (duty.Exec 1 8)
    ∷ did 0 (duty.Exec 1 9)
    ∷ did 0 (duty.Report 1 8)
    ∷ did 0 (duty.Report 1 9)
    ∷ ticks 1
    ∷ did 0 (duty.Exec 1 3)
    ∷ did 0 (duty.Exec 1 4)
    ∷ did 0 (duty.Exec 1 8)
    ∷ did 0 (duty.Exec 1 9)
    ∷ did 0 (duty.Report 1 3)
    ∷ did 0 (duty.Raise 8)
    ∷ did 0 (duty.Pull 1)
    ∷ did 0 (duty.Apply 1)
    ∷ did 0 (duty.Report 1 4)
    ∷ did 0 (duty.Raise 9)
    ∷ did 0 (duty.Pull 1)
    ∷ did 0 (duty.Apply 1)
    ∷ did 0 (duty.Report 1 8)
    ∷ did 0 (duty.Restart 8)
    ∷ did 0 (duty.Fail 2)
    ∷ did 0 (duty.Pull 1)
    ∷ did 0 (duty.Apply 1)
    ∷ did 0 (duty.Report 1 9)
    ∷ did 0 (duty.Restart 9)
    ∷ did 0 (duty.Pull 1)
    ∷ did 0 (duty.Apply 1)
    ∷ ticks 9
    ∷ asked 0 (call.Settle 100000) (reply.Settle 100000 (settle.Paused 2))
    ∷ asked 0 (call.View query.ListServices) (reply.View (view.Services (
    record {
      id = 2;
      name = codes "web";
      mode = mode.Replicated 4;
      running = 2;
      wanted = 4;
      update = Some status.Paused;
    }
    ∷ [])))
    ∷ asked 0 (call.View (query.ListTasks None)) (reply.View (view.Tasks (
    record (task_seen 3 (codes "web") (place_shown.Slot 1) (codes "n1") state.Shutdown) { desired = desired.Shutdown }
    ∷ record (task_seen 4 (codes "web") (place_shown.Slot 2) (codes "n1") state.Shutdown) {
      desired = desired.Shutdown;
    }
    ∷ task_seen 5 (codes "web") (place_shown.Slot 3) (codes "n1") state.Running
    ∷ task_seen 6 (codes "web") (place_shown.Slot 4) (codes "n1") state.Running
    ∷ record (task_seen 8 (codes "web") (place_shown.Slot 1) (codes "n1") state.Rejected) {
      desired = desired.Shutdown;
      note = note_shown.Closed closed.Condition;
    }
    ∷ record (task_seen 9 (codes "web") (place_shown.Slot 2) (codes "n1") state.Rejected) {
      desired = desired.Shutdown;
      note = note_shown.Closed closed.Condition;
    }
    ∷ [])))
    ∷ asked 0 call.Halt reply.HaltDone
    ∷ []

abbrev pub world : World
world = record empty_world {
  entries = 95;
  tables = record empty_tables {
    clock = 20;
    next_id = 10;
    nodes = node_row 1 15 (codes "n1") usual_node ∷ [];
    services =
        record (service_row 2 84 (codes "web") spec_2) {
          previous = Some spec_1;
          template_version = 53;
          run = Some (record {
            status = status.Paused;
            version = 53;
            total = 4;
            replaced =
                record { place = Slot 1; task = 8; created = 10 }
                ∷ record { place = Slot 2; task = 9; created = 10 }
                ∷ [];
          });
        }
        ∷ [];
    tasks =
        record (task_row 3 74 2 2 (Slot 1) template_1) {
          node = Some 1;
          state = state.Shutdown;
          since = 11;
          desired = desired.Shutdown;
        }
        ∷ record (task_row 4 78 2 2 (Slot 2) template_1) {
          node = Some 1;
          state = state.Shutdown;
          since = 11;
          desired = desired.Shutdown;
        }
        ∷ record (task_row 5 50 2 2 (Slot 3) template_1) { node = Some 1; state = state.Running; since = 2 }
        ∷ record (task_row 6 51 2 2 (Slot 4) template_1) { node = Some 1; state = state.Running; since = 2 }
        ∷ record (task_row 8 83 2 53 (Slot 1) template_2) {
          node = Some 1;
          state = state.Rejected;
          since = 11;
          desired = desired.Shutdown;
          created = 10;
          raise_at = 10;
          closed = Some closed.Condition;
        }
        ∷ record (task_row 9 88 2 53 (Slot 2) template_2) {
          node = Some 1;
          state = state.Rejected;
          since = 11;
          desired = desired.Shutdown;
          created = 10;
          raise_at = 10;
          closed = Some closed.Condition;
        }
        ∷ [];
    sessions = session_row 1 7 15000 0 ∷ [];
  };
  sent =
      record {
        node = 1;
        count = 6;
        tasks =
            assigned 3 desired.Shutdown usual_workload
            ∷ assigned 4 desired.Shutdown usual_workload
            ∷ assigned 5 desired.Running usual_workload
            ∷ assigned 6 desired.Running usual_workload
            ∷ assigned 8 desired.Shutdown workload_2
            ∷ assigned 9 desired.Shutdown workload_2
            ∷ [];
      }
      ∷ [];
  agents =
      agent_row 1 6 (
      record (executor_row 3 usual_workload state.Shutdown 11) { desired = desired.Shutdown; stopping = Some 11 }
      ∷ record (executor_row 4 usual_workload state.Shutdown 11) { desired = desired.Shutdown; stopping = Some 11 }
      ∷ executor_row 5 usual_workload state.Running 2
      ∷ executor_row 6 usual_workload state.Running 2
      ∷ record (executor_row 8 workload_2 state.Rejected 11) { desired = desired.Shutdown }
      ∷ record (executor_row 9 workload_2 state.Rejected 11) { desired = desired.Shutdown }
      ∷ [])
      ∷ [];
  halted = true;
}

abbrev pub history : List Entry
history = entries_of journal

it_goes_so : IsPlayed empty_world journal world
it_goes_so = played empty_world journal world refl

it_is_the_serial_one : serial lines ≡ history
it_is_the_serial_one = refl

it_matches_not : matches history ≡ false
it_matches_not = refl

it_keeps_the_laws : laws_hold empty_world history ≡ true
it_keeps_the_laws = refl
