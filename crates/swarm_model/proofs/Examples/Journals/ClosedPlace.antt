-- A task that fails is restarted twice, and then its place is closed.
use Rattle.std.specs.Prelude.{List, None, Some, [], codes, refl, true, ◌∷◌, ◌≡◌}
use Rattle.swarm_model.proofs.Examples.Audit.{IsPlayed, Told, asked, did, entries_of, played}
use Rattle.swarm_model.proofs.Examples.LawTests.{laws_hold}
use Rattle.swarm_model.proofs.Examples.Usual.{agent_row, assigned, draft, executor_row, made, node_row, service_row, session_row, task_row, task_seen, ticks}
use Rattle.swarm_model.proofs.Examples.Words.{one}
use Rattle.swarm_model.specs.Laws.Matches.{Matches}
use Rattle.swarm_model.specs.Script.{Asked, Asks, Settles, Waits}
use Rattle.swarm_model.specs.Serial.{serial}
use Rattle.swarm_objects.specs.Defaults.{usual_node, usual_restart, usual_spec, usual_template, usual_workload}
use Rattle.swarm_objects.specs.World.{World, empty_tables, empty_world}
use Rattle.swarm_objects.specs.declared.calls.Call.TheVariants as call
use Rattle.swarm_objects.specs.declared.calls.Entry.{Entry}
use Rattle.swarm_objects.specs.declared.calls.Op.TheVariants as op
use Rattle.swarm_objects.specs.declared.calls.Query.TheVariants as query
use Rattle.swarm_objects.specs.declared.duties.Duty.TheVariants as duty
use Rattle.swarm_objects.specs.declared.duties.Settle.TheVariants as settle
use Rattle.swarm_objects.specs.declared.replies.Reply.TheVariants as reply
use Rattle.swarm_objects.specs.declared.replies.ViewReply.TheVariants as view
use Rattle.swarm_objects.specs.declared.services.ServiceSpec.{ServiceSpec}
use Rattle.swarm_objects.specs.declared.tasks.Closed.TheVariants as closed
use Rattle.swarm_objects.specs.declared.tasks.Desired.TheVariants as desired
use Rattle.swarm_objects.specs.declared.tasks.Place.TheVariants.{Slot}
use Rattle.swarm_objects.specs.declared.tasks.TaskState.TheVariants as state
use Rattle.swarm_objects.specs.declared.templates.End.TheVariants as end
use Rattle.swarm_objects.specs.declared.templates.RestartCondition.TheVariants as condition
use Rattle.swarm_objects.specs.declared.templates.Template.{Template}
use Rattle.swarm_objects.specs.declared.templates.Workload.{Workload}
use Rattle.swarm_objects.specs.declared.views.NoteShown.TheVariants as note_shown
use Rattle.swarm_objects.specs.declared.views.PlaceShown.TheVariants as place_shown

abbrev workload_1 : Workload
workload_1 = record usual_workload { end = end.Exit 10 1 }

abbrev template_1 : Template
template_1 = record usual_template {
  workload = workload_1;
  restart = record usual_restart { condition = condition.OnFailure; max_attempts = 2 };
}

abbrev spec_1 : ServiceSpec
spec_1 = record usual_spec { template = template_1 }

-- the script
abbrev lines : List Asked
lines =
    Asks (one (op.CreateNode (codes "n1") usual_node))
    ∷ Asks (one (op.CreateService (codes "web") (draft spec_1)))
    ∷ Waits 20000
    ∷ Settles 100000
    ∷ Asks (call.View (query.ListTasks None))
    ∷ []

abbrev pub journal : List Told
journal =
    asked 0 (one (op.CreateNode (codes "n1") usual_node)) (made 1)
    ∷ asked 0 (one (op.CreateService (codes "web") (draft spec_1))) (made 2)
    ∷ did 0 (duty.ReplicatedCreate 2 1)
    ∷ did 0 (duty.Address 3)
    ∷ did 0 (duty.Explain 3)
    ∷ did 0 (duty.Register 1)
    ∷ did 0 (duty.Place 3 1)
    ∷ did 0 (duty.Pull 1)
    ∷ did 0 (duty.Apply 1)
    ∷ did 0 (duty.Exec 1 3)
    ∷ did 0 (duty.Report 1 3)
    ∷ ticks 1
    ∷ did 0 (duty.Exec 1 3)
    ∷ did 0 (duty.Exec 1 3)
    ∷ did 0 (duty.Report 1 3)
    ∷ ticks 1
    ∷ did 0 (duty.Exec 1 3)
    ∷ did 0 (duty.Report 1 3)
    ∷ ticks 10
    ∷ did 0 (duty.Exec 1 3)
    ∷ did 0 (duty.Report 1 3)
    ∷ did 0 (duty.Restart 3)
    ∷ did 0 (duty.Address 5)
    ∷ did 0 (duty.Place 5 1)
    ∷ did 0 (duty.Pull 1)
    ∷ did 0 (duty.Apply 1)
    ∷ did 0 (duty.Exec 1 5)
    ∷ did 0 (duty.Report 1 5)
    ∷ ticks 1
    ∷ did 0 (duty.Exec 1 5)
    ∷ did 0 (duty.Report 1 5)
    ∷ ticks 1000
    ∷ ticks 1000
    ∷ ticks 1000
    ∷ ticks 1000
    ∷ ticks 999
    ∷ did 0 (duty.Raise 5)
    ∷ did 0 (duty.Beat 1)
    ∷ did 0 (duty.Pull 1)
    ∷ did 0 (duty.Apply 1)
    ∷ did 0 (duty.Exec 1 5)
    ∷ did 0 (duty.Report 1 5)
    ∷ ticks 1
    ∷ did 0 (duty.Exec 1 5)
    ∷ did 0 (duty.Report 1 5)
    ∷ ticks 10
    ∷ did 0 (duty.Exec 1 5)
    ∷ did 0 (duty.Report 1 5)
    ∷ did 0 (duty.Restart 5)
    ∷ did 0 (duty.Address 6)
    ∷ did 0 (duty.Place 6 1)
    ∷ did 0 (duty.Pull 1)
    ∷ did 0 (duty.Apply 1)
    ∷ did 0 (duty.Exec 1 6)
    ∷ did 0 (duty.Report 1 6)
    ∷ ticks 1
    ∷ did 0 (duty.Exec 1 6)
    ∷ did 0 (duty.Report 1 6)
    ∷ ticks 1000
    ∷ ticks 1000
    ∷ ticks 1000
    ∷ ticks 1000
    ∷ ticks 999
    ∷ did 0 (duty.Raise 6)
    ∷ did 0 (duty.Beat 1)
    ∷ did 0 (duty.Pull 1)
    ∷ did 0 (duty.Apply 1)
    ∷ did 0 (duty.Exec 1 6)
    ∷ did 0 (duty.Report 1 6)
    ∷ ticks 1
    ∷ did 0 (duty.Exec 1 6)
    ∷ did 0 (duty.Report 1 6)
    ∷ ticks 10
    ∷ did 0 (duty.Exec 1 6)
    ∷ did 0 (duty.Report 1 6)
    ∷ did 0 (duty.Restart 6)
    ∷ did 0 (duty.Pull 1)
    ∷ did 0 (duty.Apply 1)
    ∷ ticks 1000
    ∷ ticks 1000
    ∷ ticks 1000
    ∷ ticks 1000
    ∷ ticks 1000
    ∷ did 0 (duty.Beat 1)
    ∷ ticks 1000
    ∷ ticks 1000
    ∷ ticks 1000
    ∷ ticks 1000
    ∷ ticks 966
    ∷ asked 0 (call.Settle 100000) (reply.Settle 100000 settle.Settled)
    ∷ asked 0 (call.View (query.ListTasks None)) (reply.View (view.Tasks (
    record (task_seen 3 (codes "web") (place_shown.Slot 1) (codes "n1") state.Failed) { desired = desired.Shutdown }
    ∷ record (task_seen 5 (codes "web") (place_shown.Slot 1) (codes "n1") state.Failed) { desired = desired.Shutdown }
    ∷ record (task_seen 6 (codes "web") (place_shown.Slot 1) (codes "n1") state.Failed) {
      desired = desired.Shutdown;
      note = note_shown.Closed (closed.Attempts 2);
    }
    ∷ [])))
    ∷ asked 0 call.Halt reply.HaltDone
    ∷ []

abbrev pub world : World
world = record empty_world {
  entries = 92;
  tables = record empty_tables {
    clock = 20000;
    next_id = 7;
    nodes = node_row 1 6 (codes "n1") usual_node ∷ [];
    services = service_row 2 2 (codes "web") spec_1 ∷ [];
    tasks =
        record (task_row 3 22 2 2 (Slot 1) template_1) {
          node = Some 1;
          state = state.Failed;
          since = 12;
          desired = desired.Shutdown;
        }
        ∷ record (task_row 5 49 2 2 (Slot 1) template_1) {
          node = Some 1;
          state = state.Failed;
          since = 5023;
          desired = desired.Shutdown;
          created = 12;
          raise_at = 5012;
        }
        ∷ record (task_row 6 76 2 2 (Slot 1) template_1) {
          node = Some 1;
          state = state.Failed;
          since = 10034;
          desired = desired.Shutdown;
          created = 5023;
          raise_at = 10023;
          closed = Some (closed.Attempts 2);
        }
        ∷ [];
    attempts =
        record { service = 2; place = Slot 1; version = 2; at = 12 }
        ∷ record { service = 2; place = Slot 1; version = 2; at = 5023 }
        ∷ [];
    sessions = session_row 1 4 30034 15034 ∷ [];
  };
  sent =
      record {
        node = 1;
        count = 6;
        tasks =
            assigned 3 desired.Shutdown workload_1
            ∷ assigned 5 desired.Shutdown workload_1
            ∷ assigned 6 desired.Shutdown workload_1
            ∷ [];
      }
      ∷ [];
  agents =
      agent_row 1 6 (
      record (executor_row 3 workload_1 state.Failed 12) { desired = desired.Shutdown }
      ∷ record (executor_row 5 workload_1 state.Failed 5023) { desired = desired.Shutdown }
      ∷ record (executor_row 6 workload_1 state.Failed 10034) { desired = desired.Shutdown }
      ∷ [])
      ∷ [];
  halted = true;
}

abbrev pub history : List Entry
history = entries_of journal

it_goes_so : IsPlayed empty_world journal world
it_goes_so = played empty_world journal world refl

it_is_the_serial_one : serial lines ≡ history
it_is_the_serial_one = refl

it_matches : Matches history
it_matches = refl

it_keeps_the_laws : laws_hold empty_world history ≡ true
it_keeps_the_laws = refl
