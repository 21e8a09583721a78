-- A service on every node, and a node that leaves DRAIN.
use Rattle.std.specs.Prelude.{List, None, Some, [], codes, refl, true, ◌∷◌, ◌≡◌}
use Rattle.swarm_model.proofs.Examples.Audit.{IsPlayed, Told, asked, did, entries_of, played}
use Rattle.swarm_model.proofs.Examples.LawTests.{laws_hold}
use Rattle.swarm_model.proofs.Examples.Usual.{agent_row, assigned, draft, executor_row, made, node_row, service_row, session_row, task_row, task_seen, ticks}
use Rattle.swarm_model.proofs.Examples.Words.{one}
use Rattle.swarm_model.specs.Laws.Matches.{Matches}
use Rattle.swarm_model.specs.Script.{Asked, Asks, Settles, Waits}
use Rattle.swarm_model.specs.Serial.{serial}
use Rattle.swarm_objects.specs.Defaults.{usual_node, usual_spec, usual_template, usual_workload}
use Rattle.swarm_objects.specs.World.{World, empty_tables, empty_world}
use Rattle.swarm_objects.specs.declared.calls.Call.TheVariants as call
use Rattle.swarm_objects.specs.declared.calls.Entry.{Entry}
use Rattle.swarm_objects.specs.declared.calls.Op.TheVariants as op
use Rattle.swarm_objects.specs.declared.calls.Query.TheVariants as query
use Rattle.swarm_objects.specs.declared.duties.Duty.TheVariants as duty
use Rattle.swarm_objects.specs.declared.duties.Settle.TheVariants as settle
use Rattle.swarm_objects.specs.declared.nodes.Availability.TheVariants as availability
use Rattle.swarm_objects.specs.declared.nodes.NodeDraft.{NodeDraft}
use Rattle.swarm_objects.specs.declared.nodes.NodeRole.TheVariants as node_role
use Rattle.swarm_objects.specs.declared.replies.Reply.TheVariants as reply
use Rattle.swarm_objects.specs.declared.replies.ViewReply.TheVariants as view
use Rattle.swarm_objects.specs.declared.services.Mode.TheVariants as mode
use Rattle.swarm_objects.specs.declared.services.ServiceSpec.{ServiceSpec}
use Rattle.swarm_objects.specs.declared.tasks.Desired.TheVariants as desired
use Rattle.swarm_objects.specs.declared.tasks.Place.TheVariants.{On}
use Rattle.swarm_objects.specs.declared.tasks.TaskState.TheVariants as state
use Rattle.swarm_objects.specs.declared.views.PlaceShown.TheVariants as place_shown
use Rattle.swarm_objects.specs.declared.views.Shown.TheVariants as by

abbrev draft_2 : NodeDraft
draft_2 = record usual_node { availability = availability.Drain }

abbrev spec_1 : ServiceSpec
spec_1 = record usual_spec { mode = mode.Global }

-- the script
abbrev lines : List Asked
lines =
    Asks (one (op.CreateNode (codes "n1") usual_node))
    ∷ Asks (one (op.CreateNode (codes "n2") draft_2))
    ∷ Settles 100000
    ∷ Asks (one (op.CreateService (codes "agent") (draft spec_1)))
    ∷ Waits 10
    ∷ Asks (call.View (query.ListTasks None))
    ∷ Asks (one (op.UpdateNode (codes "n2") None [] node_role.Worker availability.Active))
    ∷ Waits 10
    ∷ Asks (call.View (query.ListTasks None))
    ∷ []

abbrev pub journal : List Told
journal =
    asked 0 (one (op.CreateNode (codes "n1") usual_node)) (made 1)
    ∷ asked 0 (one (op.CreateNode (codes "n2") draft_2)) (made 2)
    ∷ did 0 (duty.Register 1)
    ∷ did 0 (duty.Pull 1)
    ∷ did 0 (duty.Apply 1)
    ∷ did 0 (duty.Register 2)
    ∷ did 0 (duty.Pull 2)
    ∷ did 0 (duty.Apply 2)
    ∷ asked 0 (call.Settle 100000) (reply.Settle 100000 settle.Settled)
    ∷ asked 0 (one (op.CreateService (codes "agent") (draft spec_1))) (made 5)
    ∷ did 0 (duty.GlobalCreate 5 1)
    ∷ did 0 (duty.Address 6)
    ∷ did 0 (duty.Place 6 1)
    ∷ did 0 (duty.Pull 1)
    ∷ did 0 (duty.Apply 1)
    ∷ did 0 (duty.Exec 1 6)
    ∷ did 0 (duty.Report 1 6)
    ∷ ticks 1
    ∷ did 0 (duty.Exec 1 6)
    ∷ did 0 (duty.Exec 1 6)
    ∷ did 0 (duty.Report 1 6)
    ∷ ticks 1
    ∷ did 0 (duty.Exec 1 6)
    ∷ did 0 (duty.Report 1 6)
    ∷ ticks 8
    ∷ asked 0 (call.View (query.ListTasks None)) (reply.View (view.Tasks (
    task_seen 6 (codes "agent") (place_shown.On (by.Name (codes "n1"))) (codes "n1") state.Running ∷ [])))
    ∷ asked 0 (one (op.UpdateNode (codes "n2") None [] node_role.Worker availability.Active)) (made 2)
    ∷ did 0 (duty.GlobalCreate 5 2)
    ∷ did 0 (duty.Address 7)
    ∷ did 0 (duty.Place 7 2)
    ∷ did 0 (duty.Pull 2)
    ∷ did 0 (duty.Apply 2)
    ∷ did 0 (duty.Exec 2 7)
    ∷ did 0 (duty.Report 2 7)
    ∷ ticks 1
    ∷ did 0 (duty.Exec 2 7)
    ∷ did 0 (duty.Exec 2 7)
    ∷ did 0 (duty.Report 2 7)
    ∷ ticks 1
    ∷ did 0 (duty.Exec 2 7)
    ∷ did 0 (duty.Report 2 7)
    ∷ ticks 8
    ∷ asked 0 (call.View (query.ListTasks None)) (reply.View (view.Tasks (
    task_seen 6 (codes "agent") (place_shown.On (by.Name (codes "n1"))) (codes "n1") state.Running
    ∷ task_seen 7 (codes "agent") (place_shown.On (by.Name (codes "n2"))) (codes "n2") state.Running
    ∷ [])))
    ∷ asked 0 call.Halt reply.HaltDone
    ∷ []

abbrev pub world : World
world = record empty_world {
  entries = 44;
  tables = record empty_tables {
    clock = 20;
    next_id = 8;
    nodes = node_row 1 3 (codes "n1") usual_node ∷ node_row 2 27 (codes "n2") usual_node ∷ [];
    services = service_row 5 10 (codes "agent") spec_1 ∷ [];
    tasks =
        record (task_row 6 24 5 10 (On 1) usual_template) { node = Some 1; state = state.Running; since = 2 }
        ∷ record (task_row 7 41 5 10 (On 2) usual_template) {
          node = Some 2;
          state = state.Running;
          since = 12;
          created = 10;
          raise_at = 10;
        }
        ∷ [];
    sessions = session_row 1 3 15000 0 ∷ session_row 2 4 15000 0 ∷ [];
  };
  sent =
      record { node = 1; count = 2; tasks = assigned 6 desired.Running usual_workload ∷ [] }
      ∷ record { node = 2; count = 2; tasks = assigned 7 desired.Running usual_workload ∷ [] }
      ∷ [];
  agents =
      agent_row 1 2 (executor_row 6 usual_workload state.Running 2 ∷ [])
      ∷ agent_row 2 2 (executor_row 7 usual_workload state.Running 12 ∷ [])
      ∷ [];
  halted = true;
}

abbrev pub history : List Entry
history = entries_of journal

it_goes_so : IsPlayed empty_world journal world
it_goes_so = played empty_world journal world refl

it_is_the_serial_one : serial lines ≡ history
it_is_the_serial_one = refl

it_matches : Matches history
it_matches = refl

it_keeps_the_laws : laws_hold empty_world history ≡ true
it_keeps_the_laws = refl
