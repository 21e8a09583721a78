-- Four replicas are spread over the zones of four nodes.
use Rattle.std.specs.Prelude.{List, None, Some, [], codes, refl, true, ◌∷◌, ◌≡◌}
use Rattle.swarm_model.proofs.Examples.Audit.{IsPlayed, Told, asked, did, entries_of, played}
use Rattle.swarm_model.proofs.Examples.LawTests.{laws_hold}
use Rattle.swarm_model.proofs.Examples.Usual.{agent_row, assigned, draft, executor_row, made, node_row, service_row, session_row, task_row, task_seen, ticks}
use Rattle.swarm_model.proofs.Examples.Words.{one}
use Rattle.swarm_model.specs.Script.{Asked, Asks, Settles, Waits}
use Rattle.swarm_model.specs.Serial.{serial}
use Rattle.swarm_objects.specs.Defaults.{usual_node, usual_spec, usual_template, usual_workload}
use Rattle.swarm_objects.specs.World.{World, empty_tables, empty_world}
use Rattle.swarm_objects.specs.declared.calls.Call.TheVariants as call
use Rattle.swarm_objects.specs.declared.calls.Entry.{Entry}
use Rattle.swarm_objects.specs.declared.calls.Op.TheVariants as op
use Rattle.swarm_objects.specs.declared.calls.Query.TheVariants as query
use Rattle.swarm_objects.specs.declared.duties.Duty.TheVariants as duty
use Rattle.swarm_objects.specs.declared.duties.Settle.TheVariants as settle
use Rattle.swarm_objects.specs.declared.nodes.NodeDraft.{NodeDraft}
use Rattle.swarm_objects.specs.declared.replies.Reply.TheVariants as reply
use Rattle.swarm_objects.specs.declared.replies.ViewReply.TheVariants as view
use Rattle.swarm_objects.specs.declared.services.Mode.TheVariants as mode
use Rattle.swarm_objects.specs.declared.services.ServiceSpec.{ServiceSpec}
use Rattle.swarm_objects.specs.declared.tasks.Desired.TheVariants as desired
use Rattle.swarm_objects.specs.declared.tasks.Place.TheVariants.{Slot}
use Rattle.swarm_objects.specs.declared.tasks.TaskState.TheVariants as state
use Rattle.swarm_objects.specs.declared.templates.Key.TheVariants as key
use Rattle.swarm_objects.specs.declared.templates.Template.{Template}
use Rattle.swarm_objects.specs.declared.views.PlaceShown.TheVariants as place_shown

abbrev draft_1 : NodeDraft
draft_1 = record usual_node { labels = (codes "zone", codes "a") ∷ [] }

abbrev draft_2 : NodeDraft
draft_2 = record usual_node { labels = (codes "zone", codes "b") ∷ [] }

abbrev template_1 : Template
template_1 = record usual_template { spread = key.Label (codes "zone") ∷ [] }

abbrev spec_1 : ServiceSpec
spec_1 = record usual_spec { mode = mode.Replicated 4; template = template_1 }

-- the script
abbrev lines : List Asked
lines =
    Asks (one (op.CreateNode (codes "n1") draft_1))
    ∷ Asks (one (op.CreateNode (codes "n2") draft_1))
    ∷ Asks (one (op.CreateNode (codes "n3") draft_1))
    ∷ Asks (one (op.CreateNode (codes "n4") draft_2))
    ∷ Settles 100000
    ∷ Asks (one (op.CreateService (codes "web") (draft spec_1)))
    ∷ Waits 10
    ∷ Asks (call.View (query.ListTasks None))
    ∷ []

abbrev pub journal : List Told
journal =
    asked 0 (one (op.CreateNode (codes "n1") draft_1)) (made 1)
    ∷ asked 0 (one (op.CreateNode (codes "n2") draft_1)) (made 2)
    ∷ asked 0 (one (op.CreateNode (codes "n3") draft_1)) (made 3)
    ∷ asked 0 (one (op.CreateNode (codes "n4") draft_2)) (made 4)
    ∷ did 0 (duty.Register 1)
    ∷ did 0 (duty.Pull 1)
    ∷ did 0 (duty.Apply 1)
    ∷ did 0 (duty.Register 2)
    ∷ did 0 (duty.Pull 2)
    ∷ did 0 (duty.Apply 2)
    ∷ did 0 (duty.Register 3)
    ∷ did 0 (duty.Pull 3)
    ∷ did 0 (duty.Apply 3)
    ∷ did 0 (duty.Register 4)
    ∷ did 0 (duty.Pull 4)
    ∷ did 0 (duty.Apply 4)
    ∷ asked 0 (call.Settle 100000) (reply.Settle 100000 settle.Settled)
    ∷ asked 0 (one (op.CreateService (codes "web") (draft spec_1))) (made 9)
    ∷ did 0 (duty.ReplicatedCreate 9 1)
    ∷ did 0 (duty.ReplicatedCreate 9 2)
    ∷ did 0 (duty.ReplicatedCreate 9 3)
    ∷ did 0 (duty.ReplicatedCreate 9 4)
    ∷ did 0 (duty.Address 10)
    ∷ did 0 (duty.Address 11)
    ∷ did 0 (duty.Address 12)
    ∷ did 0 (duty.Address 13)
    ∷ did 0 (duty.Place 10 1)
    ∷ did 0 (duty.Place 11 4)
    ∷ did 0 (duty.Place 12 2)
    ∷ did 0 (duty.Place 13 4)
    ∷ did 0 (duty.Pull 1)
    ∷ did 0 (duty.Apply 1)
    ∷ did 0 (duty.Exec 1 10)
    ∷ did 0 (duty.Report 1 10)
    ∷ did 0 (duty.Pull 2)
    ∷ did 0 (duty.Apply 2)
    ∷ did 0 (duty.Exec 2 12)
    ∷ did 0 (duty.Report 2 12)
    ∷ did 0 (duty.Pull 4)
    ∷ did 0 (duty.Apply 4)
    ∷ did 0 (duty.Exec 4 11)
    ∷ did 0 (duty.Exec 4 13)
    ∷ did 0 (duty.Report 4 11)
    ∷ did 0 (duty.Report 4 13)
    ∷ ticks 1
    ∷ did 0 (duty.Exec 1 10)
    ∷ did 0 (duty.Exec 1 10)
    ∷ did 0 (duty.Report 1 10)
    ∷ did 0 (duty.Exec 2 12)
    ∷ did 0 (duty.Exec 2 12)
    ∷ did 0 (duty.Report 2 12)
    ∷ did 0 (duty.Exec 4 11)
    ∷ did 0 (duty.Exec 4 11)
    ∷ did 0 (duty.Exec 4 13)
    ∷ did 0 (duty.Exec 4 13)
    ∷ did 0 (duty.Report 4 11)
    ∷ did 0 (duty.Report 4 13)
    ∷ ticks 1
    ∷ did 0 (duty.Exec 1 10)
    ∷ did 0 (duty.Report 1 10)
    ∷ did 0 (duty.Exec 2 12)
    ∷ did 0 (duty.Report 2 12)
    ∷ did 0 (duty.Exec 4 11)
    ∷ did 0 (duty.Exec 4 13)
    ∷ did 0 (duty.Report 4 11)
    ∷ did 0 (duty.Report 4 13)
    ∷ ticks 8
    ∷ asked 0 (call.View (query.ListTasks None)) (reply.View (view.Tasks (
    task_seen 10 (codes "web") (place_shown.Slot 1) (codes "n1") state.Running
    ∷ task_seen 11 (codes "web") (place_shown.Slot 2) (codes "n4") state.Running
    ∷ task_seen 12 (codes "web") (place_shown.Slot 3) (codes "n2") state.Running
    ∷ task_seen 13 (codes "web") (place_shown.Slot 4) (codes "n4") state.Running
    ∷ [])))
    ∷ asked 0 call.Halt reply.HaltDone
    ∷ []

abbrev pub world : World
world = record empty_world {
  entries = 69;
  tables = record empty_tables {
    clock = 10;
    next_id = 14;
    nodes =
        node_row 1 5 (codes "n1") draft_1
        ∷ node_row 2 8 (codes "n2") draft_1
        ∷ node_row 3 11 (codes "n3") draft_1
        ∷ node_row 4 14 (codes "n4") draft_2
        ∷ [];
    services = service_row 9 18 (codes "web") spec_1 ∷ [];
    tasks =
        record (task_row 10 60 9 18 (Slot 1) template_1) { node = Some 1; state = state.Running; since = 2 }
        ∷ record (task_row 11 65 9 18 (Slot 2) template_1) { node = Some 4; state = state.Running; since = 2 }
        ∷ record (task_row 12 62 9 18 (Slot 3) template_1) { node = Some 2; state = state.Running; since = 2 }
        ∷ record (task_row 13 66 9 18 (Slot 4) template_1) { node = Some 4; state = state.Running; since = 2 }
        ∷ [];
    sessions =
        session_row 1 5 15000 0 ∷ session_row 2 6 15000 0 ∷ session_row 3 7 15000 0 ∷ session_row 4 8 15000 0 ∷ [];
  };
  sent =
      record { node = 1; count = 2; tasks = assigned 10 desired.Running usual_workload ∷ [] }
      ∷ record { node = 2; count = 2; tasks = assigned 12 desired.Running usual_workload ∷ [] }
      ∷ record { node = 3; count = 1; tasks = [] }
      ∷ record {
        node = 4;
        count = 2;
        tasks = assigned 11 desired.Running usual_workload ∷ assigned 13 desired.Running usual_workload ∷ [];
      }
      ∷ [];
  agents =
      agent_row 1 2 (executor_row 10 usual_workload state.Running 2 ∷ [])
      ∷ agent_row 2 2 (executor_row 12 usual_workload state.Running 2 ∷ [])
      ∷ agent_row 3 1 []
      ∷ agent_row 4 2 (
      executor_row 11 usual_workload state.Running 2 ∷ executor_row 13 usual_workload state.Running 2 ∷ [])
      ∷ [];
  halted = true;
}

abbrev pub history : List Entry
history = entries_of journal

it_goes_so : IsPlayed empty_world journal world
it_goes_so = played empty_world journal world refl

it_is_the_serial_one : serial lines ≡ history
it_is_the_serial_one = refl

it_keeps_the_laws : laws_hold empty_world history ≡ true
it_keeps_the_laws = refl
