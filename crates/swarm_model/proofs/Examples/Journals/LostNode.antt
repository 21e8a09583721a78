-- A node loses its power, and its task comes anew on another one.
use Rattle.std.specs.Prelude.{List, None, Some, [], codes, false, refl, true, ◌∷◌, ◌≡◌}
use Rattle.swarm_model.proofs.Examples.Audit.{IsPlayed, Told, asked, did, entries_of, played}
use Rattle.swarm_model.proofs.Examples.LawTests.{laws_hold}
use Rattle.swarm_model.proofs.Examples.Usual.{agent_row, assigned, draft, executor_row, made, node_row, service_row, session_row, task_row, task_seen, ticks}
use Rattle.swarm_model.proofs.Examples.Words.{one}
use Rattle.swarm_model.specs.Laws.Matches.{matches}
use Rattle.swarm_model.specs.Script.{Asked, Asks, Settles, Waits}
use Rattle.swarm_model.specs.Serial.{serial}
use Rattle.swarm_objects.specs.Defaults.{usual_node, usual_spec, usual_template, usual_workload}
use Rattle.swarm_objects.specs.World.{World, empty_tables, empty_world}
use Rattle.swarm_objects.specs.declared.agents.AgentMode.TheVariants as agent_mode
use Rattle.swarm_objects.specs.declared.calls.Call.TheVariants as call
use Rattle.swarm_objects.specs.declared.calls.Entry.{Entry}
use Rattle.swarm_objects.specs.declared.calls.Op.TheVariants as op
use Rattle.swarm_objects.specs.declared.calls.Query.TheVariants as query
use Rattle.swarm_objects.specs.declared.duties.Cause.TheVariants as cause
use Rattle.swarm_objects.specs.declared.duties.Duty.TheVariants as duty
use Rattle.swarm_objects.specs.declared.duties.Settle.TheVariants as settle
use Rattle.swarm_objects.specs.declared.nodes.NodeState.TheVariants as node_state
use Rattle.swarm_objects.specs.declared.replies.Reply.TheVariants as reply
use Rattle.swarm_objects.specs.declared.replies.ViewReply.TheVariants as view
use Rattle.swarm_objects.specs.declared.tasks.Desired.TheVariants as desired
use Rattle.swarm_objects.specs.declared.tasks.Place.TheVariants.{Slot}
use Rattle.swarm_objects.specs.declared.tasks.TaskState.TheVariants as state
use Rattle.swarm_objects.specs.declared.views.PlaceShown.TheVariants as place_shown

-- the script
abbrev lines : List Asked
lines =
    Asks (one (op.CreateNode (codes "n1") usual_node))
    ∷ Asks (one (op.CreateNode (codes "n2") usual_node))
    ∷ Asks (one (op.CreateService (codes "web") (draft usual_spec)))
    ∷ Waits 10
    ∷ Asks (call.NodeFail (codes "n1"))
    ∷ Settles 100000
    ∷ Waits 16000
    ∷ Settles 100000
    ∷ Asks (call.View (query.ListTasks None))
    ∷ []

abbrev pub journal : List Told
journal =
    asked 0 (one (op.CreateNode (codes "n1") usual_node)) (made 1)
    ∷ asked 0 (one (op.CreateNode (codes "n2") usual_node)) (made 2)
    ∷ asked 0 (one (op.CreateService (codes "web") (draft usual_spec))) (made 3)
    ∷ did 0 (duty.ReplicatedCreate 3 1)
    ∷ did 0 (duty.Address 4)
    ∷ did 0 (duty.Explain 4)
    ∷ did 0 (duty.Register 1)
    ∷ did 0 (duty.Place 4 1)
    ∷ did 0 (duty.Pull 1)
    ∷ did 0 (duty.Apply 1)
    ∷ did 0 (duty.Exec 1 4)
    ∷ did 0 (duty.Report 1 4)
    ∷ did 0 (duty.Register 2)
    ∷ did 0 (duty.Pull 2)
    ∷ did 0 (duty.Apply 2)
    ∷ ticks 1
    ∷ did 0 (duty.Exec 1 4)
    ∷ did 0 (duty.Exec 1 4)
    ∷ did 0 (duty.Report 1 4)
    ∷ ticks 1
    ∷ did 0 (duty.Exec 1 4)
    ∷ did 0 (duty.Report 1 4)
    ∷ ticks 8
    ∷ asked 0 (call.NodeFail (codes "n1")) (reply.AgentDone 1)
    ∷ asked 0 (call.Settle 100000) (reply.Settle 100000 (settle.Waiting 15000 cause.Session 1))
    ∷ ticks 1000
    ∷ ticks 1000
    ∷ ticks 1000
    ∷ ticks 1000
    ∷ ticks 1000
    ∷ did 0 (duty.Beat 2)
    ∷ ticks 1000
    ∷ ticks 1000
    ∷ ticks 1000
    ∷ ticks 1000
    ∷ ticks 1000
    ∷ did 0 (duty.Beat 2)
    ∷ ticks 1000
    ∷ ticks 1000
    ∷ ticks 1000
    ∷ ticks 1000
    ∷ ticks 990
    ∷ did 0 (duty.Expire 1)
    ∷ did 0 (duty.Restart 4)
    ∷ did 0 (duty.Address 7)
    ∷ did 0 (duty.Place 7 2)
    ∷ did 0 (duty.Pull 2)
    ∷ did 0 (duty.Apply 2)
    ∷ did 0 (duty.Exec 2 7)
    ∷ did 0 (duty.Report 2 7)
    ∷ ticks 1
    ∷ did 0 (duty.Exec 2 7)
    ∷ did 0 (duty.Report 2 7)
    ∷ ticks 1000
    ∷ did 0 (duty.Beat 2)
    ∷ ticks 9
    ∷ asked 0 (call.Settle 100000) (reply.Settle 100000 (settle.Waiting 20000 cause.Start 7))
    ∷ asked 0 (call.View (query.ListTasks None)) (reply.View (view.Tasks (
    record (task_seen 4 (codes "web") (place_shown.Slot 1) (codes "n1") state.Running) { desired = desired.Shutdown }
    ∷ record (task_seen 7 (codes "web") (place_shown.Slot 1) (codes "n2") state.Ready) { desired = desired.Ready }
    ∷ [])))
    ∷ asked 0 call.Halt reply.HaltDone
    ∷ []

abbrev pub world : World
world = record empty_world {
  entries = 59;
  tables = record empty_tables {
    clock = 16010;
    next_id = 8;
    nodes =
        record (node_row 1 43 (codes "n1") usual_node) { state = node_state.Down; down_since = 15000 }
        ∷ node_row 2 13 (codes "n2") usual_node
        ∷ [];
    services = service_row 3 3 (codes "web") usual_spec ∷ [];
    tasks =
        record (task_row 4 44 3 3 (Slot 1) usual_template) {
          node = Some 1;
          state = state.Running;
          since = 2;
          desired = desired.Shutdown;
        }
        ∷ record (task_row 7 53 3 3 (Slot 1) usual_template) {
          node = Some 2;
          state = state.Ready;
          since = 15001;
          desired = desired.Ready;
          created = 15000;
          raise_at = 20000;
        }
        ∷ [];
    attempts = record { service = 3; place = Slot 1; version = 3; at = 15000 } ∷ [];
    sessions = session_row 1 5 15000 0 ∷ session_row 2 6 31001 16001 ∷ [];
  };
  sent =
      record { node = 1; count = 1; tasks = assigned 4 desired.Running usual_workload ∷ [] }
      ∷ record { node = 2; count = 2; tasks = assigned 7 desired.Ready usual_workload ∷ [] }
      ∷ [];
  agents =
      record (agent_row 1 1 []) {
        mode = agent_mode.PowerOff;
        executors = record (executor_row 4 usual_workload state.Failed 10) { reported = Some state.Running } ∷ [];
      }
      ∷ agent_row 2 2 (record (executor_row 7 usual_workload state.Ready 15001) { desired = desired.Ready } ∷ [])
      ∷ [];
  halted = true;
}

abbrev pub history : List Entry
history = entries_of journal

it_goes_so : IsPlayed empty_world journal world
it_goes_so = played empty_world journal world refl

it_is_the_serial_one : serial lines ≡ history
it_is_the_serial_one = refl

it_matches_not : matches history ≡ false
it_matches_not = refl

it_keeps_the_laws : laws_hold empty_world history ≡ true
it_keeps_the_laws = refl
