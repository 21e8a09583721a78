-- Remote nodes report states of their own tasks and of others.
use Rattle.std.specs.Prelude.{List, None, Some, [], codes, false, refl, true, ◌∷◌, ◌≡◌}
use Rattle.swarm_model.proofs.Examples.Audit.{IsPlayed, Told, asked, did, entries_of, played}
use Rattle.swarm_model.proofs.Examples.LawTests.{laws_hold}
use Rattle.swarm_model.proofs.Examples.Usual.{draft, made, node_row, service_row, session_row, task_row}
use Rattle.swarm_model.proofs.Examples.Words.{one}
use Rattle.swarm_model.specs.Script.{Asked, Asks, Settles}
use Rattle.swarm_model.specs.Serial.{serial}
use Rattle.swarm_objects.specs.Defaults.{usual_node, usual_spec, usual_template}
use Rattle.swarm_objects.specs.World.{World, empty_tables, empty_world}
use Rattle.swarm_objects.specs.declared.calls.Call.TheVariants as call
use Rattle.swarm_objects.specs.declared.calls.Entry.{Entry}
use Rattle.swarm_objects.specs.declared.calls.Op.TheVariants as op
use Rattle.swarm_objects.specs.declared.duties.Cause.TheVariants as cause
use Rattle.swarm_objects.specs.declared.duties.Duty.TheVariants as duty
use Rattle.swarm_objects.specs.declared.duties.Settle.TheVariants as settle
use Rattle.swarm_objects.specs.declared.nodes.NodeDraft.{NodeDraft}
use Rattle.swarm_objects.specs.declared.replies.Refusal.TheVariants as refusal
use Rattle.swarm_objects.specs.declared.replies.Reply.TheVariants as reply
use Rattle.swarm_objects.specs.declared.tasks.Place.TheVariants.{Slot}
use Rattle.swarm_objects.specs.declared.tasks.TaskState.TheVariants as state

abbrev draft_1 : NodeDraft
draft_1 = record usual_node { remote = true }

-- the script
abbrev lines : List Asked
lines =
    Asks (one (op.CreateNode (codes "r1") draft_1))
    ∷ Asks (one (op.CreateService (codes "web") (draft usual_spec)))
    ∷ Asks (call.RemoteBegin (codes "r1") None None)
    ∷ Settles 100000
    ∷ Asks (one (op.CreateNode (codes "r2") draft_1))
    ∷ Asks (call.RemoteBegin (codes "r2") None None)
    ∷ Asks (call.RemoteStatus (codes "r1") 3 4 state.Running)
    ∷ Asks (call.RemoteStatus (codes "r1") 3 4 state.Ready)
    ∷ Asks (call.RemoteStatus (codes "r2") 6 4 state.Running)
    ∷ []

abbrev pub journal : List Told
journal =
    asked 0 (one (op.CreateNode (codes "r1") draft_1)) (made 1)
    ∷ asked 0 (one (op.CreateService (codes "web") (draft usual_spec))) (made 2)
    ∷ asked 0 (call.RemoteBegin (codes "r1") None None) (reply.SessionBegun 3 15000)
    ∷ did 0 (duty.ReplicatedCreate 2 1)
    ∷ did 0 (duty.Address 4)
    ∷ did 0 (duty.Place 4 1)
    ∷ asked 0 (call.Settle 100000) (reply.Settle 100000 (settle.Waiting 15000 cause.Remote 4))
    ∷ asked 0 (one (op.CreateNode (codes "r2") draft_1)) (made 5)
    ∷ asked 0 (call.RemoteBegin (codes "r2") None None) (reply.SessionBegun 6 15000)
    ∷ asked 0 (call.RemoteStatus (codes "r1") 3 4 state.Running) (reply.Status true state.Running)
    ∷ asked 0 (call.RemoteStatus (codes "r1") 3 4 state.Ready) (reply.Status false state.Running)
    ∷ asked 0 (call.RemoteStatus (codes "r2") 6 4 state.Running) (reply.Refused (refusal.NotThisNode 4))
    ∷ asked 0 call.Halt reply.HaltDone
    ∷ []

abbrev pub world : World
world = record empty_world {
  entries = 13;
  tables = record empty_tables {
    next_id = 7;
    nodes = node_row 1 3 (codes "r1") draft_1 ∷ node_row 5 9 (codes "r2") draft_1 ∷ [];
    services = service_row 2 2 (codes "web") usual_spec ∷ [];
    tasks = record (task_row 4 10 2 2 (Slot 1) usual_template) { node = Some 1; state = state.Running } ∷ [];
    sessions = session_row 1 3 15000 0 ∷ session_row 5 6 15000 0 ∷ [];
  };
  halted = true;
}

abbrev pub history : List Entry
history = entries_of journal

it_goes_so : IsPlayed empty_world journal world
it_goes_so = played empty_world journal world refl

it_is_the_serial_one : serial lines ≡ history
it_is_the_serial_one = refl

it_keeps_the_laws : laws_hold empty_world history ≡ true
it_keeps_the_laws = refl
