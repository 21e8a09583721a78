-- A remote node pulls its messages.
use Rattle.std.specs.Prelude.{List, None, Some, [], codes, false, refl, true, ◌∷◌, ◌≡◌}
use Rattle.swarm_model.proofs.Examples.Audit.{IsPlayed, Told, asked, did, entries_of, played}
use Rattle.swarm_model.proofs.Examples.LawTests.{laws_hold}
use Rattle.swarm_model.proofs.Examples.Usual.{assigned, draft, made, node_row, session_row}
use Rattle.swarm_model.proofs.Examples.Words.{one}
use Rattle.swarm_model.specs.Laws.Matches.{Matches}
use Rattle.swarm_model.specs.Script.{Asked, Asks, Settles}
use Rattle.swarm_model.specs.Serial.{serial}
use Rattle.swarm_objects.specs.Defaults.{usual_node, usual_spec, usual_workload}
use Rattle.swarm_objects.specs.World.{World, empty_tables, empty_world}
use Rattle.swarm_objects.specs.declared.calls.Call.TheVariants as call
use Rattle.swarm_objects.specs.declared.calls.Entry.{Entry}
use Rattle.swarm_objects.specs.declared.calls.Op.TheVariants as op
use Rattle.swarm_objects.specs.declared.duties.Cause.TheVariants as cause
use Rattle.swarm_objects.specs.declared.duties.Duty.TheVariants as duty
use Rattle.swarm_objects.specs.declared.duties.Settle.TheVariants as settle
use Rattle.swarm_objects.specs.declared.messages.AssignChange.TheVariants as assign
use Rattle.swarm_objects.specs.declared.nodes.NodeDraft.{NodeDraft}
use Rattle.swarm_objects.specs.declared.replies.Refusal.TheVariants as refusal
use Rattle.swarm_objects.specs.declared.replies.Reply.TheVariants as reply
use Rattle.swarm_objects.specs.declared.tasks.Desired.TheVariants as desired
use Rattle.swarm_objects.specs.declared.tasks.TaskState.TheVariants as state

abbrev draft_1 : NodeDraft
draft_1 = record usual_node { remote = true }

-- the script
abbrev lines : List Asked
lines =
    Asks (one (op.CreateNode (codes "r1") draft_1))
    ∷ Asks (one (op.CreateService (codes "web") (draft usual_spec)))
    ∷ Asks (call.RemoteBegin (codes "r1") None None)
    ∷ Settles 100000
    ∷ Asks (call.RemotePull (codes "r1") 3)
    ∷ Asks (call.RemotePull (codes "r1") 3)
    ∷ Asks (one (op.RemoveService (codes "web")))
    ∷ Settles 100000
    ∷ Asks (call.RemotePull (codes "r1") 3)
    ∷ Asks (call.RemoteStatus (codes "r1") 3 4 state.Assigned)
    ∷ Asks (call.RemoteStatus (codes "r1") 3 4 state.Shutdown)
    ∷ Settles 100000
    ∷ Asks (call.RemotePull (codes "r1") 3)
    ∷ []

abbrev pub journal : List Told
journal =
    asked 0 (one (op.CreateNode (codes "r1") draft_1)) (made 1)
    ∷ asked 0 (one (op.CreateService (codes "web") (draft usual_spec))) (made 2)
    ∷ asked 0 (call.RemoteBegin (codes "r1") None None) (reply.SessionBegun 3 15000)
    ∷ did 0 (duty.ReplicatedCreate 2 1)
    ∷ did 0 (duty.Address 4)
    ∷ did 0 (duty.Place 4 1)
    ∷ asked 0 (call.Settle 100000) (reply.Settle 100000 (settle.Waiting 15000 cause.Remote 4))
    ∷ asked 0 (call.RemotePull (codes "r1") 3) (reply.Pulled (Some (record {
      complete = true;
      applies_to = 0;
      results_in = 1;
      changes = assign.Update (assigned 4 desired.Running usual_workload) ∷ [];
    })))
    ∷ asked 0 (call.RemotePull (codes "r1") 3) (reply.Pulled None)
    ∷ asked 0 (one (op.RemoveService (codes "web"))) (made 2)
    ∷ did 0 (duty.Gone 4)
    ∷ asked 0 (call.Settle 100000) (reply.Settle 100000 (settle.Waiting 15000 cause.Remote 4))
    ∷ asked 0 (call.RemotePull (codes "r1") 3) (reply.Pulled (Some (record {
      complete = false;
      applies_to = 1;
      results_in = 2;
      changes = assign.Update (assigned 4 desired.Remove usual_workload) ∷ [];
    })))
    ∷ asked 0 (call.RemoteStatus (codes "r1") 3 4 state.Assigned) (reply.Refused (refusal.BadState state.Assigned))
    ∷ asked 0 (call.RemoteStatus (codes "r1") 3 4 state.Shutdown) (reply.Status true state.Shutdown)
    ∷ did 0 (duty.Delete 4)
    ∷ asked 0 (call.Settle 100000) (reply.Settle 100000 settle.Settled)
    ∷ asked 0 (call.RemotePull (codes "r1") 3)
    (reply.Pulled (Some (record { complete = false; applies_to = 2; results_in = 3; changes = assign.Remove 4 ∷ [] })))
    ∷ asked 0 call.Halt reply.HaltDone
    ∷ []

abbrev pub world : World
world = record empty_world {
  entries = 19;
  tables = record empty_tables {
    next_id = 5;
    nodes = node_row 1 3 (codes "r1") draft_1 ∷ [];
    sessions = session_row 1 3 15000 0 ∷ [];
  };
  sent = record { node = 1; count = 3; tasks = [] } ∷ [];
  halted = true;
}

abbrev pub history : List Entry
history = entries_of journal

it_goes_so : IsPlayed empty_world journal world
it_goes_so = played empty_world journal world refl

it_is_the_serial_one : serial lines ≡ history
it_is_the_serial_one = refl

it_matches : Matches history
it_matches = refl

it_keeps_the_laws : laws_hold empty_world history ≡ true
it_keeps_the_laws = refl
