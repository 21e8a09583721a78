-- Duties out of order, among them orphan, trim, expire, raise and restart.
use Rattle.std.specs.Prelude.{List, None, [], codes, refl, true, ◌∷◌, ◌≡◌}
use Rattle.swarm_model.proofs.Examples.Audit.{IsPlayed, Told, asked, did, entries_of, played}
use Rattle.swarm_model.proofs.Examples.LawTests.{laws_hold}
use Rattle.swarm_model.proofs.Examples.Usual.{agent_row, draft, made, no_node, node_row, service_row, session_row, task_row, ticks}
use Rattle.swarm_model.proofs.Examples.Words.{one}
use Rattle.swarm_objects.specs.Defaults.{usual_node, usual_spec, usual_template, usual_update}
use Rattle.swarm_objects.specs.World.{World, empty_tables, empty_world}
use Rattle.swarm_objects.specs.declared.agents.AgentMode.TheVariants as agent_mode
use Rattle.swarm_objects.specs.declared.calls.Call.TheVariants as call
use Rattle.swarm_objects.specs.declared.calls.Entry.{Entry}
use Rattle.swarm_objects.specs.declared.calls.Op.TheVariants as op
use Rattle.swarm_objects.specs.declared.duties.Duty.TheVariants as duty
use Rattle.swarm_objects.specs.declared.nodes.Availability.TheVariants as availability
use Rattle.swarm_objects.specs.declared.nodes.NodeDraft.{NodeDraft}
use Rattle.swarm_objects.specs.declared.nodes.NodeRole.TheVariants as node_role
use Rattle.swarm_objects.specs.declared.nodes.NodeState.TheVariants as node_state
use Rattle.swarm_objects.specs.declared.replies.Refusal.TheVariants as refusal
use Rattle.swarm_objects.specs.declared.replies.Reply.TheVariants as reply
use Rattle.swarm_objects.specs.declared.services.FailureAction.TheVariants as action
use Rattle.swarm_objects.specs.declared.services.Mode.TheVariants as mode
use Rattle.swarm_objects.specs.declared.services.ServiceSpec.{ServiceSpec}
use Rattle.swarm_objects.specs.declared.tasks.Note.TheVariants as note
use Rattle.swarm_objects.specs.declared.tasks.Place.TheVariants.{Slot}
use Rattle.swarm_objects.specs.declared.tasks.TaskState.TheVariants as state

abbrev draft_1 : NodeDraft
draft_1 = record usual_node { labels = (codes "zone", codes "A") ∷ []; cpu = 1000 }

abbrev spec_1 : ServiceSpec
spec_1 = record usual_spec {
  mode = mode.Replicated 2;
  update = record usual_update { monitor = 100; action = action.Rollback; ratio = 500 };
}

abbrev draft_2 : NodeDraft
draft_2 = record usual_node { labels = (codes "zone", codes "A") ∷ []; role = node_role.Manager; cpu = 1000 }

abbrev draft_3 : NodeDraft
draft_3 = record usual_node {
  labels = (codes "zone", codes "A") ∷ [];
  availability = availability.Drain;
  cpu = 2000;
  remote = true;
}

abbrev pub journal : List Told
journal =
    asked 0 (one (op.CreateNode (codes "n1") draft_1)) (made 1)
    ∷ asked 0 (one (op.SetCluster (record { heartbeat = 1000; orphan = 50; history = 0 }))) (made 0)
    ∷ asked 0 (one (op.CreateService (codes "s1") (draft spec_1))) (made 2)
    ∷ did 0 (duty.Register 1)
    ∷ asked 0 (call.NodeFail (codes "n1")) (reply.AgentDone 1)
    ∷ did 0 (duty.ReplicatedCreate 2 1)
    ∷ did 0 (duty.ReplicatedCreate 2 2)
    ∷ did 0 (duty.Address 4)
    ∷ did 0 (duty.Place 4 1)
    ∷ did 0 (duty.Address 5)
    ∷ did 0 (duty.Place 5 1)
    ∷ ticks 1000
    ∷ ticks 1000
    ∷ ticks 1000
    ∷ did 0 (duty.Expire 1)
    ∷ did 0 (duty.Restart 4)
    ∷ did 0 (duty.Address 6)
    ∷ did 0 (duty.Restart 5)
    ∷ did 0 (duty.Explain 6)
    ∷ did 0 (duty.Address 7)
    ∷ did 0 (duty.Explain 7)
    ∷ ticks 1000
    ∷ did 0 (duty.Orphan 4)
    ∷ did 0 (duty.Orphan 5)
    ∷ did 0 (duty.Trim 4)
    ∷ did 0 (duty.Trim 5)
    ∷ ticks 1000
    ∷ ticks 1000
    ∷ ticks 1000
    ∷ ticks 1000
    ∷ did 0 (duty.Raise 6)
    ∷ did 0 (duty.Raise 7)
    ∷ ticks 1
    ∷ asked 0 (call.Txn (
    op.CreateNode (codes "n1") draft_2 ∷ op.CreateNode (codes "r2") draft_3 ∷ op.CreateNetwork (codes "wan") 0 15 ∷ []))
    (reply.Refused (refusal.NameTaken 1))
    ∷ ticks 1
    ∷ asked 0 (call.RemoteBegin (codes "r1") None None) (no_node (codes "r1"))
    ∷ []

abbrev pub world : World
world = record empty_world {
  entries = 36;
  tables = record empty_tables {
    clock = 8002;
    next_id = 8;
    nodes = record (node_row 1 15 (codes "n1") draft_1) { state = node_state.Down; down_since = 3000 } ∷ [];
    services = service_row 2 3 (codes "s1") spec_1 ∷ [];
    tasks =
        record (task_row 6 31 2 3 (Slot 1) usual_template) {
          state = state.Pending;
          since = 3000;
          created = 3000;
          raise_at = 8000;
          note = note.Filters (1 ∷ 0 ∷ 0 ∷ 0 ∷ 0 ∷ 0 ∷ []);
        }
        ∷ record (task_row 7 32 2 3 (Slot 2) usual_template) {
          state = state.Pending;
          since = 3000;
          created = 3000;
          raise_at = 8000;
          note = note.Filters (1 ∷ 0 ∷ 0 ∷ 0 ∷ 0 ∷ 0 ∷ []);
        }
        ∷ [];
    attempts =
        record { service = 2; place = Slot 1; version = 3; at = 3000 }
        ∷ record { service = 2; place = Slot 2; version = 3; at = 3000 }
        ∷ [];
    sessions = session_row 1 3 3000 0 ∷ [];
    settings = record { heartbeat = 1000; orphan = 50; history = 0 };
  };
  agents = record (agent_row 1 0 []) { mode = agent_mode.PowerOff } ∷ [];
}

abbrev pub history : List Entry
history = entries_of journal

it_goes_so : IsPlayed empty_world journal world
it_goes_so = played empty_world journal world refl

it_keeps_the_laws : laws_hold empty_world history ≡ true
it_keeps_the_laws = refl
