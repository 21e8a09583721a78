-- Duties out of order, among them trim, reject, forget, leave, restart and delete.
use Rattle.std.specs.Prelude.{List, None, Some, [], codes, false, refl, true, ◌∷◌, ◌≡◌}
use Rattle.swarm_model.proofs.Examples.Audit.{IsPlayed, Told, asked, did, entries_of, played}
use Rattle.swarm_model.proofs.Examples.LawTests.{laws_hold}
use Rattle.swarm_model.proofs.Examples.Usual.{agent_row, draft, made, no_node, node_row, service_row, session_row, task_row, ticks}
use Rattle.swarm_model.proofs.Examples.Words.{one}
use Rattle.swarm_objects.specs.Defaults.{usual_node, usual_restart, usual_spec, usual_template, usual_update}
use Rattle.swarm_objects.specs.World.{World, empty_tables, empty_world}
use Rattle.swarm_objects.specs.declared.calls.Call.TheVariants as call
use Rattle.swarm_objects.specs.declared.calls.Entry.{Entry}
use Rattle.swarm_objects.specs.declared.calls.Op.TheVariants as op
use Rattle.swarm_objects.specs.declared.calls.Query.TheVariants as query
use Rattle.swarm_objects.specs.declared.duties.Duty.TheVariants as duty
use Rattle.swarm_objects.specs.declared.nodes.Availability.TheVariants as availability
use Rattle.swarm_objects.specs.declared.nodes.NodeDraft.{NodeDraft}
use Rattle.swarm_objects.specs.declared.nodes.NodeRole.TheVariants as node_role
use Rattle.swarm_objects.specs.declared.replies.Refusal.TheVariants as refusal
use Rattle.swarm_objects.specs.declared.replies.Reply.TheVariants as reply
use Rattle.swarm_objects.specs.declared.replies.ViewReply.TheVariants as view
use Rattle.swarm_objects.specs.declared.services.Mode.TheVariants as mode
use Rattle.swarm_objects.specs.declared.services.ServiceSpec.{ServiceSpec}
use Rattle.swarm_objects.specs.declared.tasks.Place.TheVariants.{On}
use Rattle.swarm_objects.specs.declared.tasks.TaskState.TheVariants as state
use Rattle.swarm_objects.specs.declared.templates.Key.TheVariants as key
use Rattle.swarm_objects.specs.declared.templates.Template.{Template}

abbrev draft_1 : NodeDraft
draft_1 = record usual_node { labels = (codes "zone", codes "A") ∷ [] }

abbrev draft_2 : NodeDraft
draft_2 = record usual_node { labels = (codes "zone", codes "a") ∷ []; availability = availability.Drain; cpu = 1000 }

abbrev draft_3 : NodeDraft
draft_3 = record usual_node { labels = (codes "zone", codes "A") ∷ []; cpu = 2000; remote = true }

abbrev template_1 : Template
template_1 = record usual_template {
  constraints = record { key = key.Role; equal = true; value = codes "worker" } ∷ [];
  restart = record usual_restart { delay = 1; max_attempts = 2 };
}

abbrev spec_1 : ServiceSpec
spec_1 = record usual_spec {
  mode = mode.Global;
  template = template_1;
  update = record usual_update { delay = 1; ratio = 250 };
}

abbrev pub journal : List Told
journal =
    asked 0 (one (op.CreateNode (codes "n1") draft_1)) (made 1)
    ∷ asked 0 (one (op.CreateNode (codes "n2") draft_2)) (made 2)
    ∷ asked 0 (one (op.CreateNode (codes "r1") draft_3)) (made 3)
    ∷ asked 0 (call.RemoteBegin (codes "r1") None None) (reply.SessionBegun 4 15000)
    ∷ asked 0 (one (op.SetCluster (record { heartbeat = 5000; orphan = 50; history = 0 }))) (made 0)
    ∷ asked 0 (one (op.CreateService (codes "s1") (draft spec_1))) (made 5)
    ∷ ticks 1
    ∷ did 0 (duty.GlobalCreate 5 3)
    ∷ asked 0 (call.NodeStart (codes "r1")) (reply.Refused (refusal.WrongKind 3))
    ∷ asked 0 (call.WatchPoll 15) (reply.Refused (refusal.UnknownWatcher 15))
    ∷ ticks 1
    ∷ asked 0 (call.RemoteBegin (codes "r2") None None) (no_node (codes "r2"))
    ∷ asked 0 (one (op.UpdateNode (codes "r1") (Some 9) [] node_role.Worker availability.Active))
    (reply.Refused (refusal.SequenceConflict 4))
    ∷ did 0 (duty.Address 6)
    ∷ did 0 (duty.Place 6 3)
    ∷ did 0 (duty.Register 1)
    ∷ did 0 (duty.Pull 1)
    ∷ did 0 (duty.GlobalCreate 5 1)
    ∷ did 0 (duty.Address 8)
    ∷ did 0 (duty.Place 8 1)
    ∷ did 0 (duty.Apply 1)
    ∷ did 0 (duty.Pull 1)
    ∷ did 0 (duty.Apply 1)
    ∷ did 0 (duty.Exec 1 8)
    ∷ did 0 (duty.Report 1 8)
    ∷ did 0 (duty.Register 2)
    ∷ did 0 (duty.Pull 2)
    ∷ did 0 (duty.Apply 2)
    ∷ ticks 1
    ∷ did 0 (duty.Exec 1 8)
    ∷ did 0 (duty.Exec 1 8)
    ∷ did 0 (duty.Report 1 8)
    ∷ ticks 1
    ∷ did 0 (duty.Exec 1 8)
    ∷ did 0 (duty.Report 1 8)
    ∷ asked 0 (call.RemoteStatus (codes "r1") 4 6 state.Running) (reply.Status true state.Running)
    ∷ asked 0 (call.RemoteStatus (codes "r1") 4 6 state.Ready) (reply.Status false state.Running)
    ∷ asked 0
    (one (op.UpdateNode (codes "r2") None ((codes "zone", codes "b") ∷ []) node_role.Manager availability.Active))
    (no_node (codes "r2"))
    ∷ asked 0 (call.View query.ListNetworks) (reply.View (view.Networks []))
    ∷ asked 0
    (one (op.UpdateNode (codes "n3") None ((codes "zone", codes "A") ∷ []) node_role.Manager availability.Active))
    (no_node (codes "n3"))
    ∷ asked 0
    (one (op.UpdateNode (codes "n1") None ((codes "zone", codes "b") ∷ []) node_role.Manager availability.Active))
    (made 1)
    ∷ did 0 (duty.Reject 8)
    ∷ did 0 (duty.Restart 8)
    ∷ asked 0
    (one (op.UpdateNode (codes "n2") None ((codes "zone", codes "b") ∷ []) node_role.Manager availability.Pause))
    (made 2)
    ∷ asked 0 (call.Txn (
    op.UpdateNode (codes "r2") None ((codes "zone", codes "b") ∷ []) node_role.Worker availability.Active
    ∷ op.UpdateNode (codes "n3") None ((codes "zone", codes "A") ∷ []) node_role.Manager availability.Active
    ∷ op.CreateNetwork (codes "wan") 167772161 29
    ∷ [])) (no_node (codes "r2"))
    ∷ asked 0 (call.WatchPoll 35) (reply.Refused (refusal.UnknownWatcher 35))
    ∷ did 0 (duty.Trim 8)
    ∷ did 0 (duty.Address 10)
    ∷ did 0 (duty.Pull 1)
    ∷ did 0 (duty.Explain 10)
    ∷ did 0 (duty.Apply 1)
    ∷ did 0 (duty.Exec 1 8)
    ∷ did 0 (duty.Leave 5 1)
    ∷ did 0 (duty.Delete 10)
    ∷ ticks 1
    ∷ did 0 (duty.Exec 1 8)
    ∷ did 0 (duty.Forget 1 8)
    ∷ asked 0 (call.RemoteBegin (codes "r2") None (Some 1000)) (no_node (codes "r2"))
    ∷ asked 0
    (one (op.UpdateNode (codes "n1") None ((codes "zone", codes "b") ∷ []) node_role.Manager availability.Drain))
    (made 1)
    ∷ ticks 5
    ∷ []

abbrev pub world : World
world = record empty_world {
  entries = 60;
  tables = record empty_tables {
    clock = 10;
    next_id = 11;
    nodes =
        record (node_row 1 59 (codes "n1") draft_2) {
          labels = (codes "zone", codes "b") ∷ [];
          role = node_role.Manager;
          cpu = 4000;
        }
        ∷ record (node_row 2 44 (codes "n2") draft_2) {
          labels = (codes "zone", codes "b") ∷ [];
          role = node_role.Manager;
          availability = availability.Pause;
        }
        ∷ node_row 3 4 (codes "r1") draft_3
        ∷ [];
    services = service_row 5 6 (codes "s1") spec_1 ∷ [];
    tasks =
        record (task_row 6 36 5 6 (On 3) template_1) {
          node = Some 3;
          state = state.Running;
          since = 4;
          created = 1;
          raise_at = 1;
        }
        ∷ [];
    attempts = record { service = 5; place = On 1; version = 6; at = 4 } ∷ [];
    sessions = session_row 1 7 15002 2 ∷ session_row 2 9 15002 2 ∷ session_row 3 4 15000 0 ∷ [];
    settings = record { heartbeat = 5000; orphan = 50; history = 0 };
  };
  sent = record { node = 1; count = 3; tasks = [] } ∷ record { node = 2; count = 1; tasks = [] } ∷ [];
  agents = agent_row 1 3 [] ∷ agent_row 2 1 [] ∷ [];
}

abbrev pub history : List Entry
history = entries_of journal

it_goes_so : IsPlayed empty_world journal world
it_goes_so = played empty_world journal world refl

it_keeps_the_laws : laws_hold empty_world history ≡ true
it_keeps_the_laws = refl
