-- Duties out of order, among them gone, old, drop and delete.
use Rattle.std.specs.Prelude.{List, None, Some, [], codes, false, refl, true, ◌∷◌, ◌≡◌}
use Rattle.swarm_model.proofs.Examples.Audit.{IsPlayed, Told, asked, did, entries_of, played}
use Rattle.swarm_model.proofs.Examples.LawTests.{laws_hold}
use Rattle.swarm_model.proofs.Examples.Usual.{agent_row, draft, made, no_node, no_service, node_row, session_row, ticks}
use Rattle.swarm_model.proofs.Examples.Words.{one}
use Rattle.swarm_objects.specs.Defaults.{usual_node, usual_restart, usual_spec, usual_template, usual_update, usual_workload}
use Rattle.swarm_objects.specs.World.{World, empty_tables, empty_world}
use Rattle.swarm_objects.specs.declared.agents.AgentMode.TheVariants as agent_mode
use Rattle.swarm_objects.specs.declared.calls.Call.TheVariants as call
use Rattle.swarm_objects.specs.declared.calls.Entry.{Entry}
use Rattle.swarm_objects.specs.declared.calls.Op.TheVariants as op
use Rattle.swarm_objects.specs.declared.duties.Cause.TheVariants as cause
use Rattle.swarm_objects.specs.declared.duties.Duty.TheVariants as duty
use Rattle.swarm_objects.specs.declared.duties.Settle.TheVariants as settle
use Rattle.swarm_objects.specs.declared.ids.Kind.TheVariants as kind
use Rattle.swarm_objects.specs.declared.nodes.Availability.TheVariants as availability
use Rattle.swarm_objects.specs.declared.nodes.NodeDraft.{NodeDraft}
use Rattle.swarm_objects.specs.declared.nodes.NodeRole.TheVariants as node_role
use Rattle.swarm_objects.specs.declared.replies.Refusal.TheVariants as refusal
use Rattle.swarm_objects.specs.declared.replies.Reply.TheVariants as reply
use Rattle.swarm_objects.specs.declared.replies.Wanted.TheVariants as wanted_by
use Rattle.swarm_objects.specs.declared.services.FailureAction.TheVariants as action
use Rattle.swarm_objects.specs.declared.services.Mode.TheVariants as mode
use Rattle.swarm_objects.specs.declared.services.ServiceSpec.{ServiceSpec}
use Rattle.swarm_objects.specs.declared.services.UpdateOrder.TheVariants as order
use Rattle.swarm_objects.specs.declared.tasks.TaskState.TheVariants as state
use Rattle.swarm_objects.specs.declared.templates.Key.TheVariants as key
use Rattle.swarm_objects.specs.declared.templates.RestartCondition.TheVariants as condition
use Rattle.swarm_objects.specs.declared.templates.Template.{Template}
use Rattle.swarm_objects.specs.declared.templates.Workload.{Workload}

abbrev draft_1 : NodeDraft
draft_1 = record usual_node { labels = (codes "zone", codes "a") ∷ []; role = node_role.Manager; cpu = 2000 }

abbrev draft_3 : NodeDraft
draft_3 = record usual_node {
  labels = (codes "zone", codes "A") ∷ [];
  engine = (codes "disk", codes "ssd") ∷ [];
  remote = true;
}

abbrev workload_1 : Workload
workload_1 = record usual_workload { prepare = 2 }

abbrev template_1 : Template
template_1 = record usual_template { workload = workload_1; cpu = 2000; restart = record usual_restart { delay = 0 } }

abbrev spec_1 : ServiceSpec
spec_1 = record usual_spec { mode = mode.Job 1 1; template = template_1 }

abbrev draft_4 : NodeDraft
draft_4 = record usual_node { labels = (codes "zone", codes "A") ∷ []; availability = availability.Drain; cpu = 2000 }

abbrev spec_2 : ServiceSpec
spec_2 = record usual_spec {
  mode = mode.Job 1 1;
  template = template_1;
  update = record usual_update { order = order.StartFirst };
}

abbrev template_2 : Template
template_2 = record usual_template {
  constraints = record { key = key.Role; equal = true; value = codes "Worker" } ∷ [];
  restart = record usual_restart { delay = 0 };
}

abbrev spec_3 : ServiceSpec
spec_3 = record usual_spec { mode = mode.Replicated 2; template = template_2 }

abbrev workload_3 : Workload
workload_3 = record usual_workload { stop = 2 }

abbrev template_3 : Template
template_3 = record usual_template { workload = workload_3; restart = record usual_restart { delay = 0 } }

abbrev spec_4 : ServiceSpec
spec_4 = record usual_spec {
  mode = mode.Replicated 0;
  template = template_3;
  update = record usual_update { delay = 50; ratio = 500 };
}

abbrev template_4 : Template
template_4 = record usual_template { cpu = 500 }

abbrev spec_5 : ServiceSpec
spec_5 = record usual_spec {
  mode = mode.Global;
  template = template_4;
  ports =
      record { target = 80; number = None; udp = false }
      ∷ record { target = 80; number = None; udp = true }
      ∷ record { target = 81; number = None; udp = false }
      ∷ [];
  update = record usual_update { parallelism = 0; action = action.Continue };
}

abbrev template_5 : Template
template_5 = record usual_template {
  restart = record usual_restart { condition = condition.OnFailure; delay = 4; max_attempts = 2 };
}

abbrev spec_6 : ServiceSpec
spec_6 = record usual_spec { mode = mode.Replicated 2; template = template_5 }

abbrev template_6 : Template
template_6 = record usual_template { restart = record usual_restart { delay = 50 } }

abbrev spec_7 : ServiceSpec
spec_7 = record usual_spec {
  mode = mode.Replicated 2;
  template = template_6;
  update = record usual_update { ratio = 1000 };
}

abbrev template_7 : Template
template_7 = record usual_template { cpu = 1000 }

abbrev spec_8 : ServiceSpec
spec_8 = record usual_spec {
  mode = mode.Replicated 2;
  template = template_7;
  update = record usual_update { parallelism = 0 };
}

abbrev pub journal : List Told
journal =
    asked 0 (one (op.CreateNode (codes "n1") draft_1)) (made 1)
    ∷ asked 0 (one (op.CreateNode (codes "n2") usual_node)) (made 2)
    ∷ asked 0 (one (op.CreateNode (codes "r1") draft_3)) (made 3)
    ∷ asked 0 (call.RemoteBegin (codes "r1") None None) (reply.SessionBegun 4 15000)
    ∷ asked 0 (one (op.CreateNetwork (codes "lan") 167772416 29)) (made 5)
    ∷ asked 0 (one (op.CreateNetwork (codes "wan") 167772672 28)) (made 6)
    ∷ asked 0 (one (op.SetCluster (record { heartbeat = 1000; orphan = 86400000; history = 0 }))) (made 0)
    ∷ asked 0 (one (op.CreateService (codes "s1") (draft spec_1))) (made 7)
    ∷ asked 0 (one (op.CreateNode (codes "n1") draft_4)) (reply.Refused (refusal.NameTaken 1))
    ∷ did 0 (duty.JobCreate 7 0)
    ∷ did 0 (duty.Register 2)
    ∷ did 0 (duty.Pull 2)
    ∷ asked 0 (one (op.UpdateService (codes "s1") None (draft spec_2))) (made 7)
    ∷ asked 0 (call.RemotePull (codes "r1") 4)
    (reply.Pulled (Some (record { complete = true; applies_to = 0; results_in = 1; changes = [] })))
    ∷ did 0 (duty.Old 8)
    ∷ did 0 (duty.Apply 2)
    ∷ asked 0 (call.RemotePull (codes "r1") 4) (reply.Pulled None)
    ∷ did 0 (duty.Register 1)
    ∷ did 0 (duty.JobCreate 7 0)
    ∷ asked 0 (call.WatchPoll 34) (reply.Refused (refusal.UnknownWatcher 34))
    ∷ ticks 1
    ∷ did 0 (duty.Pull 1)
    ∷ asked 0 (call.RemoteBeat (codes "n1") 9) (reply.Refused (refusal.WrongKind 1))
    ∷ did 0 (duty.Apply 1)
    ∷ asked 0 (one (op.SetCluster (record { heartbeat = 5000; orphan = 1; history = 2 }))) (made 0)
    ∷ did 0 (duty.Drop 8)
    ∷ ticks 100
    ∷ asked 0 (one (op.UpdateService (codes "s3") None (draft spec_3))) (no_service (codes "s3"))
    ∷ did 0 (duty.Delete 8)
    ∷ asked 0 (one (op.RemoveService (codes "s1"))) (made 7)
    ∷ did 0 (duty.Gone 11)
    ∷ did 0 (duty.Drop 11)
    ∷ did 0 (duty.Delete 11)
    ∷ ticks 100
    ∷ asked 0 (one (op.CreateService (codes "s3") (draft spec_4))) (made 12)
    ∷ asked 0 (call.RemoteBegin (codes "r2") None (Some 1000)) (no_node (codes "r2"))
    ∷ asked 0 (call.AgentStop (codes "r1")) (reply.Refused (refusal.WrongKind 3))
    ∷ asked 0 (one (op.CreateNetwork (codes "lan") 167772928 28)) (reply.Refused (refusal.NameTaken 5))
    ∷ asked 0 (call.RemoteBeat (codes "r1") 4) (reply.Beat 15201)
    ∷ asked 0 (call.NodeStart (codes "r1")) (reply.Refused (refusal.WrongKind 3))
    ∷ asked 0 (call.RemoteStatus (codes "r1") 4 11 state.Assigned)
    (reply.Refused (refusal.NotFound kind.Task (wanted_by.Id 11)))
    ∷ asked 0 (one (op.RemoveService (codes "s3"))) (made 12)
    ∷ asked 0 (call.RemoteStatus (codes "r1") 4 3 state.Complete)
    (reply.Refused (refusal.NotFound kind.Task (wanted_by.Id 3)))
    ∷ ticks 1
    ∷ asked 0 (call.Txn (
    op.UpdateService (codes "s3") None (draft spec_5)
    ∷ op.SetCluster (record { heartbeat = 5000; orphan = 1; history = 2 })
    ∷ op.UpdateService (codes "s2") (Some 12) (draft spec_6)
    ∷ op.CreateService (codes "s2") (draft spec_7)
    ∷ [])) (no_service (codes "s3"))
    ∷ asked 0 (one (op.UpdateNode (codes "r2") None [] node_role.Manager availability.Active)) (no_node (codes "r2"))
    ∷ asked 0 (call.RemoteBegin (codes "r1") (Some 0) None) (reply.SessionBegun 13 15202)
    ∷ asked 0 (call.AgentStart (codes "n1")) (reply.AgentDone 1)
    ∷ asked 0 (call.RemotePull (codes "r1") 13)
    (reply.Pulled (Some (record { complete = true; applies_to = 0; results_in = 1; changes = [] })))
    ∷ ticks 1
    ∷ ticks 100
    ∷ asked 0 (call.RemoteBegin (codes "r2") None None) (no_node (codes "r2"))
    ∷ asked 0 (call.RemotePull (codes "r1") 13) (reply.Pulled None)
    ∷ asked 0 (one (op.RemoveService (codes "s4"))) (no_service (codes "s4"))
    ∷ asked 0 (call.NodeFail (codes "n1")) (reply.AgentDone 1)
    ∷ ticks 1000
    ∷ asked 0 (one (op.UpdateService (codes "s1") None (draft spec_8))) (no_service (codes "s1"))
    ∷ ticks 100
    ∷ asked 0 (call.NodeFail (codes "n3")) (no_node (codes "n3"))
    ∷ asked 0 (call.Settle 66888) (reply.Settle 66888 (settle.Waiting 3000 cause.Session 1))
    ∷ []

abbrev pub world : World
world = record empty_world {
  entries = 60;
  tables = record empty_tables {
    clock = 1403;
    next_id = 14;
    nodes =
        node_row 1 18 (codes "n1") draft_1
        ∷ node_row 2 11 (codes "n2") usual_node
        ∷ record (node_row 3 47 (codes "r1") draft_3) { cpu = 0 }
        ∷ [];
    networks =
        record { id = 5; version = 5; name = codes "lan"; base = 167772416; length = 29 }
        ∷ record { id = 6; version = 6; name = codes "wan"; base = 167772672; length = 28 }
        ∷ [];
    sessions = session_row 1 10 3000 0 ∷ session_row 2 9 3000 0 ∷ session_row 3 13 15202 202 ∷ [];
    settings = record { heartbeat = 5000; orphan = 1; history = 2 };
  };
  sent =
      record { node = 1; count = 1; tasks = [] }
      ∷ record { node = 2; count = 1; tasks = [] }
      ∷ record { node = 3; count = 1; tasks = [] }
      ∷ [];
  agents = record (agent_row 1 1 []) { mode = agent_mode.PowerOff } ∷ agent_row 2 1 [] ∷ [];
}

abbrev pub history : List Entry
history = entries_of journal

it_goes_so : IsPlayed empty_world journal world
it_goes_so = played empty_world journal world refl

it_keeps_the_laws : laws_hold empty_world history ≡ true
it_keeps_the_laws = refl
