-- One line of every form: what a journal's line says, and that it is the text of that.
use Rattle.std.proofs.Common.{◌≡◌, ℕ, List, [], ◌∷◌, ◌++◌, codes, refl, true, false, Some, None}
use Rattle.std.specs.Fmt.{digits}
use Rattle.std.specs.Prelude.{Ok}
use Rattle.swarm_objects.specs.declared.calls.Call.TheVariants as call
use Rattle.swarm_objects.specs.declared.calls.Entry.{Entry}
use Rattle.swarm_objects.specs.declared.calls.Op.TheVariants as op
use Rattle.swarm_objects.specs.declared.calls.Query.TheVariants as query
use Rattle.swarm_objects.specs.declared.calls.What.{What}
use Rattle.swarm_objects.specs.declared.calls.What.TheVariants as what
use Rattle.swarm_objects.specs.declared.duties.Duty.TheVariants as duty
use Rattle.swarm_objects.specs.declared.nodes.Availability.TheVariants as availability
use Rattle.swarm_objects.specs.declared.ids.Kind.TheVariants as kind
use Rattle.swarm_objects.specs.declared.nodes.NodeDraft.{NodeDraft}
use Rattle.swarm_objects.specs.declared.nodes.NodeRole.TheVariants as role
use Rattle.swarm_objects.specs.declared.services.Draft.{Draft}
use Rattle.swarm_objects.specs.declared.services.FailureAction.TheVariants as action
use Rattle.swarm_objects.specs.declared.services.Mode.TheVariants as mode
use Rattle.swarm_objects.specs.declared.services.UpdateOrder.TheVariants as order
use Rattle.swarm_objects.specs.declared.tasks.TaskState.TheVariants as task_state
use Rattle.swarm_objects.specs.declared.templates.End.TheVariants as end
use Rattle.swarm_objects.specs.declared.templates.Key.TheVariants as key
use Rattle.swarm_objects.specs.declared.templates.RestartCondition.TheVariants as condition
use Rattle.script_grammar.specs.Entries.{entry_meaning}
use Rattle.script_grammar.specs.HasText.{has_text}
use Rattle.script_grammar.specs.Texts.{entry_text}

-- caller 7's entry
abbrev seventh : What → Entry
seventh w = record { by = 7; what = w }

-- the line, without the caller and the newline, says this, and is the text of it
abbrev Stands : List ℕ → What → Type 0
Stands text w =
    (entry_meaning (codes "7 " ++ (text ++ codes "\n")) ≡ Ok (seventh w)) ×
    (entry_text (seventh w) ≡ codes "7 " ++ (text ++ codes "\n")) ×
    (has_text (seventh w) ≡ true)

-- Drafts.

abbrev usual_node : NodeDraft
usual_node = record {
  labels = [];
  role = role.Worker;
  availability = availability.Active;
  cpu = 4000;
  mem = 8589934592;
  os = codes "linux";
  arch = codes "amd64";
  engine = [];
  remote = false;
}

-- every field
abbrev full_node : NodeDraft
full_node = record {
  labels = (codes "a", codes "b") ∷ (codes "zone", codes "z1") ∷ [];
  role = role.Manager;
  availability = availability.Drain;
  cpu = 1;
  mem = 0;
  os = codes "windows";
  arch = codes "arm64";
  engine = (codes "gpu", codes "x") ∷ [];
  remote = true;
}

abbrev usual_service : Draft
usual_service = record {
  spec = record {
    mode = mode.Replicated 1;
    template = record {
      workload = record { prepare = 1; start = 1; stop = 1; end = end.Never };
      cpu = 0;
      mem = 0;
      constraints = [];
      spread = [];
      platforms = [];
      max_replicas = 0;
      networks = [];
      host_ports = [];
      restart = record { condition = condition.Any; delay = 5000; max_attempts = 0; window = 0 };
    };
    ports = [];
    update = record { parallelism = 1; delay = 0; monitor = 5000; action = action.Pause; ratio = 0; order = order.StopFirst };
  };
  networks = [];
}

-- every field
abbrev full_service : Draft
full_service = record {
  spec = record {
    mode = mode.Job 2 5;
    template = record {
      workload = record { prepare = 2; start = 3; stop = 4; end = end.Exit 100 1 };
      cpu = 500;
      mem = 1024;
      constraints = record { key = key.Role; equal = true; value = codes "worker" } ∷ record { key = key.Label (codes "zone"); equal = false; value = codes "-Z" } ∷ [];
      spread = key.Label (codes "zone") ∷ key.Engine (codes "gpu") ∷ [];
      platforms = record { os = codes "linux"; arch = codes "amd64" } ∷ [];
      max_replicas = 3;
      networks = [];
      host_ports = record { target = 53; number = Some 1053; udp = true } ∷ [];
      restart = record { condition = condition.OnFailure; delay = 0; max_attempts = 4; window = 9 };
    };
    ports = record { target = 80; number = None; udp = false } ∷ record { target = 443; number = Some 8443; udp = false } ∷ record { target = 53; number = None; udp = true } ∷ [];
    update = record { parallelism = 0; delay = 7; monitor = 1; action = action.Rollback; ratio = 250; order = order.StartFirst };
  };
  networks = codes "front" ∷ codes "back" ∷ [];
}

node_join : Stands (codes "node join n1") (what.Call (call.Txn (op.CreateNode (codes "n1") usual_node ∷ [])))
unfolding digits
node_join = (refl, refl, refl)

node_join_full : Stands (codes "node join n1 label=a:b label=zone:z1 role=manager availability=drain cpu=1 mem=0 os=windows arch=arm64 engine=gpu:x remote") (what.Call (call.Txn (op.CreateNode (codes "n1") full_node ∷ [])))
unfolding digits
node_join_full = (refl, refl, refl)

node_update : Stands (codes "node update n1 @12 label=a:b availability=pause") (what.Call (call.Txn (op.UpdateNode (codes "n1") (Some 12) ((codes "a", codes "b") ∷ []) role.Worker availability.Pause ∷ [])))
unfolding digits
node_update = (refl, refl, refl)

node_update_any : Stands (codes "node update n1") (what.Call (call.Txn (op.UpdateNode (codes "n1") None [] role.Worker availability.Active ∷ [])))
unfolding digits
node_update_any = (refl, refl, refl)

node_remove : Stands (codes "node remove n1") (what.Call (call.Txn (op.RemoveNode (codes "n1") false ∷ [])))
unfolding digits
node_remove = (refl, refl, refl)

node_remove_force : Stands (codes "node remove n1 force") (what.Call (call.Txn (op.RemoveNode (codes "n1") true ∷ [])))
unfolding digits
node_remove_force = (refl, refl, refl)

service_create : Stands (codes "service create web") (what.Call (call.Txn (op.CreateService (codes "web") usual_service ∷ [])))
unfolding digits
service_create = (refl, refl, refl)

service_create_full : Stands (codes "service create web job=2/5 exit=100:1 prepare=2 start=3 stop=4 cpu=500 mem=1024 constraint=node.role==worker constraint=node.labels.zone!=-Z spread=node.labels.zone spread=engine.labels.gpu platform=linux/amd64 max-replicas=3 net=front net=back restart=on-failure restart-delay=0 restart-max=4 restart-window=9 port=80 port=443:8443 port=53/udp host=53:1053/udp parallelism=0 update-delay=7 monitor=1 failure=rollback ratio=250 order=start-first") (what.Call (call.Txn (op.CreateService (codes "web") full_service ∷ [])))
unfolding digits
service_create_full = (refl, refl, refl)

service_update : Stands (codes "service update web @3") (what.Call (call.Txn (op.UpdateService (codes "web") (Some 3) usual_service ∷ [])))
unfolding digits
service_update = (refl, refl, refl)

service_remove : Stands (codes "service remove web") (what.Call (call.Txn (op.RemoveService (codes "web") ∷ [])))
unfolding digits
service_remove = (refl, refl, refl)

service_rollback : Stands (codes "service rollback web") (what.Call (call.Txn (op.RollbackService (codes "web") None ∷ [])))
unfolding digits
service_rollback = (refl, refl, refl)

service_rollback_at : Stands (codes "service rollback web @18446744073709551615") (what.Call (call.Txn (op.RollbackService (codes "web") (Some 18446744073709551615) ∷ [])))
unfolding digits
service_rollback_at = (refl, refl, refl)

network_create : Stands (codes "network create front subnet=10.0.1.0/24") (what.Call (call.Txn (op.CreateNetwork (codes "front") 167772416 24 ∷ [])))
unfolding digits
network_create = (refl, refl, refl)

network_remove : Stands (codes "network remove front") (what.Call (call.Txn (op.RemoveNetwork (codes "front") ∷ [])))
unfolding digits
network_remove = (refl, refl, refl)

cluster_set : Stands (codes "cluster set heartbeat=1000 history=0") (what.Call (call.Txn (op.SetCluster (record { heartbeat = 1000; orphan = 86400000; history = 0 }) ∷ [])))
unfolding digits
cluster_set = (refl, refl, refl)

cluster_set_usual : Stands (codes "cluster set") (what.Call (call.Txn (op.SetCluster (record { heartbeat = 5000; orphan = 86400000; history = 5 }) ∷ [])))
unfolding digits
cluster_set_usual = (refl, refl, refl)

two_operations : Stands (codes "service remove a ; node remove b force ; cluster set") (what.Call (call.Txn (op.RemoveService (codes "a") ∷ op.RemoveNode (codes "b") true ∷ op.SetCluster (record { heartbeat = 5000; orphan = 86400000; history = 5 }) ∷ [])))
unfolding digits
two_operations = (refl, refl, refl)

list_nodes : Stands (codes "list nodes") (what.Call (call.View query.ListNodes))
unfolding digits
list_nodes = (refl, refl, refl)

list_services : Stands (codes "list services") (what.Call (call.View query.ListServices))
unfolding digits
list_services = (refl, refl, refl)

list_networks : Stands (codes "list networks") (what.Call (call.View query.ListNetworks))
unfolding digits
list_networks = (refl, refl, refl)

list_tasks : Stands (codes "list tasks") (what.Call (call.View (query.ListTasks None)))
unfolding digits
list_tasks = (refl, refl, refl)

list_tasks_of : Stands (codes "list tasks web") (what.Call (call.View (query.ListTasks (Some (codes "web")))))
unfolding digits
list_tasks_of = (refl, refl, refl)

inspect_node : Stands (codes "inspect node n1") (what.Call (call.View (query.InspectNode (codes "n1"))))
unfolding digits
inspect_node = (refl, refl, refl)

inspect_service : Stands (codes "inspect service web") (what.Call (call.View (query.InspectService (codes "web"))))
unfolding digits
inspect_service = (refl, refl, refl)

inspect_network : Stands (codes "inspect network front") (what.Call (call.View (query.InspectNetwork (codes "front"))))
unfolding digits
inspect_network = (refl, refl, refl)

inspect_task : Stands (codes "inspect task 4") (what.Call (call.View (query.InspectTask 4)))
unfolding digits
inspect_task = (refl, refl, refl)

clock : Stands (codes "clock") (what.Call (call.View query.Clock))
unfolding digits
clock = (refl, refl, refl)

watch_all : Stands (codes "watch open all") (what.Call (call.WatchBegin (record { kind = None; id = None })))
unfolding digits
watch_all = (refl, refl, refl)

watch_all_of : Stands (codes "watch open all 3") (what.Call (call.WatchBegin (record { kind = None; id = Some 3 })))
unfolding digits
watch_all_of = (refl, refl, refl)

watch_node : Stands (codes "watch open node 3") (what.Call (call.WatchBegin (record { kind = Some kind.Node; id = Some 3 })))
unfolding digits
watch_node = (refl, refl, refl)

watch_service : Stands (codes "watch open service 3") (what.Call (call.WatchBegin (record { kind = Some kind.Service; id = Some 3 })))
unfolding digits
watch_service = (refl, refl, refl)

watch_task : Stands (codes "watch open task 3") (what.Call (call.WatchBegin (record { kind = Some kind.Task; id = Some 3 })))
unfolding digits
watch_task = (refl, refl, refl)

watch_network : Stands (codes "watch open network 3") (what.Call (call.WatchBegin (record { kind = Some kind.Network; id = Some 3 })))
unfolding digits
watch_network = (refl, refl, refl)

watch_poll : Stands (codes "watch poll 9") (what.Call (call.WatchPoll 9))
unfolding digits
watch_poll = (refl, refl, refl)

watch_close : Stands (codes "watch close 9") (what.Call (call.WatchFinish 9))
unfolding digits
watch_close = (refl, refl, refl)

tick : Stands (codes "tick 18446744073709551615") (what.Call (call.Tick 18446744073709551615))
unfolding digits
tick = (refl, refl, refl)

settle : Stands (codes "settle") (what.Call (call.Settle 100000))
unfolding digits
settle = (refl, refl, refl)

settle_of : Stands (codes "settle 99999") (what.Call (call.Settle 99999))
unfolding digits
settle_of = (refl, refl, refl)

node_fail : Stands (codes "node fail n1") (what.Call (call.NodeFail (codes "n1")))
unfolding digits
node_fail = (refl, refl, refl)

node_start : Stands (codes "node start n1") (what.Call (call.NodeStart (codes "n1")))
unfolding digits
node_start = (refl, refl, refl)

agent_stop : Stands (codes "agent stop n1") (what.Call (call.AgentStop (codes "n1")))
unfolding digits
agent_stop = (refl, refl, refl)

agent_start : Stands (codes "agent start n1") (what.Call (call.AgentStart (codes "n1")))
unfolding digits
agent_start = (refl, refl, refl)

remote_open : Stands (codes "remote open n1") (what.Call (call.RemoteBegin (codes "n1") None None))
unfolding digits
remote_open = (refl, refl, refl)

remote_open_of : Stands (codes "remote open n1 cpu=4000 mem=1") (what.Call (call.RemoteBegin (codes "n1") (Some 4000) (Some 1)))
unfolding digits
remote_open_of = (refl, refl, refl)

remote_beat : Stands (codes "remote beat n1 3") (what.Call (call.RemoteBeat (codes "n1") 3))
unfolding digits
remote_beat = (refl, refl, refl)

remote_pull : Stands (codes "remote pull n1 3") (what.Call (call.RemotePull (codes "n1") 3))
unfolding digits
remote_pull = (refl, refl, refl)

status_new : Stands (codes "remote status n1 3 5 NEW") (what.Call (call.RemoteStatus (codes "n1") 3 5 task_state.New))
unfolding digits
status_new = (refl, refl, refl)

status_pending : Stands (codes "remote status n1 3 5 PENDING") (what.Call (call.RemoteStatus (codes "n1") 3 5 task_state.Pending))
unfolding digits
status_pending = (refl, refl, refl)

status_assigned : Stands (codes "remote status n1 3 5 ASSIGNED") (what.Call (call.RemoteStatus (codes "n1") 3 5 task_state.Assigned))
unfolding digits
status_assigned = (refl, refl, refl)

status_accepted : Stands (codes "remote status n1 3 5 ACCEPTED") (what.Call (call.RemoteStatus (codes "n1") 3 5 task_state.Accepted))
unfolding digits
status_accepted = (refl, refl, refl)

status_preparing : Stands (codes "remote status n1 3 5 PREPARING") (what.Call (call.RemoteStatus (codes "n1") 3 5 task_state.Preparing))
unfolding digits
status_preparing = (refl, refl, refl)

status_ready : Stands (codes "remote status n1 3 5 READY") (what.Call (call.RemoteStatus (codes "n1") 3 5 task_state.Ready))
unfolding digits
status_ready = (refl, refl, refl)

status_starting : Stands (codes "remote status n1 3 5 STARTING") (what.Call (call.RemoteStatus (codes "n1") 3 5 task_state.Starting))
unfolding digits
status_starting = (refl, refl, refl)

status_running : Stands (codes "remote status n1 3 5 RUNNING") (what.Call (call.RemoteStatus (codes "n1") 3 5 task_state.Running))
unfolding digits
status_running = (refl, refl, refl)

status_complete : Stands (codes "remote status n1 3 5 COMPLETE") (what.Call (call.RemoteStatus (codes "n1") 3 5 task_state.Complete))
unfolding digits
status_complete = (refl, refl, refl)

status_shutdown : Stands (codes "remote status n1 3 5 SHUTDOWN") (what.Call (call.RemoteStatus (codes "n1") 3 5 task_state.Shutdown))
unfolding digits
status_shutdown = (refl, refl, refl)

status_failed : Stands (codes "remote status n1 3 5 FAILED") (what.Call (call.RemoteStatus (codes "n1") 3 5 task_state.Failed))
unfolding digits
status_failed = (refl, refl, refl)

status_rejected : Stands (codes "remote status n1 3 5 REJECTED") (what.Call (call.RemoteStatus (codes "n1") 3 5 task_state.Rejected))
unfolding digits
status_rejected = (refl, refl, refl)

status_remove : Stands (codes "remote status n1 3 5 REMOVE") (what.Call (call.RemoteStatus (codes "n1") 3 5 task_state.Remove))
unfolding digits
status_remove = (refl, refl, refl)

status_orphaned : Stands (codes "remote status n1 3 5 ORPHANED") (what.Call (call.RemoteStatus (codes "n1") 3 5 task_state.Orphaned))
unfolding digits
status_orphaned = (refl, refl, refl)

halt : Stands (codes "halt") (what.Call (call.Halt))
unfolding digits
halt = (refl, refl, refl)

duty_dispatcher_expire : Stands (codes "duty dispatcher expire 1") (what.Duty (duty.Expire 1))
unfolding digits
duty_dispatcher_expire = (refl, refl, refl)

duty_dispatcher_orphan : Stands (codes "duty dispatcher orphan 1") (what.Duty (duty.Orphan 1))
unfolding digits
duty_dispatcher_orphan = (refl, refl, refl)

duty_enforcer_reject : Stands (codes "duty enforcer reject 1") (what.Duty (duty.Reject 1))
unfolding digits
duty_enforcer_reject = (refl, refl, refl)

duty_restart_restart : Stands (codes "duty restart restart 1") (what.Duty (duty.Restart 1))
unfolding digits
duty_restart_restart = (refl, refl, refl)

duty_restart_raise : Stands (codes "duty restart raise 1") (what.Duty (duty.Raise 1))
unfolding digits
duty_restart_raise = (refl, refl, refl)

duty_update_start : Stands (codes "duty update start 1") (what.Duty (duty.Start 1))
unfolding digits
duty_update_start = (refl, refl, refl)

duty_update_fail : Stands (codes "duty update fail 1") (what.Duty (duty.Fail 1))
unfolding digits
duty_update_fail = (refl, refl, refl)

duty_update_swap : Stands (codes "duty update swap 1 2") (what.Duty (duty.Swap 1 2))
unfolding digits
duty_update_swap = (refl, refl, refl)

duty_update_replace : Stands (codes "duty update replace 1 2") (what.Duty (duty.Replace 1 2))
unfolding digits
duty_update_replace = (refl, refl, refl)

duty_update_finish : Stands (codes "duty update finish 1") (what.Duty (duty.Finish 1))
unfolding digits
duty_update_finish = (refl, refl, refl)

duty_replicated_gone : Stands (codes "duty replicated gone 1") (what.Duty (duty.Gone 1))
unfolding digits
duty_replicated_gone = (refl, refl, refl)

duty_replicated_down : Stands (codes "duty replicated down 1 2") (what.Duty (duty.Down 1 2))
unfolding digits
duty_replicated_down = (refl, refl, refl)

duty_replicated_create : Stands (codes "duty replicated create 1 2") (what.Duty (duty.ReplicatedCreate 1 2))
unfolding digits
duty_replicated_create = (refl, refl, refl)

duty_global_leave : Stands (codes "duty global leave 1 2") (what.Duty (duty.Leave 1 2))
unfolding digits
duty_global_leave = (refl, refl, refl)

duty_global_create : Stands (codes "duty global create 1 2") (what.Duty (duty.GlobalCreate 1 2))
unfolding digits
duty_global_create = (refl, refl, refl)

duty_job_old : Stands (codes "duty job old 1") (what.Duty (duty.Old 1))
unfolding digits
duty_job_old = (refl, refl, refl)

duty_job_create : Stands (codes "duty job create 1 0") (what.Duty (duty.JobCreate 1 0))
unfolding digits
duty_job_create = (refl, refl, refl)

duty_allocator_port : Stands (codes "duty allocator port 1 80 0") (what.Duty (duty.Port 1 80 false))
unfolding digits
duty_allocator_port = (refl, refl, refl)

duty_allocator_port_udp : Stands (codes "duty allocator port 1 65535 1") (what.Duty (duty.Port 1 65535 true))
unfolding digits
duty_allocator_port_udp = (refl, refl, refl)

duty_allocator_address : Stands (codes "duty allocator address 1") (what.Duty (duty.Address 1))
unfolding digits
duty_allocator_address = (refl, refl, refl)

duty_allocator_note : Stands (codes "duty allocator note 1") (what.Duty (duty.Note 1))
unfolding digits
duty_allocator_note = (refl, refl, refl)

duty_scheduler_drop : Stands (codes "duty scheduler drop 1") (what.Duty (duty.Drop 1))
unfolding digits
duty_scheduler_drop = (refl, refl, refl)

duty_scheduler_place : Stands (codes "duty scheduler place 1 2") (what.Duty (duty.Place 1 2))
unfolding digits
duty_scheduler_place = (refl, refl, refl)

duty_scheduler_explain : Stands (codes "duty scheduler explain 1") (what.Duty (duty.Explain 1))
unfolding digits
duty_scheduler_explain = (refl, refl, refl)

duty_reaper_delete : Stands (codes "duty reaper delete 1") (what.Duty (duty.Delete 1))
unfolding digits
duty_reaper_delete = (refl, refl, refl)

duty_reaper_trim : Stands (codes "duty reaper trim 1") (what.Duty (duty.Trim 1))
unfolding digits
duty_reaper_trim = (refl, refl, refl)

duty_agents_register : Stands (codes "duty agents register 1") (what.Duty (duty.Register 1))
unfolding digits
duty_agents_register = (refl, refl, refl)

duty_agents_beat : Stands (codes "duty agents beat 1") (what.Duty (duty.Beat 1))
unfolding digits
duty_agents_beat = (refl, refl, refl)

duty_agents_apply : Stands (codes "duty agents apply 1") (what.Duty (duty.Apply 1))
unfolding digits
duty_agents_apply = (refl, refl, refl)

duty_agents_pull : Stands (codes "duty agents pull 1") (what.Duty (duty.Pull 1))
unfolding digits
duty_agents_pull = (refl, refl, refl)

duty_agents_exec : Stands (codes "duty agents exec 1 2") (what.Duty (duty.Exec 1 2))
unfolding digits
duty_agents_exec = (refl, refl, refl)

duty_agents_report : Stands (codes "duty agents report 1 2") (what.Duty (duty.Report 1 2))
unfolding digits
duty_agents_report = (refl, refl, refl)

duty_agents_forget : Stands (codes "duty agents forget 1 2") (what.Duty (duty.Forget 1 2))
unfolding digits
duty_agents_forget = (refl, refl, refl)
