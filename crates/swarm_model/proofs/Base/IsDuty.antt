-- What it means for a duty to be in its loop's list, kind by kind.
use Rattle.std.specs.Prelude.{◌&&◌, Bool, List, None, Option, Some, false, is_some, length, nat_lt, true, ℕ, ◌≡◌}
use Rattle.swarm_objects.specs.Agents.Messages.{message_for}
use Rattle.swarm_objects.specs.Loops.Agents.{has_step, is_beat_due, is_forgotten, is_mode_on, wants_report}
use Rattle.swarm_objects.specs.Loops.Allocator.{gets_address, has_free_port, same_note, wants_note}
use Rattle.swarm_objects.specs.Loops.Dispatcher.{is_expired, is_orphaned}
use Rattle.swarm_objects.specs.Loops.Enforcer.{is_misplaced}
use Rattle.swarm_objects.specs.Loops.Global.{is_missing, is_to_leave}
use Rattle.swarm_objects.specs.Loops.Jobs.{has_old, is_old}
use Rattle.swarm_objects.specs.Loops.Reaper.{is_removable, is_trimmed}
use Rattle.swarm_objects.specs.Loops.Replicated.{first_to_go, is_gone}
use Rattle.swarm_objects.specs.Loops.Restart.{wants_raise, wants_restart}
use Rattle.swarm_objects.specs.Loops.Scheduler.{is_to_drop, is_to_place}
use Rattle.swarm_objects.specs.Loops.Update.{is_to_finish, is_to_replace, is_to_start, is_to_swap, lets_replace}
use Rattle.swarm_objects.specs.Nodes.BestNode.{best_node}
use Rattle.swarm_objects.specs.Nodes.Filters.{refusal_counts}
use Rattle.swarm_objects.specs.Nodes.Sessions.{is_session_live, session_of}
use Rattle.swarm_objects.specs.Rows.{Has, agent_node, executor_task, first_gap, is_some_and, node_id, service_id, task_id}
use Rattle.swarm_objects.specs.Services.Ports.{unnumbered_ports}
use Rattle.swarm_objects.specs.Services.Runs.{fails, is_of_version, is_under_way}
use Rattle.swarm_objects.specs.Services.Words.{is_job}
use Rattle.swarm_objects.specs.Tasks.Places.{held_places, live_places, place_numbers}
use Rattle.swarm_objects.specs.World.{Tables, World}
use Rattle.swarm_objects.specs.declared.agents.Executor.{Executor}
use Rattle.swarm_objects.specs.declared.agents.NodeAgent.{NodeAgent}
use Rattle.swarm_objects.specs.declared.duties.Duty.{Duty}
use Rattle.swarm_objects.specs.declared.duties.Duty.TheVariants as duty
use Rattle.swarm_objects.specs.declared.messages.Message.{Message}
use Rattle.swarm_objects.specs.declared.nodes.Node.{Node}
use Rattle.swarm_objects.specs.declared.services.Mode.TheVariants as mode
use Rattle.swarm_objects.specs.declared.services.Service.{Service}
use Rattle.swarm_objects.specs.declared.services.UpdateRun.{UpdateRun}
use Rattle.swarm_objects.specs.declared.tasks.Note.TheVariants as note
use Rattle.swarm_objects.specs.declared.tasks.Task.{Task}
use Rattle.swarm_objects.specs.declared.templates.Port.{Port}

-- a row with this key is there, of which the fact holds
pub record OfRow {X : Type 0} (rows : List X) (key : X → ℕ) (id : ℕ) (Fact : X → Type 0) : Type 0 where
  pub row : X
  pub there : Has rows row
  pub id_is : key row ≡ id
  pub fact : Fact row

-- a row with this key passes the test
abbrev pub Passes : {X : Type 0} → List X → (X → ℕ) → (X → Bool) → ℕ → Type 0
Passes rows key test id = OfRow rows key id (λ x. test x ≡ true)

-- Services.

abbrev pub OfService : Tables → ℕ → (Service → Type 0) → Type 0
OfService t s Fact = OfRow t.services service_id s Fact

-- of a service that is no job
abbrev pub OfUpdated : Tables → ℕ → (Service → Type 0) → Type 0
OfUpdated t s Fact = OfService t s (λ v. (is_job v.spec.mode ≡ false) × Fact v)

-- of a run under way of a service that is no job
abbrev pub OfRun : Tables → ℕ → (Service → UpdateRun → Type 0) → Type 0
OfRun t s Fact =
    OfUpdated t s (λ v. (run : UpdateRun) × (v.run ≡ Some run) × (is_under_way run ≡ true) × Fact v run)

-- a place of the service, of which the test holds
abbrev pub OfPlace : Tables → Service → (ℕ → Bool) → ℕ → Type 0
OfPlace t v test k = Has (place_numbers t v) k × (test k ≡ true)

abbrev pub GivesUp : Tables → ℕ → Service → Type 0
GivesUp t k v =
    (n : ℕ) × (v.spec.mode ≡ mode.Replicated n) × (nat_lt n (length (held_places t v)) ≡ true) × (first_to_go t v ≡ Some k)

abbrev pub WantsReplica : Tables → ℕ → Service → Type 0
WantsReplica t k v =
    (n : ℕ) × (v.spec.mode ≡ mode.Replicated n) × (nat_lt (length (held_places t v)) n ≡ true)
    × (k ≡ first_gap 1 (held_places t v))

abbrev pub WantsTask : Tables → ℕ → Service → Type 0
WantsTask t k v =
    (c : ℕ) × (n : ℕ) × (v.spec.mode ≡ mode.Job c n)
    × (nat_lt (length (live_places t v)) c ≡ true) × (nat_lt (length (held_places t v)) n ≡ true)
    × (has_old t v ≡ false) × (k ≡ first_gap 0 (held_places t v))

abbrev pub IsOpenPort : Tables → ℕ → Bool → Service → Type 0
IsOpenPort t target udp v =
    (p : Port) × Has (unnumbered_ports v) p × (has_free_port t p.udp ≡ true) × (p.target ≡ target) × (p.udp ≡ udp)

-- Agents.

-- of the agent of a node, which is on
abbrev pub OfAgent : World → ℕ → (NodeAgent → Type 0) → Type 0
OfAgent w n Fact = OfRow w.agents agent_node n (λ a. (is_mode_on a.mode ≡ true) × Fact a)

abbrev pub IsLive : World → NodeAgent → Type 0
IsLive w a = is_session_live w.tables a.node ≡ true

abbrev pub HasMessage : World → NodeAgent → Type 0
HasMessage w a = ◌≡◌ {A = Option Message} a.inbox None × (is_some (message_for w a.node) ≡ true)

abbrev pub OfExecutor : NodeAgent → (Executor → Bool) → ℕ → Type 0
OfExecutor a test x = Passes a.executors executor_task test x

-- Tasks to be placed.

abbrev pub GoesTo : Tables → ℕ → Task → Type 0
GoesTo t n x = (is_to_place x ≡ true) × (m : Node) × (best_node t x ≡ Some m) × (m.id ≡ n)

abbrev pub IsUnexplained : Tables → Task → Type 0
IsUnexplained t x =
    (is_to_place x ≡ true) × (best_node t x ≡ None) × (same_note (note.Filters (refusal_counts t x)) x.note ≡ false)

-- Any duty.

abbrev pub IsDuty : World → Duty → Type 0
IsDuty w (duty.Expire n) = Passes w.tables.nodes node_id (is_expired w.tables) n
IsDuty w (duty.Orphan x) = Passes w.tables.tasks task_id (is_orphaned w.tables) x
IsDuty w (duty.Reject x) = Passes w.tables.tasks task_id (is_misplaced w.tables) x
IsDuty w (duty.Restart x) = Passes w.tables.tasks task_id (wants_restart w.tables) x
IsDuty w (duty.Raise x) = Passes w.tables.tasks task_id (wants_raise w.tables) x
IsDuty w (duty.Start s) = OfUpdated w.tables s (λ v. is_to_start w.tables v ≡ true)
IsDuty w (duty.Fail s) = OfRun w.tables s (λ v run. fails w.tables v run ≡ true)
IsDuty w (duty.Swap s k) =
    OfRun w.tables s (λ v run. (is_of_version v run ≡ true) × OfPlace w.tables v (is_to_swap w.tables v) k)
IsDuty w (duty.Replace s k) =
    OfRun w.tables s
    (λ v run. ((is_of_version v run && lets_replace w.tables v run) ≡ true) × OfPlace w.tables v (is_to_replace w.tables v) k)
IsDuty w (duty.Finish s) = OfRun w.tables s (λ v run. is_to_finish w.tables v run ≡ true)
IsDuty w (duty.Gone x) = Passes w.tables.tasks task_id (is_gone w.tables) x
IsDuty w (duty.Down s k) = OfService w.tables s (GivesUp w.tables k)
IsDuty w (duty.ReplicatedCreate s k) = OfService w.tables s (WantsReplica w.tables k)
IsDuty w (duty.Leave s n) =
    OfService w.tables s (λ v. (v.spec.mode ≡ mode.Global) × OfPlace w.tables v (is_to_leave w.tables v) n)
IsDuty w (duty.GlobalCreate s n) =
    OfService w.tables s
    (λ v. (v.spec.mode ≡ mode.Global) × Passes w.tables.nodes node_id (is_missing w.tables v) n)
IsDuty w (duty.Old x) = Passes w.tables.tasks task_id (is_old w.tables) x
IsDuty w (duty.JobCreate s k) = OfService w.tables s (WantsTask w.tables k)
IsDuty w (duty.Port s target udp) = OfService w.tables s (IsOpenPort w.tables target udp)
IsDuty w (duty.Address x) = Passes w.tables.tasks task_id (gets_address w.tables) x
IsDuty w (duty.Note x) = Passes w.tables.tasks task_id (wants_note w.tables) x
IsDuty w (duty.Drop x) = Passes w.tables.tasks task_id is_to_drop x
IsDuty w (duty.Place x n) = OfRow w.tables.tasks task_id x (GoesTo w.tables n)
IsDuty w (duty.Explain x) = OfRow w.tables.tasks task_id x (IsUnexplained w.tables)
IsDuty w (duty.Delete x) = Passes w.tables.tasks task_id is_removable x
IsDuty w (duty.Trim x) = Passes w.tables.tasks task_id (is_trimmed w.tables) x
IsDuty w (duty.Register n) = OfAgent w n (λ a. is_session_live w.tables a.node ≡ false)
IsDuty w (duty.Beat n) =
    OfAgent w n (λ a. IsLive w a × (is_some_and (is_beat_due w.tables) (session_of w.tables a.node) ≡ true))
IsDuty w (duty.Apply n) = OfAgent w n (λ a. (m : Message) × (a.inbox ≡ Some m))
IsDuty w (duty.Pull n) = OfAgent w n (λ a. IsLive w a × HasMessage w a)
IsDuty w (duty.Exec n x) = OfAgent w n (λ a. OfExecutor a (has_step w.tables.clock) x)
IsDuty w (duty.Report n x) = OfAgent w n (λ a. IsLive w a × OfExecutor a (wants_report w.tables) x)
IsDuty w (duty.Forget n x) = OfAgent w n (λ a. OfExecutor a is_forgotten x)
