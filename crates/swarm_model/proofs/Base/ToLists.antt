-- What is said of the world puts a duty into its loop's list.
use Rattle.std.proofs.Common.{◌≡◌, ℕ, Bool, true, false, inl, List, [], ◌∷◌, ◌++◌, Option, Some, None, refl, sym, ap, subst, length, nat_lt, cond}
use Rattle.std.specs.Prelude.{◌&&◌, flat_map, is_some, not, option_to_list}
use Rattle.std.specs.Option.{option_map}
use Rattle.swarm_model.proofs.Base.DutyLists.{due-Has, to_places, to_when, to_where}
use Rattle.swarm_model.proofs.Base.IsDuty.{GivesUp, GoesTo, HasMessage, IsDuty, IsLive, IsUnexplained, OfAgent, OfExecutor, OfPlace, OfRow, OfRun, OfUpdated, WantsReplica, WantsTask}
use Rattle.swarm_objects.proofs.RowLemmas.{Has-append_left, Has-append_right, Has-flat_map}
use Rattle.swarm_objects.proofs.Tests.{both}
use Rattle.swarm_objects.specs.Agents.Messages.{message_for}
use Rattle.swarm_objects.specs.Duties.{duties, is_due}
use Rattle.swarm_objects.specs.Kinds.{role_of}
use Rattle.swarm_objects.specs.Loops.Agents.{agent_duties, agents, duties_on, has_step, inbox_duties, is_beat_due, is_forgotten, is_mode_on, report_duties, session_duties, wants_report}
use Rattle.swarm_objects.specs.Loops.Allocator.{allocator, gets_address, has_free_port, port_duties, wants_note}
use Rattle.swarm_objects.specs.Loops.Dispatcher.{is_expired, is_orphaned}
use Rattle.swarm_objects.specs.Loops.Enforcer.{is_misplaced}
use Rattle.swarm_objects.specs.Loops.Global.{come_duties, is_missing, is_to_leave, leave_duties}
use Rattle.swarm_objects.specs.Loops.Jobs.{has_old, is_old, next_duty}
use Rattle.swarm_objects.specs.Loops.Reaper.{is_removable, is_trimmed}
use Rattle.swarm_objects.specs.Loops.Replicated.{create_duty, down_duty, is_gone, replicated}
use Rattle.swarm_objects.specs.Loops.Restart.{wants_raise, wants_restart}
use Rattle.swarm_objects.specs.Loops.Scheduler.{is_to_drop, is_to_place, place_duty, placing, schedule, scheduler}
use Rattle.swarm_objects.specs.Loops.Update.{is_to_finish, is_to_replace, is_to_start, is_to_swap, lets_replace, open_duties, run_duties, update, update_duties}
use Rattle.swarm_objects.specs.Loops.Words.{duty_where, places_where, when}
use Rattle.swarm_objects.specs.Nodes.BestNode.{best_node}
use Rattle.swarm_objects.specs.Nodes.Sessions.{is_session_live, session_of}
use Rattle.swarm_objects.specs.Rows.{Has, executor_task, is_some_and, node_id, task_id}
use Rattle.swarm_objects.specs.Services.Ports.{unnumbered_ports}
use Rattle.swarm_objects.specs.Services.Runs.{fails, is_of_version, is_under_way}
use Rattle.swarm_objects.specs.Services.Words.{is_job}
use Rattle.swarm_objects.specs.Tasks.Places.{held_places, place_numbers}
use Rattle.swarm_objects.specs.World.{Tables, World}
use Rattle.swarm_objects.specs.declared.agents.NodeAgent.{NodeAgent}
use Rattle.swarm_objects.specs.declared.duties.Duty.{Duty}
use Rattle.swarm_objects.specs.declared.duties.Duty.TheVariants as duty
use Rattle.swarm_objects.specs.declared.messages.Message.{Message}
use Rattle.swarm_objects.specs.declared.nodes.Node.{Node}
use Rattle.swarm_objects.specs.declared.services.Mode.{Mode}
use Rattle.swarm_objects.specs.declared.services.Mode.TheVariants as mode
use Rattle.swarm_objects.specs.declared.services.Service.{Service}
use Rattle.swarm_objects.specs.declared.services.UpdateRun.{UpdateRun}
use Rattle.swarm_objects.specs.declared.tasks.Task.{Task}

-- a duty that is made of a row's number is made of this number
to_id : {X : Type 0} {rows : List X} {key : X → ℕ} {id : ℕ} {Fact : X → Type 0} (ds : List Duty) (duty_of : ℕ → Duty) →
    (of : OfRow rows key id Fact) → Has ds (duty_of (key of.row)) → Has ds (duty_of id)
to_id ds duty_of of h = subst (λ k. Has ds (duty_of k)) of.id_is h

cond_has : (b : Bool) (ds : List Duty) (d : Duty) → b ≡ true → Has ds d → Has (cond b ds []) d
cond_has true ds d e h = h
cond_has false ds d e h = absurd cc

-- Updates.

updated_has : (t : Tables) (v : Service) (m : Mode) (d : Duty) → is_job m ≡ false →
    Has (when (is_to_start t v) (duty.Start v.id) ++ run_duties t v v.run) d → Has (update_duties t v m) d
updated_has t v (mode.Replicated n) d e h = h
updated_has t v mode.Global d e h = h
updated_has t v (mode.Job c n) d e h = absurd cc

run_has : (t : Tables) (v : Service) (run : UpdateRun) (d : Duty) → v.run ≡ Some run → is_under_way run ≡ true →
    Has (open_duties t v run) d → Has (run_duties t v v.run) d
run_has t v run d e under_way h =
    subst (λ (o : Option UpdateRun). Has (run_duties t v o) d) (sym e)
    (cond_has (is_under_way run) (open_duties t v run) d under_way h)

-- a duty of a run under way
to_run : (t : Tables) (s : ℕ) (duty_of : ℕ → Duty) (Fact : Service → UpdateRun → Type 0) →
    ((v : Service) (run : UpdateRun) → Fact v run → Has (open_duties t v run) (duty_of v.id)) → OfRun t s Fact →
    Has (update t) (duty_of s)
to_run t s duty_of Fact each of =
    to_id (update t) duty_of of
    (Has-flat_map (λ u. update_duties t u u.spec.mode) t.services of.row _ of.there
    (updated_has t of.row of.row.spec.mode _ of.fact.0
    (Has-append_right (when (is_to_start t of.row) (duty.Start of.row.id)) _ _
    (run_has t of.row of.fact.1.0 _ of.fact.1.1 of.fact.1.2 (each of.row of.fact.1.0 of.fact.1.3)))))

to_start : (t : Tables) (s : ℕ) → OfUpdated t s (λ v. is_to_start t v ≡ true) → Has (update t) (duty.Start s)
to_start t s of =
    to_id (update t) duty.Start of
    (Has-flat_map (λ u. update_duties t u u.spec.mode) t.services of.row _ of.there
    (updated_has t of.row of.row.spec.mode _ of.fact.0
    (Has-append_left _ (run_duties t of.row of.row.run) _
    (to_when (is_to_start t of.row) (duty.Start of.row.id) of.fact.1))))

-- Services by their mode.

down_has : (t : Tables) (v : Service) (k : ℕ) → GivesUp t k v → Has (down_duty t v v.spec.mode) (duty.Down v.id k)
down_has t v k up =
    subst (λ m. Has (down_duty t v m) (duty.Down v.id k)) (sym up.1)
    (cond_has (nat_lt up.0 (length (held_places t v))) _ _ up.2
    (subst (λ (o : Option ℕ). Has (option_to_list (option_map (duty.Down v.id) o)) (duty.Down v.id k)) (sym up.3)
    (inl refl)))

replica_has : (t : Tables) (v : Service) (k : ℕ) → WantsReplica t k v →
    Has (create_duty t v v.spec.mode) (duty.ReplicatedCreate v.id k)
replica_has t v k up =
    subst (λ m. Has (create_duty t v m) (duty.ReplicatedCreate v.id k)) (sym up.1)
    (subst (λ j. Has (create_duty t v (mode.Replicated up.0)) (duty.ReplicatedCreate v.id j)) (sym up.3)
    (to_when (nat_lt (length (held_places t v)) up.0) _ up.2))

task_has : (t : Tables) (v : Service) (k : ℕ) → WantsTask t k v → Has (next_duty t v v.spec.mode) (duty.JobCreate v.id k)
task_has t v k up =
    subst (λ m. Has (next_duty t v m) (duty.JobCreate v.id k)) (sym up.2)
    (subst (λ j. Has (next_duty t v (mode.Job up.0 up.1)) (duty.JobCreate v.id j)) (sym up.6)
    (to_when _ _
    (both _ (not (has_old t v)) (both _ (nat_lt (length (held_places t v)) up.1) up.3 up.4) (ap not up.5))))

leave_has : (t : Tables) (v : Service) (n : ℕ) → v.spec.mode ≡ mode.Global → Has (place_numbers t v) n →
    is_to_leave t v n ≡ true → Has (leave_duties t v v.spec.mode) (duty.Leave v.id n)
leave_has t v n e there passes =
    subst (λ m. Has (leave_duties t v m) (duty.Leave v.id n)) (sym e)
    (to_where (is_to_leave t v) (duty.Leave v.id) (place_numbers t v) n there passes)

come_has : (t : Tables) (v : Service) (n : ℕ) → v.spec.mode ≡ mode.Global →
    OfRow t.nodes node_id n (λ m. is_missing t v m ≡ true) → Has (come_duties t v v.spec.mode) (duty.GlobalCreate v.id n)
come_has t v n e of =
    subst (λ m. Has (come_duties t v m) (duty.GlobalCreate v.id n)) (sym e)
    (to_id _ (duty.GlobalCreate v.id) of
    (to_where (is_missing t v) (λ m. duty.GlobalCreate v.id m.id) t.nodes of.row of.there of.fact))

-- Placing.

place_has : (t : Tables) (x : Task) (d : Duty) → Has t.tasks x → is_to_place x ≡ true → (o : Option Node) →
    best_node t x ≡ o → Has (placing t x o) d → Has (scheduler t) d
place_has t x d there to o best h =
    Has-flat_map (schedule t) t.tasks x d there
    (Has-append_right (when (is_to_drop x) (duty.Drop x.id)) (place_duty t x (is_to_place x)) d
    (subst (λ b. Has (place_duty t x b) d) (sym to) (subst (λ n. Has (placing t x n) d) (sym best) h)))

goes_has : (t : Tables) (x n : ℕ) → OfRow t.tasks task_id x (GoesTo t n) → Has (scheduler t) (duty.Place x n)
goes_has t x n of =
    to_id (scheduler t) (λ k. duty.Place k n) of
    (subst (λ k. Has (scheduler t) (duty.Place of.row.id k)) of.fact.3
    (place_has t of.row _ of.there of.fact.0 (Some of.fact.1) of.fact.2 (inl refl)))

explain_has : (t : Tables) (x : ℕ) → OfRow t.tasks task_id x (IsUnexplained t) → Has (scheduler t) (duty.Explain x)
explain_has t x of =
    to_id (scheduler t) duty.Explain of
    (place_has t of.row _ of.there of.fact.0 None of.fact.1
    (subst (λ b. Has (cond b [] (duty.Explain of.row.id ∷ [])) (duty.Explain of.row.id)) (sym of.fact.2) (inl refl)))

-- Agents.

to_agent : (w : World) (n : ℕ) (duty_of : ℕ → Duty) (Fact : NodeAgent → Type 0) →
    ((a : NodeAgent) → Fact a → Has (duties_on w a (is_session_live w.tables a.node)) (duty_of a.node)) → OfAgent w n Fact →
    Has (agents w) (duty_of n)
to_agent w n duty_of Fact each of =
    to_id (agents w) duty_of of
    (Has-flat_map (agent_duties w) w.agents of.row _ of.there
    (cond_has (is_mode_on of.row.mode) _ _ of.fact.0 (each of.row of.fact.1)))

-- the five parts of an agent's duties
first_part : (a b c d e : List Duty) (x : Duty) → Has a x → Has (a ++ b ++ c ++ d ++ e) x
first_part a b c d e x h =
    Has-append_left (a ++ b ++ c ++ d) e x
    (Has-append_left (a ++ b ++ c) d x (Has-append_left (a ++ b) c x (Has-append_left a b x h)))

second_part : (a b c d e : List Duty) (x : Duty) → Has b x → Has (a ++ b ++ c ++ d ++ e) x
second_part a b c d e x h =
    Has-append_left (a ++ b ++ c ++ d) e x
    (Has-append_left (a ++ b ++ c) d x (Has-append_left (a ++ b) c x (Has-append_right a b x h)))

third_part : (a b c d e : List Duty) (x : Duty) → Has c x → Has (a ++ b ++ c ++ d ++ e) x
third_part a b c d e x h =
    Has-append_left (a ++ b ++ c ++ d) e x (Has-append_left (a ++ b ++ c) d x (Has-append_right (a ++ b) c x h))

fourth_part : (a b c d e : List Duty) (x : Duty) → Has d x → Has (a ++ b ++ c ++ d ++ e) x
fourth_part a b c d e x h = Has-append_left (a ++ b ++ c ++ d) e x (Has-append_right (a ++ b ++ c) d x h)

fifth_part : (a b c d e : List Duty) (x : Duty) → Has e x → Has (a ++ b ++ c ++ d ++ e) x
fifth_part a b c d e x h = Has-append_right (a ++ b ++ c ++ d) e x h

abbrev live_on : World → NodeAgent → Bool
live_on w a = is_session_live w.tables a.node

abbrev steps_on : World → NodeAgent → List Duty
steps_on w a = duty_where (has_step w.tables.clock) (λ e. duty.Exec a.node e.task) a.executors

abbrev forgets_on : NodeAgent → List Duty
forgets_on a = duty_where is_forgotten (λ e. duty.Forget a.node e.task) a.executors

first_on : (w : World) (a : NodeAgent) (d : Duty) → Has (session_duties w a (live_on w a)) d → Has (duties_on w a (live_on w a)) d
first_on w a d h =
    first_part (session_duties w a (live_on w a)) (inbox_duties w a (live_on w a) a.inbox) (steps_on w a)
    (report_duties w a (live_on w a)) (forgets_on a) d h

second_on : (w : World) (a : NodeAgent) (d : Duty) → Has (inbox_duties w a (live_on w a) a.inbox) d → Has (duties_on w a (live_on w a)) d
second_on w a d h =
    second_part (session_duties w a (live_on w a)) (inbox_duties w a (live_on w a) a.inbox) (steps_on w a)
    (report_duties w a (live_on w a)) (forgets_on a) d h

third_on : (w : World) (a : NodeAgent) (d : Duty) → Has (steps_on w a) d → Has (duties_on w a (live_on w a)) d
third_on w a d h =
    third_part (session_duties w a (live_on w a)) (inbox_duties w a (live_on w a) a.inbox) (steps_on w a)
    (report_duties w a (live_on w a)) (forgets_on a) d h

fourth_on : (w : World) (a : NodeAgent) (d : Duty) → Has (report_duties w a (live_on w a)) d → Has (duties_on w a (live_on w a)) d
fourth_on w a d h =
    fourth_part (session_duties w a (live_on w a)) (inbox_duties w a (live_on w a) a.inbox) (steps_on w a)
    (report_duties w a (live_on w a)) (forgets_on a) d h

fifth_on : (w : World) (a : NodeAgent) (d : Duty) → Has (forgets_on a) d → Has (duties_on w a (live_on w a)) d
fifth_on w a d h =
    fifth_part (session_duties w a (live_on w a)) (inbox_duties w a (live_on w a) a.inbox) (steps_on w a)
    (report_duties w a (live_on w a)) (forgets_on a) d h

register_has : (w : World) (a : NodeAgent) → is_session_live w.tables a.node ≡ false →
    Has (session_duties w a (is_session_live w.tables a.node)) (duty.Register a.node)
register_has w a e = subst (λ b. Has (session_duties w a b) (duty.Register a.node)) (sym e) (inl refl)

beat_has : (w : World) (a : NodeAgent) → is_session_live w.tables a.node ≡ true →
    is_some_and (is_beat_due w.tables) (session_of w.tables a.node) ≡ true →
    Has (session_duties w a (is_session_live w.tables a.node)) (duty.Beat a.node)
beat_has w a e due = subst (λ b. Has (session_duties w a b) (duty.Beat a.node)) (sym e) (to_when _ _ due)

apply_has : (w : World) (a : NodeAgent) (live : Bool) (m : Message) → a.inbox ≡ Some m →
    Has (inbox_duties w a live a.inbox) (duty.Apply a.node)
apply_has w a live m e =
    subst (λ (o : Option Message). Has (inbox_duties w a live o) (duty.Apply a.node)) (sym e) (inl refl)

pull_has : (w : World) (a : NodeAgent) (live : Bool) → live ≡ true → ◌≡◌ {A = Option Message} a.inbox None →
    is_some (message_for w a.node) ≡ true → Has (inbox_duties w a live a.inbox) (duty.Pull a.node)
pull_has w a live on e there =
    subst (λ (o : Option Message). Has (inbox_duties w a live o) (duty.Pull a.node)) (sym e)
    (to_when (live && is_some (message_for w a.node)) _ (both live (is_some (message_for w a.node)) on there))

report_has : (w : World) (a : NodeAgent) (x : ℕ) → is_session_live w.tables a.node ≡ true →
    OfRow a.executors executor_task x (λ e. wants_report w.tables e ≡ true) →
    Has (report_duties w a (is_session_live w.tables a.node)) (duty.Report a.node x)
report_has w a x on of =
    subst (λ b. Has (report_duties w a b) (duty.Report a.node x)) (sym on)
    (to_id _ (duty.Report a.node) of
    (to_where (wants_report w.tables) (λ e. duty.Report a.node e.task) a.executors of.row of.there of.fact))

-- Lists of three and more parts.

first_of3 : (a b c : List Duty) (x : Duty) → Has a x → Has (a ++ b ++ c) x
first_of3 a b c x h = Has-append_left (a ++ b) c x (Has-append_left a b x h)

second_of3 : (a b c : List Duty) (x : Duty) → Has b x → Has (a ++ b ++ c) x
second_of3 a b c x h = Has-append_left (a ++ b) c x (Has-append_right a b x h)

down_part : (t : Tables) (d : Duty) → Has (flat_map (λ s. down_duty t s s.spec.mode) t.services) d → Has (replicated t) d
down_part t d h =
    second_of3 (duty_where (is_gone t) (λ x. duty.Gone x.id) t.tasks)
    (flat_map (λ s. down_duty t s s.spec.mode) t.services) (flat_map (λ s. create_duty t s s.spec.mode) t.services) d h

port_part : (t : Tables) (d : Duty) → Has (flat_map (port_duties t) t.services) d → Has (allocator t) d
port_part t d h =
    first_of3 (flat_map (port_duties t) t.services) (duty_where (gets_address t) (λ x. duty.Address x.id) t.tasks)
    (duty_where (wants_note t) (λ x. duty.Note x.id) t.tasks) d h

address_part : (t : Tables) (d : Duty) → Has (duty_where (gets_address t) (λ x. duty.Address x.id) t.tasks) d →
    Has (allocator t) d
address_part t d h =
    second_of3 (flat_map (port_duties t) t.services) (duty_where (gets_address t) (λ x. duty.Address x.id) t.tasks)
    (duty_where (wants_note t) (λ x. duty.Note x.id) t.tasks) d h

abbrev swaps : Tables → Service → UpdateRun → List Duty
swaps t v run = places_where (is_of_version v run) (is_to_swap t v) (duty.Swap v.id) (place_numbers t v)

abbrev replacements : Tables → Service → UpdateRun → List Duty
replacements t v run =
    places_where (is_of_version v run && lets_replace t v run) (is_to_replace t v) (duty.Replace v.id) (place_numbers t v)

swap_part : (t : Tables) (v : Service) (run : UpdateRun) (d : Duty) → Has (swaps t v run) d → Has (open_duties t v run) d
swap_part t v run d h =
    Has-append_left (when (fails t v run) (duty.Fail v.id) ++ swaps t v run ++ replacements t v run)
    (when (is_to_finish t v run) (duty.Finish v.id)) d
    (second_of3 (when (fails t v run) (duty.Fail v.id)) (swaps t v run) (replacements t v run) d h)

replace_part : (t : Tables) (v : Service) (run : UpdateRun) (d : Duty) → Has (replacements t v run) d →
    Has (open_duties t v run) d
replace_part t v run d h =
    Has-append_left (when (fails t v run) (duty.Fail v.id) ++ swaps t v run ++ replacements t v run)
    (when (is_to_finish t v run) (duty.Finish v.id)) d
    (Has-append_right (when (fails t v run) (duty.Fail v.id) ++ swaps t v run) (replacements t v run) d h)

fail_part : (t : Tables) (v : Service) (run : UpdateRun) (d : Duty) → Has (when (fails t v run) (duty.Fail v.id)) d →
    Has (open_duties t v run) d
fail_part t v run d h =
    Has-append_left (when (fails t v run) (duty.Fail v.id) ++ swaps t v run ++ replacements t v run)
    (when (is_to_finish t v run) (duty.Finish v.id)) d
    (first_of3 (when (fails t v run) (duty.Fail v.id)) (swaps t v run) (replacements t v run) d h)

finish_part : (t : Tables) (v : Service) (run : UpdateRun) (d : Duty) → Has (when (is_to_finish t v run) (duty.Finish v.id)) d →
    Has (open_duties t v run) d
finish_part t v run d h =
    Has-append_right (when (fails t v run) (duty.Fail v.id) ++ swaps t v run ++ replacements t v run)
    (when (is_to_finish t v run) (duty.Finish v.id)) d h

-- Any duty.

pub Has-IsDuty : (w : World) (d : Duty) → IsDuty w d → Has (duties (role_of d) w) d
Has-IsDuty w (duty.Expire n) of =
    to_id _ duty.Expire of
    (Has-append_left _ _ _ (to_where (is_expired w.tables) (λ n. duty.Expire n.id) w.tables.nodes of.row of.there of.fact))
Has-IsDuty w (duty.Orphan x) of =
    to_id _ duty.Orphan of
    (Has-append_right _ _ _ (to_where (is_orphaned w.tables) (λ x. duty.Orphan x.id) w.tables.tasks of.row of.there of.fact))
Has-IsDuty w (duty.Reject x) of =
    to_id _ duty.Reject of
    (to_where (is_misplaced w.tables) (λ x. duty.Reject x.id) w.tables.tasks of.row of.there of.fact)
Has-IsDuty w (duty.Restart x) of =
    to_id _ duty.Restart of
    (Has-append_left _ _ _ (to_where (wants_restart w.tables) (λ x. duty.Restart x.id) w.tables.tasks of.row of.there of.fact))
Has-IsDuty w (duty.Raise x) of =
    to_id _ duty.Raise of
    (Has-append_right _ _ _ (to_where (wants_raise w.tables) (λ x. duty.Raise x.id) w.tables.tasks of.row of.there of.fact))
Has-IsDuty w (duty.Start s) of = to_start w.tables s of
Has-IsDuty w (duty.Fail s) of =
    to_run w.tables s duty.Fail (λ v run. fails w.tables v run ≡ true)
    (λ v run e. fail_part w.tables v run (duty.Fail v.id) (to_when (fails w.tables v run) (duty.Fail v.id) e)) of
Has-IsDuty w (duty.Swap s k) of =
    to_run w.tables s (λ z. duty.Swap z k)
    (λ v run. (is_of_version v run ≡ true) × OfPlace w.tables v (is_to_swap w.tables v) k)
    (λ v run e. swap_part w.tables v run (duty.Swap v.id k)
    (to_places (is_of_version v run) (is_to_swap w.tables v) (duty.Swap v.id) (place_numbers w.tables v) k
    e.0 e.1.0 e.1.1)) of
Has-IsDuty w (duty.Replace s k) of =
    to_run w.tables s (λ z. duty.Replace z k)
    (λ v run. ((is_of_version v run && lets_replace w.tables v run) ≡ true)
    × OfPlace w.tables v (is_to_replace w.tables v) k)
    (λ v run e. replace_part w.tables v run (duty.Replace v.id k)
    (to_places (is_of_version v run && lets_replace w.tables v run) (is_to_replace w.tables v) (duty.Replace v.id)
    (place_numbers w.tables v) k e.0 e.1.0 e.1.1)) of
Has-IsDuty w (duty.Finish s) of =
    to_run w.tables s duty.Finish (λ v run. is_to_finish w.tables v run ≡ true)
    (λ v run e. finish_part w.tables v run (duty.Finish v.id) (to_when (is_to_finish w.tables v run) (duty.Finish v.id) e)) of
Has-IsDuty w (duty.Gone x) of =
    to_id _ duty.Gone of
    (Has-append_left _ _ _ (Has-append_left _ _ _
    (to_where (is_gone w.tables) (λ x. duty.Gone x.id) w.tables.tasks of.row of.there of.fact)))
Has-IsDuty w (duty.Down s k) of =
    to_id (replicated w.tables) (λ z. duty.Down z k) of
    (down_part w.tables _
    (Has-flat_map (λ s. down_duty w.tables s s.spec.mode) w.tables.services of.row _ of.there
    (down_has w.tables of.row k of.fact)))
Has-IsDuty w (duty.ReplicatedCreate s k) of =
    to_id _ (λ z. duty.ReplicatedCreate z k) of
    (Has-append_right _ _ _
    (Has-flat_map (λ s. create_duty w.tables s s.spec.mode) w.tables.services of.row _ of.there
    (replica_has w.tables of.row k of.fact)))
Has-IsDuty w (duty.Leave s n) of =
    to_id _ (λ z. duty.Leave z n) of
    (Has-append_left _ _ _
    (Has-flat_map (λ s. leave_duties w.tables s s.spec.mode) w.tables.services of.row _ of.there
    (leave_has w.tables of.row n of.fact.0 of.fact.1.0 of.fact.1.1)))
Has-IsDuty w (duty.GlobalCreate s n) of =
    to_id _ (λ z. duty.GlobalCreate z n) of
    (Has-append_right _ _ _
    (Has-flat_map (λ s. come_duties w.tables s s.spec.mode) w.tables.services of.row _ of.there
    (come_has w.tables of.row n of.fact.0 of.fact.1)))
Has-IsDuty w (duty.Old x) of =
    to_id _ duty.Old of
    (Has-append_left _ _ _ (to_where (is_old w.tables) (λ x. duty.Old x.id) w.tables.tasks of.row of.there of.fact))
Has-IsDuty w (duty.JobCreate s k) of =
    to_id _ (λ z. duty.JobCreate z k) of
    (Has-append_right _ _ _
    (Has-flat_map (λ s. next_duty w.tables s s.spec.mode) w.tables.services of.row _ of.there
    (task_has w.tables of.row k of.fact)))
Has-IsDuty w (duty.Port s target udp) of =
    to_id (allocator w.tables) (λ z. duty.Port z target udp) of
    (port_part w.tables _
    (Has-flat_map (port_duties w.tables) w.tables.services of.row _ of.there
    (subst (λ z. Has (port_duties w.tables of.row) (duty.Port of.row.id z udp)) of.fact.3
    (subst (λ z. Has (port_duties w.tables of.row) (duty.Port of.row.id of.fact.0.target z)) of.fact.4
    (to_where (λ p. has_free_port w.tables p.udp) (λ p. duty.Port of.row.id p.target p.udp) (unnumbered_ports of.row)
    of.fact.0 of.fact.1 of.fact.2)))))
Has-IsDuty w (duty.Address x) of =
    to_id (allocator w.tables) duty.Address of
    (address_part w.tables _
    (to_where (gets_address w.tables) (λ x. duty.Address x.id) w.tables.tasks of.row of.there of.fact))
Has-IsDuty w (duty.Note x) of =
    to_id _ duty.Note of
    (Has-append_right _ _ _ (to_where (wants_note w.tables) (λ x. duty.Note x.id) w.tables.tasks of.row of.there of.fact))
Has-IsDuty w (duty.Drop x) of =
    to_id _ duty.Drop of
    (Has-flat_map (schedule w.tables) w.tables.tasks of.row _ of.there
    (Has-append_left _ (place_duty w.tables of.row (is_to_place of.row)) _
    (to_when (is_to_drop of.row) (duty.Drop of.row.id) of.fact)))
Has-IsDuty w (duty.Place x n) of = goes_has w.tables x n of
Has-IsDuty w (duty.Explain x) of = explain_has w.tables x of
Has-IsDuty w (duty.Delete x) of =
    to_id _ duty.Delete of
    (Has-append_left _ _ _ (to_where is_removable (λ x. duty.Delete x.id) w.tables.tasks of.row of.there of.fact))
Has-IsDuty w (duty.Trim x) of =
    to_id _ duty.Trim of
    (Has-append_right _ _ _ (to_where (is_trimmed w.tables) (λ x. duty.Trim x.id) w.tables.tasks of.row of.there of.fact))
Has-IsDuty w (duty.Register n) of =
    to_agent w n duty.Register (λ a. is_session_live w.tables a.node ≡ false)
    (λ a e. first_on w a (duty.Register a.node) (register_has w a e)) of
Has-IsDuty w (duty.Beat n) of =
    to_agent w n duty.Beat
    (λ a. IsLive w a × (is_some_and (is_beat_due w.tables) (session_of w.tables a.node) ≡ true))
    (λ a e. first_on w a (duty.Beat a.node) (beat_has w a e.0 e.1)) of
Has-IsDuty w (duty.Apply n) of =
    to_agent w n duty.Apply (λ a. (m : Message) × (a.inbox ≡ Some m))
    (λ a e. second_on w a (duty.Apply a.node) (apply_has w a (live_on w a) e.0 e.1)) of
Has-IsDuty w (duty.Pull n) of =
    to_agent w n duty.Pull (λ a. IsLive w a × HasMessage w a)
    (λ a e. second_on w a (duty.Pull a.node) (pull_has w a (live_on w a) e.0 e.1.0 e.1.1)) of
Has-IsDuty w (duty.Exec n x) of =
    to_agent w n (λ z. duty.Exec z x) (λ a. OfExecutor a (has_step w.tables.clock) x)
    (λ a e. third_on w a (duty.Exec a.node x)
    (to_id (steps_on w a) (duty.Exec a.node) e
    (to_where (has_step w.tables.clock) (λ z. duty.Exec a.node z.task) a.executors e.row e.there e.fact))) of
Has-IsDuty w (duty.Report n x) of =
    to_agent w n (λ z. duty.Report z x) (λ a. IsLive w a × OfExecutor a (wants_report w.tables) x)
    (λ a e. fourth_on w a (duty.Report a.node x) (report_has w a x e.0 e.1)) of
Has-IsDuty w (duty.Forget n x) of =
    to_agent w n (λ z. duty.Forget z x) (λ a. OfExecutor a is_forgotten x)
    (λ a e. fifth_on w a (duty.Forget a.node x)
    (to_id (forgets_on a) (duty.Forget a.node) e
    (to_where is_forgotten (λ z. duty.Forget a.node z.task) a.executors e.row e.there e.fact))) of

pub due-IsDuty : (w : World) (d : Duty) → IsDuty w d → is_due w d ≡ true
due-IsDuty w d is = due-Has w d (Has-IsDuty w d is)
