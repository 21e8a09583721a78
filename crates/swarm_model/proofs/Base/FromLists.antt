-- What being in a loop's list says of the world, and that each loop has duties of its own alone.
use Rattle.std.proofs.Common.{◌≡◌, ℕ, Bool, true, false, inl, inr, List, [], ◌∷◌, ◌++◌, Option, Some, None, refl, ap, subst, length, nat_lt, cond}
use Rattle.std.specs.Prelude.{◌&&◌, is_some, not, option_to_list}
use Rattle.std.specs.Option.{option_map}
use Rattle.swarm_model.proofs.Base.DutyLists.{Has-due, from_each, from_either, from_places, from_when, from_where}
use Rattle.swarm_model.proofs.Base.IsDuty.{IsDuty, OfRow}
use Rattle.swarm_objects.proofs.Tests.{both_are, not-true}
use Rattle.swarm_objects.specs.Agents.Messages.{message_for}
use Rattle.swarm_objects.specs.Duties.{duties, is_due}
use Rattle.swarm_objects.specs.Kinds.{role_of}
use Rattle.swarm_objects.specs.Loops.Agents.{agent_duties, agents, duties_on, has_step, inbox_duties, is_forgotten, is_mode_on, report_duties, session_duties, wants_report}
use Rattle.swarm_objects.specs.Loops.Allocator.{allocator, gets_address, has_free_port, port_duties, same_note, wants_note}
use Rattle.swarm_objects.specs.Loops.Dispatcher.{dispatcher, is_expired, is_orphaned}
use Rattle.swarm_objects.specs.Loops.Enforcer.{enforcer, is_misplaced}
use Rattle.swarm_objects.specs.Loops.Global.{come_duties, global, is_missing, is_to_leave, leave_duties}
use Rattle.swarm_objects.specs.Loops.Jobs.{has_old, is_old, jobs, next_duty}
use Rattle.swarm_objects.specs.Loops.Reaper.{is_removable, is_trimmed, reaper}
use Rattle.swarm_objects.specs.Loops.Replicated.{create_duty, down_duty, first_to_go, is_gone, replicated}
use Rattle.swarm_objects.specs.Loops.Restart.{restart, wants_raise, wants_restart}
use Rattle.swarm_objects.specs.Loops.Scheduler.{is_to_drop, is_to_place, place_duty, placing, schedule, scheduler}
use Rattle.swarm_objects.specs.Loops.Update.{is_to_finish, is_to_replace, is_to_start, is_to_swap, lets_replace, open_duties, run_duties, update, update_duties}
use Rattle.swarm_objects.specs.Loops.Words.{when}
use Rattle.swarm_objects.specs.Nodes.BestNode.{best_node}
use Rattle.swarm_objects.specs.Nodes.Filters.{refusal_counts}
use Rattle.swarm_objects.specs.Nodes.Sessions.{is_session_live}
use Rattle.swarm_objects.specs.Rows.{Has, first_gap}
use Rattle.swarm_objects.specs.Services.Ports.{unnumbered_ports}
use Rattle.swarm_objects.specs.Services.Runs.{fails, is_of_version, is_under_way}
use Rattle.swarm_objects.specs.Services.Words.{is_job}
use Rattle.swarm_objects.specs.Tasks.Places.{held_places, live_places, place_numbers}
use Rattle.swarm_objects.specs.World.{World}
use Rattle.swarm_objects.specs.declared.agents.NodeAgent.{NodeAgent}
use Rattle.swarm_objects.specs.declared.duties.Duty.{Duty}
use Rattle.swarm_objects.specs.declared.duties.Duty.TheVariants as duty
use Rattle.swarm_objects.specs.declared.loops.Role.{Role}
use Rattle.swarm_objects.specs.declared.loops.Role.TheVariants as role
use Rattle.swarm_objects.specs.declared.messages.Message.{Message}
use Rattle.swarm_objects.specs.declared.nodes.Node.{Node}
use Rattle.swarm_objects.specs.declared.services.Mode.{Mode}
use Rattle.swarm_objects.specs.declared.services.Mode.TheVariants as mode
use Rattle.swarm_objects.specs.declared.services.Service.{Service}
use Rattle.swarm_objects.specs.declared.services.UpdateRun.{UpdateRun}
use Rattle.swarm_objects.specs.declared.tasks.Note.TheVariants as note
use Rattle.swarm_objects.specs.declared.tasks.Task.{Task}

-- the duty is one of this loop, for the reason that its kind has
abbrev Of : Role → World → Duty → Type 0
Of r w d = IsDuty w d × (role_of d ≡ r)

row_is : {X : Type 0} {rows : List X} {key : X → ℕ} {Fact : X → Type 0} (x : X) → Has rows x → Fact x →
    OfRow rows key (key x) Fact
row_is x there fact = record { row = x; there = there; id_is = refl; fact = fact }

-- Loop by loop.

from_dispatcher : (w : World) (d : Duty) → Has (dispatcher w.tables) d → Of role.Dispatcher w d
from_dispatcher w d =
    from_either _ _ d
    (from_where (Of role.Dispatcher w) (is_expired w.tables) (λ n. duty.Expire n.id) w.tables.nodes d
    (λ n there passes. (row_is n there passes, refl)))
    (from_where (Of role.Dispatcher w) (is_orphaned w.tables) (λ x. duty.Orphan x.id) w.tables.tasks d
    (λ x there passes. (row_is x there passes, refl)))

from_enforcer : (w : World) (d : Duty) → Has (enforcer w.tables) d → Of role.Enforcer w d
from_enforcer w d =
    from_where (Of role.Enforcer w) (is_misplaced w.tables) (λ x. duty.Reject x.id) w.tables.tasks d
    (λ x there passes. (row_is x there passes, refl))

from_restart : (w : World) (d : Duty) → Has (restart w.tables) d → Of role.Restart w d
from_restart w d =
    from_either _ _ d
    (from_where (Of role.Restart w) (wants_restart w.tables) (λ x. duty.Restart x.id) w.tables.tasks d
    (λ x there passes. (row_is x there passes, refl)))
    (from_where (Of role.Restart w) (wants_raise w.tables) (λ x. duty.Raise x.id) w.tables.tasks d
    (λ x there passes. (row_is x there passes, refl)))

-- of a run under way
from_open : (w : World) (v : Service) (run : UpdateRun) (d : Duty) → Has w.tables.services v →
    is_job v.spec.mode ≡ false → v.run ≡ Some run → is_under_way run ≡ true → Has (open_duties w.tables v run) d →
    Of role.Update w d
from_open w v run d there mode_is run_is under_way =
    from_either _ _ d
    (from_either _ _ d
    (from_either _ _ d
    (from_when (Of role.Update w) (fails w.tables v run) (duty.Fail v.id) d
    (λ e. (row_is v there (mode_is, (run, run_is, under_way, e)), refl)))
    (from_places (Of role.Update w) (is_of_version v run) (is_to_swap w.tables v) (duty.Swap v.id)
    (place_numbers w.tables v) d
    (λ e k has passes. (row_is v there (mode_is, (run, run_is, under_way, (e, (has, passes)))), refl))))
    (from_places (Of role.Update w) (is_of_version v run && lets_replace w.tables v run) (is_to_replace w.tables v)
    (duty.Replace v.id) (place_numbers w.tables v) d
    (λ e k has passes. (row_is v there (mode_is, (run, run_is, under_way, (e, (has, passes)))), refl))))
    (from_when (Of role.Update w) (is_to_finish w.tables v run) (duty.Finish v.id) d
    (λ e. (row_is v there (mode_is, (run, run_is, under_way, e)), refl)))

from_run : (w : World) (v : Service) (run : Option UpdateRun) (d : Duty) → Has w.tables.services v →
    is_job v.spec.mode ≡ false → v.run ≡ run → Has (run_duties w.tables v run) d → Of role.Update w d
from_run w v None d there mode_is run_is h = absurd h
from_run w v (Some run) d there mode_is run_is h = go (is_under_way run) refl h
  where
    go : (b : Bool) → is_under_way run ≡ b → Has (cond b (open_duties w.tables v run) []) d → Of role.Update w d
    go true e k = from_open w v run d there mode_is run_is e k
    go false e k = absurd k

from_updated : (w : World) (v : Service) (d : Duty) → Has w.tables.services v → is_job v.spec.mode ≡ false →
    Has (when (is_to_start w.tables v) (duty.Start v.id) ++ run_duties w.tables v v.run) d → Of role.Update w d
from_updated w v d there mode_is =
    from_either _ _ d
    (from_when (Of role.Update w) (is_to_start w.tables v) (duty.Start v.id) d
    (λ e. (row_is v there (mode_is, e), refl)))
    (from_run w v v.run d there mode_is refl)

from_update : (w : World) (d : Duty) → Has (update w.tables) d → Of role.Update w d
from_update w d =
    from_each (Of role.Update w) (λ s. update_duties w.tables s s.spec.mode) w.tables.services d
    (λ v there h. go v there v.spec.mode refl h)
  where
    go : (v : Service) → Has w.tables.services v → (m : Mode) → v.spec.mode ≡ m → Has (update_duties w.tables v m) d →
        Of role.Update w d
    go v there (mode.Replicated n) e h = from_updated w v d there (ap is_job e) h
    go v there mode.Global e h = from_updated w v d there (ap is_job e) h
    go v there (mode.Job c n) e h = absurd h

-- the place that goes first
from_down : (w : World) (v : Service) (m : Mode) (d : Duty) → Has w.tables.services v → v.spec.mode ≡ m →
    Has (down_duty w.tables v m) d → Of role.Replicated w d
from_down w v (mode.Replicated n) d there e h =
    by_count (nat_lt n (length (held_places w.tables v))) refl h
  where
    by_place : nat_lt n (length (held_places w.tables v)) ≡ true → (k : Option ℕ) → first_to_go w.tables v ≡ k →
        Has (option_to_list (option_map (duty.Down v.id) k)) d → Of role.Replicated w d
    by_place more None is k = absurd k
    by_place more (Some k) is (inl same) =
        subst (Of role.Replicated w) same (row_is v there (n, e, more, is), refl)
    by_place more (Some k) is (inr none) = absurd none

    by_count : (b : Bool) → nat_lt n (length (held_places w.tables v)) ≡ b →
        Has (cond b (option_to_list (option_map (duty.Down v.id) (first_to_go w.tables v))) []) d → Of role.Replicated w d
    by_count true more k = by_place more (first_to_go w.tables v) refl k
    by_count false more k = absurd k
from_down w v mode.Global d there e h = absurd h
from_down w v (mode.Job c n) d there e h = absurd h

from_replica : (w : World) (v : Service) (m : Mode) (d : Duty) → Has w.tables.services v → v.spec.mode ≡ m →
    Has (create_duty w.tables v m) d → Of role.Replicated w d
from_replica w v (mode.Replicated n) d there e =
    from_when (Of role.Replicated w) (nat_lt (length (held_places w.tables v)) n)
    (duty.ReplicatedCreate v.id (first_gap 1 (held_places w.tables v))) d
    (λ few. (row_is v there (n, e, few, refl), refl))
from_replica w v mode.Global d there e = λ h. absurd h
from_replica w v (mode.Job c n) d there e = λ h. absurd h

from_replicated : (w : World) (d : Duty) → Has (replicated w.tables) d → Of role.Replicated w d
from_replicated w d =
    from_either _ _ d
    (from_either _ _ d
    (from_where (Of role.Replicated w) (is_gone w.tables) (λ x. duty.Gone x.id) w.tables.tasks d
    (λ x there passes. (row_is x there passes, refl)))
    (from_each (Of role.Replicated w) (λ s. down_duty w.tables s s.spec.mode) w.tables.services d
    (λ v there h. from_down w v v.spec.mode d there refl h)))
    (from_each (Of role.Replicated w) (λ s. create_duty w.tables s s.spec.mode) w.tables.services d
    (λ v there h. from_replica w v v.spec.mode d there refl h))

from_leave : (w : World) (v : Service) (m : Mode) (d : Duty) → Has w.tables.services v → v.spec.mode ≡ m →
    Has (leave_duties w.tables v m) d → Of role.Global w d
from_leave w v (mode.Replicated n) d there e h = absurd h
from_leave w v mode.Global d there e h =
    from_where (Of role.Global w) (is_to_leave w.tables v) (duty.Leave v.id) (place_numbers w.tables v) d
    (λ k has passes. (row_is v there (e, (has, passes)), refl)) h
from_leave w v (mode.Job c n) d there e h = absurd h

from_come : (w : World) (v : Service) (m : Mode) (d : Duty) → Has w.tables.services v → v.spec.mode ≡ m →
    Has (come_duties w.tables v m) d → Of role.Global w d
from_come w v (mode.Replicated n) d there e h = absurd h
from_come w v mode.Global d there e h =
    from_where (Of role.Global w) (is_missing w.tables v) (λ n. duty.GlobalCreate v.id n.id) w.tables.nodes d
    (λ n has passes. (row_is v there (e, row_is n has passes), refl)) h
from_come w v (mode.Job c n) d there e h = absurd h

from_global : (w : World) (d : Duty) → Has (global w.tables) d → Of role.Global w d
from_global w d =
    from_either _ _ d
    (from_each (Of role.Global w) (λ s. leave_duties w.tables s s.spec.mode) w.tables.services d
    (λ v there h. from_leave w v v.spec.mode d there refl h))
    (from_each (Of role.Global w) (λ s. come_duties w.tables s s.spec.mode) w.tables.services d
    (λ v there h. from_come w v v.spec.mode d there refl h))

from_next : (w : World) (v : Service) (m : Mode) (d : Duty) → Has w.tables.services v → v.spec.mode ≡ m →
    Has (next_duty w.tables v m) d → Of role.Job w d
from_next w v (mode.Replicated n) d there e h = absurd h
from_next w v mode.Global d there e h = absurd h
from_next w v (mode.Job c n) d there e h =
    from_when (Of role.Job w) _ (duty.JobCreate v.id (first_gap 0 (held_places w.tables v))) d
    (λ all.
    let last = both_are (nat_lt (length (live_places w.tables v)) c && nat_lt (length (held_places w.tables v)) n)
    (not (has_old w.tables v)) all in
    let counts =
    both_are (nat_lt (length (live_places w.tables v)) c) (nat_lt (length (held_places w.tables v)) n) last.0 in
    (row_is v there (c, n, e, counts.0, counts.1, not-true (has_old w.tables v) last.1, refl), refl)) h

from_jobs : (w : World) (d : Duty) → Has (jobs w.tables) d → Of role.Job w d
from_jobs w d =
    from_either _ _ d
    (from_where (Of role.Job w) (is_old w.tables) (λ x. duty.Old x.id) w.tables.tasks d
    (λ x there passes. (row_is x there passes, refl)))
    (from_each (Of role.Job w) (λ s. next_duty w.tables s s.spec.mode) w.tables.services d
    (λ v there h. from_next w v v.spec.mode d there refl h))

from_allocator : (w : World) (d : Duty) → Has (allocator w.tables) d → Of role.Allocator w d
from_allocator w d =
    from_either _ _ d
    (from_either _ _ d
    (from_each (Of role.Allocator w) (port_duties w.tables) w.tables.services d
    (λ v there. from_where (Of role.Allocator w) (λ p. has_free_port w.tables p.udp)
    (λ p. duty.Port v.id p.target p.udp) (unnumbered_ports v) d
    (λ p has passes. (row_is v there (p, has, passes, refl, refl), refl))))
    (from_where (Of role.Allocator w) (gets_address w.tables) (λ x. duty.Address x.id) w.tables.tasks d
    (λ x there passes. (row_is x there passes, refl))))
    (from_where (Of role.Allocator w) (wants_note w.tables) (λ x. duty.Note x.id) w.tables.tasks d
    (λ x there passes. (row_is x there passes, refl)))

from_placing : (w : World) (x : Task) (n : Option Node) (d : Duty) → Has w.tables.tasks x → is_to_place x ≡ true →
    best_node w.tables x ≡ n → Has (placing w.tables x n) d → Of role.Scheduler w d
from_placing w x (Some n) d there to best (inl same) =
    subst (Of role.Scheduler w) same (row_is x there (to, n, best, refl), refl)
from_placing w x (Some n) d there to best (inr none) = absurd none
from_placing w x None d there to best h = go (same_note (note.Filters (refusal_counts w.tables x)) x.note) refl h
  where
    go : (b : Bool) → same_note (note.Filters (refusal_counts w.tables x)) x.note ≡ b →
        Has (cond b [] (duty.Explain x.id ∷ [])) d → Of role.Scheduler w d
    go true e k = absurd k
    go false e (inl same) = subst (Of role.Scheduler w) same (row_is x there (to, best, e), refl)
    go false e (inr none) = absurd none

from_place : (w : World) (x : Task) (b : Bool) (d : Duty) → Has w.tables.tasks x → is_to_place x ≡ b →
    Has (place_duty w.tables x b) d → Of role.Scheduler w d
from_place w x true d there to h = from_placing w x (best_node w.tables x) d there to refl h
from_place w x false d there to h = absurd h

from_scheduler : (w : World) (d : Duty) → Has (scheduler w.tables) d → Of role.Scheduler w d
from_scheduler w d =
    from_each (Of role.Scheduler w) (schedule w.tables) w.tables.tasks d
    (λ x there. from_either _ _ d
    (from_when (Of role.Scheduler w) (is_to_drop x) (duty.Drop x.id) d (λ e. (row_is x there e, refl)))
    (from_place w x (is_to_place x) d there refl))

from_reaper : (w : World) (d : Duty) → Has (reaper w.tables) d → Of role.Reaper w d
from_reaper w d =
    from_either _ _ d
    (from_where (Of role.Reaper w) is_removable (λ x. duty.Delete x.id) w.tables.tasks d
    (λ x there passes. (row_is x there passes, refl)))
    (from_where (Of role.Reaper w) (is_trimmed w.tables) (λ x. duty.Trim x.id) w.tables.tasks d
    (λ x there passes. (row_is x there passes, refl)))

-- Agents.

from_session : (w : World) (a : NodeAgent) (live : Bool) (d : Duty) → Has w.agents a → is_mode_on a.mode ≡ true →
    is_session_live w.tables a.node ≡ live → Has (session_duties w a live) d → Of role.Agents w d
from_session w a true d there on live =
    from_when (Of role.Agents w) _ (duty.Beat a.node) d (λ e. (row_is a there (on, (live, e)), refl))
from_session w a false d there on live =
    from_when (Of role.Agents w) true (duty.Register a.node) d (λ e. (row_is a there (on, live), refl))

from_inbox : (w : World) (a : NodeAgent) (live : Bool) (m : Option Message) (d : Duty) → Has w.agents a →
    is_mode_on a.mode ≡ true → is_session_live w.tables a.node ≡ live → a.inbox ≡ m → Has (inbox_duties w a live m) d →
    Of role.Agents w d
from_inbox w a live (Some m) d there on live_is inbox =
    from_when (Of role.Agents w) true (duty.Apply a.node) d (λ e. (row_is a there (on, (m, inbox)), refl))
from_inbox w a live None d there on live_is inbox =
    from_when (Of role.Agents w) (live && is_some (message_for w a.node)) (duty.Pull a.node) d
    (λ e.
    let parts = both_are live (is_some (message_for w a.node)) e in
    (row_is a there (on, (subst (λ b. is_session_live w.tables a.node ≡ b) parts.0 live_is, (inbox, parts.1))), refl))

from_reports : (w : World) (a : NodeAgent) (live : Bool) (d : Duty) → Has w.agents a → is_mode_on a.mode ≡ true →
    is_session_live w.tables a.node ≡ live → Has (report_duties w a live) d → Of role.Agents w d
from_reports w a true d there on live =
    from_where (Of role.Agents w) (wants_report w.tables) (λ e. duty.Report a.node e.task) a.executors d
    (λ e has passes. (row_is a there (on, (live, row_is e has passes)), refl))
from_reports w a false d there on live = λ h. absurd h

from_agent : (w : World) (a : NodeAgent) (d : Duty) → Has w.agents a → is_mode_on a.mode ≡ true →
    Has (duties_on w a (is_session_live w.tables a.node)) d → Of role.Agents w d
from_agent w a d there on =
    from_either _ _ d
    (from_either _ _ d
    (from_either _ _ d
    (from_either _ _ d
    (from_session w a (is_session_live w.tables a.node) d there on refl)
    (from_inbox w a (is_session_live w.tables a.node) a.inbox d there on refl refl))
    (from_where (Of role.Agents w) (has_step w.tables.clock) (λ e. duty.Exec a.node e.task) a.executors d
    (λ e has passes. (row_is a there (on, row_is e has passes), refl))))
    (from_reports w a (is_session_live w.tables a.node) d there on refl))
    (from_where (Of role.Agents w) is_forgotten (λ e. duty.Forget a.node e.task) a.executors d
    (λ e has passes. (row_is a there (on, row_is e has passes), refl)))

from_agents : (w : World) (d : Duty) → Has (agents w) d → Of role.Agents w d
from_agents w d =
    from_each (Of role.Agents w) (agent_duties w) w.agents d (λ a there h. go a there (is_mode_on a.mode) refl h)
  where
    go : (a : NodeAgent) → Has w.agents a → (b : Bool) → is_mode_on a.mode ≡ b →
        Has (cond b (duties_on w a (is_session_live w.tables a.node)) []) d → Of role.Agents w d
    go a there true on h = from_agent w a d there on h
    go a there false on h = absurd h

-- All loops.

from_loop : (r : Role) (w : World) (d : Duty) → Has (duties r w) d → Of r w d
from_loop role.Dispatcher w d = from_dispatcher w d
from_loop role.Enforcer w d = from_enforcer w d
from_loop role.Restart w d = from_restart w d
from_loop role.Update w d = from_update w d
from_loop role.Replicated w d = from_replicated w d
from_loop role.Global w d = from_global w d
from_loop role.Job w d = from_jobs w d
from_loop role.Allocator w d = from_allocator w d
from_loop role.Scheduler w d = from_scheduler w d
from_loop role.Reaper w d = from_reaper w d
from_loop role.Agents w d = from_agents w d

pub IsDuty-Has : (r : Role) (w : World) (d : Duty) → Has (duties r w) d → IsDuty w d
IsDuty-Has r w d h = (from_loop r w d h).0

pub role_of-Has : (r : Role) (w : World) (d : Duty) → Has (duties r w) d → role_of d ≡ r
role_of-Has r w d h = (from_loop r w d h).1

pub IsDuty-due : (w : World) (d : Duty) → is_due w d ≡ true → IsDuty w d
IsDuty-due w d e = IsDuty-Has (role_of d) w d (Has-due w d e)
