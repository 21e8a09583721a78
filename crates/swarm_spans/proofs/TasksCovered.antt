-- All spans of the lines over single tasks and over nodes, over one list of changes.
use Rattle.std.proofs.Common.{Bool, List, Some, inl, inr, refl, subst, sym, true, ℕ, ap, ◌∙◌, ◌≡◌, ◌≤◌, ◌⊎◌}
use Rattle.std.specs.List.{list_any}
use Rattle.std.specs.Prelude.{nat_le, not}
use Rattle.swarm_objects.proofs.RowLemmas.{Has-from_row_at, number_above, row_at-Some}
use Rattle.swarm_objects.proofs.Tests.{both, both_are, some-and-cases}
use Rattle.swarm_objects.specs.ChangeLists.{apply_changes}
use Rattle.swarm_objects.specs.Loops.Dispatcher.{is_expired, is_long_down, is_orphaned}
use Rattle.swarm_objects.specs.Loops.Reaper.{is_removable}
use Rattle.swarm_objects.specs.Loops.Restart.{is_current, is_held_up, wants_raise}
use Rattle.swarm_objects.specs.Loops.Scheduler.{schedule}
use Rattle.swarm_objects.specs.Nodes.Sessions.{is_before_deadline, is_session_live}
use Rattle.swarm_objects.specs.Nodes.Words.{is_down, is_node_and, is_ready}
use Rattle.swarm_objects.specs.Rows.{Has, is_row_and, node_id, row_at, session_node, task_id}
use Rattle.swarm_objects.specs.Tasks.Words.{is_kept, is_live, is_placed, is_to_wait}
use Rattle.swarm_objects.specs.Usable.{IsUsable}
use Rattle.swarm_objects.specs.World.{Tables}
use Rattle.swarm_objects.specs.declared.duties.Duty.{Duty}
use Rattle.swarm_objects.specs.declared.nodes.Node.{Node}
use Rattle.swarm_objects.specs.declared.rows.Change.{Change}
use Rattle.swarm_objects.specs.declared.services.Service.{Service}
use Rattle.swarm_objects.specs.declared.sessions.NodeSession.{NodeSession}
use Rattle.swarm_objects.specs.declared.tasks.Task.{Task}
use Rattle.swarm_spans.proofs.Blocked.{blocked_kept, blocked_yet}
use Rattle.swarm_spans.proofs.Grown.{in-full, own-with, wider_itself, wider_with, wider_yet}
use Rattle.swarm_spans.proofs.Holders.{freed_kept, held_kept}
use Rattle.swarm_spans.proofs.Lines.{delete_goes_on, gone_goes_on, has-when, old_goes_on, orphan_goes_on, reject_goes_on, restart_goes_on, to_allocate_goes_on, to_schedule_goes_on, to_wait_goes_on}
use Rattle.swarm_spans.proofs.Made.{nodes_kept, ready_kept, services_kept, tasks_kept}
use Rattle.swarm_spans.proofs.Moved.{moved_kept, sessions-left}
use Rattle.swarm_spans.proofs.Services.Outcomes.{same-clock, same-settings}
use Rattle.swarm_spans.proofs.Services.Spans.{is-below, near, tasks-full}
use Rattle.swarm_spans.proofs.Waiting.{address_goes_on, expire_goes_on, note_goes_on, raise_goes_on, schedule_goes_on, waiting_keeps}
use Rattle.swarm_spans.specs.Blocked.{TouchesAllBlocked}
use Rattle.swarm_spans.specs.Holding.{FreesNone, HoldsOn, TouchesWhere}
use Rattle.swarm_spans.specs.Kept.{AlikeFor, KeepsNodes, KeepsServices, KeepsTasks}
use Rattle.swarm_spans.specs.Lines.{addresses, AlikeCounting, AlikeDown, AlikeNumbered, AlikeOlds, AlikePlatform, AlikePorts, AlikeThere, AlikeValid, deletes, expires, goes, is_to_allocate, is_to_schedule, notes, olds, orphans, raises, rejects, restarts, ScheduledAsBefore, to_allocate, to_schedule, to_wait}
use Rattle.swarm_spans.specs.Moved.{moves}
use Rattle.swarm_spans.specs.Spans.{CoversNodes, CoversTasks, full, has_duty, is_in, IsWider, with_id}
use Rattle.swarm_spans.specs.TasksCovered.{at_time, HasEnds, HasOthersSessions, with_sessions}
use Rattle.swarm_spans.specs.Touched.{HasTasksOnDown, TouchesAll, TouchesAllReady}
use Rattle.swarm_spans.specs.declared.span.Span.{Span}

-- Widened twice.

pub ruleset raise_steps = (blocked_yet, wider_yet)

pub moved_yet : (t : Tables) (cs : List Change) (span wide waiting : Span)
    → (list_any (moves t) cs ≡ true → IsWider span waiting) → IsWider wide span
    → list_any (moves t) cs ≡ true → IsWider wide waiting
moved_yet t cs span wide waiting all wider e = wider_yet waiting span wide (all e) wider

pub ruleset schedule_steps = (moved_yet, wider_yet)

pub where_yet : (P : Change → Type 0) (cs : List Change) (span wide waiting : Span) → TouchesWhere P cs waiting span
    → IsWider wide span → TouchesWhere P cs waiting wide
where_yet P cs span wide waiting (inl all) wider = inl (wider_yet waiting span wide all wider)
where_yet P cs span wide waiting (inr passes) wider = inr passes

pub ruleset allocate_steps = (where_yet, wider_yet)

-- The full span.

pub full_tasks : (line : Tables → Task → List Duty) (t : Tables) (span : Span) → span ≡ full → IsUsable t
    → CoversTasks line t span
full_tasks line t span is usable = subst (CoversTasks line t) (sym is) (tasks-full line t usable)

pub full_nodes : (line : Tables → Node → List Duty) (t : Tables) (span : Span) → span ≡ full → IsUsable t
    → CoversNodes line t span
full_nodes line t span is usable = subst (CoversNodes line t) (sym is) all
  where
    all : CoversNodes line t full
    all = record {
      has = λ x h passes.
          in-full x.id (number_above node_id 0 t.nodes x usable.sound.ordered.nodes h)
          (near x.id t.next_id (is-below node_id t.next_id t.nodes x usable.sound.below.nodes h) usable.next_id);
    }

-- A wider span covers too.

pub tasks_wider : (line : Tables → Task → List Duty) (t : Tables) (span wide : Span) → IsWider wide span
    → CoversTasks line t span → CoversTasks line t wide
tasks_wider line t span wide w c = record { has = λ x h e. w.has x.id (c.has x h e) }

pub nodes_wider : (line : Tables → Node → List Duty) (t : Tables) (span wide : Span) → IsWider wide span
    → CoversNodes line t span → CoversNodes line t wide
nodes_wider line t span wide w c = record { has = λ x h e. w.has x.id (c.has x h e) }

-- What the changes touch is kept in the tables that they make.

own : {may : Task → Bool} {AlikeTask : Task → Task → Type 0} {AlikeService : Service → Service → Type 0}
    {AlikeNode : Node → Node → Type 0} (t : Tables) (cs : List Change) (wide : Span) → IsUsable t
    → IsUsable (apply_changes t cs) → TouchesAll may AlikeTask AlikeService AlikeNode t wide cs
    → KeepsTasks may AlikeTask t (apply_changes t cs) wide
own {may} {AlikeTask} {AlikeService} {AlikeNode} t cs wide before after touches =
    tasks_kept may AlikeTask AlikeService AlikeNode t (apply_changes t cs) cs wide before.sound.ordered.tasks
    after.sound.ordered.tasks refl touches

by-services : {may : Task → Bool} {AlikeTask : Task → Task → Type 0} {AlikeService : Service → Service → Type 0}
    {AlikeNode : Node → Node → Type 0} (t : Tables) (cs : List Change) (wide : Span)
    → TouchesAll may AlikeTask AlikeService AlikeNode t wide cs
    → KeepsServices AlikeService t (apply_changes t cs) wide
by-services {may} {AlikeTask} {AlikeService} {AlikeNode} t cs wide touches =
    services_kept may AlikeTask AlikeService AlikeNode t (apply_changes t cs) cs wide refl touches

by-nodes : {may : Task → Bool} {AlikeTask : Task → Task → Type 0} {AlikeService : Service → Service → Type 0}
    {AlikeNode : Node → Node → Type 0} (t : Tables) (cs : List Change) (wide : Span)
    → TouchesAll may AlikeTask AlikeService AlikeNode t wide cs → KeepsNodes AlikeNode t (apply_changes t cs) wide
by-nodes {may} {AlikeTask} {AlikeService} {AlikeNode} t cs wide touches =
    nodes_kept may AlikeTask AlikeService AlikeNode t (apply_changes t cs) cs wide refl touches

-- Each line goes on.

-- the form of all of them: what is touched of the line, and what covers it before and after
abbrev Goes : (Tables → Task → List Duty) → (Task → Bool) → (Service → Service → Type 0) → (Node → Node → Type 0)
    → Type 0
Goes line may AlikeService AlikeNode =
    (t : Tables) (cs : List Change) (span wide : Span) → IsUsable t → IsUsable (apply_changes t cs)
    → CoversTasks line t span → IsWider wide span → TouchesAll may (AlikeFor line) AlikeService AlikeNode t wide cs
    → CoversTasks line (apply_changes t cs) wide

pub orphans_on : Goes orphans is_placed AlikeThere AlikeDown
orphans_on t cs span wide before after c wider touches =
    orphan_goes_on t (apply_changes t cs) span wide (same-clock t cs) (same-settings t cs) c wider
    (own t cs wide before after touches) (by-nodes t cs wide touches)

pub rejects_on : Goes rejects is_placed AlikeThere AlikePlatform
rejects_on t cs span wide before after c wider touches =
    reject_goes_on t (apply_changes t cs) span wide c wider (own t cs wide before after touches)
    (by-nodes t cs wide touches)

pub restarts_on : Goes restarts is_live AlikeCounting AlikeValid
restarts_on t cs span wide before after c wider touches =
    restart_goes_on t (apply_changes t cs) span wide c wider (own t cs wide before after touches)
    (by-services t cs wide touches) (by-nodes t cs wide touches)

pub goes_on : Goes goes is_kept AlikeThere AlikeThere
goes_on t cs span wide before after c wider touches =
    gone_goes_on t (apply_changes t cs) span wide c wider (own t cs wide before after touches)
    (by-services t cs wide touches)

pub olds_on : Goes olds is_kept AlikeOlds AlikeThere
olds_on t cs span wide before after c wider touches =
    old_goes_on t (apply_changes t cs) span wide c wider (own t cs wide before after touches)
    (by-services t cs wide touches)

pub deletes_on : Goes deletes is_removable AlikeThere AlikeThere
deletes_on t cs span wide before after c wider touches =
    delete_goes_on t (apply_changes t cs) span wide c wider (own t cs wide before after touches)

pub to_wait_on : Goes to_wait is_to_wait AlikeThere AlikeThere
to_wait_on t cs span wide before after c wider touches =
    to_wait_goes_on t (apply_changes t cs) span wide c wider (own t cs wide before after touches)

pub to_schedule_on : Goes to_schedule is_to_schedule AlikeThere AlikeThere
to_schedule_on t cs span wide before after c wider touches =
    to_schedule_goes_on t (apply_changes t cs) span wide c wider (own t cs wide before after touches)

pub to_allocate_on : Goes to_allocate is_to_allocate AlikeThere AlikeThere
to_allocate_on t cs span wide before after c wider touches =
    to_allocate_goes_on t (apply_changes t cs) span wide c wider (own t cs wide before after touches)

pub raises_on : (waiting : Span) (t : Tables) (cs : List Change) (span wide : Span) → IsUsable t
    → IsUsable (apply_changes t cs) → CoversTasks to_wait t waiting
    → TouchesAllBlocked t waiting wide cs → CoversTasks raises t span → IsWider wide span
    → TouchesAll is_to_wait (AlikeFor raises) AlikeCounting AlikeThere t wide cs
    → CoversTasks raises (apply_changes t cs) wide
raises_on waiting t cs span wide before after waits all c wider touches =
    let two = blocked_kept t (apply_changes t cs) cs waiting wide before.sound.ordered.tasks refl waits all in
    raise_goes_on t (apply_changes t cs) span wide (same-clock t cs) c wider (own t cs wide before after touches)
    (by-services t cs wide touches) two.0 two.1

pub schedules_on : (waiting : Span) (t : Tables) (cs : List Change) (span wide : Span) → IsUsable t
    → IsUsable (apply_changes t cs) → CoversTasks to_schedule t waiting
    → (list_any (moves t) cs ≡ true → IsWider wide waiting) → CoversTasks schedule t span → IsWider wide span
    → TouchesAll is_to_schedule (AlikeFor schedule) AlikeThere AlikeThere t wide cs
    → CoversTasks schedule (apply_changes t cs) wide
schedules_on waiting t cs span wide before after waits all c wider touches =
    schedule_goes_on t (apply_changes t cs) span wide c wider (own t cs wide before after touches)
    (moved_kept t (apply_changes t cs) cs waiting wide before.sound.ordered.tasks after.sound.ordered.tasks refl waits
    all)

pub addresses_on : (waiting : Span) (t : Tables) (cs : List Change) (span wide : Span) → IsUsable t
    → IsUsable (apply_changes t cs) → CoversTasks to_allocate t waiting → TouchesWhere (FreesNone t) cs waiting wide
    → CoversTasks addresses t span → IsWider wide span
    → TouchesAll is_to_allocate (AlikeFor addresses) AlikeNumbered AlikeThere t wide cs
    → CoversTasks addresses (apply_changes t cs) wide
addresses_on waiting t cs span wide before after waits all c wider touches =
    address_goes_on t (apply_changes t cs) span wide c wider (own t cs wide before after touches)
    (by-services t cs wide touches)
    (freed_kept t cs waiting wide before.sound.ordered.tasks waits all)

pub notes_on : (waiting : Span) (t : Tables) (cs : List Change) (span wide : Span) → IsUsable t
    → IsUsable (apply_changes t cs) → CoversTasks to_allocate t waiting → TouchesWhere (HoldsOn t) cs waiting wide
    → CoversTasks notes t span → IsWider wide span
    → TouchesAll is_to_allocate (AlikeFor notes) AlikePorts AlikeThere t wide cs
    → CoversTasks notes (apply_changes t cs) wide
notes_on waiting t cs span wide before after waits all c wider touches =
    note_goes_on t (apply_changes t cs) span wide c wider (own t cs wide before after touches)
    (by-services t cs wide touches)
    (held_kept t cs waiting wide before.sound.ordered.tasks before.sound.ordered.services after.sound.ordered.services
    waits all)

pub expires_on : (t : Tables) (cs : List Change) (span wide : Span) → IsUsable (apply_changes t cs)
    → CoversNodes expires t span → IsWider wide span → TouchesAllReady wide cs
    → CoversNodes expires (apply_changes t cs) wide
expires_on t cs span wide after c wider touches =
    expire_goes_on t (apply_changes t cs) span wide c wider
    (ready_kept t (apply_changes t cs) cs wide after.sound.ordered.nodes refl touches)
    (λ n. inr (ap (λ k. is_before_deadline k (row_at session_node n (apply_changes t cs).sessions)) (same-clock t cs)
    ∙ ap (λ ss. is_before_deadline t.clock (row_at session_node n ss)) (sessions-left cs t)))

-- One node's session.

pub expires_but : (node : ℕ) (t : Tables) (next_id : ℕ) (sessions : List NodeSession) (span wide : Span) → IsUsable t
    → HasOthersSessions node t sessions → wide ≡ with_id span node → CoversNodes expires t span
    → CoversNodes expires (with_sessions next_id sessions t) wide
expires_but node t next_id sessions span wide usable but is c = record {
  has = λ m h due. go m h due (but.others m.id);
}
  where
    go : (m : Node) → Has t.nodes m → has_duty (expires (with_sessions next_id sessions t)) m ≡ true
        → ((m.id ≡ node) ⊎ (row_at session_node m.id sessions ≡ row_at session_node m.id t.sessions))
        → is_in wide m.id ≡ true
    go m h due (inl this) =
        subst (λ s. is_in s m.id ≡ true) (sym is)
        (subst (λ k. is_in (with_id span k) m.id ≡ true) this
        (own-with span m.id (number_above node_id 0 t.nodes m usable.sound.ordered.nodes h)))
    go m h due (inr same) =
        let parts = both_are (is_ready m.state) (not (is_session_live (with_sessions next_id sessions t) m.id))
        (sym (has-when (is_expired (with_sessions next_id sessions t) m) _) ∙ due) in
        (wider_with span wide node is).has m.id
        (c.has m h
        (has-when (is_expired t m) _
        ∙ both (is_ready m.state) (not (is_session_live t m.id)) parts.0
        (ap (λ o. not (is_before_deadline t.clock o)) (sym same) ∙ parts.1)))

-- where the tasks are the same, the span of all that wait for a node does for any tables
pub schedules_all : (t u : Tables) (waiting span wide : Span) → u.tasks ≡ t.tasks → IsUsable t
    → CoversTasks to_schedule t waiting → IsWider wide waiting → CoversTasks schedule t span → IsWider wide span
    → CoversTasks schedule u wide
schedules_all t u waiting span wide same usable waits all c wider =
    schedule_goes_on t u span wide c wider
    (record {
      own = λ y h can.
          inr (inl (sym (row_at-Some task_id 0 t.tasks y usable.sound.ordered.tasks
          (subst (λ list. Has list y) same h))));
    })
    (waiting_keeps to_schedule is_to_schedule (ScheduledAsBefore t u) t waiting wide
    (λ x e. has-when (is_to_schedule x) _ ∙ e) waits all)

-- The time.

pub expires_at : (until : ℕ) (t : Tables) (span ends wide : Span) → HasEnds until t span ends → IsWider wide span
    → IsWider wide ends → (clock : ℕ) → clock ≤ until → CoversNodes expires (at_time clock t) wide
expires_at until t span ends wide has wider all clock le = record {
  has = λ n h due.
      elim (has.each clock le n h (sym (has-when (is_expired (at_time clock t) n) _) ∙ due)) [
        | inl i ↦ wider.has n.id i
        | inr i ↦ all.has n.id i
      ];
}

-- whatever the time, an orphan's node is DOWN
pub orphans_at : (t : Tables) (clock : ℕ) (wide : Span) → HasTasksOnDown t wide
    → CoversTasks orphans (at_time clock t) wide
orphans_at t clock wide on-down = record {
  has = λ x h due.
      let long : is_node_and t (is_long_down (at_time clock t)) x ≡ true =
      (both_are (is_placed x) _ (sym (has-when (is_orphaned (at_time clock t) x) _) ∙ due)).1 in
      let on = some-and-cases (is_row_and node_id (is_long_down (at_time clock t)) t.nodes) x.node long in
      let row = some-and-cases (is_long_down (at_time clock t)) (row_at node_id on.0 t.nodes) on.2 in
      let there = Has-from_row_at node_id on.0 t.nodes row.0 row.1 in
      (on-down.nodes row.0 there.0 (both_are (is_down row.0.state) _ row.2).0).tasks x h
      (on.1 ∙ ap Some (sym there.1));
}

pub raises_at : (t : Tables) (clock : ℕ) (waiting wide : Span) → CoversTasks to_wait t waiting → IsWider wide waiting
    → CoversTasks raises (at_time clock t) wide
raises_at t clock waiting wide waits all = record {
  has = λ x h due.
      all.has x.id
      (waits.has x h
      (has-when (is_to_wait x) _ ∙ to-wait x (sym (has-when (wants_raise (at_time clock t) x) _) ∙ due)));
}
  where
    to-wait : (x : Task) → wants_raise (at_time clock t) x ≡ true → is_to_wait x ≡ true
    to-wait x e =
        (both_are (is_to_wait x) _
        (both_are _ (nat_le x.raise_at clock)
        (both_are _ (is_current (at_time clock t) x) (both_are _ (not (is_held_up (at_time clock t) x)) e).0).0).0).0
