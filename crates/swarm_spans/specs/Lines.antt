-- The lines whose rows are judged one by one: each as what there is to do for a row, and the law by which its span goes
-- on covering over a step from tables t to tables u.
use Rattle.std.specs.Prelude.{ℕ, Bool, List, Some, ◌≡◌, ◌⊎◌, ◌&&◌, ◌||◌, not, true, filter}
use Rattle.swarm_objects.specs.Loops.Allocator.{gets_address, has_free_address, has_free_port, has_numbered_ports, wants_note}
use Rattle.swarm_objects.specs.Loops.Dispatcher.{is_expired, is_long_down, is_orphaned}
use Rattle.swarm_objects.specs.Loops.Enforcer.{breaks_constraints, is_misplaced}
use Rattle.swarm_objects.specs.Loops.Jobs.{is_old, is_old_of}
use Rattle.swarm_objects.specs.Loops.Reaper.{is_removable}
use Rattle.swarm_objects.specs.Loops.Replicated.{is_gone}
use Rattle.swarm_objects.specs.Loops.Restart.{wants_raise, wants_restart}
use Rattle.swarm_objects.specs.Loops.Scheduler.{is_to_drop, is_to_place, schedule}
use Rattle.swarm_objects.specs.Loops.Words.{when}
use Rattle.swarm_objects.specs.Nodes.Sessions.{is_session_live}
use Rattle.swarm_objects.specs.Nodes.Words.{is_ready, is_valid_node}
use Rattle.swarm_objects.specs.Rows.{Has, node_id, row_at}
use Rattle.swarm_objects.specs.Services.Ports.{unnumbered_ports}
use Rattle.swarm_objects.specs.Tasks.Places.{counts_for}
use Rattle.swarm_objects.specs.Tasks.Words.{has_ended, is_below_assigned, is_beside, is_kept, is_live, is_new, is_placed, is_to_wait, is_unwanted, is_wanted}
use Rattle.swarm_objects.specs.World.{Tables}
use Rattle.swarm_objects.specs.declared.duties.Duty.{Duty}
use Rattle.swarm_objects.specs.declared.duties.Duty.TheVariants as duty
use Rattle.swarm_objects.specs.declared.nodes.Node.{Node}
use Rattle.swarm_objects.specs.declared.services.Service.{Service}
use Rattle.swarm_objects.specs.declared.tasks.Task.{Task}
use Rattle.swarm_spans.specs.Kept.{AlikeFor, IsAlike, KeepsNodes, KeepsOwnNodes, KeepsServices, KeepsTasks, KeepsWhere}
use Rattle.swarm_spans.specs.Spans.{CoversNodes, CoversTasks, has_duty, is_in, IsWider}
use Rattle.swarm_spans.specs.declared.span.Span.{Span}

-- Lines over tasks.

abbrev pub orphans : Tables → Task → List Duty
orphans t x = when (is_orphaned t x) (duty.Orphan x.id)

abbrev pub rejects : Tables → Task → List Duty
rejects t x = when (is_misplaced t x) (duty.Reject x.id)

abbrev pub restarts : Tables → Task → List Duty
restarts t x = when (wants_restart t x) (duty.Restart x.id)

abbrev pub raises : Tables → Task → List Duty
raises t x = when (wants_raise t x) (duty.Raise x.id)

abbrev pub goes : Tables → Task → List Duty
goes t x = when (is_gone t x) (duty.Gone x.id)

abbrev pub olds : Tables → Task → List Duty
olds t x = when (is_old t x) (duty.Old x.id)

abbrev pub deletes : Tables → Task → List Duty
deletes t x = when (is_removable x) (duty.Delete x.id)

abbrev pub addresses : Tables → Task → List Duty
addresses t x = when (gets_address t x) (duty.Address x.id)

abbrev pub notes : Tables → Task → List Duty
notes t x = when (wants_note t x) (duty.Note x.id)

-- Lines without duties of their own, for the tasks that wait: their spans are what others widen by where all that wait
-- are touched.

abbrev pub is_to_schedule : Task → Bool
is_to_schedule x = is_to_drop x || is_to_place x

abbrev pub is_to_allocate : Task → Bool
is_to_allocate x = is_new x.state && is_wanted x

abbrev pub to_wait : Tables → Task → List Duty
to_wait t x = when (is_to_wait x) (duty.Raise x.id)

abbrev pub to_schedule : Tables → Task → List Duty
to_schedule t x = when (is_to_schedule x) (duty.Drop x.id)

abbrev pub to_allocate : Tables → Task → List Duty
to_allocate t x = when (is_to_allocate x) (duty.Note x.id)

-- The line over nodes.

abbrev pub expires : Tables → Node → List Duty
expires t n = when (is_expired t n) (duty.Expire n.id)

-- What the lines read of a service and of a node.

-- the same tasks count for it
pub record AlikeCounting (a b : Service) : Type 0 where
  pub counts : (x : Task) → counts_for b x ≡ counts_for a x

-- the same tasks are old
pub record AlikeOlds (a b : Service) : Type 0 where
  pub old : (x : Task) → is_old_of x b ≡ is_old_of x a

-- both have all numbers, or neither
pub record AlikeNumbered (a b : Service) : Type 0 where
  pub numbered : has_numbered_ports b ≡ has_numbered_ports a

-- the same ports lack a number
pub record AlikePorts (a b : Service) : Type 0 where
  pub ports : unnumbered_ports b ≡ unnumbered_ports a

-- any two are alike where only being there is read
pub record AlikeThere {X : Type 0} (a b : X) : Type 0 where

-- both are valid, or neither
pub record AlikeValid (a b : Node) : Type 0 where
  pub valid : is_valid_node b ≡ is_valid_node a

-- both are down for long at the same times
pub record AlikeDown (a b : Node) : Type 0 where
  pub down : (t : Tables) → is_long_down t b ≡ is_long_down t a

-- they break the constraints of the same tasks
pub record AlikePlatform (a b : Node) : Type 0 where
  pub breaks : (x : Task) → breaks_constraints x b ≡ breaks_constraints x a

-- both are READY, or neither
pub record AlikeReady (a b : Node) : Type 0 where
  pub ready : is_ready b.state ≡ is_ready a.state

-- What holds a waiting task up, for the part of the row alone: it is to stop, from ASSIGNED to RUNNING.
abbrev pub blocks : Task → Bool
blocks z = is_unwanted z && not (has_ended z || is_below_assigned z)

-- the task is there, blocks the same place, and has the same node
pub record StillBlocks (u : Tables) (z w : Task) : Type 0 where
  pub is : Has u.tasks w
  pub id : w.id ≡ z.id
  pub service : w.service ≡ z.service
  pub place : w.place ≡ z.place
  pub node : w.node ≡ z.node
  pub blocks : blocks w ≡ true

-- each task to wait beside one that blocked its place is in the span, or the other one blocks it still
pub record KeepsBlocked (t u : Tables) (wide : Span) : Type 0 where
  pub beside : (x z : Task) → Has t.tasks x → is_to_wait x ≡ true → Has t.tasks z → is_beside x z ≡ true
      → blocks z ≡ true → (is_in wide x.id ≡ true) ⊎ ((w : Task) × StillBlocks u z w)

-- each task to wait beside one that blocked its place is in the span, or the other one's node is as valid as before
pub record KeepsBlockedOn (t u : Tables) (wide : Span) : Type 0 where
  pub beside : (x z : Task) (n : ℕ) → Has t.tasks x → is_to_wait x ≡ true → Has t.tasks z → is_beside x z ≡ true
      → blocks z ≡ true → z.node ≡ Some n
      → (is_in wide x.id ≡ true) ⊎ IsAlike AlikeValid (row_at node_id n t.nodes) (row_at node_id n u.nodes)

-- no network of the task has an address that had none
pub record NoMoreFree (t u : Tables) (x : Task) : Type 0 where
  pub networks : (n : ℕ) → Has x.template.networks n → has_free_address u n ≡ true → has_free_address t n ≡ true

-- the same numbers and addresses are free at all
pub record FreeAsBefore (t u : Tables) (x : Task) : Type 0 where
  pub ports : (udp : Bool) → has_free_port u udp ≡ has_free_port t udp
  pub networks : (n : ℕ) → has_free_address u n ≡ has_free_address t n

-- where the task is to go is as before
pub record ScheduledAsBefore (t u : Tables) (x : Task) : Type 0 where
  pub same : has_duty (schedule u) x ≡ has_duty (schedule t) x

-- The laws.

abbrev pub DeleteLaw : Type 0
DeleteLaw =
    (t u : Tables) (span wide : Span) → CoversTasks deletes t span → IsWider wide span
    → KeepsTasks is_removable (AlikeFor deletes) t u wide → CoversTasks deletes u wide

abbrev pub OrphanLaw : Type 0
OrphanLaw =
    (t u : Tables) (span wide : Span) → u.clock ≡ t.clock → u.settings ≡ t.settings → CoversTasks orphans t span
    → IsWider wide span → KeepsTasks is_placed (AlikeFor orphans) t u wide → KeepsNodes AlikeDown t u wide
    → CoversTasks orphans u wide

abbrev pub RejectLaw : Type 0
RejectLaw =
    (t u : Tables) (span wide : Span) → CoversTasks rejects t span → IsWider wide span
    → KeepsTasks is_placed (AlikeFor rejects) t u wide → KeepsNodes AlikePlatform t u wide → CoversTasks rejects u wide

abbrev pub RestartLaw : Type 0
RestartLaw =
    (t u : Tables) (span wide : Span) → CoversTasks restarts t span → IsWider wide span
    → KeepsTasks is_live (AlikeFor restarts) t u wide → KeepsServices AlikeCounting t u wide
    → KeepsNodes AlikeValid t u wide → CoversTasks restarts u wide

abbrev pub GoneLaw : Type 0
GoneLaw =
    (t u : Tables) (span wide : Span) → CoversTasks goes t span → IsWider wide span
    → KeepsTasks is_kept (AlikeFor goes) t u wide → KeepsServices AlikeThere t u wide → CoversTasks goes u wide

abbrev pub OldLaw : Type 0
OldLaw =
    (t u : Tables) (span wide : Span) → CoversTasks olds t span → IsWider wide span
    → KeepsTasks is_kept (AlikeFor olds) t u wide → KeepsServices AlikeOlds t u wide → CoversTasks olds u wide

abbrev pub ToWaitLaw : Type 0
ToWaitLaw =
    (t u : Tables) (span wide : Span) → CoversTasks to_wait t span → IsWider wide span
    → KeepsTasks is_to_wait (AlikeFor to_wait) t u wide → CoversTasks to_wait u wide

abbrev pub ToScheduleLaw : Type 0
ToScheduleLaw =
    (t u : Tables) (span wide : Span) → CoversTasks to_schedule t span → IsWider wide span
    → KeepsTasks is_to_schedule (AlikeFor to_schedule) t u wide → CoversTasks to_schedule u wide

abbrev pub ToAllocateLaw : Type 0
ToAllocateLaw =
    (t u : Tables) (span wide : Span) → CoversTasks to_allocate t span → IsWider wide span
    → KeepsTasks is_to_allocate (AlikeFor to_allocate) t u wide → CoversTasks to_allocate u wide

abbrev pub RaiseLaw : Type 0
RaiseLaw =
    (t u : Tables) (span wide : Span) → u.clock ≡ t.clock → CoversTasks raises t span → IsWider wide span
    → KeepsTasks is_to_wait (AlikeFor raises) t u wide → KeepsServices AlikeCounting t u wide
    → KeepsBlocked t u wide → KeepsBlockedOn t u wide → CoversTasks raises u wide

abbrev pub AddressLaw : Type 0
AddressLaw =
    (t u : Tables) (span wide : Span) → CoversTasks addresses t span → IsWider wide span
    → KeepsTasks is_to_allocate (AlikeFor addresses) t u wide → KeepsServices AlikeNumbered t u wide
    → KeepsWhere is_to_allocate (NoMoreFree t u) t wide → CoversTasks addresses u wide

abbrev pub NoteLaw : Type 0
NoteLaw =
    (t u : Tables) (span wide : Span) → CoversTasks notes t span → IsWider wide span
    → KeepsTasks is_to_allocate (AlikeFor notes) t u wide → KeepsServices AlikePorts t u wide
    → KeepsWhere is_to_allocate (FreeAsBefore t u) t wide → CoversTasks notes u wide

abbrev pub ScheduleLaw : Type 0
ScheduleLaw =
    (t u : Tables) (span wide : Span) → CoversTasks schedule t span → IsWider wide span
    → KeepsTasks is_to_schedule (AlikeFor schedule) t u wide
    → KeepsWhere is_to_schedule (ScheduledAsBefore t u) t wide → CoversTasks schedule u wide

-- where a task is to go is as before where no node, no session, no placed task and not the clock changed
abbrev pub ScheduledLaw : Type 0
ScheduledLaw =
    (t u : Tables) → u.clock ≡ t.clock → u.nodes ≡ t.nodes → u.sessions ≡ t.sessions
    → filter is_placed u.tasks ≡ filter is_placed t.tasks → (x : Task) → ScheduledAsBefore t u x

abbrev pub ExpireLaw : Type 0
ExpireLaw =
    (t u : Tables) (span wide : Span) → CoversNodes expires t span → IsWider wide span
    → KeepsOwnNodes (λ n. is_ready n.state) AlikeReady t u wide
    → ((n : ℕ) → (is_in wide n ≡ true) ⊎ (is_session_live u n ≡ is_session_live t n)) → CoversNodes expires u wide
