-- Puts of tasks that run on: no line can tell them from the former ones.
use Rattle.std.proofs.Common.{◌≡◌, Bool, true, false, inr, List, Some, refl, sym, ap, ◌∙◌, subst, arith}
use Rattle.std.proofs.lemmas.Bool.Decides.{nat_tests}
use Rattle.std.specs.List.{list_any}
use Rattle.std.specs.Prelude.{◌&&◌, ◌||◌, nat_le, not}
use Rattle.swarm_objects.proofs.Tests.{both_are, never-both}
use Rattle.swarm_objects.specs.ChangeLists.{apply_changes}
use Rattle.swarm_objects.specs.Loops.Reaper.{is_removable}
use Rattle.swarm_objects.specs.Loops.Scheduler.{schedule}
use Rattle.swarm_objects.specs.Rows.{row_at, task_id}
use Rattle.swarm_objects.specs.Tasks.Words.{has_ended, is_below_assigned, is_kept, is_live, is_new, is_not_over, is_pending, is_placed, is_to_wait, is_unwanted, is_wanted}
use Rattle.swarm_objects.specs.Usable.{IsUsable}
use Rattle.swarm_objects.specs.Values.Ranks.{rank}
use Rattle.swarm_objects.specs.World.{Tables}
use Rattle.swarm_objects.specs.declared.nodes.Node.{Node}
use Rattle.swarm_objects.specs.declared.rows.Change.{Change}
use Rattle.swarm_objects.specs.declared.rows.Change.TheVariants as change
use Rattle.swarm_objects.specs.declared.services.Service.{Service}
use Rattle.swarm_objects.specs.declared.tasks.Task.{Task}
use Rattle.swarm_objects.specs.declared.tasks.TaskState.{TaskState}
use Rattle.swarm_objects.specs.declared.tasks.TaskState.TheVariants as state
use Rattle.swarm_spans.proofs.Alike.{goes_alike, olds_alike, orphans_alike, rejects_alike, restarts_alike}
use Rattle.swarm_spans.proofs.Blocked.{by_put, put_stays}
use Rattle.swarm_spans.proofs.Grown.{wider_itself}
use Rattle.swarm_spans.proofs.Holders.{among_at, at_among, same_among}
use Rattle.swarm_spans.proofs.TasksCovered.{addresses_on, deletes_on, expires_on, goes_on, notes_on, olds_on, orphans_on, raises_on, rejects_on, restarts_on, schedules_on, tasks_wider, to_allocate_on, to_schedule_on, to_wait_on}
use Rattle.swarm_spans.proofs.Touches.{by_task, ready_task}
use Rattle.swarm_spans.specs.Blocked.{still_blocks, TouchesAllBlocked, TouchesBlocked}
use Rattle.swarm_spans.specs.Holding.{EachPasses, FreesNone, held, HoldsOn, TouchesWhere}
use Rattle.swarm_spans.specs.Kept.{StandAlike}
use Rattle.swarm_spans.specs.Lines.{blocks, is_to_allocate, is_to_schedule}
use Rattle.swarm_spans.specs.Moved.{moves}
use Rattle.swarm_spans.specs.RunsOn.{is_at_work, PutsRunning, RunsOn}
use Rattle.swarm_spans.specs.Spans.{IsWider}
use Rattle.swarm_spans.specs.TasksCovered.{AreTasksCovered}
use Rattle.swarm_spans.specs.Touched.{TouchesAll, TouchesAllReady}
use Rattle.swarm_spans.specs.declared.span.Span.{Span}
use Rattle.swarm_spans.specs.declared.task_spans.TaskSpans.{TaskSpans}

-- How it is told.

pub runs_on : (x y : Task) → true ≡ is_at_work x → true ≡ is_at_work y → false ≡ is_to_wait y → StandAlike x y
    → is_live x ≡ is_live y → x.addresses ≡ y.addresses → x.template.constraints ≡ y.template.constraints → RunsOn x y
runs_on x y worked works waits stand live addresses constraints = record {
  stand = stand;
  worked = sym worked;
  works = sym works;
  waits = sym waits;
  live = live;
  addresses = addresses;
  constraints = constraints;
}

pub puts_running : (t : Tables) (c : Change) (x y : Task) → c ≡ change.PutTask y → Some x ≡ row_at task_id y.id t.tasks
    → RunsOn x y → PutsRunning t c
puts_running t c x y is row runs = record { former = x; new = y; put = is; was = sym row; runs_on = runs }

-- What a task at work is, and isn't.

placed : (x : Task) → is_at_work x ≡ true → is_placed x ≡ true
placed x e = (both_are (is_placed x) (is_wanted x) e).0

wanted : (x : Task) → is_at_work x ≡ true → is_wanted x ≡ true
wanted x e = (both_are (is_placed x) (is_wanted x) e).1

kept : (x : Task) → is_at_work x ≡ true → is_kept x ≡ true
kept x e = let w = wanted x e in grind (arith, nat_tests, w)

up : (x : Task) → is_at_work x ≡ true → is_not_over x ≡ true
up x e = (both_are _ (is_not_over x) (placed x e)).1

not-ended : (x : Task) → is_at_work x ≡ true → has_ended x ≡ false
not-ended x e = let u = up x e in grind (arith, nat_tests, u)

from-assigned : (x : Task) → is_at_work x ≡ true → is_below_assigned x ≡ false
from-assigned x e =
    let a = (both_are (nat_le (rank state.Assigned) (rank x.state)) (is_not_over x) (placed x e)).0 in
    grind (arith, nat_tests, a)

new-below : (s : TaskState) → is_new s ≡ true → rank s ≡ 0
new-below state.New e = refl
new-below state.Pending e = absurd cc
new-below state.Assigned e = absurd cc
new-below state.Accepted e = absurd cc
new-below state.Preparing e = absurd cc
new-below state.Ready e = absurd cc
new-below state.Starting e = absurd cc
new-below state.Running e = absurd cc
new-below state.Complete e = absurd cc
new-below state.Shutdown e = absurd cc
new-below state.Failed e = absurd cc
new-below state.Rejected e = absurd cc
new-below state.Remove e = absurd cc
new-below state.Orphaned e = absurd cc

pending-below : (s : TaskState) → is_pending s ≡ true → rank s ≡ 64
pending-below state.New e = absurd cc
pending-below state.Pending e = refl
pending-below state.Assigned e = absurd cc
pending-below state.Accepted e = absurd cc
pending-below state.Preparing e = absurd cc
pending-below state.Ready e = absurd cc
pending-below state.Starting e = absurd cc
pending-below state.Running e = absurd cc
pending-below state.Complete e = absurd cc
pending-below state.Shutdown e = absurd cc
pending-below state.Failed e = absurd cc
pending-below state.Rejected e = absurd cc
pending-below state.Remove e = absurd cc
pending-below state.Orphaned e = absurd cc

not-to-allocate : {A : Type 0} (x : Task) → is_at_work x ≡ true → is_to_allocate x ≡ true → A
not-to-allocate x e k =
    let low = new-below x.state (both_are (is_new x.state) (is_wanted x) k).0 in
    let high = from-assigned x e in
    absurd (grind (arith, nat_tests, low, high))

not-to-schedule : {A : Type 0} (x : Task) → is_at_work x ≡ true → is_to_schedule x ≡ true → A
not-to-schedule {A} x e k = go (is_below_assigned x) (is_pending x.state) refl refl
  where
    go : (a b : Bool) → is_below_assigned x ≡ a → is_pending x.state ≡ b → A
    go true b below pending = never-both (is_below_assigned x) (from-assigned x e) below
    go false true below pending =
        let low = pending-below x.state pending in
        let high = from-assigned x e in
        absurd (grind (arith, nat_tests, low, high))
    go false false below pending =
        never-both (is_to_schedule x)
        (ap (λ a. (a && is_unwanted x) || (is_pending x.state && is_wanted x)) below
        ∙ ap (λ b. b && is_wanted x) pending) k

not-removable : {A : Type 0} (x : Task) → is_at_work x ≡ true → is_removable x ≡ true → A
not-removable x e k = never-both (is_removable x) (ap (λ b. not b && (is_below_assigned x || has_ended x)) (kept x e)) k

not-in-the-way : (x : Task) → is_at_work x ≡ true → blocks x ≡ false
not-in-the-way x e =
    let w = wanted x e in
    let un : is_unwanted x ≡ false = grind (arith, nat_tests, w) in
    ap (λ b. b && not (has_ended x || is_below_assigned x)) un

-- What it touches.

touches : {may : Task → Bool} {AlikeTask : Task → Task → Type 0} {AlikeService : Service → Service → Type 0}
    {AlikeNode : Node → Node → Type 0} (t : Tables) (cs : List Change) (wide : Span)
    → ((x y : Task) → RunsOn x y → may y ≡ true → AlikeTask x y) → EachPasses (PutsRunning t) cs
    → TouchesAll may AlikeTask AlikeService AlikeNode t wide cs
touches {may} {AlikeTask} {AlikeService} {AlikeNode} t cs wide alike each = record {
  each = λ c h.
      let p = each.each c h in
      by_task may AlikeTask AlikeService AlikeNode t wide c p.new p.put
      (record { own = λ above can. inr (inr (p.former, p.new, p.was, refl, alike p.former p.new p.runs_on can)) });
}

none-ready : (t : Tables) (cs : List Change) (wide : Span) → EachPasses (PutsRunning t) cs → TouchesAllReady wide cs
none-ready t cs wide each = record { each = λ c h. let p = each.each c h in ready_task wide c p.new p.put }

none-blocked : (t : Tables) (cs : List Change) (waiting wide : Span) → IsUsable t → EachPasses (PutsRunning t) cs
    → TouchesAllBlocked t waiting wide cs
none-blocked t cs waiting wide usable each = inr (record { each = λ c h. one c (each.each c h) })
  where
    one : (c : Change) → PutsRunning t c → TouchesBlocked t waiting wide c
    one c p =
        by_put t waiting wide c p.new p.put
        (put_stays t wide p.new p.former usable (sym p.was)
        (sym (ap (λ b. b && not (still_blocks p.former p.new)) (not-in-the-way p.former p.runs_on.worked))))

holds-on : (t : Tables) (cs : List Change) (waiting wide : Span) → EachPasses (PutsRunning t) cs
    → TouchesWhere (HoldsOn t) cs waiting wide
holds-on t cs waiting wide each = inr (record { each = λ c h. one c (each.each c h) })
  where
    one : (c : Change) → PutsRunning t c → HoldsOn t c
    one c p =
        subst (HoldsOn t) (sym p.put) (
          at_among t p.new.id p.former (held p.new) (sym p.was)
              (same_among p.former p.new (up p.new p.runs_on.works) p.runs_on.addresses),
          among_at t p.new.id p.former (held p.new) (sym p.was)
              (same_among p.new p.former (up p.former p.runs_on.worked) (sym p.runs_on.addresses)),
        )

frees-none : (t : Tables) (cs : List Change) (waiting wide : Span) → EachPasses (PutsRunning t) cs
    → TouchesWhere (FreesNone t) cs waiting wide
frees-none t cs waiting wide each = inr (record { each = λ c h. one c (each.each c h) })
  where
    one : (c : Change) → PutsRunning t c → FreesNone t c
    one c p =
        subst (FreesNone t) (sym p.put)
        (at_among t p.new.id p.former (held p.new) (sym p.was)
        (same_among p.former p.new (up p.new p.runs_on.works) p.runs_on.addresses))

-- All lines, of which one is widened.

same-placed : (x y : Task) → RunsOn x y → is_placed x ≡ is_placed y
same-placed x y r = placed x r.worked ∙ sym (placed y r.works)

same-kept : (x y : Task) → RunsOn x y → is_kept x ≡ is_kept y
same-kept x y r = kept x r.worked ∙ sym (kept y r.works)

same-ended : (x y : Task) → RunsOn x y → has_ended x ≡ has_ended y
same-ended x y r = not-ended x r.worked ∙ sym (not-ended y r.works)

pub run_stays : (t : Tables) (spans : TaskSpans) (s : Span) → IsWider s spans.schedules → AreTasksCovered t spans
    → AreTasksCovered t (record spans { schedules = s })
run_stays t spans s wider are = record {
  expires = are.expires;
  orphans = are.orphans;
  rejects = are.rejects;
  restarts = are.restarts;
  raises = are.raises;
  goes = are.goes;
  olds = are.olds;
  deletes = are.deletes;
  addresses = are.addresses;
  notes = are.notes;
  schedules = tasks_wider schedule t spans.schedules s wider are.schedules;
  to_wait = are.to_wait;
  to_schedule = are.to_schedule;
  to_allocate = are.to_allocate;
}

pub run_goes_on : (t : Tables) (cs : List Change) (spans : TaskSpans) (s : Span) → IsUsable t
    → IsUsable (apply_changes t cs) → EachPasses (PutsRunning t) cs → AreTasksCovered t spans
    → IsWider s spans.schedules → (list_any (moves t) cs ≡ true → IsWider s spans.to_schedule)
    → AreTasksCovered (apply_changes t cs) (record spans { schedules = s })
run_goes_on t cs spans s before after each are wider all = record {
  expires =
      expires_on t cs spans.expires spans.expires after are.expires (wider_itself spans.expires)
      (none-ready t cs spans.expires each);
  orphans =
      orphans_on t cs spans.orphans spans.orphans before after are.orphans (wider_itself spans.orphans)
      (touches t cs spans.orphans (λ x y r can. orphans_alike x y r.stand (same-placed x y r)) each);
  rejects =
      rejects_on t cs spans.rejects spans.rejects before after are.rejects (wider_itself spans.rejects)
      (touches t cs spans.rejects
      (λ x y r can. rejects_alike x y r.stand (same-placed x y r) r.live r.constraints) each);
  restarts =
      restarts_on t cs spans.restarts spans.restarts before after are.restarts (wider_itself spans.restarts)
      (touches t cs spans.restarts (λ x y r can. restarts_alike x y r.stand r.live (same-ended x y r)) each);
  raises =
      raises_on spans.to_wait t cs spans.raises spans.raises before after are.to_wait
      (none-blocked t cs spans.to_wait spans.raises before each) are.raises (wider_itself spans.raises)
      (touches t cs spans.raises (λ x y r can. never-both (is_to_wait y) r.waits can) each);
  goes =
      goes_on t cs spans.goes spans.goes before after are.goes (wider_itself spans.goes)
      (touches t cs spans.goes (λ x y r can. goes_alike x y r.stand (same-kept x y r)) each);
  olds =
      olds_on t cs spans.olds spans.olds before after are.olds (wider_itself spans.olds)
      (touches t cs spans.olds (λ x y r can. olds_alike x y r.stand (same-kept x y r)) each);
  deletes =
      deletes_on t cs spans.deletes spans.deletes before after are.deletes (wider_itself spans.deletes)
      (touches t cs spans.deletes (λ x y r can. not-removable y r.works can) each);
  addresses =
      addresses_on spans.to_allocate t cs spans.addresses spans.addresses before after are.to_allocate
      (frees-none t cs spans.to_allocate spans.addresses each) are.addresses (wider_itself spans.addresses)
      (touches t cs spans.addresses (λ x y r can. not-to-allocate y r.works can) each);
  notes =
      notes_on spans.to_allocate t cs spans.notes spans.notes before after are.to_allocate
      (holds-on t cs spans.to_allocate spans.notes each) are.notes (wider_itself spans.notes)
      (touches t cs spans.notes (λ x y r can. not-to-allocate y r.works can) each);
  schedules =
      schedules_on spans.to_schedule t cs spans.schedules s before after are.to_schedule all are.schedules wider
      (touches t cs s (λ x y r can. not-to-schedule y r.works can) each);
  to_wait =
      to_wait_on t cs spans.to_wait spans.to_wait before after are.to_wait (wider_itself spans.to_wait)
      (touches t cs spans.to_wait (λ x y r can. never-both (is_to_wait y) r.waits can) each);
  to_schedule =
      to_schedule_on t cs spans.to_schedule spans.to_schedule before after are.to_schedule
      (wider_itself spans.to_schedule)
      (touches t cs spans.to_schedule (λ x y r can. not-to-schedule y r.works can) each);
  to_allocate =
      to_allocate_on t cs spans.to_allocate spans.to_allocate before after are.to_allocate
      (wider_itself spans.to_allocate)
      (touches t cs spans.to_allocate (λ x y r can. not-to-allocate y r.works can) each);
}
