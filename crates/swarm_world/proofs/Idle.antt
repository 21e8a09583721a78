-- A control loop has no duty where no row is in a span of it.
use Rattle.std.proofs.Common.{Bool, List, None, sym, true, ℕ, ◌∙◌, ◌≡◌}
use Rattle.std.specs.Prelude.{flat_map, nat_le, ◌&&◌, ◌++◌}
use Rattle.swarm_objects.proofs.Tests.{both_are}
use Rattle.swarm_objects.proofs.WalkLemmas.{first_right}
use Rattle.swarm_objects.specs.Duties.{duties}
use Rattle.swarm_objects.specs.Effects.{world_with}
use Rattle.swarm_objects.specs.Loops.Allocator.{port_duties}
use Rattle.swarm_objects.specs.Loops.Scheduler.{schedule}
use Rattle.swarm_objects.specs.Rows.{first_of, node_id, service_id, task_id}
use Rattle.swarm_objects.specs.Usable.{IsUsable}
use Rattle.swarm_objects.specs.World.{Tables}
use Rattle.swarm_objects.specs.declared.duties.Duty.{Duty}
use Rattle.swarm_objects.specs.declared.loops.Role.TheVariants as role
use Rattle.swarm_objects.specs.declared.loops.Role.{Role}
use Rattle.swarm_spans.proofs.Firsts.{flat-none}
use Rattle.swarm_spans.proofs.InSpans.{first-none, none-over}
use Rattle.swarm_spans.specs.Lines.{addresses, deletes, expires, goes, notes, olds, orphans, raises, rejects, restarts}
use Rattle.swarm_spans.specs.Services.Lines.{comes, creates, downs, job_creates, leaves, trims, updates}
use Rattle.swarm_spans.specs.Spans.{Covers, has_duty}
use Rattle.swarm_spans.specs.declared.span.Span.{Span}
use Rattle.swarm_world.proofs.Marking.{allocator_lines, dispatcher_lines, enforcer_lines, jobs_lines}
use Rattle.swarm_world.proofs.Marking.{reaper_lines, replicated_lines, restart_lines}
use Rattle.swarm_world.specs.Inside.Marks.{AreMarked}
use Rattle.swarm_world.specs.declared.marks.Marks.{Marks}

-- it has no number
abbrev is_over : Span → Bool
is_over span = nat_le span.high span.after

-- a line of duties has none where its span is over
no-line : {X : Type 0} (key : X → ℕ) (line : X → List Duty) (span : Span) (rows : List X) →
    Covers key (has_duty line) span rows → is_over span ≡ true → first_of (flat_map line rows) ≡ None
no-line key line span rows covers over =
    flat-none line rows (first-none key (has_duty line) span rows covers (none-over key span rows (sym over)))

-- nor have two of them
no-lines : (xs ys : List Duty) → first_of xs ≡ None → first_of ys ≡ None → first_of (xs ++ ys) ≡ None
no-lines xs ys x y = first_right xs ys (sym x) ∙ y

-- nor has a loop, one by one

abbrev HasNone : Role → Tables → Type 0
HasNone r t = None ≡ first_of (duties r (world_with t))

pub dispatcher_idle : (m : Marks) (t : Tables) → AreMarked m t → (is_over m.tasks.expires && is_over m.tasks.orphans) ≡ true →
    HasNone role.Dispatcher t
dispatcher_idle m t marked over =
    let both = both_are (is_over m.tasks.expires) (is_over m.tasks.orphans) over in
    sym (sym (dispatcher_lines t)
    ∙ no-lines (flat_map (expires t) t.nodes) (flat_map (orphans t) t.tasks)
    (no-line node_id (expires t) m.tasks.expires t.nodes marked.tasks.expires both.0)
    (no-line task_id (orphans t) m.tasks.orphans t.tasks marked.tasks.orphans both.1))

pub enforcer_idle : (m : Marks) (t : Tables) → AreMarked m t → is_over m.tasks.rejects ≡ true → HasNone role.Enforcer t
enforcer_idle m t marked over =
    sym (sym (enforcer_lines t) ∙ no-line task_id (rejects t) m.tasks.rejects t.tasks marked.tasks.rejects over)

pub restart_idle : (m : Marks) (t : Tables) → AreMarked m t → (is_over m.tasks.restarts && is_over m.tasks.raises) ≡ true →
    HasNone role.Restart t
restart_idle m t marked over =
    let both = both_are (is_over m.tasks.restarts) (is_over m.tasks.raises) over in
    sym (sym (restart_lines t)
    ∙ no-lines (flat_map (restarts t) t.tasks) (flat_map (raises t) t.tasks)
    (no-line task_id (restarts t) m.tasks.restarts t.tasks marked.tasks.restarts both.0)
    (no-line task_id (raises t) m.tasks.raises t.tasks marked.tasks.raises both.1))

pub update_idle : (m : Marks) (t : Tables) → AreMarked m t → is_over m.services.updates ≡ true → HasNone role.Update t
update_idle m t marked over =
    sym (no-line service_id (updates t) m.services.updates t.services marked.services.updates over)

pub replicated_idle : (m : Marks) (t : Tables) → AreMarked m t →
    (is_over m.tasks.goes && is_over m.services.downs && is_over m.services.creates) ≡ true → HasNone role.Replicated t
replicated_idle m t marked over =
    let all = both_are (is_over m.tasks.goes && is_over m.services.downs) (is_over m.services.creates) over in
    let both = both_are (is_over m.tasks.goes) (is_over m.services.downs) all.0 in
    sym (sym (replicated_lines t)
    ∙ no-lines (flat_map (goes t) t.tasks ++ flat_map (downs t) t.services) (flat_map (creates t) t.services)
    (no-lines (flat_map (goes t) t.tasks) (flat_map (downs t) t.services)
    (no-line task_id (goes t) m.tasks.goes t.tasks marked.tasks.goes both.0)
    (no-line service_id (downs t) m.services.downs t.services marked.services.downs both.1))
    (no-line service_id (creates t) m.services.creates t.services marked.services.creates all.1))

pub global_idle : (m : Marks) (t : Tables) → AreMarked m t → (is_over m.services.leaves && is_over m.services.comes) ≡ true →
    HasNone role.Global t
global_idle m t marked over =
    let both = both_are (is_over m.services.leaves) (is_over m.services.comes) over in
    sym (no-lines (flat_map (leaves t) t.services) (flat_map (comes t) t.services)
    (no-line service_id (leaves t) m.services.leaves t.services marked.services.leaves both.0)
    (no-line service_id (comes t) m.services.comes t.services marked.services.comes both.1))

pub job_idle : (m : Marks) (t : Tables) → AreMarked m t → (is_over m.tasks.olds && is_over m.services.job_creates) ≡ true →
    HasNone role.Job t
job_idle m t marked over =
    let both = both_are (is_over m.tasks.olds) (is_over m.services.job_creates) over in
    sym (sym (jobs_lines t)
    ∙ no-lines (flat_map (olds t) t.tasks) (flat_map (job_creates t) t.services)
    (no-line task_id (olds t) m.tasks.olds t.tasks marked.tasks.olds both.0)
    (no-line service_id (job_creates t) m.services.job_creates t.services marked.services.job_creates both.1))

pub allocator_idle : (m : Marks) (t : Tables) → AreMarked m t →
    (is_over m.services.ports && is_over m.tasks.addresses && is_over m.tasks.notes) ≡ true → HasNone role.Allocator t
allocator_idle m t marked over =
    let all = both_are (is_over m.services.ports && is_over m.tasks.addresses) (is_over m.tasks.notes) over in
    let both = both_are (is_over m.services.ports) (is_over m.tasks.addresses) all.0 in
    sym (sym (allocator_lines t)
    ∙ no-lines (flat_map (port_duties t) t.services ++ flat_map (addresses t) t.tasks) (flat_map (notes t) t.tasks)
    (no-lines (flat_map (port_duties t) t.services) (flat_map (addresses t) t.tasks)
    (no-line service_id (port_duties t) m.services.ports t.services marked.services.ports both.0)
    (no-line task_id (addresses t) m.tasks.addresses t.tasks marked.tasks.addresses both.1))
    (no-line task_id (notes t) m.tasks.notes t.tasks marked.tasks.notes all.1))

pub scheduler_idle : (m : Marks) (t : Tables) → AreMarked m t → is_over m.tasks.schedules ≡ true → HasNone role.Scheduler t
scheduler_idle m t marked over =
    sym (no-line task_id (schedule t) m.tasks.schedules t.tasks marked.tasks.schedules over)

pub reaper_idle : (m : Marks) (t : Tables) → IsUsable t → AreMarked m t →
    (is_over m.tasks.deletes && is_over m.services.trims) ≡ true → HasNone role.Reaper t
reaper_idle m t usable marked over =
    let both = both_are (is_over m.tasks.deletes) (is_over m.services.trims) over in
    sym (sym (reaper_lines t usable)
    ∙ no-lines (flat_map (deletes t) t.tasks) (flat_map (trims t) t.tasks)
    (no-line task_id (deletes t) m.tasks.deletes t.tasks marked.tasks.deletes both.0)
    (no-line task_id (trims t) m.services.trims t.tasks marked.services.trims both.1))

pub ruleset idle_steps = (dispatcher_idle, enforcer_idle, restart_idle, update_idle, replicated_idle, global_idle, job_idle, allocator_idle, scheduler_idle, reaper_idle)
