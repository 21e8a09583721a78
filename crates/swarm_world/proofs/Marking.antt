-- The lines of each control loop's list, and its first duty.
use Rattle.std.proofs.Common.{◌≡◌, Bool, true, false, cond, List, [], ◌∷◌, refl, ap, ◌∙◌}
use Rattle.std.specs.Prelude.{◌++◌, ◌&&◌, filter, flat_map, map}
use Rattle.swarm_objects.proofs.WalkLemmas.{first_left, first_right}
use Rattle.swarm_objects.specs.Duties.{duties}
use Rattle.swarm_objects.specs.Effects.{world_with}
use Rattle.swarm_objects.specs.Loops.Allocator.{gets_address, port_duties, wants_note}
use Rattle.swarm_objects.specs.Loops.Dispatcher.{is_expired, is_orphaned}
use Rattle.swarm_objects.specs.Loops.Enforcer.{is_misplaced}
use Rattle.swarm_objects.specs.Loops.Jobs.{is_old}
use Rattle.swarm_objects.specs.Loops.Reaper.{is_past, is_removable, is_trimmed}
use Rattle.swarm_objects.specs.Loops.Replicated.{is_gone}
use Rattle.swarm_objects.specs.Loops.Restart.{wants_raise, wants_restart}
use Rattle.swarm_objects.specs.Loops.Words.{duty_where, when}
use Rattle.swarm_objects.specs.Rows.{first_of}
use Rattle.swarm_objects.specs.Usable.{IsUsable}
use Rattle.swarm_objects.specs.World.{Tables}
use Rattle.swarm_objects.specs.declared.duties.Duty.{Duty}
use Rattle.swarm_objects.specs.declared.duties.Duty.TheVariants as duty
use Rattle.swarm_objects.specs.declared.loops.Role.TheVariants as role
use Rattle.swarm_spans.specs.Lines.{addresses, deletes, expires, goes, notes, olds, orphans, raises, rejects, restarts}
use Rattle.swarm_spans.specs.Services.Lines.{creates, downs, job_creates, trims}
use Rattle.swarm_upkeep.proofs.Pasts.{trimmed_is_past}

pub ruleset first_steps = (first_left, first_right)

-- row by row, or all that pass
where_is : {X : Type 0} (test : X → Bool) (f : X → Duty) (rows : List X)
    → flat_map (λ x. when (test x) (f x)) rows ≡ duty_where test f rows
where_is test f [] = refl
where_is {X} test f (x ∷ rows) = go (test x) (where_is test f rows)
  where
    go : (b : Bool) → flat_map (λ y. when (test y) (f y)) rows ≡ duty_where test f rows
        → when b (f x) ++ flat_map (λ y. when (test y) (f y)) rows ≡ map f (cond b (x ∷ filter test rows) (filter test rows))
    go true below = ap (λ l. f x ∷ l) below
    go false below = below

pub dispatcher_lines : (t : Tables) → first_of (flat_map (expires t) t.nodes ++ flat_map (orphans t) t.tasks)
    ≡ first_of (duties role.Dispatcher (world_with t))
dispatcher_lines t =
    ap (λ l. first_of (l ++ flat_map (orphans t) t.tasks)) (where_is (is_expired t) (λ n. duty.Expire n.id) t.nodes)
    ∙ ap (λ l. first_of (duty_where (is_expired t) (λ n. duty.Expire n.id) t.nodes ++ l))
    (where_is (is_orphaned t) (λ x. duty.Orphan x.id) t.tasks)

pub enforcer_lines : (t : Tables) → first_of (flat_map (rejects t) t.tasks) ≡ first_of (duties role.Enforcer (world_with t))
enforcer_lines t = ap first_of (where_is (is_misplaced t) (λ x. duty.Reject x.id) t.tasks)

pub restart_lines : (t : Tables) → first_of (flat_map (restarts t) t.tasks ++ flat_map (raises t) t.tasks)
    ≡ first_of (duties role.Restart (world_with t))
restart_lines t =
    ap (λ l. first_of (l ++ flat_map (raises t) t.tasks)) (where_is (wants_restart t) (λ x. duty.Restart x.id) t.tasks)
    ∙ ap (λ l. first_of (duty_where (wants_restart t) (λ x. duty.Restart x.id) t.tasks ++ l))
    (where_is (wants_raise t) (λ x. duty.Raise x.id) t.tasks)

pub replicated_lines : (t : Tables)
    → first_of (flat_map (goes t) t.tasks ++ flat_map (downs t) t.services ++ flat_map (creates t) t.services)
    ≡ first_of (duties role.Replicated (world_with t))
replicated_lines t =
    ap (λ l. first_of (l ++ flat_map (downs t) t.services ++ flat_map (creates t) t.services))
    (where_is (is_gone t) (λ x. duty.Gone x.id) t.tasks)

pub jobs_lines : (t : Tables) → first_of (flat_map (olds t) t.tasks ++ flat_map (job_creates t) t.services)
    ≡ first_of (duties role.Job (world_with t))
jobs_lines t =
    ap (λ l. first_of (l ++ flat_map (job_creates t) t.services)) (where_is (is_old t) (λ x. duty.Old x.id) t.tasks)

pub allocator_lines : (t : Tables)
    → first_of (flat_map (port_duties t) t.services ++ flat_map (addresses t) t.tasks ++ flat_map (notes t) t.tasks)
    ≡ first_of (duties role.Allocator (world_with t))
allocator_lines t =
    ap (λ l. first_of (flat_map (port_duties t) t.services ++ l ++ flat_map (notes t) t.tasks))
    (where_is (gets_address t) (λ x. duty.Address x.id) t.tasks)
    ∙ ap (λ l. first_of (flat_map (port_duties t) t.services ++ duty_where (gets_address t) (λ x. duty.Address x.id) t.tasks ++ l))
    (where_is (wants_note t) (λ x. duty.Note x.id) t.tasks)

pub reaper_lines : (t : Tables) → IsUsable t → first_of (flat_map (deletes t) t.tasks ++ flat_map (trims t) t.tasks)
    ≡ first_of (duties role.Reaper (world_with t))
reaper_lines t usable =
    ap (λ l. first_of (l ++ flat_map (trims t) t.tasks)) (where_is is_removable (λ x. duty.Delete x.id) t.tasks)
    ∙ ap (λ l. first_of (duty_where is_removable (λ x. duty.Delete x.id) t.tasks ++ l))
    (where_is (λ x. is_past x && is_trimmed t x) (λ x. duty.Trim x.id) t.tasks)
    ∙ or_first (duty_where is_removable (λ x. duty.Delete x.id) t.tasks)
    (duty_where (λ x. is_past x && is_trimmed t x) (λ x. duty.Trim x.id) t.tasks)
    (duty_where (is_trimmed t) (λ x. duty.Trim x.id) t.tasks) (trimmed_is_past t usable)
  where
    or_first : (xs ys zs : List Duty) → first_of ys ≡ first_of zs → first_of (xs ++ ys) ≡ first_of (xs ++ zs)
    or_first [] ys zs e = e
    or_first (x ∷ xs) ys zs e = refl

pub ruleset line_steps =
    (dispatcher_lines, enforcer_lines, restart_lines, replicated_lines, jobs_lines, allocator_lines, reaper_lines)
