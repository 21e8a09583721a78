-- A duty on a job is due exactly where a row has it.
use Rattle.std.proofs.Common.{◌≡◌, ℕ, Bool, true, false, eqb, List, length, ltb, refl, sym, ap, ◌∙◌}
use Rattle.std.proofs.lemmas.List.Folds.{list_any-append}
use Rattle.std.specs.Prelude.{◌||◌, ◌&&◌, flat_map, not}
use Rattle.std.specs.List.{list_any}
use Rattle.swarm_plain.proofs.AnyOf.{any_none, any_where, one_number}
use Rattle.swarm_objects.proofs.Tests.{any_each, any_same, or_false}
use Rattle.swarm_objects.specs.Duties.{is_due}
use Rattle.swarm_objects.specs.Kinds.{kind_place, same_duty}
use Rattle.swarm_objects.specs.Loops.Jobs.{has_old, is_old, jobs, next_duty}
use Rattle.swarm_objects.specs.Loops.Words.{duty_where, when}
use Rattle.swarm_objects.specs.Rows.{first_gap}
use Rattle.swarm_objects.specs.Tasks.Places.{held_places, live_places}
use Rattle.swarm_objects.specs.World.{Tables, World}
use Rattle.swarm_objects.specs.declared.duties.Duty.{Duty}
use Rattle.swarm_objects.specs.declared.duties.Duty.TheVariants as duty
use Rattle.swarm_objects.specs.declared.services.Mode.{Mode}
use Rattle.swarm_objects.specs.declared.services.Mode.TheVariants as mode
use Rattle.swarm_objects.specs.declared.services.Service.{Service}
use Rattle.swarm_objects.specs.declared.tasks.Task.{Task}

abbrev olds : Tables → List Duty
olds t = duty_where (is_old t) (λ x. duty.Old x.id) t.tasks

abbrev nexts : Tables → List Duty
nexts t = flat_map (λ s. next_duty t s s.spec.mode) t.services

-- the job's next task, where it has one
abbrev has_next : Tables → Service → ℕ → ℕ → Bool
has_next t s concurrent total =
    ltb (length (live_places t s)) concurrent && ltb (length (held_places t s)) total && not (has_old t s)

no_olds : (t : Tables) (d : Duty) → eqb (kind_place d) 15 ≡ false → list_any (same_duty d) (olds t) ≡ false
no_olds t d other =
    any_where (same_duty d) (λ (x : Task). duty.Old x.id) (is_old t) t.tasks
    ∙ any_none (λ (x : Task). same_duty d (duty.Old x.id) && is_old t x) t.tasks (λ (x : Task). rw other refl)

no_next : (t : Tables) (s : Service) (m : Mode) (d : Duty) → eqb (kind_place d) 16 ≡ false →
    list_any (same_duty d) (next_duty t s m) ≡ false
no_next t s (mode.Replicated n) d other = refl
no_next t s mode.Global d other = refl
no_next t s (mode.Job concurrent total) d other = go (has_next t s concurrent total)
  where
    go : (b : Bool) → list_any (same_duty d) (when b (duty.JobCreate s.id (first_gap 0 (held_places t s)))) ≡ false
    go true = rw other refl
    go false = refl

no_nexts : (t : Tables) (d : Duty) → eqb (kind_place d) 16 ≡ false → list_any (same_duty d) (nexts t) ≡ false
no_nexts t d other =
    any_each (same_duty d) (λ (s : Service). next_duty t s s.spec.mode) t.services
    ∙ any_none (λ (s : Service). list_any (same_duty d) (next_duty t s s.spec.mode)) t.services
    (λ (s : Service). no_next t s s.spec.mode d other)

parts : (t : Tables) (d : Duty) →
    list_any (same_duty d) (jobs t) ≡ (list_any (same_duty d) (olds t) || list_any (same_duty d) (nexts t))
parts t d = list_any-append (same_duty d) (olds t) (nexts t)

pub old_due : (w : World) (id : ℕ) →
    list_any (λ x. eqb x.id id && is_old w.tables x) w.tables.tasks ≡ is_due w (duty.Old id)
old_due w id =
    let t = w.tables in
    let d = duty.Old id in
    let p = same_duty d in
    let mine : list_any p (olds t) ≡ list_any (λ (x : Task). eqb x.id id && is_old t x) t.tasks =
    any_where p (λ (x : Task). duty.Old x.id) (is_old t) t.tasks
    ∙ any_same (λ (x : Task). p (duty.Old x.id) && is_old t x) (λ (x : Task). eqb x.id id && is_old t x) t.tasks
    (λ (x : Task). ap (λ b. b && is_old t x) (one_number id x.id)) in
    sym (parts t d
    ∙ ap (λ b. list_any p (olds t) || b) (no_nexts t d refl)
    ∙ or_false (list_any p (olds t))
    ∙ mine)

-- a job gets a task in this slot
pub next_due : (w : World) (id slot : ℕ) →
    list_any (λ s. list_any (same_duty (duty.JobCreate id slot)) (next_duty w.tables s s.spec.mode)) w.tables.services
    ≡ is_due w (duty.JobCreate id slot)
next_due w id slot =
    let t = w.tables in
    let d = duty.JobCreate id slot in
    let p = same_duty d in
    sym (parts t d
    ∙ ap (λ b. b || list_any p (nexts t)) (no_olds t d refl)
    ∙ any_each p (λ (s : Service). next_duty t s s.spec.mode) t.services)
