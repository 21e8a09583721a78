-- A duty on a replicated service is due exactly where a row has it.
use Rattle.std.proofs.Common.{◌≡◌, ℕ, Bool, true, false, cond, eqb, List, [], ◌++◌, length, ltb, Option, Some, None, refl, sym, ap, ◌∙◌}
use Rattle.std.proofs.lemmas.List.Folds.{list_any-append}
use Rattle.std.specs.Prelude.{◌||◌, ◌&&◌, flat_map, option_to_list}
use Rattle.std.specs.List.{list_any}
use Rattle.std.specs.Option.{option_map}
use Rattle.swarm_plain.proofs.AnyOf.{any_none, any_where, one_number}
use Rattle.swarm_objects.proofs.Tests.{any_each, any_same, or_false}
use Rattle.swarm_objects.specs.Duties.{is_due}
use Rattle.swarm_objects.specs.Kinds.{kind_place, same_duty}
use Rattle.swarm_objects.specs.Loops.Replicated.{create_duty, down_duty, first_to_go, is_gone, replicated}
use Rattle.swarm_objects.specs.Loops.Words.{duty_where, when}
use Rattle.swarm_objects.specs.Rows.{first_gap}
use Rattle.swarm_objects.specs.Tasks.Places.{held_places}
use Rattle.swarm_objects.specs.World.{Tables, World}
use Rattle.swarm_objects.specs.declared.duties.Duty.{Duty}
use Rattle.swarm_objects.specs.declared.duties.Duty.TheVariants as duty
use Rattle.swarm_objects.specs.declared.services.Mode.{Mode}
use Rattle.swarm_objects.specs.declared.services.Mode.TheVariants as mode
use Rattle.swarm_objects.specs.declared.services.Service.{Service}
use Rattle.swarm_objects.specs.declared.tasks.Task.{Task}

abbrev gone : Tables → List Duty
gone t = duty_where (is_gone t) (λ x. duty.Gone x.id) t.tasks

abbrev downs : Tables → List Duty
downs t = flat_map (λ s. down_duty t s s.spec.mode) t.services

abbrev creates : Tables → List Duty
creates t = flat_map (λ s. create_duty t s s.spec.mode) t.services

no_gone : (t : Tables) (d : Duty) → eqb (kind_place d) 10 ≡ false → list_any (same_duty d) (gone t) ≡ false
no_gone t d other =
    any_where (same_duty d) (λ (x : Task). duty.Gone x.id) (is_gone t) t.tasks
    ∙ any_none (λ (x : Task). same_duty d (duty.Gone x.id) && is_gone t x) t.tasks (λ (x : Task). rw other refl)

no_down : (t : Tables) (s : Service) (m : Mode) (d : Duty) → eqb (kind_place d) 11 ≡ false →
    list_any (same_duty d) (down_duty t s m) ≡ false
no_down t s (mode.Replicated n) d other = go (ltb n (length (held_places t s))) (first_to_go t s)
  where
    go : (b : Bool) (o : Option ℕ) →
        list_any (same_duty d) (cond b (option_to_list (option_map (duty.Down s.id) o)) []) ≡ false
    go true (Some k) = rw other refl
    go true None = refl
    go false o = refl
no_down t s mode.Global d other = refl
no_down t s (mode.Job concurrent total) d other = refl

no_downs : (t : Tables) (d : Duty) → eqb (kind_place d) 11 ≡ false → list_any (same_duty d) (downs t) ≡ false
no_downs t d other =
    any_each (same_duty d) (λ (s : Service). down_duty t s s.spec.mode) t.services
    ∙ any_none (λ (s : Service). list_any (same_duty d) (down_duty t s s.spec.mode)) t.services
    (λ (s : Service). no_down t s s.spec.mode d other)

no_create : (t : Tables) (s : Service) (m : Mode) (d : Duty) → eqb (kind_place d) 12 ≡ false →
    list_any (same_duty d) (create_duty t s m) ≡ false
no_create t s (mode.Replicated n) d other = go (ltb (length (held_places t s)) n)
  where
    go : (b : Bool) →
        list_any (same_duty d) (when b (duty.ReplicatedCreate s.id (first_gap 1 (held_places t s)))) ≡ false
    go true = rw other refl
    go false = refl
no_create t s mode.Global d other = refl
no_create t s (mode.Job concurrent total) d other = refl

no_creates : (t : Tables) (d : Duty) → eqb (kind_place d) 12 ≡ false → list_any (same_duty d) (creates t) ≡ false
no_creates t d other =
    any_each (same_duty d) (λ (s : Service). create_duty t s s.spec.mode) t.services
    ∙ any_none (λ (s : Service). list_any (same_duty d) (create_duty t s s.spec.mode)) t.services
    (λ (s : Service). no_create t s s.spec.mode d other)

parts : (t : Tables) (d : Duty) →
    list_any (same_duty d) (replicated t)
    ≡ ((list_any (same_duty d) (gone t) || list_any (same_duty d) (downs t)) || list_any (same_duty d) (creates t))
parts t d =
    list_any-append (same_duty d) (gone t ++ downs t) (creates t)
    ∙ ap (λ b. b || list_any (same_duty d) (creates t)) (list_any-append (same_duty d) (gone t) (downs t))

pub gone_due : (w : World) (id : ℕ) →
    list_any (λ x. eqb x.id id && is_gone w.tables x) w.tables.tasks ≡ is_due w (duty.Gone id)
gone_due w id =
    let t = w.tables in
    let d = duty.Gone id in
    let p = same_duty d in
    let mine : list_any p (gone t) ≡ list_any (λ (x : Task). eqb x.id id && is_gone t x) t.tasks =
    any_where p (λ (x : Task). duty.Gone x.id) (is_gone t) t.tasks
    ∙ any_same (λ (x : Task). p (duty.Gone x.id) && is_gone t x) (λ (x : Task). eqb x.id id && is_gone t x) t.tasks
    (λ (x : Task). ap (λ b. b && is_gone t x) (one_number id x.id)) in
    sym (parts t d
    ∙ ap (λ b. (list_any p (gone t) || b) || list_any p (creates t)) (no_downs t d refl)
    ∙ ap (λ b. (list_any p (gone t) || false) || b) (no_creates t d refl)
    ∙ or_false (list_any p (gone t) || false)
    ∙ or_false (list_any p (gone t))
    ∙ mine)

-- a service gives up this place
pub down_due : (w : World) (id slot : ℕ) →
    list_any (λ s. list_any (same_duty (duty.Down id slot)) (down_duty w.tables s s.spec.mode)) w.tables.services
    ≡ is_due w (duty.Down id slot)
down_due w id slot =
    let t = w.tables in
    let d = duty.Down id slot in
    let p = same_duty d in
    sym (parts t d
    ∙ ap (λ b. (b || list_any p (downs t)) || list_any p (creates t)) (no_gone t d refl)
    ∙ ap (λ b. list_any p (downs t) || b) (no_creates t d refl)
    ∙ or_false (list_any p (downs t))
    ∙ any_each p (λ (s : Service). down_duty t s s.spec.mode) t.services)

-- a service gets a task in this slot
pub create_due : (w : World) (id slot : ℕ) →
    list_any (λ s. list_any (same_duty (duty.ReplicatedCreate id slot)) (create_duty w.tables s s.spec.mode))
    w.tables.services
    ≡ is_due w (duty.ReplicatedCreate id slot)
create_due w id slot =
    let t = w.tables in
    let d = duty.ReplicatedCreate id slot in
    let p = same_duty d in
    sym (parts t d
    ∙ ap (λ b. (b || list_any p (downs t)) || list_any p (creates t)) (no_gone t d refl)
    ∙ ap (λ b. b || list_any p (creates t)) (no_downs t d refl)
    ∙ any_each p (λ (s : Service). create_duty t s s.spec.mode) t.services)
