-- A task that is to be removed goes: its place is held as it was, and the measure is smaller.
use Rattle.std.proofs.Common.{Bool, List, None, Option, Some, ap, arith, false, not, refl, subst, sym, true, ℕ, ◌+◌, ◌∙◌, ◌≡◌, ◌≤◌}
use Rattle.std.proofs.lemmas.Bool.Decides.{nat_tests}
use Rattle.std.specs.List.{list_any}
use Rattle.std.specs.Prelude.{filter, is_some, ◌&&◌, ◌||◌}
use Rattle.swarm_settle.proofs.Bound.ComingSteps.{coming-stays}
use Rattle.swarm_settle.proofs.Bound.Falls.Deletes.{falls-left}
use Rattle.swarm_settle.proofs.Bound.Falls.Trims.{any-left, its-own, last-left, place-left, stays}
use Rattle.swarm_settle.proofs.Bound.Messages.World.{Known}
use Rattle.swarm_settle.proofs.Bound.Sums.{sum-le}
use Rattle.swarm_settle.specs.Bound.Coming.{coming_of, is_new_since}
use Rattle.swarm_settle.proofs.Bound.Falls.Restarting.{AreWhole}
use Rattle.swarm_settle.specs.Bound.Measure.{measure}
use Rattle.swarm_model.proofs.Base.IsDuty.{IsDuty}
use Rattle.swarm_objects.proofs.Newest.{newest_has}
use Rattle.swarm_objects.proofs.RowLemmas.{Has-filter_cases}
use Rattle.swarm_objects.proofs.Tests.{any-has, false_from_ne_true, first_so, never-both, not-true}
use Rattle.swarm_objects.specs.Changes.{with_tables}
use Rattle.swarm_objects.specs.Loops.Reaper.{after_delete, without_task}
use Rattle.swarm_objects.specs.Rows.{Has, is_some_and}
use Rattle.swarm_objects.specs.Services.Words.{is_live_clean}
use Rattle.swarm_objects.specs.Tasks.Places.{closes, is_held, is_in_place, newest, place_at, tasks_of_place}
use Rattle.swarm_objects.specs.Tasks.Words.{is_kept, is_live}
use Rattle.swarm_objects.specs.World.{Tables, World}
use Rattle.swarm_objects.specs.declared.duties.Duty.TheVariants as duty
use Rattle.swarm_objects.specs.declared.services.Service.{Service}
use Rattle.swarm_objects.specs.declared.tasks.Place.{Place}
use Rattle.swarm_objects.specs.declared.tasks.Task.{Task}

-- a task that is to be removed neither closes its place nor is live
never-closes : (x : Task) → is_kept x ≡ false → closes x ≡ false
never-closes x out = go (is_some x.closed)
  where
    go : (b : Bool) → (b && is_kept x) ≡ false
    go true = out
    go false = refl

none-held : (ys : List Task) → ((y : Task) → Has ys y → (is_live y ≡ false) × (closes y ≡ false)) →
    (list_any is_live ys || is_some_and closes (newest ys)) ≡ false
none-held ys none =
    ap (λ (b : Bool). b || is_some_and closes (newest ys)) (false_from_ne_true (list_any is_live ys)
    (λ e. let from = any-has is_live ys e in absurd (never-both (is_live from.0) (none from.0 from.1).0 from.2)))
    ∙ go (newest ys) refl
  where
    go : (o : Option Task) → newest ys ≡ o → is_some_and closes o ≡ false
    go None at = refl
    go (Some y) at = (none y (newest_has ys y at)).1

pub falls-delete : (m : ℕ) (w : World) (id : ℕ) → Known w → AreWhole w.tables → IsDuty w (duty.Delete id) →
    measure m (with_tables w (after_delete w.tables id)) + 1 ≤ measure m w
falls-delete m w id known whole of =
    subst (λ (k : ℕ). measure m (with_tables w (after_delete w.tables k)) + 1 ≤ measure m w) of.id_is
    (falls-left m w x known of.there
    (sum-le (coming_of m u) (coming_of m t) t.services
    (λ s h. coming-stays m t u s (record { nodes = refl; live = λ n. refl })
    (record { held = λ k. held s (place_at s.spec.mode k) h (newest (tasks_of_place s (place_at s.spec.mode k) t.tasks)) refl })
    (λ k e. renewed s (place_at s.spec.mode k) ∙ e))))
  where
    x : Task
    x = of.row

    t : Tables
    t = w.tables

    u : Tables
    u = without_task of.row.id w.tables

    out : is_kept of.row ≡ false
    out = not-true (is_kept of.row) (first_so (not (is_kept of.row)) _ of.fact)

    not_live : (y : Task) → Has w.tables.tasks y → is_kept y ≡ false → is_live y ≡ false
    not_live y h gone =
        let goal = (known.orderly.good y h).goal in grind (arith, nat_tests, gone, goal)

    dead : (s : Service) (p : Place) (y : Task) → Has (tasks_of_place s p w.tables.tasks) y → stays of.row.id y ≡ false →
        is_live y ≡ false
    dead s p y h e =
        let inside = Has-filter_cases (is_in_place s p) w.tables.tasks y h in
        let same = its-own w.tables of.row y known.orderly.tasks of.there inside.0 e in
        not_live y inside.0 (ap is_kept same ∙ out)

    -- where the newest is another task
    other : (s : Service) (p : Place) → ((y : Task) → newest (tasks_of_place s p w.tables.tasks) ≡ Some y →
        stays of.row.id y ≡ true) → is_held s p u.tasks ≡ is_held s p w.tables.tasks
    other s p last =
        ap (λ (ys : List Task). list_any is_live ys || is_some_and closes (newest ys))
        (place-left s p of.row.id w.tables.tasks)
        ∙ ap (λ (b : Bool). b || is_some_and closes (newest (filter (stays of.row.id) (tasks_of_place s p w.tables.tasks))))
        (any-left is_live (stays of.row.id) (tasks_of_place s p w.tables.tasks) (dead s p))
        ∙ ap (λ (o : Option Task). list_any is_live (tasks_of_place s p w.tables.tasks) || is_some_and closes o)
        (last-left (stays of.row.id) None None (tasks_of_place s p w.tables.tasks) (λ k. refl) last)

    -- where it is the newest, the place wasn't held
    none : (s : Service) (p : Place) → ((y : Task) → Has (tasks_of_place s p w.tables.tasks) y → is_kept y ≡ false) →
        is_held s p u.tasks ≡ is_held s p w.tables.tasks
    none s p all =
        ap (λ (ys : List Task). list_any is_live ys || is_some_and closes (newest ys))
        (place-left s p of.row.id w.tables.tasks)
        ∙ none-held (filter (stays of.row.id) (tasks_of_place s p w.tables.tasks))
        (λ y h. idle y (Has-filter_cases (stays of.row.id) (tasks_of_place s p w.tables.tasks) y h).0)
        ∙ sym (none-held (tasks_of_place s p w.tables.tasks) idle)
      where
        idle : (y : Task) → Has (tasks_of_place s p w.tables.tasks) y → (is_live y ≡ false) × (closes y ≡ false)
        idle y h =
            let inside = Has-filter_cases (is_in_place s p) w.tables.tasks y h in
            (not_live y inside.0 (all y h), never-closes y (all y h))

    held : (s : Service) (p : Place) → Has w.tables.services s → (o : Option Task) →
        newest (tasks_of_place s p w.tables.tasks) ≡ o → is_held s p u.tasks ≡ is_held s p w.tables.tasks
    held s p h None at = other s p (λ y e. absurd (let wrong : None ≡ Some y = sym at ∙ e in cc))
    held s p h (Some z) at = by (stays of.row.id z) refl
      where
        by : (b : Bool) → stays of.row.id z ≡ b → is_held s p u.tasks ≡ is_held s p w.tables.tasks
        by true q =
            other s p (λ y e. let same : z ≡ y = (let k : Some z ≡ Some y = sym at ∙ e in cc) in
            ap (stays of.row.id) (sym same) ∙ q)
        by false q =
            let last = newest_has (tasks_of_place s p w.tables.tasks) z at in
            let inside = Has-filter_cases (is_in_place s p) w.tables.tasks z last in
            let same = its-own w.tables of.row z known.orderly.tasks of.there inside.0 q in
            none s p
            (λ y k. false_from_ne_true (is_kept y)
            (λ e. never-both (is_kept z) (ap is_kept same ∙ out) (whole s p h y z k e at)))

    renewed : (s : Service) (p : Place) →
        list_any (λ y. is_live_clean s y && is_new_since m y) (tasks_of_place s p u.tasks)
        ≡ list_any (λ y. is_live_clean s y && is_new_since m y) (tasks_of_place s p w.tables.tasks)
    renewed s p =
        ap (list_any (λ y. is_live_clean s y && is_new_since m y)) (place-left s p of.row.id w.tables.tasks)
        ∙ any-left (λ y. is_live_clean s y && is_new_since m y) (stays of.row.id) (tasks_of_place s p w.tables.tasks)
        (λ y h e.
        false_from_ne_true (is_live_clean s y && is_new_since m y)
        (λ is. absurd (never-both (is_live y) (dead s p y h e)
        (first_so (is_live y) _ (first_so (is_live_clean s y) (is_new_since m y) is)))))
