-- A task that is trimmed: its place is held as it was, and the measure is smaller.
use Rattle.std.proofs.Common.{Bool, List, None, Option, Some, [], ap, arith, cond, count_by, eqb, false, inl, inr, not, refl, subst, sym, true, ℕ, ◌+◌, ◌∙◌, ◌∷◌, ◌≡◌, ◌≤◌}
use Rattle.std.proofs.lemmas.Bool.Decides.{nat_tests}
use Rattle.std.specs.List.{last_or, list_any}
use Rattle.std.specs.Prelude.{filter, find, nat_lt, ◌&&◌, ◌==◌, ◌||◌}
use Rattle.swarm_settle.proofs.Bound.ComingSteps.{coming-stays}
use Rattle.swarm_settle.proofs.Bound.Falls.Deletes.{falls-left}
use Rattle.swarm_settle.proofs.Bound.Messages.World.{Known}
use Rattle.swarm_settle.proofs.Bound.Sums.{sum-le}
use Rattle.swarm_settle.specs.Bound.Coming.{coming, coming_of, is_new_since}
use Rattle.swarm_settle.specs.Bound.Measure.{measure}
use Rattle.swarm_model.proofs.Base.IsDuty.{IsDuty}
use Rattle.swarm_model.proofs.Moves.Rows.{RisesBetween, between-one}
use Rattle.swarm_objects.proofs.Filters.{filter_same, filter_within}
use Rattle.swarm_objects.proofs.Newest.{newest_has}
use Rattle.swarm_objects.proofs.RowLemmas.{Has-filter_cases, Has-from_row_at}
use Rattle.swarm_objects.proofs.SameLemmas.{Decides-same_place}
use Rattle.swarm_objects.proofs.Tests.{false_from_ne_true, find_has, first_so, never-both, not-true, second_so, some-and-cases}
use Rattle.swarm_objects.specs.Changes.{with_tables}
use Rattle.swarm_objects.specs.Loops.Reaper.{after_trim, is_oldest_past, is_past, is_trimmed, is_trimmed_in, without_task}
use Rattle.swarm_objects.specs.Rows.{Has, drop_row, is_some_and, row_at, service_id, task_id}
use Rattle.swarm_objects.specs.Same.{same_place}
use Rattle.swarm_objects.specs.Services.Words.{is_live_clean}
use Rattle.swarm_objects.specs.Tasks.Places.{closes, counts_for, is_held, is_in_place, newest, place_at, tasks_of_place}
use Rattle.swarm_objects.specs.Tasks.Words.{has_ended, is_live, is_task}
use Rattle.swarm_objects.specs.Values.Ranks.{desired_rank}
use Rattle.swarm_objects.specs.World.{Tables, World}
use Rattle.swarm_objects.specs.declared.duties.Duty.TheVariants as duty
use Rattle.swarm_objects.specs.declared.services.Service.{Service}
use Rattle.swarm_objects.specs.declared.tasks.Desired.TheVariants as desired
use Rattle.swarm_objects.specs.declared.tasks.Place.{Place}
use Rattle.swarm_objects.specs.declared.tasks.Task.{Task}

-- Lists without some of their items.

pub any-left : {X : Type 0} (p q : X → Bool) (xs : List X) → ((x : X) → Has xs x → q x ≡ false → p x ≡ false) →
    list_any p (filter q xs) ≡ list_any p xs
any-left p q [] none = refl
any-left p q (x ∷ xs) none = go (q x) refl (any-left p q xs (λ y h. none y (inr h)))
  where
    go : (b : Bool) → q x ≡ b → list_any p (filter q xs) ≡ list_any p xs →
        list_any p (cond b (x ∷ filter q xs) (filter q xs)) ≡ (p x || list_any p xs)
    go true e rest = ap (λ (b : Bool). p x || b) rest
    go false e rest = rest ∙ sym (ap (λ (b : Bool). b || list_any p xs) (none x (inl refl) e))

pub last-left : {X : Type 0} (q : X → Bool) (d e : Option X) (xs : List X) → (xs ≡ [] → e ≡ d) →
    ((x : X) → last_or d xs ≡ Some x → q x ≡ true) → last_or e (filter q xs) ≡ last_or d xs
last-left q d e [] same last = same refl
last-left q d e (x ∷ xs) same last =
    go (q x) refl (last-left q (Some x) (Some x) xs (λ k. refl) last)
    (λ none. last-left q (Some x) e xs none last)
  where
    go : (b : Bool) → q x ≡ b → last_or (Some x) (filter q xs) ≡ last_or (Some x) xs →
        ((xs ≡ [] → e ≡ Some x) → last_or e (filter q xs) ≡ last_or (Some x) xs) →
        last_or e (cond b (x ∷ filter q xs) (filter q xs)) ≡ last_or (Some x) xs
    go true k kept gone = kept
    go false k kept gone =
        gone (λ none. never-both (q x) k (last x (ap (last_or (Some x)) none)))

and-turn : (a b : Bool) → (a && b) ≡ (b && a)
and-turn true true = refl
and-turn true false = refl
and-turn false true = refl
and-turn false false = refl

-- A place without the task.

abbrev pub stays : ℕ → Task → Bool
stays id y = not (task_id y == id)

pub place-left : (s : Service) (p : Place) (id : ℕ) (xs : List Task) →
    tasks_of_place s p (drop_row task_id id xs) ≡ filter (stays id) (tasks_of_place s p xs)
place-left s p id xs =
    filter_within (stays id) (is_in_place s p) xs
    ∙ filter_same (λ y. is_in_place s p y && stays id y) (λ y. stays id y && is_in_place s p y) xs
    (λ y. and-turn (is_in_place s p y) (stays id y))
    ∙ sym (filter_within (is_in_place s p) (stays id) xs)

-- a task that isn't live, and is the newest of no place
pub record IsIdle (t : Tables) (x : Task) : Type 0 where
  pub live : is_live x ≡ false
  pub newest : (s : Service) (p : Place) → Has t.services s → (y : Task) →
      newest (tasks_of_place s p t.tasks) ≡ Some y → stays x.id y ≡ true

pub its-own : (t : Tables) (x y : Task) → RisesBetween task_id 1 t.next_id t.tasks → Has t.tasks x → Has t.tasks y →
    stays x.id y ≡ false → y ≡ x
its-own t x y rises hx hy e =
    let same : y.id ≡ x.id = back (eqb y.id x.id) refl e in between-one task_id 1 t.next_id t.tasks y x rises hy hx same
  where
    back : (b : Bool) → eqb y.id x.id ≡ b → not b ≡ false → y.id ≡ x.id
    back true q k = grind (arith, nat_tests, q)
    back false q k = absurd (let wrong : true ≡ false = k in cc)

pub coming-idle : (m : ℕ) (t : Tables) (x : Task) → RisesBetween task_id 1 t.next_id t.tasks → Has t.tasks x →
    IsIdle t x → coming m (without_task x.id t) ≤ coming m t
coming-idle m t x rises there idle =
    sum-le (coming_of m u) (coming_of m t) t.services
    (λ s h. coming-stays m t u s (record { nodes = refl; live = λ n. refl })
    (record { held = λ k. held s (place_at s.spec.mode k) h })
    (λ k e. renewed s (place_at s.spec.mode k) ∙ e))
  where
    u : Tables
    u = without_task x.id t

    dead : (s : Service) (p : Place) (y : Task) → Has (tasks_of_place s p t.tasks) y → stays x.id y ≡ false →
        is_live y ≡ false
    dead s p y h e =
        let inside = Has-filter_cases (is_in_place s p) t.tasks y h in
        ap is_live (its-own t x y rises there inside.0 e) ∙ idle.live

    held : (s : Service) (p : Place) → Has t.services s → is_held s p u.tasks ≡ is_held s p t.tasks
    held s p h =
        ap (λ (ys : List Task). list_any is_live ys || is_some_and closes (newest ys)) (place-left s p x.id t.tasks)
        ∙ ap (λ (b : Bool). b || is_some_and closes (newest (filter (stays x.id) (tasks_of_place s p t.tasks))))
        (any-left is_live (stays x.id) (tasks_of_place s p t.tasks) (dead s p))
        ∙ ap (λ (o : Option Task). list_any is_live (tasks_of_place s p t.tasks) || is_some_and closes o)
        (last-left (stays x.id) None None (tasks_of_place s p t.tasks) (λ k. refl) (idle.newest s p h))

    renewed : (s : Service) (p : Place) →
        list_any (λ y. is_live_clean s y && is_new_since m y) (tasks_of_place s p u.tasks)
        ≡ list_any (λ y. is_live_clean s y && is_new_since m y) (tasks_of_place s p t.tasks)
    renewed s p =
        ap (list_any (λ y. is_live_clean s y && is_new_since m y)) (place-left s p x.id t.tasks)
        ∙ any-left (λ y. is_live_clean s y && is_new_since m y) (stays x.id) (tasks_of_place s p t.tasks)
        (λ y h e.
        false_from_ne_true (is_live_clean s y && is_new_since m y)
        (λ is. absurd (never-both (is_live y) (dead s p y h e)
        (first_so (is_live y) _ (first_so (is_live_clean s y) (is_new_since m y) is)))))

-- The duty.

trimmed-idle : (w : World) (x : Task) → Known w → Has w.tables.tasks x → is_trimmed w.tables x ≡ true →
    IsIdle w.tables x
trimmed-idle w x known there e = record {
  live = false_from_ne_true (is_live x)
      (λ live.
      let low : desired_rank x.desired ≤ desired_rank x.goal = grind (arith, nat_tests, live) in
      let goal = (known.orderly.good x there).goal in
      absurd (omega (arith, low, goal, shut)));
  newest = λ s p h y at. false_or s p h y at (stays x.id y) refl;
}
  where
    t : Tables
    t = w.tables

    of : (s : Service) × (row_at service_id x.service t.services ≡ Some s) × (is_trimmed_in t x s ≡ true)
    of = some-and-cases (is_trimmed_in t x) (row_at service_id x.service t.services) e

    places : List Task
    places = tasks_of_place of.0 x.place t.tasks

    oldest : is_oldest_past t.settings.history places x ≡ true
    oldest = second_so _ (is_oldest_past t.settings.history places x) of.2

    past : (y : Task) × (find is_past places ≡ Some y) × (is_task x.id y ≡ true)
    past =
        some-and-cases (is_task x.id) (find is_past places)
        (second_so _ (is_some_and (is_task x.id) (find is_past places)) (first_so _ _ oldest))

    shut : desired_rank x.desired ≡ desired_rank desired.Shutdown
    shut =
        let found = find_has is_past places past.0 past.1 in
        let inside = Has-filter_cases (is_in_place of.0 x.place) t.tasks past.0 found.0 in
        let id : past.0.id ≡ x.id = (let q = past.2 in grind (arith, nat_tests, q)) in
        let same = between-one task_id 1 t.next_id t.tasks past.0 x known.orderly.tasks inside.0 there id in
        let wish = second_so (has_ended past.0) (desired_rank past.0.desired == desired_rank desired.Shutdown) found.1 in
        ap (λ (z : Task). desired_rank z.desired) (sym same) ∙ grind (arith, nat_tests, wish)

    not_newest : is_some_and (is_task x.id) (newest places) ≡ false
    not_newest = not-true (is_some_and (is_task x.id) (newest places))
        (second_so (nat_lt t.settings.history (count_by is_past places)
        && is_some_and (is_task x.id) (find is_past places)) (not (is_some_and (is_task x.id) (newest places))) oldest)

    false_or : (s : Service) (p : Place) → Has t.services s → (y : Task) → newest (tasks_of_place s p t.tasks) ≡ Some y →
        (b : Bool) → stays x.id y ≡ b → b ≡ true
    false_or s p h y at true q = refl
    false_or s p h y at false q = absurd (never s p h y at q)
      where
        never : (s : Service) (p : Place) → Has t.services s → (y : Task) →
            newest (tasks_of_place s p t.tasks) ≡ Some y → stays x.id y ≡ false → ⊥
        never s p h y at q =
            let last = newest_has (tasks_of_place s p t.tasks) y at in
            let inside = Has-filter_cases (is_in_place s p) t.tasks y last in
            let same = its-own t x y known.orderly.tasks there inside.0 q in
            let stands : is_in_place s p x ≡ true = ap (is_in_place s p) (sym same) ∙ inside.1 in
            let counts = first_so (counts_for s x) (same_place x.place p) stands in
            let number : x.service ≡ s.id =
            (let k = first_so (x.service == s.id) _ counts in grind (arith, nat_tests, k)) in
            let row = Has-from_row_at service_id x.service t.services of.0 of.1 in
            let one = between-one service_id 1 t.next_id t.services of.0 s known.orderly.services row.0 h
            (row.1 ∙ number) in
            let place : x.place ≡ p =
            (Decides-same_place x.place p).0 (second_so (counts_for s x) (same_place x.place p) stands) in
            let here : newest places ≡ Some y =
            ap (λ (v : Service). newest (tasks_of_place v x.place t.tasks)) one
            ∙ ap (λ (z : Place). newest (tasks_of_place s z t.tasks)) place ∙ at in
            let own : is_task x.id y ≡ true = ap (λ (z : Task). eqb z.id x.id) same ∙ grind (arith, nat_tests) in
            never-both (is_some_and (is_task x.id) (newest places)) not_newest
            (ap (is_some_and (is_task x.id)) here ∙ own)

pub falls-trim : (m : ℕ) (w : World) (id : ℕ) → Known w → IsDuty w (duty.Trim id) →
    measure m (with_tables w (after_trim w.tables id)) + 1 ≤ measure m w
falls-trim m w id known of =
    subst (λ (k : ℕ). measure m (with_tables w (after_trim w.tables k)) + 1 ≤ measure m w) of.id_is
    (falls-left m w of.row known of.there
    (coming-idle m w.tables of.row known.orderly.tasks of.there (trimmed-idle w of.row known of.there of.fact)))
