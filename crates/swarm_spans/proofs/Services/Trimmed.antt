-- Which old tasks are removed, by what remains of their places.
use Rattle.std.proofs.Common.{Bool, List, None, Option, Some, ap, cond, false, inl, inr, refl, subst, sym, true, ℕ, ◌<◌, ◌∙◌, ◌≡◌, ◌⊎◌}
use Rattle.std.specs.Option.{option_map}
use Rattle.std.specs.Prelude.{count_by, filter, find, is_some, map, nat_lt, not, ◌&&◌, ◌||◌, ◌==◌}
use Rattle.swarm_objects.proofs.Filters.{filter_again}
use Rattle.swarm_objects.proofs.PlaceLemmas.{and_left}
use Rattle.swarm_objects.proofs.RowLemmas.{Has-from_row_at, RisesFrom-filter, number_above, row_at-Some}
use Rattle.swarm_objects.proofs.Tests.{both, both_are, never-both}
use Rattle.swarm_objects.specs.Loops.Reaper.{is_oldest_past, is_past, is_trimmed, is_trimmed_in}
use Rattle.swarm_objects.specs.Loops.Words.{when}
use Rattle.swarm_objects.specs.Rows.{Has, first_of, is_some_and, row_at, service_id, task_id}
use Rattle.swarm_objects.specs.Same.{same_place}
use Rattle.swarm_objects.specs.Services.Runs.{has_open_run}
use Rattle.swarm_objects.specs.Services.Words.{is_job}
use Rattle.swarm_objects.specs.Tasks.Places.{counts_for, is_in_place, newest, tasks_of_place}
use Rattle.swarm_objects.specs.Tasks.Words.{is_beside, is_task}
use Rattle.swarm_objects.specs.World.{Tables}
use Rattle.swarm_objects.specs.declared.duties.Duty.{Duty}
use Rattle.swarm_objects.specs.declared.duties.Duty.TheVariants as duty
use Rattle.swarm_objects.specs.declared.services.Service.{Service}
use Rattle.swarm_objects.specs.declared.tasks.Place.{Place}
use Rattle.swarm_objects.specs.declared.tasks.Task.{Task}
use Rattle.swarm_spans.proofs.Services.Alike.{Reads, count-alike, filter-alike, find-alike, keep, last-alike, row_at-filter, shown-rows, some-alike}
use Rattle.swarm_spans.proofs.Services.GoesOn.{keep-shown}
use Rattle.swarm_spans.specs.Services.Lines.{AreRising, TrimLaw}
use Rattle.swarm_spans.specs.Services.Standings.{Bounds, Remains, bounds, remains}
use Rattle.swarm_spans.specs.Services.Steps.{HasBesideOf, HasItself, HasRemains}
use Rattle.swarm_spans.specs.Spans.{is_in}
use Rattle.swarm_spans.specs.declared.span.Span.{Span}

-- What is read of the tasks of a place.

past-read : Reads remains is_past
past-read x y e = ap (λ (r : Remains). r.past) e

task-read : (id : ℕ) → Reads remains (is_task id)
task-read id x y e = ap (λ (r : Remains). r.id == id) e

place-read : (s : Service) (p : Place) → Reads remains (is_in_place s p)
place-read s p x y e =
    ap (λ (r : Remains). (r.service == s.id && (not (is_job s.spec.mode) || r.iteration == s.iteration))
    && same_place r.place p) e

beside-read : (y : Task) → Reads remains (is_beside y)
beside-read z x y e = ap (λ (r : Remains). r.service == z.service && same_place r.place z.place) e

oldest-alike : (history : ℕ) (xs ys : List Task) (x : Task) → map remains xs ≡ map remains ys
    → is_oldest_past history xs x ≡ is_oldest_past history ys x
oldest-alike history xs ys x e =
    let many = count-alike remains is_past xs ys past-read e in
    let first =
    some-alike remains (is_task x.id) (find is_past xs) (find is_past ys) (task-read x.id)
    (find-alike remains is_past xs ys past-read e) in
    let last =
    some-alike remains (is_task x.id) (newest xs) (newest ys) (task-read x.id)
    (last-alike remains None None xs ys refl e) in
    λ i. nat_lt history (many i) && first i && not (last i)

-- the tasks of a task's place are among those beside it
beside-all : (s : Service) (y : Task) (tasks : List Task) → s.id ≡ y.service
    → filter (is_in_place s y.place) (filter (is_beside y) tasks) ≡ tasks_of_place s y.place tasks
beside-all s y tasks of =
    filter_again (is_in_place s y.place) (is_beside y) tasks
    (λ x e.
    let two = both_are (counts_for s x) (same_place x.place y.place) e in
    let service : (x.service == s.id) ≡ true =
    and_left (x.service == s.id) (not (is_job s.spec.mode) || x.iteration == s.iteration) two.0 in
    both (x.service == y.service) (same_place x.place y.place) (ap (λ k. x.service == k) (sym of) ∙ service) two.1)

trimmed-same : (t u : Tables) (y : Task) → u.settings ≡ t.settings
    → option_map bounds (row_at service_id y.service u.services)
    ≡ option_map bounds (row_at service_id y.service t.services)
    → map remains (filter (is_beside y) u.tasks) ≡ map remains (filter (is_beside y) t.tasks)
    → is_trimmed u y ≡ is_trimmed t y
trimmed-same t u y settings row e =
    go (row_at service_id y.service u.services) refl (row_at service_id y.service t.services) refl row
  where
    placed-of : (r s : Service) (tasks : List Task) → bounds r ≡ bounds s
        → tasks_of_place r y.place tasks ≡ tasks_of_place s y.place tasks
    placed-of r s tasks same =
        ap (λ (b : Bounds). filter (λ x. (x.service == b.id && (not b.job || x.iteration == b.iteration))
        && same_place x.place y.place) tasks) same

    go : (o : Option Service) → row_at service_id y.service u.services ≡ o → (q : Option Service)
        → row_at service_id y.service t.services ≡ q → option_map bounds o ≡ option_map bounds q
        → is_some_and (is_trimmed_in u y) o ≡ is_some_and (is_trimmed_in t y) q
    go None p None q k = refl
    go None p (Some s) q k = absurd cc
    go (Some r) p None q k = absurd cc
    go (Some r) p (Some s) q k =
        let of : s.id ≡ y.service = (Has-from_row_at service_id y.service t.services s q).1 in
        let same : bounds r ≡ bounds s = cc in
        let placed =
        filter-alike remains (is_in_place s y.place) (filter (is_beside y) u.tasks) (filter (is_beside y) t.tasks)
        (place-read s y.place) e in
        let alike : map remains (tasks_of_place s y.place u.tasks) ≡ map remains (tasks_of_place s y.place t.tasks) =
        sym (ap (map remains) (beside-all s y u.tasks of)) ∙ placed ∙ ap (map remains) (beside-all s y t.tasks of) in
        let lists : map remains (tasks_of_place r y.place u.tasks) ≡ map remains (tasks_of_place s y.place t.tasks) =
        ap (map remains) (placed-of r s u.tasks same) ∙ alike in
        (λ i. not (same i).updated && is_oldest_past (settings i).history (tasks_of_place r y.place u.tasks) y)
        ∙ ap (λ b. not (has_open_run s) && b)
        (oldest-alike t.settings.history (tasks_of_place r y.place u.tasks) (tasks_of_place s y.place t.tasks) y lists)

-- by what remains of the task itself
trimmed-alike : (t : Tables) (x y : Task) → remains x ≡ remains y → is_trimmed t x ≡ is_trimmed t y
trimmed-alike t x y e =
    ap (λ (r : Remains). is_some_and (λ s. not (has_open_run s)
    && (nat_lt t.settings.history (count_by is_past (tasks_of_place s r.place t.tasks))
    && is_some_and (is_task r.id) (find is_past (tasks_of_place s r.place t.tasks))
    && not (is_some_and (is_task r.id) (newest (tasks_of_place s r.place t.tasks)))))
    (row_at service_id r.service t.services)) e

when-trim : (b : Bool) (d : Duty) → is_some (first_of (when b d)) ≡ b
when-trim true d = refl
when-trim false d = refl

-- A task that isn't in the span was there, and the same remained of it.

former : (t u : Tables) (span : Span) (y : Task) → AreRising t u → HasRemains span t u → Has u.tasks y → is_past y ≡ true
    → is_in span y.id ≡ false → (z : Task) × Has t.tasks z × (remains z ≡ remains y)
former t u span y rising has h past out = by (has.tasks y.id)
  where
    at : row_at task_id y.id u.tasks ≡ Some y
    at = row_at-Some task_id 0 u.tasks y rising.after h

    positive : 0 < y.id
    positive = number_above task_id 0 u.tasks y rising.after h

    there : (o : Option Task) → row_at task_id y.id t.tasks ≡ o → Some (remains y) ≡ option_map remains o
        → (z : Task) × Has t.tasks z × (remains z ≡ remains y)
    there None row e = absurd cc
    there (Some z) row e =
        let same : remains z ≡ remains y = cc in (z, (Has-from_row_at task_id y.id t.tasks z row).0, same)

    by : (option_map remains (row_at task_id y.id u.tasks) ≡ option_map remains (row_at task_id y.id t.tasks))
        ⊎ (HasBesideOf span t (row_at task_id y.id t.tasks) × HasBesideOf span t (row_at task_id y.id u.tasks)
        × HasItself span (row_at task_id y.id u.tasks))
        → (z : Task) × Has t.tasks z × (remains z ≡ remains y)
    by (inl same) = there (row_at task_id y.id t.tasks) refl (sym (ap (option_map remains) at) ∙ same)
    by (inr three) = never-both (is_in span y.id) out (three.2.own y at past positive)

outside : (t : Tables) (span : Span) (y z : Task) (o : Option Task) → Has t.tasks z → remains z ≡ remains y
    → is_past z ≡ true → is_in span y.id ≡ false → HasBesideOf span t o → keep (is_beside y) o ≡ None
outside t span y z None h same past out has = refl
outside t span y z (Some x) h same past out has = go (is_beside y x) refl
  where
    go : (b : Bool) → is_beside y x ≡ b → cond b (Some x) None ≡ None
    go false e = refl
    go true e =
        let beside : is_beside z x ≡ true =
        ap (λ (r : Remains). x.service == r.service && same_place x.place r.place) same ∙ e in
        never-both (is_in span y.id) out
        (subst (λ k. is_in span k ≡ true) (ap (λ (r : Remains). r.id) same) (has.beside x z refl h beside past))

beside-shown : (t u : Tables) (span : Span) (y z : Task) → AreRising t u → HasRemains span t u → Has t.tasks z
    → remains z ≡ remains y → is_past z ≡ true → is_in span y.id ≡ false
    → map remains (filter (is_beside y) u.tasks) ≡ map remains (filter (is_beside y) t.tasks)
beside-shown t u span y z rising has there same past out =
    shown-rows task_id remains 0 0 (filter (is_beside y) u.tasks) (filter (is_beside y) t.tasks)
    (RisesFrom-filter task_id 0 (is_beside y) u.tasks rising.after)
    (RisesFrom-filter task_id 0 (is_beside y) t.tasks rising.before)
    (λ id.
    ap (option_map remains) (row_at-filter task_id 0 id (is_beside y) u.tasks rising.after)
    ∙ each id (has.tasks id)
    ∙ sym (ap (option_map remains) (row_at-filter task_id 0 id (is_beside y) t.tasks rising.before)))
  where
    each : (id : ℕ)
        → (option_map remains (row_at task_id id u.tasks) ≡ option_map remains (row_at task_id id t.tasks))
        ⊎ (HasBesideOf span t (row_at task_id id t.tasks) × HasBesideOf span t (row_at task_id id u.tasks)
        × HasItself span (row_at task_id id u.tasks))
        → option_map remains (keep (is_beside y) (row_at task_id id u.tasks))
        ≡ option_map remains (keep (is_beside y) (row_at task_id id t.tasks))
    each id (inl e) =
        keep-shown remains (is_beside y) (row_at task_id id u.tasks) (row_at task_id id t.tasks) (beside-read y) e
    each id (inr three) =
        ap (option_map remains)
        (outside t span y z (row_at task_id id u.tasks) there same past out three.1
        ∙ sym (outside t span y z (row_at task_id id t.tasks) there same past out three.0))

pub trim_goes_on : TrimLaw
trim_goes_on t u span rising settings has c = record {
  has = λ y h passes.
      let two = both_are (is_past y) (is_trimmed u y)
      (sym (when-trim (is_past y && is_trimmed u y) (duty.Trim y.id)) ∙ passes) in
      go y h two.0 two.1 (is_in span y.id) refl;
}
  where
    go : (y : Task) → Has u.tasks y → is_past y ≡ true → is_trimmed u y ≡ true → (b : Bool) → is_in span y.id ≡ b
        → is_in span y.id ≡ true
    go y h past passes true e = e
    go y h past passes false out =
        let z = former t u span y rising has h past out in
        let was : is_past z.0 ≡ true = past-read z.0 y z.2 ∙ past in
        let ids : z.0.id ≡ y.id = ap (λ (r : Remains). r.id) z.2 in
        elim (has.services y.service) [
          | inr tasks ↦
              subst (λ k. is_in span k ≡ true) ids (tasks.tasks z.0 z.1 (ap (λ (r : Remains). r.service) z.2) was)
          | inl row ↦
              let before : is_trimmed t y ≡ true =
              sym (trimmed-same t u y settings row (beside-shown t u span y z.0 rising has z.1 z.2 was out)) ∙ passes in
              let trims : (is_past z.0 && is_trimmed t z.0) ≡ true =
              both (is_past z.0) (is_trimmed t z.0) was
              (trimmed-alike t z.0 y z.2 ∙ before) in
              subst (λ k. is_in span k ≡ true) ids
              (c.has z.0 z.1 (when-trim (is_past z.0 && is_trimmed t z.0) (duty.Trim z.0.id) ∙ trims))
        ]
