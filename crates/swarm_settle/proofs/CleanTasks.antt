-- Where all is settled, every live task is clean, and is the one live task of its place.
use Rattle.std.proofs.Common.{Bool, List, Option, [], ap, arith, false, inl, inr, not, refl, subst, sym, true, ℕ, ◌<◌, ◌∙◌, ◌∷◌, ◌≡◌}
use Rattle.std.proofs.lemmas.Bool.Decides.{nat_tests}
use Rattle.std.specs.List.{list_any}
use Rattle.std.specs.Option.{option_map}
use Rattle.std.specs.Prelude.{map, ◌==◌, ◌||◌}
use Rattle.swarm_settle.proofs.EndedRuns.{IsEndedWell, IsRunDone}
use Rattle.swarm_settle.proofs.Held.{task-number}
use Rattle.swarm_settle.proofs.Known.{Known}
use Rattle.swarm_settle.proofs.Lawful.{Lawful}
use Rattle.swarm_settle.proofs.PlaceLists.{counts-of, place-counts, place-in, place-is}
use Rattle.swarm_settle.proofs.Settled.{run-done}
use Rattle.swarm_settle.proofs.ShapeWords.{place-blank}
use Rattle.swarm_settle.proofs.Shapes.{Closings, bare, bare_run, blank, shape}
use Rattle.swarm_settle.specs.Rest.{IsSettled}
use Rattle.swarm_model.proofs.Laws.Alone.{number-at}
use Rattle.swarm_model.proofs.Laws.OneEach.{IsBeside}
use Rattle.swarm_model.proofs.Moves.Rows.{RisesBetween, between-filter}
use Rattle.swarm_model.specs.Laws.Matches.{live_tasks}
use Rattle.swarm_objects.proofs.RowLemmas.{Has-filter, Has-filter_cases, Has-map}
use Rattle.swarm_objects.proofs.SameLemmas.{Decides-same_template}
use Rattle.swarm_objects.proofs.Tests.{any-has, both, first_so, has-any, never-both, not_from_false, or_left, second_so, true_from_ne_false}
use Rattle.swarm_objects.specs.Rows.{Has, task_id}
use Rattle.swarm_objects.specs.Same.{same_template}
use Rattle.swarm_objects.specs.Services.Words.{is_clean, is_job, is_live_dirty}
use Rattle.swarm_objects.specs.Tasks.Places.{counts_for, has_dirty_place, has_live, is_dirty_place, is_in_place, place_at, place_number, place_numbers, place_tasks, tasks_of_place}
use Rattle.swarm_objects.specs.Tasks.Words.{is_live}
use Rattle.swarm_objects.specs.World.{World}
use Rattle.swarm_objects.specs.declared.services.Service.{Service}
use Rattle.swarm_objects.specs.declared.services.UpdateRun.{UpdateRun}
use Rattle.swarm_objects.specs.declared.tasks.Place.{Place}
use Rattle.swarm_objects.specs.declared.tasks.Task.{Task}

-- a job's task that counts is clean
pub job-clean : (w : World) (c : Closings) (s : Service) (x : Task) → Lawful w.entries w.entries c (shape w.tables) →
    Has w.tables.services s → Has w.tables.tasks x → is_job s.spec.mode ≡ true → counts_for s x ≡ true →
    is_clean s x ≡ true
job-clean w c s x lawful h k job counts =
    let template =
    lawful.templates (blank x) (Has-map blank w.tables.tasks x k) (bare s) (Has-map bare w.tables.services s h) job
    counts in
    both (same_template x.template s.spec.template) _ ((Decides-same_template x.template s.spec.template).1 template)
    (second_so (x.service == s.id) _ counts)

-- a run of the service that came to its end left its places well
pub ended-well : (w : World) (c : Closings) (s : Service) (p : Place) → Lawful w.entries w.entries c (shape w.tables) →
    Has w.tables.services s → is_job s.spec.mode ≡ false → IsRunDone s →
    IsEndedWell c (bare s) (map blank (tasks_of_place s p w.tables.tasks))
ended-well w c s p lawful h no_job done =
    subst (IsEndedWell c (bare s)) (place-blank s p w.tables.tasks)
    (lawful.ended (bare s) (Has-map bare w.tables.services s h) no_job
    (bare_run done.0, (ap (λ (o : Option UpdateRun). option_map bare_run o) done.1), done.2, done.3) p)

-- the place of a dirty live task is dirty
dirty-there : (w : World) (s : Service) (k : ℕ) (x : Task) → Has (place_numbers w.tables s) k →
    Has (place_tasks w.tables s k) x → is_live x ≡ true → is_clean s x ≡ false → has_dirty_place w.tables s ≡ true
dirty-there w s k x h there live dirty =
    has-any (is_dirty_place w.tables s) (place_numbers w.tables s) k h
    (or_left (list_any (is_live_dirty s) (place_tasks w.tables s k)) _
    (has-any (is_live_dirty s) (place_tasks w.tables s k) x there
    (both (is_live x) (not (is_clean s x)) live (not_from_false (is_clean s x) dirty))))

-- the place of the task has the number of it
pub own-place : (w : World) (s : Service) (x : Task) → Known w → Has w.tables.services s → Has w.tables.tasks x →
    counts_for s x ≡ true →
    (place_at s.spec.mode (place_number x.place) ≡ x.place) × Has (place_tasks w.tables s (place_number x.place)) x
own-place w s x known h k counts =
    let at = (known.of.of x s k h (counts-of s x counts)).place in
    let number : place_number x.place ≡ at.0 = ap place_number at.1 ∙ number-at s.spec.mode at.0 in
    let same : place_at s.spec.mode (place_number x.place) ≡ x.place =
    ap (λ (j : ℕ). place_at s.spec.mode j) number ∙ sym at.1 in (
      same,
      Has-filter (is_in_place s (place_at s.spec.mode (place_number x.place))) w.tables.tasks x k
          (place-in s (place_at s.spec.mode (place_number x.place)) x counts (sym same)),
    )

pub live-clean : (w : World) (c : Closings) (s : Service) (x : Task) → Known w →
    Lawful w.entries w.entries c (shape w.tables) → IsSettled w → Has w.tables.services s → Has w.tables.tasks x →
    is_live x ≡ true → counts_for s x ≡ true → is_clean s x ≡ true
live-clean w c s x known lawful is h k live counts = go (is_job s.spec.mode) refl
  where
    go : (b : Bool) → is_job s.spec.mode ≡ b → is_clean s x ≡ true
    go true job = job-clean w c s x lawful h k job counts
    go false no_job =
        true_from_ne_false (is_clean s x)
        (λ dirty.
        let own = own-place w s x known h k counts in
        let dirt = dirty-there w s (place_number x.place) x (task-number w.tables s x k counts) own.1 live dirty in
        let done = run-done w s known is h no_job dirt in
        let well = ended-well w c s x.place lawful h no_job done in
        never-both (is_clean s x) dirty
        (well.clean (blank x)
        (Has-map blank (tasks_of_place s x.place w.tables.tasks) x
        (Has-filter (is_in_place s x.place) w.tables.tasks x k (place-in s x.place x counts refl))) live))

clean-template : (s : Service) (x : Task) → is_clean s x ≡ true → x.template ≡ s.spec.template
clean-template s x e = (Decides-same_template x.template s.spec.template).0 (first_so _ _ e)

-- Two live tasks of a place are one.

same-service-iteration : (w : World) (s : Service) (a b : Task) → Known w → Has w.tables.services s →
    Has w.tables.tasks a → Has w.tables.tasks b → counts_for s a ≡ true → counts_for s b ≡ true →
    a.iteration ≡ b.iteration
same-service-iteration w s a b known h ka kb ca cb = go (is_job s.spec.mode) refl
  where
    job-iteration : (y : Task) → counts_for s y ≡ true → is_job s.spec.mode ≡ true → y.iteration ≡ s.iteration
    job-iteration y e j =
        by (is_job s.spec.mode) (y.iteration == s.iteration) refl j (second_so (y.service == s.id) _ e)
      where
        by : (j now : Bool) → (y.iteration == s.iteration) ≡ now → j ≡ true → (not j || now) ≡ true →
            y.iteration ≡ s.iteration
        by true true at q r = grind (arith, nat_tests, at)
        by true false at q r = absurd cc
        by false now at q r = absurd cc

    go : (j : Bool) → is_job s.spec.mode ≡ j → a.iteration ≡ b.iteration
    go true e = job-iteration a ca e ∙ sym (job-iteration b cb e)
    go false e =
        (known.of.one.iterations a s ka h (counts-of s a ca)).only e
        ∙ sym ((known.of.one.iterations b s kb h (counts-of s b cb)).only e)

none-beside : (w : World) (c : Closings) (s : Service) (p : Place) (a b : Task) → Known w →
    Lawful w.entries w.entries c (shape w.tables) → IsSettled w → Has w.tables.services s →
    Has (tasks_of_place s p w.tables.tasks) a → Has (tasks_of_place s p w.tables.tasks) b → is_live a ≡ true →
    is_live b ≡ true → ¬ (a.id < b.id)
none-beside w c s p a b known lawful is h ha hb la lb less =
    let ia = Has-filter_cases (is_in_place s p) w.tables.tasks a ha in
    let ib = Has-filter_cases (is_in_place s p) w.tables.tasks b hb in
    let ca = place-counts s p a ia.1 in
    let cb = place-counts s p b ib.1 in
    let beside : IsBeside a b = record {
      service = counts-of s a ca ∙ sym (counts-of s b cb);
      place = place-is s p a ia.1 ∙ sym (place-is s p b ib.1);
      iteration = same-service-iteration w s a b known h ia.0 ib.0 ca cb;
      live = la;
      live_too = lb;
    } in
    let ta = clean-template s a (live-clean w c s a known lawful is h ia.0 la ca) in
    let tb = clean-template s b (live-clean w c s b known lawful is h ib.0 lb cb) in
    never-both (same_template a.template b.template) (known.of.one.alone a b ia.0 ib.0 less beside)
    ((Decides-same_template a.template b.template).1 (ta ∙ sym tb))

-- the live tasks of a place with one are just one
pub one-live : (w : World) (c : Closings) (s : Service) (k : ℕ) → Known w →
    Lawful w.entries w.entries c (shape w.tables) → IsSettled w → Has w.tables.services s →
    has_live w.tables s k ≡ true → (x : Task) × (live_tasks w.tables s k ≡ x ∷ [])
one-live w c s k known lawful is h some =
    go (live_tasks w.tables s k)
    (λ x there. there)
    (between-filter task_id 1 w.tables.next_id is_live (place_tasks w.tables s k)
    (between-filter task_id 1 w.tables.next_id (is_in_place s (place_at s.spec.mode k)) w.tables.tasks
    known.orderly.tasks)) refl
  where
    go : (xs : List Task) → ((x : Task) → Has xs x → Has xs x) → RisesBetween task_id 1 w.tables.next_id xs →
        live_tasks w.tables s k ≡ xs → (x : Task) × (live_tasks w.tables s k ≡ x ∷ [])
    go [] all rises e =
        let one = any-has is_live (place_tasks w.tables s k) some in
        let there = Has-filter is_live (place_tasks w.tables s k) one.0 one.1 one.2 in
        absurd (subst (λ (ys : List Task). Has ys one.0) e there)
    go (x ∷ []) all rises e = (x, e)
    go (x ∷ y ∷ rest) all rises e =
        let hx : Has (live_tasks w.tables s k) x = subst (λ (ys : List Task). Has ys x) (sym e) (inl refl) in
        let hy : Has (live_tasks w.tables s k) y = subst (λ (ys : List Task). Has ys y) (sym e) (inr (inl refl)) in
        let lx = Has-filter_cases is_live (place_tasks w.tables s k) x hx in
        let ly = Has-filter_cases is_live (place_tasks w.tables s k) y hy in
        absurd (none-beside w c s (place_at s.spec.mode k) x y known lawful is h lx.0 ly.0 lx.1 ly.1
        (omega (arith, rises.2.0)))
