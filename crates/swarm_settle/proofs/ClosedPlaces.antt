-- Where all is settled, a held place without a live task carries the cause of its closing, and is clean or was closed
-- after the template.
use Rattle.std.proofs.Common.{Bool, List, None, Option, Some, ap, arith, false, inl, inr, not, refl, sym, true, ℕ, ◌<◌, ◌∙◌, ◌≡◌, ◌⊎◌}
use Rattle.std.proofs.lemmas.Bool.Decides.{nat_tests}
use Rattle.std.specs.List.{list_any}
use Rattle.std.specs.Option.{option_eq, option_map}
use Rattle.std.specs.Prelude.{is_some, map, nat_lt, ◌||◌}
use Rattle.swarm_settle.proofs.CleanTasks.{ended-well, job-clean}
use Rattle.swarm_settle.proofs.Held.{member-number}
use Rattle.swarm_settle.proofs.Known.{known-replay}
use Rattle.swarm_settle.proofs.Lawful.{IsLawful, lawful-replay}
use Rattle.swarm_settle.proofs.PlaceLists.{newest-map, place-counts}
use Rattle.swarm_settle.proofs.Settled.{run-done}
use Rattle.swarm_settle.proofs.Shapes.{blank}
use Rattle.swarm_settle.specs.Laws.{ClosedLaw}
use Rattle.swarm_settle.specs.Rest.{IsSettled}
use Rattle.swarm_model.specs.Closing.{Closing, closing}
use Rattle.swarm_model.specs.Content.{same_cause}
use Rattle.swarm_model.specs.History.{IsLegal, replay}
use Rattle.swarm_model.specs.Laws.Matches.{are_closings_right, is_closed_by, is_closing_right, is_rightly_closed}
use Rattle.swarm_objects.proofs.RowLemmas.{Has-filter_cases, Has-map}
use Rattle.swarm_objects.proofs.Tests.{all-pass, any_map, both, first_so, has-any, never-both, not_from_false, or_cases, or_left, or_right, some-and, some-and-cases}
use Rattle.swarm_objects.proofs.Newest.{newest_has}
use Rattle.swarm_objects.specs.Rows.{Has, is_some_and}
use Rattle.swarm_objects.specs.Services.Words.{is_clean, is_job, is_live_dirty}
use Rattle.swarm_objects.specs.Tasks.Places.{closes, closes_dirty, has_live, held_places, is_dirty_place, is_held_place, is_in_place, newest, place_at, place_numbers, place_tasks}
use Rattle.swarm_objects.specs.Tasks.Words.{is_live}
use Rattle.swarm_objects.specs.World.{World}
use Rattle.swarm_objects.specs.declared.calls.Entry.{Entry}
use Rattle.swarm_objects.specs.declared.services.Service.{Service}
use Rattle.swarm_objects.specs.declared.tasks.Closed.TheVariants as closed
use Rattle.swarm_objects.specs.declared.tasks.Closed.{Closed}
use Rattle.swarm_objects.specs.declared.tasks.Task.{Task}

same-cause-self : (c : Closed) → same_cause c c ≡ true
same-cause-self closed.Condition = refl
same-cause-self closed.Done = refl
same-cause-self (closed.Attempts n) = grind (arith, nat_tests)

-- the place that is held by a closed task
last-closes : (w : World) (s : Service) (k : ℕ) → is_held_place w.tables s k ≡ true → has_live w.tables s k ≡ false →
    (z : Task) × (newest (place_tasks w.tables s k) ≡ Some z) × (closes z ≡ true)
last-closes w s k held none = go (or_cases _ _ held)
  where
    go : (has_live w.tables s k ≡ true) ⊎ (is_some_and closes (newest (place_tasks w.tables s k)) ≡ true) →
        (z : Task) × (newest (place_tasks w.tables s k) ≡ Some z) × (closes z ≡ true)
    go (inl e) = never-both (has_live w.tables s k) none e
    go (inr e) = some-and-cases closes (newest (place_tasks w.tables s k)) e

-- the task is clean, or its closing came after the template
closed-well : (h : List Entry) → IsLegal h → IsSettled (replay h) → (s : Service) (k : ℕ) (z : Task) →
    Has (replay h).tables.services s → has_live (replay h).tables s k ≡ false →
    newest (place_tasks (replay h).tables s k) ≡ Some z → closes z ≡ true → (is_clean s z ≡ true) ⊎
    ((c : Closing) × (closing h z.id ≡ Some c) × (s.template_version < c.entry))
closed-well h legal is s k z there none last shut = go (is_job s.spec.mode) refl (is_clean s z) refl
  where
    w : World
    w = replay h

    lawful : IsLawful h
    lawful = lawful-replay h legal

    z_has : Has (place_tasks w.tables s k) z
    z_has = newest_has (place_tasks w.tables s k) z last

    z_in : Has w.tables.tasks z × (is_in_place s (place_at s.spec.mode k) z ≡ true)
    z_in = Has-filter_cases (is_in_place s (place_at s.spec.mode k)) w.tables.tasks z z_has

    go : (j : Bool) → is_job s.spec.mode ≡ j → (b : Bool) → is_clean s z ≡ b → (is_clean s z ≡ true) ⊎
        ((c : Closing) × (closing h z.id ≡ Some c) × (s.template_version < c.entry))
    go true job b clean =
        inl (job-clean w (closing h) s z lawful there z_in.0 job (place-counts s (place_at s.spec.mode k) z z_in.1))
    go false no_job true clean = inl clean
    go false no_job false dirty =
        let dirty_last : is_some_and (closes_dirty s) (newest (place_tasks w.tables s k)) ≡ true =
        some-and (closes_dirty s) (newest (place_tasks w.tables s k)) z last
        (both (closes z) (not (is_clean s z)) shut (not_from_false (is_clean s z) dirty)) in
        let dirty_place : is_dirty_place w.tables s k ≡ true =
        or_right (list_any (is_live_dirty s) (place_tasks w.tables s k)) _
        (both (not (has_live w.tables s k)) _ (not_from_false (has_live w.tables s k) none) dirty_last) in
        let some = has-any (is_dirty_place w.tables s) (place_numbers w.tables s) k
        (member-number w.tables s k z z_has) dirty_place in
        let done = run-done w s (known-replay h legal) is there no_job some in
        let well = ended-well w (closing h) s (place_at s.spec.mode k) lawful there no_job done in
        well.closed (any_map is_live blank (place_tasks w.tables s k) ∙ none) (blank z)
        (newest-map-blank (place_tasks w.tables s k) ∙ ap (option_map blank) last) shut
      where
        newest-map-blank : (xs : List Task) → newest (map blank xs) ≡ option_map blank (newest xs)
        newest-map-blank xs = newest-map blank xs

closing-right : (h : List Entry) → IsLegal h → IsSettled (replay h) → (s : Service) (k : ℕ) →
    Has (replay h).tables.services s → is_held_place (replay h).tables s k ≡ true →
    is_closing_right h (replay h).tables s k ≡ true
closing-right h legal is s k there held = go (has_live (replay h).tables s k) refl
  where
    w : World
    w = replay h

    go : (b : Bool) → has_live w.tables s k ≡ b →
        (b || is_some_and (is_rightly_closed h s) (newest (place_tasks w.tables s k))) ≡ true
    go true e = refl
    go false none =
        let last = last-closes w s k held none in
        let z = last.0 in
        let z_in = Has-filter_cases (is_in_place s (place_at s.spec.mode k)) w.tables.tasks z
        (newest_has (place_tasks w.tables s k) z last.1) in
        some-and (is_rightly_closed h s) (newest (place_tasks w.tables s k)) z last.1
        (by_cause z last.1 last.2 z_in.0 z.closed refl)
      where
        is-there : (o : Option Closed) → is_some o ≡ true → (c : Closed) × (o ≡ Some c)
        is-there None e = absurd cc
        is-there (Some c) e = (c, refl)

        later_or : (z : Task) (n : ℕ) (cause : Closed) → closing h z.id ≡ Some (record { entry = n; cause = cause }) →
            (is_clean s z ≡ true) ⊎
            ((c : Closing) × (closing h z.id ≡ Some c) × (s.template_version < c.entry)) →
            (is_clean s z || nat_lt s.template_version n) ≡ true
        later_or z n cause at (inl e) = or_left (is_clean s z) (nat_lt s.template_version n) e
        later_or z n cause at (inr k) =
            let both_are : Some (record { entry = n; cause = cause }) ≡ Some k.0 = sym at ∙ k.1 in
            let same : record { entry = n; cause = cause } ≡ k.0 = cc in
            let number : n ≡ k.0.entry = ap (λ (c : Closing). c.entry) same in
            or_right (is_clean s z) (nat_lt s.template_version n) (grind (arith, nat_tests, number, k.2))

        by_cause : (z : Task) → newest (place_tasks w.tables s k) ≡ Some z → closes z ≡ true → Has w.tables.tasks z →
            (o : Option Closed) → z.closed ≡ o → is_rightly_closed h s z ≡ true
        by_cause z last shut z_there None e =
            absurd (let some : is_some z.closed ≡ true = first_so (is_some z.closed) _ shut in
            let none : is_some z.closed ≡ false = ap is_some e in
            never-both (is_some z.closed) none some)
        by_cause z last shut z_there (Some cause) e =
            let recorded = (lawful-replay h legal).closings (blank z)
            (Has-map blank w.tables.tasks z z_there) cause e in
            some-and (is_closed_by s z) (closing h z.id) (record { entry = recorded.0; cause = cause }) recorded.1
            (both (option_eq same_cause z.closed (Some cause)) _
            (ap (λ (q : Option Closed). option_eq same_cause q (Some cause)) e ∙ same-cause-self cause)
            (later_or z recorded.0 cause recorded.1
            (closed-well h legal is s k z there none last shut)))

-- every place that is closed is rightly so
pub closed-places : ClosedLaw
closed-places h legal is =
    all-pass (are_closings_right h (replay h).tables) (replay h).tables.services
    (λ s there.
    all-pass (is_closing_right h (replay h).tables s) (held_places (replay h).tables s)
    (λ k held.
    closing-right h legal is s k there
    (Has-filter_cases (is_held_place (replay h).tables s) (place_numbers (replay h).tables s) k held).1))
