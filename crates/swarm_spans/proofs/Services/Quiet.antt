-- New tasks that come quietly give no service anything to do about an update.
use Rattle.std.proofs.Common.{Bool, List, None, Option, Some, [], ap, arith, cond, false, inl, inr, refl, subst, sym, true, ℕ, ◌++◌, ◌<◌, ◌∙◌, ◌∷◌, ◌≡◌}
use Rattle.std.proofs.lemmas.Bool.Decides.{nat_tests}
use Rattle.std.proofs.lemmas.List.Folds.{fold-map}
use Rattle.std.specs.List.{list_any}
use Rattle.std.specs.Option.{option_map}
use Rattle.std.specs.Prelude.{filter, is_some, map, not, ◌&&◌, ◌||◌, ◌==◌}
use Rattle.swarm_objects.proofs.Newest.{newest_has}
use Rattle.swarm_objects.proofs.Rising.{rising-has}
use Rattle.swarm_objects.proofs.RowLemmas.{Has-filter, Has-filter_cases, Has-from_row_at, Has-map, RisesFrom-filter, row_at-Some}
use Rattle.swarm_objects.proofs.SameLemmas.{Decides-same_place}
use Rattle.swarm_objects.proofs.Tests.{any-has, both, both_are, has-any, never-both, not-true, or_left, or_right, some-and-cases}
use Rattle.swarm_objects.specs.Loops.Update.{is_to_start, run_duties, update_duties}
use Rattle.swarm_objects.specs.Loops.Words.{when}
use Rattle.swarm_objects.specs.Rows.{Has, RisesFrom, first_of, has_row, is_some_and, row_at, service_id, task_id, with_number}
use Rattle.swarm_objects.specs.Same.{same_place}
use Rattle.swarm_objects.specs.Services.Runs.{has_open_run, is_of_version}
use Rattle.swarm_objects.specs.Services.Words.{is_clean, is_live_clean, is_live_dirty}
use Rattle.swarm_objects.specs.Tasks.Places.{closes_dirty, counts_for, has_dirty_place, is_dirty_place, is_in_place, newest, numbers_of, place_at, place_number, tasks_of_place}
use Rattle.swarm_objects.specs.Tasks.Words.{is_live, is_of}
use Rattle.swarm_objects.specs.World.{Tables}
use Rattle.swarm_objects.specs.declared.duties.Duty.TheVariants as duty
use Rattle.swarm_objects.specs.declared.services.Mode.TheVariants as mode
use Rattle.swarm_objects.specs.declared.services.Mode.{Mode}
use Rattle.swarm_objects.specs.declared.services.Service.{Service}
use Rattle.swarm_objects.specs.declared.tasks.Task.{Task}
use Rattle.swarm_spans.proofs.Services.Alike.{Reads, keep, map-alike, row_at-filter, shown-rows}
use Rattle.swarm_spans.proofs.Services.GoesOn.{covers-by, keep-shown, outside}
use Rattle.swarm_spans.proofs.Services.Held.{own}
use Rattle.swarm_spans.proofs.Services.Updated.{alone, has-dirty-alike, has-dirty-alone, laid, laid-read, unrun, update-same}
use Rattle.swarm_spans.specs.Services.Lines.{AreRising, UpdateLaw, updates}
use Rattle.swarm_spans.specs.Services.Standings.{Progress, comes_quietly, progress}
use Rattle.swarm_spans.specs.Services.Steps.{HasShiftedBut, Turns}
use Rattle.swarm_spans.specs.Spans.{has_duty, is_in}
use Rattle.swarm_spans.specs.declared.span.Span.{Span}

-- A service that the span hasn't: its tasks that were there show the same as before, and each other one is quiet.

abbrev was : Tables → Task → Bool
was t x = has_row task_id x.id t.tasks

abbrev stayed : Tables → Tables → Service → List Task
stayed t u s = filter (was t) (own u s)

keep-in : {X : Type 0} (p q : X → Bool) (x : X) → p x ≡ true → keep p (keep q (Some x)) ≡ keep q (Some x)
keep-in p q x e = go (q x)
  where
    go : (b : Bool) → keep p (cond b (Some x) None) ≡ cond b (Some x) None
    go true = ap (λ b. cond b (Some x) None) e
    go false = refl

keep-out : {X : Type 0} (p q : X → Bool) (x : X) → p x ≡ false → keep p (keep q (Some x)) ≡ None
keep-out p q x e = go (q x)
  where
    go : (b : Bool) → keep p (cond b (Some x) None) ≡ None
    go true = ap (λ b. cond b (Some x) None) e
    go false = refl

stayed-shown : {S : Type 0} (quiet : Task → Bool) (show : Task → S) (t u : Tables) (span : Span) (s : Service)
    → Reads show (λ x. x.service) → AreRising t u → HasShiftedBut quiet show span t u → 0 < s.id
    → is_in span s.id ≡ false → map show (stayed t u s) ≡ map show (own t s)
stayed-shown {S} quiet show t u span s service rising shifted positive out =
    shown-rows task_id show 0 0 (stayed t u s) (own t s) (RisesFrom-filter task_id 0 (was t) (own u s) rises)
    (RisesFrom-filter task_id 0 (is_of s.id) t.tasks rising.before)
    (λ id.
    ap (option_map show)
    (row_at-filter task_id 0 id (was t) (own u s) rises
    ∙ ap (keep (was t)) (row_at-filter task_id 0 id (is_of s.id) u.tasks rising.after))
    ∙ each (row_at task_id id t.tasks) (row_at task_id id u.tasks) (known id) (shifted.tasks id)
    ∙ sym (ap (option_map show) (row_at-filter task_id 0 id (is_of s.id) t.tasks rising.before)))
  where
    rises : RisesFrom task_id 0 (own u s)
    rises = RisesFrom-filter task_id 0 (is_of s.id) u.tasks rising.after

    of-read : Reads show (is_of s.id)
    of-read x y e = ap (λ k. k == s.id) (service x y e)

    known : (id : ℕ) (x : Task) → row_at task_id id u.tasks ≡ Some x → was t x ≡ is_some (row_at task_id id t.tasks)
    known id x e = ap (λ k. is_some (row_at task_id k t.tasks)) (Has-from_row_at task_id id u.tasks x e).1

    same-so : (before after : Option Task) → ((x : Task) → after ≡ Some x → was t x ≡ is_some before)
        → option_map show after ≡ option_map show before
        → option_map show (keep (was t) (keep (is_of s.id) after)) ≡ option_map show (keep (is_of s.id) before)
    same-so None None there e = refl
    same-so None (Some x) there e = absurd cc
    same-so (Some y) None there e = absurd cc
    same-so (Some y) (Some x) there e =
        ap (option_map show) (keep-in (was t) (is_of s.id) x (there x refl))
        ∙ keep-shown show (is_of s.id) (Some x) (Some y) of-read e

    added-so : (before after : Option Task) → ((x : Task) → after ≡ Some x → was t x ≡ is_some before) → before ≡ None
        → option_map show (keep (was t) (keep (is_of s.id) after)) ≡ option_map show (keep (is_of s.id) before)
    added-so (Some y) after there none = absurd cc
    added-so None None there none = refl
    added-so None (Some x) there none = ap (option_map show) (keep-out (was t) (is_of s.id) x (there x refl))

    each : (before after : Option Task) → ((x : Task) → after ≡ Some x → was t x ≡ is_some before)
        → Turns quiet show span before after
        → option_map show (keep (was t) (keep (is_of s.id) after)) ≡ option_map show (keep (is_of s.id) before)
    each before after there (inl (inl same)) = same-so before after there same
    each before after there (inl (inr two)) =
        ap (λ o. option_map show (keep (was t) o)) (outside span s after positive out two.1)
        ∙ sym (ap (option_map show) (outside span s before positive out two.0))
    each before after there (inr added) = added-so before after there added.none

new-quiet : {S : Type 0} (quiet : Task → Bool) (show : Task → S) (t u : Tables) (span : Span) (s : Service)
    → AreRising t u → HasShiftedBut quiet show span t u → 0 < s.id → is_in span s.id ≡ false
    → (x : Task) → Has (own u s) x → was t x ≡ false → quiet x ≡ true
new-quiet {S} quiet show t u span s rising shifted positive out x h new =
    go (row_at task_id x.id t.tasks) new
    (subst (Turns quiet show span (row_at task_id x.id t.tasks)) (row_at-Some task_id 0 u.tasks x rising.after parts.0)
    (shifted.tasks x.id))
  where
    parts : Has u.tasks x × (is_of s.id x ≡ true)
    parts = Has-filter_cases (is_of s.id) u.tasks x h

    go : (before : Option Task) → is_some before ≡ false → Turns quiet show span before (Some x) → quiet x ≡ true
    go (Some y) e turns = absurd cc
    go None e (inl (inl same)) = absurd cc
    go None e (inl (inr two)) =
        let gone : cond (is_of s.id x) (Some x) None ≡ None = outside span s (Some x) positive out two.1 in
        let both : Some x ≡ None = sym (ap (λ b. cond b (Some x) None) parts.1) ∙ gone in
        absurd cc
    go None e (inr added) = added.new

-- Without some of its live clean tasks a service has a dirty place as before.

filter-beside : {X : Type 0} (p q : X → Bool) (xs : List X) → ((x : X) → Has xs x → q x ≡ true → p x ≡ true)
    → filter q (filter p xs) ≡ filter q xs
filter-beside p q [] implies = refl
filter-beside {X} p q (x ∷ xs) implies =
    go (p x) refl (q x) refl (filter-beside p q xs (λ y h. implies y (inr h)))
  where
    go : (a : Bool) → p x ≡ a → (b : Bool) → q x ≡ b → filter q (filter p xs) ≡ filter q xs
        → filter q (cond a (x ∷ filter p xs) (filter p xs)) ≡ cond b (x ∷ filter q xs) (filter q xs)
    go true e b f rest = ap (λ c. cond c (x ∷ filter q (filter p xs)) (filter q (filter p xs))) f
        ∙ ap (λ ys. cond b (x ∷ ys) ys) rest
    go false e true f rest = never-both (p x) e (implies x (inl refl) f)
    go false e false f rest = rest

filter-all : {X : Type 0} (p : X → Bool) (xs : List X) → ((x : X) → Has xs x → p x ≡ true) → filter p xs ≡ xs
filter-all p [] each = refl
filter-all p (x ∷ xs) each =
    ap (λ b. cond b (x ∷ filter p xs) (filter p xs)) (each x (inl refl))
    ∙ ap (λ ys. x ∷ ys) (filter-all p xs (λ y h. each y (inr h)))

-- only live clean ones are left out
abbrev LeavesClean : Service → (Task → Bool) → List Task → Type 0
LeavesClean s p xs = (x : Task) → Has xs x → p x ≡ false → is_live_clean s x ≡ true

stays-unless : (s : Service) (p : Task → Bool) (xs : List Task) → LeavesClean s p xs → (x : Task) → Has xs x
    → is_live_clean s x ≡ false → p x ≡ true
stays-unless s p xs left x h unclean = go (p x) refl
  where
    go : (b : Bool) → p x ≡ b → p x ≡ true
    go true e = e
    go false e = never-both (is_live_clean s x) unclean (left x h e)

dirty-unclean : (live clean : Bool) → (live && not clean) ≡ true → (live && clean) ≡ false
dirty-unclean true true e = absurd cc
dirty-unclean true false e = refl
dirty-unclean false clean e = refl

dead-unclean : (live clean : Bool) → live ≡ false → (live && clean) ≡ false
dead-unclean true clean e = absurd cc
dead-unclean false clean e = refl

none-passes : {X : Type 0} (test : X → Bool) (xs : List X) (x : X) → list_any test xs ≡ false → Has xs x
    → test x ≡ false
none-passes test xs x none h = go (test x) refl
  where
    go : (b : Bool) → test x ≡ b → test x ≡ false
    go false e = e
    go true e = never-both (list_any test xs) none (has-any test xs x h e)

place-stays : (s : Service) (p : Task → Bool) (xs : List Task) (k : ℕ) → LeavesClean s p xs
    → is_dirty_place (alone xs 0) s k ≡ true → is_dirty_place (alone (filter p xs) 0) s k ≡ true
place-stays s p xs k left dirty = go (list_any (is_live_dirty s) (placed xs)) refl dirty
  where
    here : Task → Bool
    here = is_in_place s (place_at s.spec.mode k)

    placed : List Task → List Task
    placed ys = filter here ys

    closing : List Task → Bool
    closing ys = not (list_any is_live (placed ys)) && is_some_and (closes_dirty s) (newest (placed ys))

    go : (b : Bool) → list_any (is_live_dirty s) (placed xs) ≡ b → (b || closing xs) ≡ true
        → (list_any (is_live_dirty s) (placed (filter p xs)) || closing (filter p xs)) ≡ true
    go true some e =
        let found = any-has (is_live_dirty s) (placed xs) some in
        let x = found.0 in
        let parts = Has-filter_cases here xs x found.1 in
        let stays =
        stays-unless s p xs left x parts.0 (dirty-unclean (is_live x) (is_clean s x) found.2) in
        or_left (list_any (is_live_dirty s) (placed (filter p xs))) (closing (filter p xs))
        (has-any (is_live_dirty s) (placed (filter p xs)) x
        (Has-filter here (filter p xs) x (Has-filter p xs x parts.0 stays) parts.1) found.2)
    go false none e =
        let parts =
        both_are (not (list_any is_live (placed xs))) (is_some_and (closes_dirty s) (newest (placed xs))) e in
        let dead = not-true (list_any is_live (placed xs)) parts.0 in
        let same : placed (filter p xs) ≡ placed xs =
        filter-beside p here xs
        (λ x h at.
        stays-unless s p xs left x h
        (dead-unclean (is_live x) (is_clean s x)
        (none-passes is_live (placed xs) x dead (Has-filter here xs x h at)))) in
        or_right (list_any (is_live_dirty s) (placed (filter p xs))) (closing (filter p xs))
        (ap (λ ys. not (list_any is_live ys) && is_some_and (closes_dirty s) (newest ys)) same ∙ e)

-- a place that is dirty is one that the service has tasks in
dirty-has : (s : Service) (ys : List Task) (k : ℕ) → is_dirty_place (alone ys 0) s k ≡ true
    → (y : Task) × Has (tasks_of_place s (place_at s.spec.mode k) ys) y
dirty-has s ys k dirty = go (list_any (is_live_dirty s) placed) refl dirty
  where
    placed : List Task
    placed = tasks_of_place s (place_at s.spec.mode k) ys

    go : (b : Bool) → list_any (is_live_dirty s) placed ≡ b
        → (b || (not (list_any is_live placed) && is_some_and (closes_dirty s) (newest placed))) ≡ true
        → (y : Task) × Has placed y
    go true some e = let found = any-has (is_live_dirty s) placed some in (found.0, found.1)
    go false none e =
        let parts = both_are (not (list_any is_live placed)) (is_some_and (closes_dirty s) (newest placed)) e in
        let last = some-and-cases (closes_dirty s) (newest placed) parts.1 in
        (last.0, newest_has placed last.0 last.1)

number-at : (m : Mode) (k : ℕ) → place_number (place_at m k) ≡ k
number-at (mode.Replicated n) k = refl
number-at mode.Global k = refl
number-at (mode.Job concurrent total) k = refl

has-number : (s : Service) (ys : List Task) (y : Task) → Has ys y → counts_for s y ≡ true
    → Has (numbers_of s ys) (place_number y.place)
has-number s ys y h counts =
    let at : Task → ℕ = λ x. place_number x.place in
    subst (λ ks. Has ks (place_number y.place)) (fold-map (λ ks k. with_number k ks) at [] (filter (counts_for s) ys))
    (rising-has (map at (filter (counts_for s) ys)) (place_number y.place)
    (Has-map at (filter (counts_for s) ys) y (Has-filter (counts_for s) ys y h counts)))

dirty-stays : (s : Service) (p : Task → Bool) (xs : List Task) → LeavesClean s p xs
    → has_dirty_place (alone xs 0) s ≡ true → has_dirty_place (alone (filter p xs) 0) s ≡ true
dirty-stays s p xs left some =
    let found = any-has (is_dirty_place (alone xs 0) s) (numbers_of s xs) some in
    let k = found.0 in
    let place = place_at s.spec.mode k in
    let dirty = place-stays s p xs k left found.2 in
    let task = dirty-has s (filter p xs) k dirty in
    let y = task.0 in
    let parts = Has-filter_cases (is_in_place s place) (filter p xs) y task.1 in
    let tests = both_are (counts_for s y) (same_place y.place place) parts.1 in
    let at : place_number y.place ≡ k =
    ap place_number ((Decides-same_place y.place place).0 tests.1) ∙ number-at s.spec.mode k in
    has-any (is_dirty_place (alone (filter p xs) 0) s) (numbers_of s (filter p xs)) k
    (subst (Has (numbers_of s (filter p xs))) at (has-number s (filter p xs) y parts.0 tests.0)) dirty

-- One step of the line.

quiet-of : (t : Tables) (s : Service) (x : Task) → row_at service_id s.id t.services ≡ Some s → is_of s.id x ≡ true
    → comes_quietly t x ≡ true → (is_live_clean s x && not (has_open_run s)) ≡ true
quiet-of t s x row of comes =
    let test : Service → Bool = λ r. is_live_clean r x && not (has_open_run r) in
    let same : x.service ≡ s.id = grind (arith, nat_tests, of) in
    sym (ap (λ k. is_some_and test (row_at service_id k t.services)) same ∙ ap (is_some_and test) row) ∙ comes

-- without an update under way a service has a duty where one is to start
starts-alone : (t : Tables) (s : Service) → has_open_run s ≡ false
    → is_some (first_of (when (is_to_start t s) (duty.Start s.id) ++ run_duties t s s.run)) ≡ is_to_start t s
starts-alone t s none =
    ap (λ ds. is_some (first_of (when (is_to_start t s) (duty.Start s.id) ++ ds))) (unrun t s s.run none)
    ∙ go (is_to_start t s)
  where
    go : (b : Bool) → is_some (first_of (when b (duty.Start s.id) ++ [])) ≡ b
    go true = refl
    go false = refl

pub updates_go_on : UpdateLaw
updates_go_on t u span rising clock shifted c =
    covers-by updates t u span rising shifted.services
    (λ s row positive out passes. had s row positive out passes (has_open_run s) refl) c
  where
    new : (s : Service) → row_at service_id s.id t.services ≡ Some s → 0 < s.id → is_in span s.id ≡ false → (x : Task)
        → Has (own u s) x → was t x ≡ false → (is_live_clean s x && not (has_open_run s)) ≡ true
    new s row positive out x h came =
        quiet-of t s x row (Has-filter_cases (is_of s.id) u.tasks x h).1
        (new-quiet (comes_quietly t) (progress t) t u span s rising shifted positive out x h came)

    shown : (s : Service) → 0 < s.id → is_in span s.id ≡ false
        → map (progress t) (stayed t u s) ≡ map (progress t) (own t s)
    shown s positive out =
        stayed-shown (comes_quietly t) (progress t) t u span s (λ x y e. ap (λ (p : Progress). p.standing.service) e)
        rising shifted positive out

    dirty : (s : Service) → row_at service_id s.id t.services ≡ Some s → 0 < s.id → is_in span s.id ≡ false
        → has_dirty_place u s ≡ true → has_dirty_place t s ≡ true
    dirty s row positive out e =
        let there : has_dirty_place (alone (stayed t u s) 0) s ≡ true =
        dirty-stays s (was t) (own u s)
        (λ x h came. (both_are (is_live_clean s x) (not (has_open_run s)) (new s row positive out x h came)).0)
        (has-dirty-alone u s ∙ e) in
        let same =
        has-dirty-alike s (stayed t u s) (own t s)
        (map-alike (progress t) laid (stayed t u s) (own t s) (laid-read t) (shown s positive out)) in
        sym (has-dirty-alone t s) ∙ sym same ∙ there

    start : (s : Service) → row_at service_id s.id t.services ≡ Some s → 0 < s.id → is_in span s.id ≡ false
        → is_to_start u s ≡ true → is_to_start t s ≡ true
    start s row positive out e =
        let parts = both_are (has_dirty_place u s) (not (is_some_and (is_of_version s) s.run)) e in
        both (has_dirty_place t s) (not (is_some_and (is_of_version s) s.run))
        (dirty s row positive out parts.0) parts.1

    idle : (s : Service) → row_at service_id s.id t.services ≡ Some s → 0 < s.id → is_in span s.id ≡ false
        → has_open_run s ≡ false → (m : Mode) → is_some (first_of (update_duties u s m)) ≡ true
        → is_some (first_of (update_duties t s m)) ≡ true
    idle s row positive out none (mode.Replicated n) e =
        starts-alone t s none ∙ start s row positive out (sym (starts-alone u s none) ∙ e)
    idle s row positive out none mode.Global e =
        starts-alone t s none ∙ start s row positive out (sym (starts-alone u s none) ∙ e)
    idle s row positive out none (mode.Job concurrent total) e = absurd cc

    had : (s : Service) → row_at service_id s.id t.services ≡ Some s → 0 < s.id → is_in span s.id ≡ false
        → has_duty (updates u) s ≡ true → (b : Bool) → has_open_run s ≡ b → has_duty (updates t) s ≡ true
    had s row positive out passes false none = idle s row positive out none s.spec.mode passes
    had s row positive out passes true runs =
        let all : stayed t u s ≡ own u s = filter-all (was t) (own u s) (λ x h. known x h (was t x) refl) in
        let same : map (progress t) (own u s) ≡ map (progress t) (own t s) =
        ap (map (progress t)) (sym all) ∙ shown s positive out in
        sym (ap (λ ds. is_some (first_of ds)) (update-same t u s clock row same)) ∙ passes
      where
        known : (x : Task) → Has (own u s) x → (b : Bool) → was t x ≡ b → was t x ≡ true
        known x h true e = e
        known x h false e =
            let closed = (both_are (is_live_clean s x) (not (has_open_run s)) (new s row positive out x h e)).1 in
            never-both (has_open_run s) (not-true (has_open_run s) closed) runs
