-- What there is to do about a service's update, by its own tasks.
use Rattle.std.proofs.Common.{Bool, List, None, Option, Some, [], ap, cond, false, inl, inr, refl, sym, true, ℕ, ◌∙◌, ◌+◌, ◌*◌, ◌++◌, ◌∷◌, ◌≡◌, arith}
use Rattle.std.proofs.lemmas.Bool.Decides.{nat_tests}
use Rattle.std.specs.List.{list_all, list_any}
use Rattle.std.specs.Prelude.{is_some, map, nat_lt, not, ◌&&◌, ◌||◌, ◌==◌}
use Rattle.swarm_objects.proofs.PlaceLemmas.{and_left, count_again, in_place_of_service}
use Rattle.swarm_objects.proofs.RowLemmas.{Has-filter_cases, sum_by-same}
use Rattle.swarm_objects.specs.Loops.Update.{is_watched, open_duties, run_duties, update_duties}
use Rattle.swarm_objects.specs.Loops.Words.{places_where, when}
use Rattle.swarm_objects.specs.Rows.{Has, first_of, is_some_and, row_at, service_id}
use Rattle.swarm_objects.specs.Services.Runs.{counts_as_failure, fails, failures, goes_on, has_open_run, in_flight, is_failure, is_flying, is_in_flight, is_of_version, is_present, is_under_way}
use Rattle.swarm_objects.specs.Services.Words.{is_dirty, is_job, is_live_clean, is_live_dirty}
use Rattle.swarm_objects.specs.Same.{same_template}
use Rattle.swarm_objects.specs.Tasks.Places.{closes_dirty, has_dirty_place, is_dirty_place, is_in_place, newest, place_at, place_numbers, place_tasks, tasks_of_place}
use Rattle.swarm_objects.specs.Tasks.Words.{is_live, is_of, is_running}
use Rattle.swarm_objects.specs.World.{Tables, empty_tables}
use Rattle.swarm_objects.specs.declared.duties.Duty.TheVariants as duty
use Rattle.swarm_objects.specs.declared.services.Mode.{Mode}
use Rattle.swarm_objects.specs.declared.services.Mode.TheVariants as mode
use Rattle.swarm_objects.specs.declared.services.Replaced.{Replaced}
use Rattle.swarm_objects.specs.declared.services.Service.{Service}
use Rattle.swarm_objects.specs.declared.services.UpdateRun.{UpdateRun}
use Rattle.swarm_objects.specs.declared.tasks.Place.{Place}
use Rattle.swarm_objects.specs.declared.tasks.Task.{Task}
use Rattle.swarm_objects.specs.declared.templates.Template.{Template}
use Rattle.swarm_spans.proofs.Services.Alike.{Reads, any-alike, count-alike, filter-alike, last-alike, map-alike, some-alike}
use Rattle.swarm_spans.proofs.Services.GoesOn.{goes-on}
use Rattle.swarm_spans.proofs.Services.Held.{closes-read, live-read, numbers-alike, numbers-of, own, place-read}
use Rattle.swarm_spans.specs.Services.Lines.{AreRising, updates}
use Rattle.swarm_spans.specs.Services.Standings.{Course, Progress, Standing, course, is_updated, progress, standing}
use Rattle.swarm_spans.specs.Services.Steps.{HasShifted}
use Rattle.swarm_spans.specs.Spans.{CoversServices}
use Rattle.swarm_spans.specs.declared.span.Span.{Span}

-- With a run under way: all by the service's tasks and the time.

abbrev pub alone : List Task → ℕ → Tables
alone tasks clock = record empty_tables { clock = clock; tasks = tasks }

abbrev by-own : Tables → Service → Tables
by-own t s = alone (own t s) t.clock

place-alone : (t : Tables) (s : Service) (k : ℕ) → place_tasks (by-own t s) s k ≡ place_tasks t s k
place-alone t s k = in_place_of_service s (place_at s.spec.mode k) t.tasks

failures-alone : (t : Tables) (s : Service) (run : UpdateRun) → failures (by-own t s) s run ≡ failures t s run
failures-alone t s run =
    count_again (is_failure s run) (is_of s.id) t.tasks
    (λ x e. and_left (is_of s.id x) (x.born == run.version)
    (and_left (is_of s.id x && x.born == run.version) (counts_as_failure x.state)
    (and_left (is_of s.id x && x.born == run.version && counts_as_failure x.state)
    (nat_lt x.since (x.created + s.spec.update.monitor)) e)))

fails-alone : (t : Tables) (s : Service) (run : UpdateRun) → fails (by-own t s) s run ≡ fails t s run
fails-alone t s run =
    ap (λ n. is_present s run && not (goes_on s.spec.update.action)
    && nat_lt (s.spec.update.ratio * run.total) (1000 * n)) (failures-alone t s run)

in-flight-alone : (t : Tables) (s : Service) (item : Replaced)
    → is_in_flight (by-own t s) s item ≡ is_in_flight t s item
in-flight-alone t s item = ap (list_any (is_flying t s)) (in_place_of_service s item.place t.tasks)

flying-alone : (t : Tables) (s : Service) (run : UpdateRun) → in_flight (by-own t s) s run ≡ in_flight t s run
flying-alone t s run =
    sum_by-same (λ i. cond (is_in_flight (by-own t s) s i) 1 0) (λ i. cond (is_in_flight t s i) 1 0) run.replaced
    (λ i. ap {B = ℕ} (λ b. cond b 1 0) (in-flight-alone t s i))

dirty-alone : (t : Tables) (s : Service) (k : ℕ) → is_dirty_place (by-own t s) s k ≡ is_dirty_place t s k
dirty-alone t s k =
    ap (λ xs. list_any (is_live_dirty s) xs || (not (list_any is_live xs) && is_some_and (closes_dirty s) (newest xs)))
    (place-alone t s k)

pub has-dirty-alone : (t : Tables) (s : Service) → has_dirty_place (by-own t s) s ≡ has_dirty_place t s
has-dirty-alone t s = λ i. list_any (λ k. dirty-alone t s k i) (numbers-of s t.tasks i)

open-alone : (t : Tables) (s : Service) (run : UpdateRun) → open_duties (by-own t s) s run ≡ open_duties t s run
open-alone t s run = λ i.
    when (fails-alone t s run i) (duty.Fail s.id)
    ++ places_where (is_of_version s run)
    (λ k. list_any (λ x. is_live_clean s x && is_running x) (place-alone t s k i)
    && list_any (is_live_dirty s) (place-alone t s k i))
    (duty.Swap s.id) (numbers-of s t.tasks i)
    ++ places_where
    (is_of_version s run
    && ((s.spec.update.parallelism == 0 || nat_lt (flying-alone t s run i) s.spec.update.parallelism)
    && not (fails-alone t s run i)))
    (λ k. dirty-alone t s k i && not (list_any (is_live_clean s) (place-alone t s k i)))
    (duty.Replace s.id) (numbers-of s t.tasks i)
    ++ when (not (has-dirty-alone t s i) && list_all (is_watched t s) run.replaced && not (fails-alone t s run i))
    (duty.Finish s.id)

run-alone : (t : Tables) (s : Service) (o : Option UpdateRun) → run_duties (by-own t s) s o ≡ run_duties t s o
run-alone t s None = refl
run-alone t s (Some run) = ap (λ ds. cond (is_under_way run) ds []) (open-alone t s run)

update-alone : (t : Tables) (s : Service) (m : Mode) → update_duties (by-own t s) s m ≡ update_duties t s m
update-alone t s (mode.Replicated n) = λ i.
    when (has-dirty-alone t s i && not (is_some_and (is_of_version s) s.run)) (duty.Start s.id)
    ++ run-alone t s s.run i
update-alone t s mode.Global = λ i.
    when (has-dirty-alone t s i && not (is_some_and (is_of_version s) s.run)) (duty.Start s.id)
    ++ run-alone t s s.run i
update-alone t s (mode.Job concurrent total) = refl

own-updated : (t u : Tables) (s : Service) → row_at service_id s.id t.services ≡ Some s → has_open_run s ≡ true
    → (x : Task) → Has (own u s) x → is_updated t x ≡ true
own-updated t u s row runs x h =
    let of : is_of s.id x ≡ true = (Has-filter_cases (is_of s.id) u.tasks x h).1 in
    let same : x.service ≡ s.id = grind (arith, nat_tests, of) in
    ap (λ k. is_some_and has_open_run (row_at service_id k t.services)) same ∙ ap (is_some_and has_open_run) row ∙ runs

-- With none: all by how the tasks stand and by their templates.

abbrev pub laid : Task → Standing × Template
laid x = (standing x, x.template)

standing-laid : Reads laid standing
standing-laid x y e = ap (λ (p : Standing × Template). p.0) e

dirty-read : (s : Service) → Reads laid (is_dirty s)
dirty-read s x y e =
    ap (λ (p : Standing × Template).
    not (same_template p.1 s.spec.template && (not (is_job s.spec.mode) || p.0.iteration == s.iteration))) e

dirty-alike : (s : Service) (k : ℕ) (xs ys : List Task) → map laid xs ≡ map laid ys
    → is_dirty_place (alone xs 0) s k ≡ is_dirty_place (alone ys 0) s k
dirty-alike s k xs ys e =
    let p = place_at s.spec.mode k in
    let placed =
    filter-alike laid (λ x. is_in_place s p x) xs ys (λ x y h. place-read s p x y (standing-laid x y h)) e in
    let some =
    any-alike laid (is_live_dirty s) (tasks_of_place s p xs) (tasks_of_place s p ys)
    (λ x y h i. live-read x y (standing-laid x y h) i && dirty-read s x y h i) placed in
    let live =
    any-alike laid is_live (tasks_of_place s p xs) (tasks_of_place s p ys)
    (λ x y h. live-read x y (standing-laid x y h)) placed in
    let last =
    some-alike laid (closes_dirty s) (newest (tasks_of_place s p xs)) (newest (tasks_of_place s p ys))
    (λ x y h i. closes-read x y (standing-laid x y h) i && dirty-read s x y h i)
    (last-alike laid None None (tasks_of_place s p xs) (tasks_of_place s p ys) refl placed) in
    λ i. some i || (not (live i) && last i)

pub has-dirty-alike : (s : Service) (xs ys : List Task) → map laid xs ≡ map laid ys
    → has_dirty_place (alone xs 0) s ≡ has_dirty_place (alone ys 0) s
has-dirty-alike s xs ys e =
    λ i. list_any (λ k. dirty-alike s k xs ys e i) (numbers i)
  where
    numbers : place_numbers (alone xs 0) s ≡ place_numbers (alone ys 0) s
    numbers = numbers-alike s xs ys (map-alike laid standing xs ys standing-laid e)

has-dirty-same : (t u : Tables) (s : Service) → map laid (own u s) ≡ map laid (own t s)
    → has_dirty_place u s ≡ has_dirty_place t s
has-dirty-same t u s e =
    sym (has-dirty-alone u s) ∙ has-dirty-alike s (own u s) (own t s) e ∙ has-dirty-alone t s

pub unrun : (t : Tables) (s : Service) (o : Option UpdateRun) → is_some_and is_under_way o ≡ false → run_duties t s o ≡ []
unrun t s None e = refl
unrun t s (Some run) e = ap (λ b. cond b (open_duties t s run) []) e

unrun-same : (t u : Tables) (s : Service) (m : Mode) → has_open_run s ≡ false
    → map laid (own u s) ≡ map laid (own t s) → update_duties u s m ≡ update_duties t s m
unrun-same t u s (mode.Replicated n) e same = λ i.
    when (has-dirty-same t u s same i && not (is_some_and (is_of_version s) s.run)) (duty.Start s.id)
    ++ (unrun u s s.run e ∙ sym (unrun t s s.run e)) i
unrun-same t u s mode.Global e same = λ i.
    when (has-dirty-same t u s same i && not (is_some_and (is_of_version s) s.run)) (duty.Start s.id)
    ++ (unrun u s s.run e ∙ sym (unrun t s s.run e)) i
unrun-same t u s (mode.Job concurrent total) e same = refl

-- With one: what is seen of the tasks tells all of it.

abbrev seen : Task → Standing × Template × Course
seen x = (standing x, x.template, course x)

seen-is : (t : Tables) (x y : Task) → is_updated t x ≡ true → is_updated t y ≡ true → progress t x ≡ progress t y
    → seen x ≡ seen y
seen-is t x y one two e =
    let courses : cond (is_updated t x) (Some (course x)) None ≡ cond (is_updated t y) (Some (course y)) None =
    ap (λ (p : Progress). p.course) e in
    let c = go (is_updated t x) (is_updated t y) one two courses in
    λ i. ((e i).standing, (e i).template, c i)
  where
    go : (a b : Bool) → a ≡ true → b ≡ true → cond a (Some (course x)) None ≡ cond b (Some (course y)) None
        → course x ≡ course y
    go true true p q k = cc
    go false b p q k = absurd cc
    go true false p q k = absurd cc

seen-are : (t : Tables) (xs ys : List Task) → ((x : Task) → Has xs x → is_updated t x ≡ true)
    → ((y : Task) → Has ys y → is_updated t y ≡ true) → map (progress t) xs ≡ map (progress t) ys
    → map seen xs ≡ map seen ys
seen-are t [] [] one two e = refl
seen-are t [] (y ∷ ys) one two e = absurd cc
seen-are t (x ∷ xs) [] one two e = absurd cc
seen-are t (x ∷ xs) (y ∷ ys) one two e =
    let head : progress t x ≡ progress t y = cc in
    let tail : map (progress t) xs ≡ map (progress t) ys = cc in
    ap (λ z. z ∷ map seen xs) (seen-is t x y (one x (inl refl)) (two y (inl refl)) head)
    ∙ ap (λ zs. seen y ∷ zs) (seen-are t xs ys (λ z h. one z (inr h)) (λ z h. two z (inr h)) tail)

laid-seen : Reads seen laid
laid-seen x y e = λ i. ((e i).0, (e i).1)

standing-seen : Reads seen standing
standing-seen x y e = ap (λ (p : Standing × Template × Course). p.0) e

-- a test of the time since when it is in a state
since-is : (b : Bool) (k : ℕ) (test : ℕ → Bool)
    → (b && test k) ≡ is_some_and test (cond b (Some k) None)
since-is true k test = refl
since-is false k test = refl

clean-seen : (s : Service) → Reads seen (is_live_clean s)
clean-seen s x y e =
    ap (λ (p : Standing × Template × Course).
    p.0.live && (same_template p.1 s.spec.template && (not (is_job s.spec.mode) || p.0.iteration == s.iteration))) e

dirty-seen : (s : Service) → Reads seen (is_live_dirty s)
dirty-seen s x y e =
    ap (λ (p : Standing × Template × Course).
    p.0.live && not (same_template p.1 s.spec.template && (not (is_job s.spec.mode) || p.0.iteration == s.iteration)))
    e

runs-is : (x : Task) → is_running x ≡ is_some (course x).runs
runs-is x = go (is_running x)
  where
    go : (b : Bool) → b ≡ is_some (cond b (Some x.since) None)
    go true = refl
    go false = refl

runs-seen : Reads seen is_running
runs-seen x y e = runs-is x ∙ ap (λ (p : Standing × Template × Course). is_some p.2.runs) e ∙ sym (runs-is y)

and-later : (a b c : Bool) → (a && b && c) ≡ (a && (b && c))
and-later true b c = refl
and-later false b c = refl

failure-seen : (s : Service) (run : UpdateRun) → Reads seen (is_failure s run)
failure-seen s run x y e =
    and-later (is_of s.id x && x.born == run.version) (counts_as_failure x.state)
    (nat_lt x.since (x.created + s.spec.update.monitor))
    ∙ (λ i. (own i && born i) && two i)
    ∙ sym (and-later (is_of s.id y && y.born == run.version) (counts_as_failure y.state)
    (nat_lt y.since (y.created + s.spec.update.monitor)))
  where
    own : is_of s.id x ≡ is_of s.id y
    own = ap (λ (p : Standing × Template × Course). p.0.service == s.id) e

    born : (x.born == run.version) ≡ (y.born == run.version)
    born = ap (λ (p : Standing × Template × Course). p.2.born == run.version) e

    two : (counts_as_failure x.state && nat_lt x.since (x.created + s.spec.update.monitor))
        ≡ (counts_as_failure y.state && nat_lt y.since (y.created + s.spec.update.monitor))
    two =
        since-is (counts_as_failure x.state) x.since (λ k. nat_lt k (x.created + s.spec.update.monitor))
        ∙ ap (λ (p : Standing × Template × Course).
        is_some_and (λ k. nat_lt k (p.2.created + s.spec.update.monitor)) p.2.failed) e
        ∙ sym (since-is (counts_as_failure y.state) y.since (λ k. nat_lt k (y.created + s.spec.update.monitor)))

flying-seen : (t : Tables) (s : Service) → Reads seen (is_flying t s)
flying-seen t s x y e = λ i. clean-seen s x y e i && ((e i).2.below || late i)
  where
    late : (is_running x && nat_lt t.clock (x.since + s.spec.update.delay))
        ≡ (is_running y && nat_lt t.clock (y.since + s.spec.update.delay))
    late =
        since-is (is_running x) x.since (λ k. nat_lt t.clock (k + s.spec.update.delay))
        ∙ ap (λ (p : Standing × Template × Course).
        is_some_and (λ k. nat_lt t.clock (k + s.spec.update.delay)) p.2.runs) e
        ∙ sym (since-is (is_running y) y.since (λ k. nat_lt t.clock (k + s.spec.update.delay)))

-- of two lists of tasks of which the same is seen
open-seen : (s : Service) (run : UpdateRun) (clock : ℕ) (xs ys : List Task) → map seen xs ≡ map seen ys
    → open_duties (alone xs clock) s run ≡ open_duties (alone ys clock) s run
open-seen s run clock xs ys e = λ i.
    when (fail i) (duty.Fail s.id)
    ++ places_where (is_of_version s run) (λ k. ready k i && old k i) (duty.Swap s.id) (numbers i)
    ++ places_where
    (is_of_version s run
    && ((s.spec.update.parallelism == 0 || nat_lt (flight i) s.spec.update.parallelism) && not (fail i)))
    (λ k. dirty k i && not (clean k i))
    (duty.Replace s.id) (numbers i)
    ++ when (not (list_any (λ k. dirty k i) (numbers i)) && list_all (is_watched (alone xs clock) s) run.replaced && not (fail i))
    (duty.Finish s.id)
  where
    lie : map laid xs ≡ map laid ys
    lie = map-alike seen laid xs ys laid-seen e

    numbers : place_numbers (alone xs clock) s ≡ place_numbers (alone ys clock) s
    numbers = numbers-alike s xs ys (map-alike seen standing xs ys standing-seen e)

    placed : (p : Place) → map seen (tasks_of_place s p xs) ≡ map seen (tasks_of_place s p ys)
    placed p = filter-alike seen (is_in_place s p) xs ys (λ x y h. place-read s p x y (standing-seen x y h)) e

    at : ℕ → Place
    at k = place_at s.spec.mode k

    fail : fails (alone xs clock) s run ≡ fails (alone ys clock) s run
    fail =
        ap (λ n. is_present s run && not (goes_on s.spec.update.action)
        && nat_lt (s.spec.update.ratio * run.total) (1000 * n))
        (count-alike seen (is_failure s run) xs ys (failure-seen s run) e)

    ready : (k : ℕ) → list_any (λ x. is_live_clean s x && is_running x) (tasks_of_place s (at k) xs)
        ≡ list_any (λ x. is_live_clean s x && is_running x) (tasks_of_place s (at k) ys)
    ready k =
        any-alike seen (λ x. is_live_clean s x && is_running x) (tasks_of_place s (at k) xs)
        (tasks_of_place s (at k) ys) (λ x y h i. clean-seen s x y h i && runs-seen x y h i) (placed (at k))

    old : (k : ℕ) → list_any (is_live_dirty s) (tasks_of_place s (at k) xs)
        ≡ list_any (is_live_dirty s) (tasks_of_place s (at k) ys)
    old k =
        any-alike seen (is_live_dirty s) (tasks_of_place s (at k) xs) (tasks_of_place s (at k) ys) (dirty-seen s)
        (placed (at k))

    clean : (k : ℕ) → list_any (is_live_clean s) (tasks_of_place s (at k) xs)
        ≡ list_any (is_live_clean s) (tasks_of_place s (at k) ys)
    clean k =
        any-alike seen (is_live_clean s) (tasks_of_place s (at k) xs) (tasks_of_place s (at k) ys) (clean-seen s)
        (placed (at k))

    dirty : (k : ℕ) → is_dirty_place (alone xs clock) s k ≡ is_dirty_place (alone ys clock) s k
    dirty k = dirty-alike s k xs ys lie

    flies : (item : Replaced) → is_in_flight (alone xs clock) s item ≡ is_in_flight (alone ys clock) s item
    flies item =
        any-alike seen (is_flying (alone xs clock) s) (tasks_of_place s item.place xs)
        (tasks_of_place s item.place ys) (flying-seen (alone xs clock) s) (placed item.place)

    flight : in_flight (alone xs clock) s run ≡ in_flight (alone ys clock) s run
    flight =
        sum_by-same (λ i. cond (is_in_flight (alone xs clock) s i) 1 0) (λ i. cond (is_in_flight (alone ys clock) s i) 1 0)
        run.replaced (λ i. ap {B = ℕ} (λ b. cond b 1 0) (flies i))

run-seen : (s : Service) (o : Option UpdateRun) (clock : ℕ) (xs ys : List Task) → map seen xs ≡ map seen ys
    → run_duties (alone xs clock) s o ≡ run_duties (alone ys clock) s o
run-seen s None clock xs ys e = refl
run-seen s (Some run) clock xs ys e = ap (λ ds. cond (is_under_way run) ds []) (open-seen s run clock xs ys e)

start-seen : (s : Service) (clock : ℕ) (xs ys : List Task) → map seen xs ≡ map seen ys
    → has_dirty_place (alone xs clock) s ≡ has_dirty_place (alone ys clock) s
start-seen s clock xs ys e =
    let lie = map-alike seen laid xs ys laid-seen e in
    let numbers = numbers-alike s xs ys (map-alike seen standing xs ys standing-seen e) in
    λ i. list_any (λ k. dirty-alike s k xs ys lie i) (numbers i)

update-seen : (s : Service) (m : Mode) (clock : ℕ) (xs ys : List Task) → map seen xs ≡ map seen ys
    → update_duties (alone xs clock) s m ≡ update_duties (alone ys clock) s m
update-seen s (mode.Replicated n) clock xs ys e = λ i.
    when (start-seen s clock xs ys e i && not (is_some_and (is_of_version s) s.run)) (duty.Start s.id)
    ++ run-seen s s.run clock xs ys e i
update-seen s mode.Global clock xs ys e = λ i.
    when (start-seen s clock xs ys e i && not (is_some_and (is_of_version s) s.run)) (duty.Start s.id)
    ++ run-seen s s.run clock xs ys e i
update-seen s (mode.Job concurrent total) clock xs ys e = refl

pub laid-read : (t : Tables) → Reads (progress t) laid
laid-read t x y e = ap (λ (p : Progress). (p.standing, p.template)) e

pub update-same : (t u : Tables) (s : Service) → u.clock ≡ t.clock → row_at service_id s.id t.services ≡ Some s
    → map (progress t) (own u s) ≡ map (progress t) (own t s) → update_duties u s s.spec.mode
    ≡ update_duties t s s.spec.mode
update-same t u s clock row e = go (has_open_run s) refl
  where
    go : (b : Bool) → has_open_run s ≡ b → update_duties u s s.spec.mode ≡ update_duties t s s.spec.mode
    go false none =
        unrun-same t u s s.spec.mode none (map-alike (progress t) laid (own u s) (own t s) (laid-read t) e)
    go true runs =
        let see : map seen (own u s) ≡ map seen (own t s) =
        seen-are t (own u s) (own t s) (own-updated t u s row runs) (own-updated t t s row runs) e in
        sym (update-alone u s s.spec.mode)
        ∙ ap (λ k. update_duties (alone (own u s) k) s s.spec.mode) clock
        ∙ update-seen s s.spec.mode t.clock (own u s) (own t s) see
        ∙ update-alone t s s.spec.mode

pub update_goes_on : (t u : Tables) (span : Span) → AreRising t u → u.clock ≡ t.clock → HasShifted (progress t) span t u
    → CoversServices updates t span → CoversServices updates u span
update_goes_on t u span rising clock moved c =
    goes-on (progress t) updates t u span (λ x y e. ap (λ (p : Progress). p.standing.service) e) rising
    moved.services moved.tasks (λ s row e. ap (λ ds. is_some (first_of ds)) (update-same t u s clock row e)) c
