-- Where all is settled, no run is under way, and a dirty place's service came to the end of a run to its template.
use Rattle.std.proofs.Common.{Bool, List, None, Option, Some, [], ap, arith, cond, false, inl, inr, not, refl, sym, true, ℕ, ◌++◌, ◌+◌, ◌∙◌, ◌∷◌, ◌≡◌, ◌≤◌, ◌⊎◌}
use Rattle.std.proofs.lemmas.Bool.Decides.{nat_tests}
use Rattle.std.specs.List.{list_all, list_any}
use Rattle.std.specs.Option.{option_map}
use Rattle.std.specs.Ordering.{nat_cmp}
use Rattle.std.specs.Prelude.{count_by, filter, find, flat_map, nat_lt, option_to_list, ◌&&◌, ◌||◌}
use Rattle.swarm_settle.proofs.Ended.{never-ended}
use Rattle.swarm_settle.proofs.EndedRuns.{IsRunDone}
use Rattle.swarm_settle.proofs.Known.{Known}
use Rattle.swarm_settle.proofs.Rest.{NoWaits, least-none, no-duty, no-waits, none-held, none-paused, settled-quiet}
use Rattle.swarm_settle.proofs.Shapes.{is_done}
use Rattle.swarm_settle.proofs.Wholes.{number-is}
use Rattle.swarm_settle.specs.Rest.{IsAtRest, IsSettled}
use Rattle.swarm_model.proofs.Laws.Timely.{first-none}
use Rattle.swarm_model.specs.Settle.{flight_times, flight_wait, has_waiting_place, held_answer, is_holding, is_paused_status, least_time, run_wait, wait_till, watch_times, watch_wait}
use Rattle.swarm_objects.proofs.Empty.{append_empty, empty-has, filter_empty, map_empty}
use Rattle.swarm_objects.proofs.RowLemmas.{Has-filter, Has-filter_cases, Has-flat_map}
use Rattle.swarm_objects.proofs.Tests.{any-has, both, false_from_ne_true, first_so, has-any, never-both, not_from_false, or_cases, second_so, some-and, some-and-cases, true_from_ne_false}
use Rattle.swarm_objects.specs.Loops.Update.{is_to_replace, is_watched, lets_replace}
use Rattle.swarm_objects.specs.Rows.{Has, is_some_and, on_row}
use Rattle.swarm_objects.specs.Services.Runs.{fails, flying_tasks, has_open_run, has_room, in_flight, is_flying, is_in_flight, is_of_version, is_open, is_under_way}
use Rattle.swarm_objects.specs.Services.Words.{is_clean, is_job, is_live_clean, is_live_dirty}
use Rattle.swarm_objects.specs.Tasks.Places.{closes_dirty, counts_for, has_clean, has_dirty_place, has_live, is_dirty_place, is_in_place, newest, place_at, place_numbers, place_tasks, tasks_of_place}
use Rattle.swarm_objects.specs.Tasks.Words.{is_below_running, is_live, is_of, is_running}
use Rattle.swarm_objects.specs.Values.Ranks.{rank}
use Rattle.swarm_objects.specs.World.{World}
use Rattle.swarm_objects.specs.declared.duties.Cause.TheVariants as cause
use Rattle.swarm_objects.specs.declared.duties.Duty.TheVariants as duty
use Rattle.swarm_objects.specs.declared.services.Replaced.{Replaced}
use Rattle.swarm_objects.specs.declared.services.RunStatus.TheVariants as status
use Rattle.swarm_objects.specs.declared.services.RunStatus.{RunStatus}
use Rattle.swarm_objects.specs.declared.services.Service.{Service}
use Rattle.swarm_objects.specs.declared.services.UpdateRun.{UpdateRun}
use Rattle.swarm_objects.specs.declared.tasks.Task.{Task}

pub settled-rests : (w : World) → IsSettled w → IsAtRest w
settled-rests w is = (settled-quiet w is).0

pub settled-waits : (w : World) → IsSettled w → NoWaits w
settled-waits w is = no-waits w (settled-quiet w is).1

-- Lists.

all-or : {X : Type 0} (test : X → Bool) (xs : List X) → list_all test xs ≡ false → (x : X) × Has xs x × (test x ≡ false)
all-or test [] e = absurd cc
all-or test (x ∷ xs) e = go (test x) refl e (all-or test xs)
  where
    go : (b : Bool) → test x ≡ b → (b && list_all test xs) ≡ false →
        (list_all test xs ≡ false → (y : _) × Has xs y × (test y ≡ false)) →
        (y : _) × Has (x ∷ xs) y × (test y ≡ false)
    go true t k rest = let r = rest k in (r.0, inr r.1, r.2)
    go false t k rest = (x, inl refl, t)

count-none : {X : Type 0} (test : X → Bool) (xs : List X) → list_any test xs ≡ false → count_by test xs ≡ 0
count-none test [] e = refl
count-none test (x ∷ xs) e = go (test x) refl e (count-none test xs)
  where
    go : (b : Bool) → test x ≡ b → (b || list_any test xs) ≡ false → (list_any test xs ≡ false → count_by test xs ≡ 0) →
        count_by test (x ∷ xs) ≡ 0
    go true t k rest = absurd cc
    go false t k rest = grind (arith, nat_tests, t, rest k)

no-time : (why : _) (id : ℕ) (times : List ℕ) → wait_till why id (least_time times) ≡ [] → times ≡ []
no-time why id times e = least-none nat_cmp times (go (least_time times) e)
  where
    go : (o : Option ℕ) → wait_till why id o ≡ [] → o ≡ None
    go None k = refl
    go (Some t) k = absurd cc

-- What is said of an open run.

record OpenRun (w : World) (s : Service) (run : UpdateRun) : Type 0 where
  pub there : Has w.tables.services s
  pub no_job : is_job s.spec.mode ≡ false
  pub run_is : s.run ≡ Some run
  pub way : is_under_way run ≡ true

not-failing : (w : World) (s : Service) (run : UpdateRun) → IsAtRest w → OpenRun w s run → fails w.tables s run ≡ false
not-failing w s run rest o =
    false_from_ne_true (fails w.tables s run)
    (λ failing.
    no-duty w rest (duty.Fail s.id)
    (record { row = s; there = o.there; id_is = refl; fact = (o.no_job, (run, o.run_is, o.way, failing)) }))

run-waits : (w : World) (s : Service) (run : UpdateRun) → IsSettled w → OpenRun w s run →
    (flight_wait w.tables s run ≡ []) × (watch_wait w.tables s run ≡ [])
run-waits w s run is o =
    let none = (settled-waits w is).update s o.there in
    let at : run_wait w.tables s run ≡ [] = ap (λ (r : Option UpdateRun). on_row [] (run_wait w.tables s) r)
    (sym o.run_is) ∙ none in
    append_empty (flight_wait w.tables s run) (watch_wait w.tables s run)
    (ap (λ (b : Bool). cond b (flight_wait w.tables s run ++ watch_wait w.tables s run) []) (sym o.way) ∙ at)

-- with no dirty place it would be finished, or new tasks are watched still
no-clean-run : (w : World) (s : Service) (run : UpdateRun) → IsSettled w → OpenRun w s run →
    has_dirty_place w.tables s ≡ false → ⊥
no-clean-run w s run is o clean =
    let rest = settled-rests w is in
    let not_all : list_all (is_watched w.tables s) run.replaced ≡ false =
    false_from_ne_true (list_all (is_watched w.tables s) run.replaced)
    (λ all.
    no-duty w rest (duty.Finish s.id)
    (record {
      row = s;
      there = o.there;
      id_is = refl;
      fact = (
        o.no_job,
        (
          run,
          o.run_is,
          o.way,
          both (not (has_dirty_place w.tables s) && list_all (is_watched w.tables s) run.replaced)
              (not (fails w.tables s run))
              (both (not (has_dirty_place w.tables s)) (list_all (is_watched w.tables s) run.replaced)
              (not_from_false (has_dirty_place w.tables s) clean) all)
              (not_from_false (fails w.tables s run) (not-failing w s run rest o)),
        ),
      );
    })) in
    let one = all-or (is_watched w.tables s) run.replaced not_all in
    let waits = ap (λ (b : Bool). cond b [] (wait_till cause.Update s.id (least_time (watch_times w.tables s run))))
    (sym clean) ∙ (run-waits w s run is o).1 in
    let none = map_empty (λ (i : Replaced). i.created + s.spec.update.monitor)
    (filter (λ i. not (is_watched w.tables s i)) run.replaced)
    (no-time cause.Update s.id (watch_times w.tables s run) waits) in
    never-both (not (is_watched w.tables s one.0))
    (filter_empty (λ i. not (is_watched w.tables s i)) run.replaced one.0 none one.1)
    (not_from_false (is_watched w.tables s one.0) one.2)

-- a clean live task of the service isn't below RUNNING
not-holding : (w : World) (s : Service) (run : UpdateRun) (x : Task) → IsSettled w → OpenRun w s run →
    Has w.tables.tasks x → is_of s.id x ≡ true → is_live_clean s x ≡ true → is_below_running x ≡ false
not-holding w s run x is o h of clean =
    false_from_ne_true (is_below_running x)
    (λ below.
    let holding = both (is_of s.id x && is_live_clean s x) (is_below_running x)
    (both (is_of s.id x) (is_live_clean s x) of clean) below in
    let has_run : has_open_run s ≡ true = some-and is_under_way s.run run o.run_is o.way in
    let none : option_to_list (option_map (held_answer s.id) (find (is_holding s) w.tables.tasks)) ≡ [] =
    ap (λ (b : Bool). cond b (option_to_list (option_map (held_answer s.id) (find (is_holding s) w.tables.tasks))) [])
    (sym has_run) ∙ none-held w s is o.there in
    never-both (is_holding s x)
    (first-none (is_holding s) w.tables.tasks x (not-found (find (is_holding s) w.tables.tasks) none) h) holding)
  where
    not-found : (q : Option Task) → option_to_list (option_map (held_answer s.id) q) ≡ [] → q ≡ None
    not-found None e = refl
    not-found (Some y) e = absurd cc

of-place : (s : Service) (p : _) (x : Task) → is_in_place s p x ≡ true → is_of s.id x ≡ true
of-place s p x e = first_so (is_of s.id x) _ (first_so (counts_for s x) _ e)

-- a place that waits for another one's new task
no-waiting-place : (w : World) (s : Service) (run : UpdateRun) (k : ℕ) → IsSettled w → OpenRun w s run →
    is_of_version s run ≡ true → Has (place_numbers w.tables s) k → is_to_replace w.tables s k ≡ true → ⊥
no-waiting-place w s run k is o version h waiting = go (any-has (is_in_flight w.tables s) run.replaced some_flying)
  where
    rest : IsAtRest w
    rest = settled-rests w is

    no_room : has_room w.tables s run ≡ false
    no_room =
        false_from_ne_true (has_room w.tables s run)
        (λ room.
        no-duty w rest (duty.Replace s.id k)
        (record {
          row = s;
          there = o.there;
          id_is = refl;
          fact = (
            o.no_job,
            (
              run,
              o.run_is,
              o.way,
              (
                both (is_of_version s run) (lets_replace w.tables s run) version
                    (both (has_room w.tables s run) (not (fails w.tables s run)) room
                    (not_from_false (fails w.tables s run) (not-failing w s run rest o))),
                (h, waiting),
              ),
            ),
          );
        }))

    some_flying : list_any (is_in_flight w.tables s) run.replaced ≡ true
    some_flying =
        true_from_ne_false (list_any (is_in_flight w.tables s) run.replaced)
        (λ none.
        let zero_count : in_flight w.tables s run ≡ 0 = count-none (is_in_flight w.tables s) run.replaced none in
        never-both (has_room w.tables s run) no_room
        (grind (arith, nat_tests, zero_count)))

    flights : flight_times w.tables s run ≡ []
    flights =
        let waits : has_waiting_place w.tables s ≡ true =
        has-any (is_to_replace w.tables s) (place_numbers w.tables s) k h waiting in
        let blocked = both (has_waiting_place w.tables s) (not (has_room w.tables s run)) waits
        (not_from_false (has_room w.tables s run) no_room) in
        no-time cause.Update s.id (flight_times w.tables s run)
        (ap (λ (b : Bool). cond b (wait_till cause.Update s.id (least_time (flight_times w.tables s run))) [])
        (sym blocked) ∙ (run-waits w s run is o).0)

    go : (i : Replaced) × Has run.replaced i × (is_in_flight w.tables s i ≡ true) → ⊥
    go one =
        let fly = any-has (is_flying w.tables s) (tasks_of_place s one.0.place w.tables.tasks) one.2 in
        let x = fly.0 in
        let x_in = Has-filter_cases (is_in_place s one.0.place) w.tables.tasks x fly.1 in
        let clean = first_so (is_live_clean s x) _ fly.2 in
        let high = not-holding w s run x is o x_in.0 (of-place s one.0.place x x_in.1) clean in
        let runs = by (is_below_running x) (is_running x) (nat_lt w.tables.clock (x.since + s.spec.update.delay))
        (or_cases (is_below_running x) _ (second_so (is_live_clean s x) _ fly.2)) high in
        let flown = Has-flat_map (flying_tasks w.tables s) run.replaced one.0 x one.1
        (Has-filter (is_flying w.tables s) (tasks_of_place s one.0.place w.tables.tasks) x fly.1 fly.2) in
        let none = map_empty (λ (y : Task). y.since + s.spec.update.delay)
        (filter is_running (flat_map (flying_tasks w.tables s) run.replaced)) flights in
        empty-has (filter is_running (flat_map (flying_tasks w.tables s) run.replaced)) x none
        (Has-filter is_running (flat_map (flying_tasks w.tables s) run.replaced) x flown runs)
      where
        by : (a b c : Bool) → (a ≡ true) ⊎ ((b && c) ≡ true) → a ≡ false → b ≡ true
        by a b c (inl e) f = never-both a f e
        by a b c (inr e) f = first_so b c e

-- no run is under way
pub no-run : (w : World) (s : Service) (run : UpdateRun) → Known w → IsSettled w → Has w.tables.services s →
    is_job s.spec.mode ≡ false → s.run ≡ Some run → is_under_way run ≡ false
no-run w s run known is h no_job e =
    false_from_ne_true (is_under_way run)
    (λ way. go (record { there = h; no_job = no_job; run_is = e; way = way }) (has_dirty_place w.tables s) refl)
  where
    rest : IsAtRest w
    rest = settled-rests w is

    by_place : (o : OpenRun w s run) (k : ℕ) → is_of_version s run ≡ true → Has (place_numbers w.tables s) k →
        is_dirty_place w.tables s k ≡ true → (b : Bool) → has_clean w.tables s k ≡ b → ⊥
    by_place o k version there dirty false clean =
        no-waiting-place w s run k is o version there
        (both (is_dirty_place w.tables s k) (not (has_clean w.tables s k)) dirty
        (not_from_false (has_clean w.tables s k) clean))
    by_place o k version there dirty true clean =
        let one = any-has (is_live_clean s) (place_tasks w.tables s k) clean in
        let x = one.0 in
        let x_in = Has-filter_cases (is_in_place s (place_at s.spec.mode k)) w.tables.tasks x one.1 in
        let high = not-holding w s run x is o x_in.0 (of-place s (place_at s.spec.mode k) x x_in.1) one.2 in
        let live = first_so (is_live x) (is_clean s x) one.2 in
        let over = never-ended w known rest x x_in.0 live in
        let running : is_running x ≡ true =
        (let a : 512 ≤ rank x.state = grind (arith, nat_tests, high) in
        let b : rank x.state ≤ 512 = grind (arith, nat_tests, over) in
        grind (arith, nat_tests, a, b)) in
        let runs : list_any (λ y. is_live_clean s y && is_running y) (place_tasks w.tables s k) ≡ true =
        has-any (λ y. is_live_clean s y && is_running y) (place_tasks w.tables s k) x one.1
        (both (is_live_clean s x) (is_running x) one.2 running) in
        let alive : has_live w.tables s k ≡ true = has-any is_live (place_tasks w.tables s k) x one.1 live in
        let old = dirty_live (list_any (is_live_dirty s) (place_tasks w.tables s k)) (has_live w.tables s k)
        (is_some_and (closes_dirty s) (newest (place_tasks w.tables s k))) alive dirty in
        no-duty w rest (duty.Swap s.id k)
        (record {
          row = s;
          there = o.there;
          id_is = refl;
          fact = (
            o.no_job,
            (
              run,
              o.run_is,
              o.way,
              (
                version,
                (
                  there,
                  both (list_any (λ y. is_live_clean s y && is_running y) (place_tasks w.tables s k)) _ runs old,
                ),
              ),
            ),
          );
        })
      where
        dirty_live : (a b c : Bool) → b ≡ true → (a || (not b && c)) ≡ true → a ≡ true
        dirty_live true b c f g = refl
        dirty_live false true c f g = absurd cc
        dirty_live false false c f g = absurd cc

    go : (o : OpenRun w s run) (b : Bool) → has_dirty_place w.tables s ≡ b → ⊥
    go o false clean = no-clean-run w s run is o clean
    go o true dirty =
        let at = any-has (is_dirty_place w.tables s) (place_numbers w.tables s) dirty in
        let version : is_of_version s run ≡ true =
        true_from_ne_false (is_of_version s run)
        (λ other.
        no-duty w rest (duty.Start s.id)
        (record {
          row = s;
          there = h;
          id_is = refl;
          fact = (
            no_job,
            both (has_dirty_place w.tables s) (not (is_some_and (is_of_version s) s.run)) dirty
                (not_from_false (is_some_and (is_of_version s) s.run)
                (ap (λ (q : Option UpdateRun). is_some_and (is_of_version s) q) e ∙ other)),
          );
        })) in
        by_place o at.0 version at.1 at.2 (has_clean w.tables s at.0) refl

-- where a place is dirty, a run to the present template came to its end
pub run-done : (w : World) (s : Service) → Known w → IsSettled w → Has w.tables.services s →
    is_job s.spec.mode ≡ false → has_dirty_place w.tables s ≡ true → IsRunDone s
run-done w s known is h no_job dirty =
    let version : is_some_and (is_of_version s) s.run ≡ true =
    true_from_ne_false (is_some_and (is_of_version s) s.run)
    (λ other.
    no-duty w (settled-rests w is) (duty.Start s.id)
    (record {
      row = s;
      there = h;
      id_is = refl;
      fact = (
        no_job,
        both (has_dirty_place w.tables s) (not (is_some_and (is_of_version s) s.run)) dirty
            (not_from_false (is_some_and (is_of_version s) s.run) other),
      );
    })) in
    let run = some-and-cases (is_of_version s) s.run version in
    let still = no-run w s run.0 known is h no_job run.1 in
    let unpaused : (is_paused_status run.0.status && is_of_version s run.0) ≡ false =
    ap (λ (o : Option UpdateRun). is_some_and (λ r. is_paused_status r.status && is_of_version s r) o) (sym run.1)
    ∙ none-paused w s is h in (
      run.0,
      run.1,
      over run.0.status still (first (is_paused_status run.0.status) (is_of_version s run.0) run.2 unpaused),
      number-is run.0.version s.template_version run.2,
    )
  where
    first : (a b : Bool) → b ≡ true → (a && b) ≡ false → a ≡ false
    first true true e f = absurd cc
    first true false e f = absurd cc
    first false b e f = refl

    over : (r : RunStatus) → is_open r ≡ false → is_paused_status r ≡ false → is_done r ≡ true
    over status.Updating a b = absurd cc
    over status.RollbackStarted a b = absurd cc
    over status.Paused a b = absurd cc
    over status.RollbackPaused a b = absurd cc
    over status.Completed a b = refl
    over status.RollbackCompleted a b = refl
