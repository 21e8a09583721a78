-- Every duty makes a step of the shape.
use Rattle.std.proofs.Common.{Bool, List, None, Option, Some, [], ap, arith, cond, false, inl, inr, length, not, refl, subst, sym, true, ltb, ℕ, ◌+◌, ◌<◌, ◌∙◌, ◌≡◌, ◌≤◌, ◌⊎◌}
use Rattle.std.proofs.lemmas.Bool.Decides.{nat_tests}
use Rattle.std.specs.Option.{option_map}
use Rattle.std.specs.Prelude.{count_by, filter, find, map, nat_lt, ◌&&◌, ◌==◌, ◌||◌}
use Rattle.swarm_settle.proofs.Held.{held-has}
use Rattle.swarm_settle.proofs.PlaceLists.{counts-of, newest-mapped, place-counts, place-is, touch}
use Rattle.swarm_settle.proofs.ShapeDuties.{MadeBy, comes-new, found, hidden, hidden-touch, map-map, map-same, one-more-task, one-task, restarted-made, shown, stay, where-tasks, with-tasks}
use Rattle.swarm_settle.proofs.ShapeWords.{each-mapped, has-dirty-blank, held-blank, held-places-blank, live-places-blank, place-blank}
use Rattle.swarm_settle.proofs.Shapes.{DutyStep, HasRoom, RunStep, Runs, SameButRun, bare, bare_run, begins, blank, creates, drops, ends, goes, goes_back, is_done, raises, removes, runs, shape, starts_first, stays, stops_first, swaps}
use Rattle.swarm_settle.proofs.Wholes.{live-is-kept, number-is}
use Rattle.swarm_model.proofs.Base.IsDuty.{IsDuty, OfRow}
use Rattle.swarm_model.proofs.Laws.OfService.{OfServices}
use Rattle.swarm_model.proofs.Laws.OneEach.{previous-kind}
use Rattle.swarm_model.proofs.Moves.Rows.{between-one, has_row-Has}
use Rattle.swarm_model.proofs.Moves.Worlds.{IsOrderly}
use Rattle.swarm_model.proofs.Laws.Alone.{held-rise}
use Rattle.swarm_model.specs.Closing.{cause_set, closes_with}
use Rattle.swarm_objects.proofs.Gaps.{first_gap-free}
use Rattle.swarm_objects.proofs.RowLemmas.{Has-filter_cases, Has-from_row_at, Has-map, Has-map_cases}
use Rattle.swarm_objects.proofs.Tests.{false_from_ne_true, find_has, first_so, never-both, not-true, second_so, some-and-cases}
use Rattle.swarm_objects.proofs.Filters.{filter_map}
use Rattle.swarm_objects.proofs.Newest.{newest_has}
use Rattle.swarm_objects.specs.Agents.Messages.{message_for}
use Rattle.swarm_objects.specs.Changes.{change_service, change_task, change_where, in_state, noted, on_service, on_task, raised_to, wanted, with_new, without_place}
use Rattle.swarm_objects.specs.Duties.{effect_by}
use Rattle.swarm_objects.specs.Loops.Agents.{after_pull, executor_at, reported_by}
use Rattle.swarm_objects.specs.Loops.Allocator.{exhausted_for, give_port, port_number, with_addresses, with_exhausted, with_port}
use Rattle.swarm_objects.specs.Loops.Jobs.{is_old, is_old_of}
use Rattle.swarm_objects.specs.Loops.Reaper.{is_oldest_past, is_past, is_removable, is_trimmed, is_trimmed_in, without_task}
use Rattle.swarm_objects.specs.Loops.Replicated.{is_gone}
use Rattle.swarm_objects.specs.Loops.Restart.{after_restart, is_current, raised, restarted, wants_raise, wants_restart}
use Rattle.swarm_objects.specs.Loops.Scheduler.{explained}
use Rattle.swarm_objects.specs.Loops.Update.{back_at, by_order, change_run, fail_run, finished_status, in_status, item_of, live_of_place, may_roll_back, new_run, paused_status, replace_place, replaced_in, start_run, start_status, swap_place, with_item, with_run}
use Rattle.swarm_objects.specs.Rows.{Has, change_row, first_gap, is_some_and, on_row, row_at, service_id, task_id}
use Rattle.swarm_objects.specs.Services.Ports.{free_port}
use Rattle.swarm_objects.specs.Services.Runs.{is_open, is_under_way}
use Rattle.swarm_objects.specs.Services.Words.{has_service, is_job, is_live_dirty}
use Rattle.swarm_objects.specs.Tasks.New.{goal_of, new_task}
use Rattle.swarm_objects.specs.Tasks.Places.{counts_for, has_dirty_place, held_places, is_held_place, is_in_place, live_places, newest, place_at, tasks_of_place}
use Rattle.swarm_objects.specs.Tasks.Words.{is_kept, is_live, is_task, is_to_wait}
use Rattle.swarm_objects.specs.Values.Ranks.{desired_rank, rank}
use Rattle.swarm_objects.specs.World.{Tables, World}
use Rattle.swarm_objects.specs.declared.agents.Executor.{Executor}
use Rattle.swarm_objects.specs.declared.calls.What.TheVariants as what
use Rattle.swarm_objects.specs.declared.duties.Duty.TheVariants as duty
use Rattle.swarm_objects.specs.declared.duties.Duty.{Duty}
use Rattle.swarm_objects.specs.declared.messages.Message.{Message}
use Rattle.swarm_objects.specs.declared.services.Mode.TheVariants as mode
use Rattle.swarm_objects.specs.declared.services.Mode.{Mode}
use Rattle.swarm_objects.specs.declared.services.RunStatus.TheVariants as status
use Rattle.swarm_objects.specs.declared.services.RunStatus.{RunStatus}
use Rattle.swarm_objects.specs.declared.services.Service.{Service}
use Rattle.swarm_objects.specs.declared.services.ServiceSpec.{ServiceSpec}
use Rattle.swarm_objects.specs.declared.services.UpdateOrder.TheVariants as order
use Rattle.swarm_objects.specs.declared.services.UpdateOrder.{UpdateOrder}
use Rattle.swarm_objects.specs.declared.services.UpdateRun.{UpdateRun}
use Rattle.swarm_objects.specs.declared.tasks.Desired.TheVariants as desired
use Rattle.swarm_objects.specs.declared.tasks.Desired.{Desired}
use Rattle.swarm_objects.specs.declared.tasks.Note.{Note}
use Rattle.swarm_objects.specs.declared.tasks.Place.{Place}
use Rattle.swarm_objects.specs.declared.tasks.Task.{Task}
use Rattle.swarm_objects.specs.declared.tasks.TaskState.{TaskState}

-- a step of the tables that sets no cause
abbrev pub Steps : World → Tables → Type 0
Steps w u = DutyStep (w.entries + 1) (shape w.tables) None (shape u)

-- Tasks.

restart-made : (w : World) (id : ℕ) → IsOrderly w → OfRow w.tables.tasks task_id id
    (λ x. wants_restart w.tables x ≡ true) →
    MadeBy w (duty.Restart id)
restart-made w id orderly of =
    let x = of.row in
    let live = first_so (is_live x) _ (first_so _ (is_current w.tables x) of.fact) in
    let there = some-and-cases (λ s. counts_for s x) (row_at service_id x.service w.tables.services)
    (second_so _ (is_current w.tables x) of.fact) in
    let s = there.0 in
    let has = Has-from_row_at service_id x.service w.tables.services s there.1 in
    let made = restarted-made w x s orderly of.there has.0 live there.2 in
    let at_task = found task_id w.tables.next_id id w.tables.tasks _ orderly.tasks of in
    let effect : after_restart (w.entries + 1) w.tables id ≡ restarted (w.entries + 1) w.tables x s =
    ap (λ (o : Option Task). on_row w.tables (λ y. on_service w.tables y.service
    (restarted (w.entries + 1) w.tables y)) o) at_task
    ∙ ap (λ (o : Option Service). on_row w.tables (restarted (w.entries + 1) w.tables x) o) there.1 in
    record {
      set = made.set;
      step = subst (λ (u : Tables). DutyStep (w.entries + 1) (shape w.tables) made.set (shape u))
          (sym effect) made.step;
      causes = λ k.
          made.causes_are k
          ∙ sym (ap (λ (o : Option Task). on_row None (λ y. on_row None (closes_with w.tables k y)
          (row_at service_id y.service w.tables.services)) o) at_task
          ∙ ap (λ (o : Option Service). on_row None (closes_with w.tables k x) o) there.1);
    }

raise-made : (w : World) (id : ℕ) → OfRow w.tables.tasks task_id id (λ x. wants_raise w.tables x ≡ true) →
    Steps w (change_task id (raised (w.entries + 1)) w.tables)
raise-made w id of =
    subst (λ (k : ℕ). Steps w (change_task k (raised (w.entries + 1)) w.tables)) of.id_is
    (one-task (w.entries + 1) w.tables of.row.id (raised (w.entries + 1)) (raised 0) None (λ y. refl)
    (raises (blank of.row) (Has-map blank w.tables.tasks of.row of.there)
    (first_so (is_to_wait of.row) _ (first_so _ _ (first_so _ _ (first_so _ _ of.fact))))))

-- a task of no place is to be removed
goes-made : (w : World) (x : Task) → Has w.tables.tasks x →
    ((s : Service) → Has w.tables.services s → counts_for s x ≡ false) →
    Steps w (change_task x.id (wanted (w.entries + 1) desired.Remove) w.tables)
goes-made w x h none =
    one-task (w.entries + 1) w.tables x.id (wanted (w.entries + 1) desired.Remove) (wanted 0 desired.Remove) None
    (λ y. refl)
    (goes (blank x) (Has-map blank w.tables.tasks x h)
    (each-mapped (λ (s : Service). counts_for s (blank x) ≡ false) bare w.tables.services none))

gone-made : (w : World) (id : ℕ) → IsOrderly w → OfRow w.tables.tasks task_id id (λ x. is_gone w.tables x ≡ true) →
    Steps w (change_task id (wanted (w.entries + 1) desired.Remove) w.tables)
gone-made w id orderly of =
    subst (λ (k : ℕ). Steps w (change_task k (wanted (w.entries + 1) desired.Remove) w.tables)) of.id_is
    (goes-made w of.row of.there
    (λ s h.
    false_from_ne_true (counts_for s of.row)
    (λ counts.
    never-both (has_service w.tables of.row) (not-true (has_service w.tables of.row) (first_so _ _ of.fact))
    (has_row-Has service_id w.tables.services s of.row.service h (sym (counts-of s of.row counts))))))

old-made : (w : World) (id : ℕ) → IsOrderly w → OfRow w.tables.tasks task_id id (λ x. is_old w.tables x ≡ true) →
    Steps w (change_task id (wanted (w.entries + 1) desired.Remove) w.tables)
old-made w id orderly of =
    subst (λ (k : ℕ). Steps w (change_task k (wanted (w.entries + 1) desired.Remove) w.tables)) of.id_is
    (goes-made w of.row of.there (λ s h. false_from_ne_true (counts_for s of.row) (λ counts. go s h counts)))
  where
    x : Task
    x = of.row

    go : (s : Service) → Has w.tables.services s → counts_for s x ≡ true → ⊥
    go s h counts =
        let there = some-and-cases (is_old_of x) (row_at service_id x.service w.tables.services) of.fact in
        let has = Has-from_row_at service_id x.service w.tables.services there.0 there.1 in
        let same =
        between-one service_id 1 w.tables.next_id w.tables.services there.0 s orderly.services has.0 h
        (has.1 ∙ counts-of s x counts) in
        let old : is_old_of x s ≡ true = ap (is_old_of x) (sym same) ∙ there.2 in
        earlier (is_job s.spec.mode) (nat_lt x.iteration s.iteration) (is_kept x) (x.iteration == s.iteration) refl refl
        old (second_so (x.service == s.id) _ counts)
      where
        earlier : (j less kept now : Bool) → nat_lt x.iteration s.iteration ≡ less →
            (x.iteration == s.iteration) ≡ now → ((j && less) && kept) ≡ true → (not j || now) ≡ true → ⊥
        earlier true true true true a b e f =
            let wrong : x.iteration < s.iteration = grind (arith, nat_tests, a) in
            let same : x.iteration ≡ s.iteration = grind (arith, nat_tests, b) in
            omega (arith, wrong, same)
        earlier true true true false a b e f = absurd cc
        earlier true true false now a b e f = absurd cc
        earlier true false kept now a b e f = absurd cc
        earlier false less kept now a b e f = absurd cc

not-live : (x : Task) → desired_rank x.goal ≤ desired_rank desired.Complete → 640 ≤ desired_rank x.desired →
    is_live x ≡ false
not-live x goal up = grind (arith, nat_tests, goal, up)

-- the newest of a place of the shape is one of the tables
newest-of : (t : Tables) (P : Task → Type 0) →
    ((s : Service) (p : Place) (z : Task) → Has t.services s → newest (tasks_of_place s p t.tasks) ≡ Some z →
    is_kept z ≡ true → P z) →
    (s : Service) (p : Place) (z : Task) → Has (map bare t.services) s →
    newest (tasks_of_place s p (map blank t.tasks)) ≡ Some z → is_kept z ≡ true → (y : Task) × (blank y ≡ z) × P y
newest-of t P each s p z h last kept =
    let from = Has-map_cases bare t.services s h in
    let at =
    newest-mapped blank (tasks_of_place from.0 p t.tasks) z
    (ap newest (sym (place-blank from.0 p t.tasks))
    ∙ ap (λ (v : Service). newest (tasks_of_place v p (map blank t.tasks))) from.2 ∙ last) in
    (at.0, at.2, each from.0 p at.0 from.1 at.1 (ap is_kept at.2 ∙ kept))

drop-shape : (id : ℕ) (xs : List Task) →
    map blank (filter (λ y. not (task_id y == id)) xs) ≡ filter (λ y. not (task_id y == id)) (map blank xs)
drop-shape id xs = sym (filter_map (λ y. not (task_id y == id)) blank xs (λ y. refl))

drops-made : (w : World) (x : Task) → Has w.tables.tasks x → is_live x ≡ false →
    ((s : Service) (p : Place) (z : Task) → Has w.tables.services s →
    newest (tasks_of_place s p w.tables.tasks) ≡ Some z → is_kept z ≡ true → ¬ (z.id ≡ x.id)) →
    Steps w (without_task x.id w.tables)
drops-made w x h dead old =
    with-tasks (w.entries + 1) w.tables (without_task x.id w.tables) None
    (filter (λ y. not (task_id y == x.id)) (map blank w.tables.tasks)) (drop-shape x.id w.tables.tasks) refl
    (drops (blank x) (Has-map blank w.tables.tasks x h) dead
    (λ s p z k last kept e.
    let from = newest-of w.tables (λ y. ¬ (y.id ≡ x.id)) old s p z k last kept in
    from.2 (ap task_id from.1 ∙ e)))

delete-made : (w : World) (id : ℕ) → IsOrderly w → OfRow w.tables.tasks task_id id (λ x. is_removable x ≡ true) →
    Steps w (without_task id w.tables)
delete-made w id orderly of =
    subst (λ (k : ℕ). Steps w (without_task k w.tables)) of.id_is
    (drops-made w x of.there
    (false_from_ne_true (is_live x)
    (λ live. never-both (is_kept x) gone (live-is-kept x (orderly.good x of.there).goal live)))
    (λ s p z h last kept e.
    let z_in = Has-filter_cases (is_in_place s p) w.tables.tasks z
    (newest_has (tasks_of_place s p w.tables.tasks) z last) in
    let same = between-one task_id 1 w.tables.next_id w.tables.tasks z x orderly.tasks z_in.0 of.there e in
    never-both (is_kept x) gone (ap is_kept (sym same) ∙ kept)))
  where
    x : Task
    x = of.row

    gone : is_kept x ≡ false
    gone = not-true (is_kept x) (first_so _ _ of.fact)

trim-made : (w : World) (id : ℕ) → IsOrderly w → OfRow w.tables.tasks task_id id (λ x. is_trimmed w.tables x ≡ true) →
    Steps w (without_task id w.tables)
trim-made w id orderly of =
    subst (λ (k : ℕ). Steps w (without_task k w.tables)) of.id_is (drops-made w x of.there dead newest_not)
  where
    x : Task
    x = of.row

    there : (s : Service) × (row_at service_id x.service w.tables.services ≡ Some s) ×
        (is_trimmed_in w.tables x s ≡ true)
    there = some-and-cases (is_trimmed_in w.tables x) (row_at service_id x.service w.tables.services) of.fact

    s : Service
    s = there.0

    xs : List Task
    xs = tasks_of_place s x.place w.tables.tasks

    has : Has w.tables.services s × (s.id ≡ x.service)
    has = Has-from_row_at service_id x.service w.tables.services s there.1

    past : is_oldest_past w.tables.settings.history xs x ≡ true
    past = second_so _ (is_oldest_past w.tables.settings.history xs x) there.2

    one : (y : Task) → Has w.tables.tasks y → y.id ≡ x.id → y ≡ x
    one y h e = between-one task_id 1 w.tables.next_id w.tables.tasks y x orderly.tasks h of.there e

    dead : is_live x ≡ false
    dead =
        let more = nat_lt w.tables.settings.history (count_by is_past xs) in
        let oldest = is_some_and (is_task x.id) (find is_past xs) in
        let first = some-and-cases (is_task x.id) (find is_past xs)
        (second_so more oldest (first_so (more && oldest) (not (is_some_and (is_task x.id) (newest xs))) past)) in
        let at = find_has is_past xs first.0 first.1 in
        let same = one first.0 (Has-filter_cases (is_in_place s x.place) w.tables.tasks first.0 at.0).0
        (number-is first.0.id x.id first.2) in
        let stops : desired_rank x.desired ≡ 640 =
        number-is (desired_rank x.desired) 640
        (second_so _ (desired_rank x.desired == 640) (ap is_past (sym same) ∙ at.1)) in
        not-live x (orderly.good x of.there).goal (omega (arith, stops))

    newest_not : (v : Service) (p : Place) (z : Task) → Has w.tables.services v →
        newest (tasks_of_place v p w.tables.tasks) ≡ Some z → is_kept z ≡ true → ¬ (z.id ≡ x.id)
    newest_not v p z h last kept e =
        let z_in = Has-filter_cases (is_in_place v p) w.tables.tasks z
        (newest_has (tasks_of_place v p w.tables.tasks) z last) in
        let same = one z z_in.0 e in
        let inside : is_in_place v p x ≡ true = ap (is_in_place v p) (sym same) ∙ z_in.1 in
        let service =
        between-one service_id 1 w.tables.next_id w.tables.services v s orderly.services h has.0
        (sym (counts-of v x (place-counts v p x inside)) ∙ sym has.1) in
        let place = place-is v p x inside in
        let last_too : newest xs ≡ Some x =
        ap (λ (u : Service). newest (tasks_of_place u x.place w.tables.tasks)) (sym service)
        ∙ ap (λ (q : Place). newest (tasks_of_place v q w.tables.tasks)) place ∙ last ∙ ap (λ y. Some y) same in
        let is_newest : is_some_and (is_task x.id) (newest xs) ≡ true =
        ap (is_some_and (is_task x.id)) last_too ∙ grind (arith, nat_tests) in
        let more = nat_lt w.tables.settings.history (count_by is_past xs) in
        let oldest = is_some_and (is_task x.id) (find is_past xs) in
        let last_is = is_some_and (is_task x.id) (newest xs) in
        never-both last_is (not-true last_is (second_so (more && oldest) (not last_is) past)) is_newest

-- Places.

removes-made : (w : World) (s : Service) (k : ℕ) → Has w.tables.services s →
    Steps w (without_place (w.entries + 1) w.tables s k)
removes-made w s k h =
    where-tasks (w.entries + 1) w.tables (λ x. is_in_place s (place_at s.spec.mode k) x && is_kept x)
    (wanted (w.entries + 1) desired.Remove) (wanted 0 desired.Remove) None (λ x. refl) (λ x. refl)
    (removes (bare s) k (Has-map bare w.tables.services s h))

swaps-made : (w : World) (s : Service) (run : UpdateRun) (k : ℕ) → Has w.tables.services s →
    is_job s.spec.mode ≡ false → s.run ≡ Some run → is_under_way run ≡ true →
    Steps w (swap_place (w.entries + 1) w.tables k s)
swaps-made w s run k h no_job e way =
    where-tasks (w.entries + 1) w.tables (λ x. is_in_place s (place_at s.spec.mode k) x && is_live_dirty s x)
    (wanted (w.entries + 1) desired.Shutdown) (wanted 0 desired.Shutdown) None (λ x. refl) (λ x. refl)
    (swaps (bare s) (bare_run run) k
    (record {
      of = Has-map bare w.tables.services s h;
      no_job = no_job;
      run_is = ap
          (option_map bare_run) e;
      under_way = way;
    }))

creates-made : (w : World) (s : Service) (k : ℕ) (d : Desired) → IsOrderly w → Has w.tables.services s →
    is_held_place w.tables s k ≡ false → HasRoom w.tables s → (d ≡ desired.Ready) ⊎ (d ≡ goal_of s.spec.mode) →
    Steps w (with_new (w.entries + 1) d w.tables s k)
creates-made w s k d orderly h unheld room aim =
    one-more-task (w.entries + 1) w.tables (with_new (w.entries + 1) d w.tables s k)
    (new_task (w.entries + 1) w.tables s (place_at s.spec.mode k) d) w.tables.tasks (map blank w.tables.tasks) refl refl
    refl
    (creates (bare s) k (blank (new_task (w.entries + 1) w.tables s (place_at s.spec.mode k) d))
    (Has-map bare w.tables.services s h) (held-blank w.tables s k ∙ unheld)
    (λ c n e.
    let both_are = room c n e in (
      subst (λ (ks : List ℕ). length ks < c) (sym (live-places-blank w.tables s)) both_are.0,
      subst (λ (ks : List ℕ). length ks < n) (sym (held-places-blank w.tables s)) both_are.1,
    ))
    (comes-new (w.entries + 1) w s (place_at s.spec.mode k) d orderly aim))

gap-unheld : (t : Tables) (s : Service) (from k : ℕ) → k ≡ first_gap from (held_places t s) → is_held_place t s k
    ≡ false
gap-unheld t s from k e =
    false_from_ne_true (is_held_place t s k)
    (λ held.
    first_gap-free from (held_places t s) (held-rise t s)
    (subst (Has (held_places t s)) e (held-has t s k held)))

no-room-asked : (t : Tables) (s : Service) → is_job s.spec.mode ≡ false → HasRoom t s
no-room-asked t s no_job c n e = never-both (is_job s.spec.mode) no_job (ap is_job e)

no-job-is : (m : Mode) (n : ℕ) → m ≡ mode.Replicated n → is_job m ≡ false
no-job-is m n e = ap is_job e

goal-of-mode : (m k : Mode) → m ≡ k → goal_of m ≡ goal_of k
goal-of-mode m k e = ap goal_of e

same-job : (c n d m : ℕ) → mode.Job c n ≡ mode.Job d m → (c ≡ d) × (n ≡ m)
same-job c n d m e = (cc, cc)

-- Updates.

-- a service that is there is put in the place of itself
pub put-service : (w : World) (v : Service) (f : Service → Service) → IsOrderly w → Has w.tables.services v →
    map bare (change_row service_id v.id f w.tables.services)
    ≡ change_row service_id v.id (λ old. bare (f v)) (map bare w.tables.services)
put-service w v f orderly h =
    map-map (λ u. cond (service_id u == v.id) (f u) u) bare w.tables.services
    ∙ map-same _ _ w.tables.services (λ u k. go u k (service_id u == v.id) refl)
    ∙ sym (map-map bare (λ u. cond (service_id u == v.id) (bare (f v)) u) w.tables.services)
  where
    go : (u : Service) → Has w.tables.services u → (b : Bool) → (service_id u == v.id) ≡ b →
        bare (cond b (f u) u) ≡ cond b (bare (f v)) (bare u)
    go u k true e =
        let same = between-one service_id 1 w.tables.next_id w.tables.services u v orderly.services k h
        (number-is u.id v.id e) in
        ap (λ (z : Service). bare (f z)) same
    go u k false e = refl

runs-made : (w : World) (v : Service) (f : Service → Service) → IsOrderly w → Has w.tables.services v →
    is_job v.spec.mode ≡ false → RunStep (w.entries + 1) (shape w.tables) (bare v) (bare (f v)) →
    Steps w (change_service v.id f w.tables)
runs-made w v f orderly h no_job step =
    subst (λ (ss : List Service). DutyStep (w.entries + 1) (shape w.tables) None
    (record (shape w.tables) { services = ss })) (sym (put-service w v f orderly h))
    (runs (bare v) (bare (f v)) (Has-map bare w.tables.services v h) no_job step)

same-but : (s : Service) (run : Option UpdateRun) (version : ℕ) →
    SameButRun (bare s) (bare (record s { version = version; run = run }))
same-but s run version =
    record { id = refl; spec = refl; previous = refl; template_version = refl; iteration = refl }

started-way : (b : Bool) → is_open (start_status b) ≡ true
started-way true = refl
started-way false = refl

start-made : (w : World) (v : Service) → IsOrderly w → Has w.tables.services v → is_job v.spec.mode ≡ false →
    Steps w (start_run (w.entries + 1) w.tables v)
start-made w v orderly h no_job =
    runs-made w v (with_run (w.entries + 1) (new_run w.tables v (start_status v.rolling_back))) orderly h no_job
    (begins (bare_run (new_run w.tables v (start_status v.rolling_back)))
    (same-but v (Some (new_run w.tables v (start_status v.rolling_back))) (w.entries + 1)) refl refl
    (started-way v.rolling_back))

-- where the run ends, no place is dirty
ended-made : (w : World) (v : Service) (run : UpdateRun) (to : RunStatus → RunStatus) → IsOrderly w →
    Has w.tables.services v → is_job v.spec.mode ≡ false → v.run ≡ Some run →
    (is_done (to run.status) ≡ true → has_dirty_place w.tables v ≡ false) →
    Steps w (change_service v.id (change_run (λ r. in_status (to r.status) r) (w.entries + 1)) w.tables)
ended-made w v run to orderly h no_job e none =
    runs-made w v (change_run (λ r. in_status (to r.status) r) (w.entries + 1)) orderly h no_job
    (ends (bare_run run) (bare_run (in_status (to run.status) run))
    (same-but v (option_map (λ r. in_status (to r.status) r) v.run) (w.entries + 1))
    (ap (option_map bare_run) e)
    (ap (λ (o : Option UpdateRun). option_map bare_run (option_map (λ r. in_status (to r.status) r) o)) e) refl
    (λ done. has-dirty-blank w.tables v ∙ none done))

paused-not-done : (s : RunStatus) → is_done (paused_status s) ≡ false
paused-not-done status.Updating = refl
paused-not-done status.RollbackStarted = refl
paused-not-done status.Paused = refl
paused-not-done status.RollbackPaused = refl
paused-not-done status.Completed = refl
paused-not-done status.RollbackCompleted = refl

fail-made : (w : World) (v : Service) (run : UpdateRun) (back : Bool) (o : Option ServiceSpec) → IsOrderly w →
    OfServices w.tables → Has w.tables.services v → is_job v.spec.mode ≡ false → v.run ≡ Some run →
    v.previous ≡ o → Steps w (fail_run (w.entries + 1) w.tables v back o)
fail-made w v run true (Some spec) orderly of h no_job e previous =
    runs-made w v
    (λ old. with_run (w.entries + 1) (new_run w.tables (back_at (w.entries + 1) spec v) status.RollbackStarted)
    (back_at (w.entries + 1) spec v)) orderly h no_job
    (goes_back spec (bare_run (new_run w.tables (back_at (w.entries + 1) spec v) status.RollbackStarted)) refl previous
    refl (previous-kind v spec (of.one.kinds v h) previous) refl refl refl refl refl)
fail-made w v run true None orderly of h no_job e previous =
    ended-made w v run paused_status orderly h no_job e
    (λ done. never-both (is_done (paused_status run.status)) (paused-not-done run.status) done)
fail-made w v run false o orderly of h no_job e previous =
    ended-made w v run paused_status orderly h no_job e
    (λ done. never-both (is_done (paused_status run.status)) (paused-not-done run.status) done)

-- the items of a run aren't shown
replaced-hidden : (w : World) (id : ℕ) (t : Tables) (s : Service) (k : ℕ) (ss : List Service) →
    map bare (change_row service_id id (replaced_in (w.entries + 1) (item_of t (place_at s.spec.mode k))) ss)
    ≡ map bare ss
replaced-hidden w id t s k ss =
    hidden bare (λ u. cond (service_id u == id) (replaced_in (w.entries + 1) (item_of t (place_at s.spec.mode k)) u) u)
    ss (λ u. go u (service_id u == id))
  where
    replaced_by : UpdateRun → UpdateRun
    replaced_by run = record run { replaced = with_item (item_of t (place_at s.spec.mode k)) run.replaced }

    same-run : (o : Option UpdateRun) →
        option_map bare_run (option_map replaced_by o) ≡ option_map bare_run o
    same-run None = refl
    same-run (Some r) = refl

    go : (u : Service) (b : Bool) →
        bare (cond b (replaced_in (w.entries + 1) (item_of t (place_at s.spec.mode k)) u) u) ≡ bare u
    go u true = ap (λ (o : Option UpdateRun). record u { version = 0; numbers = []; run = o }) (same-run u.run)
    go u false = refl

replace-made : (w : World) (s : Service) (run : UpdateRun) (k : ℕ) → IsOrderly w → Has w.tables.services s →
    is_job s.spec.mode ≡ false → s.run ≡ Some run → is_under_way run ≡ true →
    Steps w (replace_place (w.entries + 1) w.tables k s)
replace-made w s run k orderly h no_job e way = go s.spec.update.order
  where
    t : Tables
    t = w.tables

    n : ℕ
    n = w.entries + 1

    r : Runs (shape t) (bare s) (bare_run run)
    r = record {
      of = Has-map bare t.services s h;
      no_job = no_job;
      run_is = ap
          (option_map bare_run) e;
      under_way = way;
    }

    stopped : Tables
    stopped = change_where (live_of_place s k) (wanted n desired.Shutdown) t

    go : (o : UpdateOrder) →
        Steps w (change_service s.id (replaced_in n (item_of t (place_at s.spec.mode k))) (by_order n t s k o))
    go order.StopFirst =
        one-more-task n t
        (change_service s.id (replaced_in n (item_of t (place_at s.spec.mode k))) (by_order n t s k order.StopFirst))
        (new_task n stopped s (place_at s.spec.mode k) desired.Ready) stopped.tasks
        (map (touch (live_of_place s k) (wanted 0 desired.Shutdown)) (map blank t.tasks))
        (shown (live_of_place s k) (wanted n desired.Shutdown) (wanted 0 desired.Shutdown) t.tasks (λ x. refl)
        (λ x. refl))
        refl (replaced-hidden w s.id t s k t.services)
        (stops_first (bare s) (bare_run run) k (blank (new_task n stopped s (place_at s.spec.mode k) desired.Ready)) r
        (comes-new n w s (place_at s.spec.mode k) desired.Ready orderly (inl refl)))
    go order.StartFirst =
        one-more-task n t
        (change_service s.id (replaced_in n (item_of t (place_at s.spec.mode k))) (by_order n t s k order.StartFirst))
        (new_task n t s (place_at s.spec.mode k) (goal_of s.spec.mode)) t.tasks (map blank t.tasks) refl refl
        (replaced-hidden w s.id t s k t.services)
        (starts_first (bare s) (bare_run run) k
        (blank (new_task n t s (place_at s.spec.mode k) (goal_of s.spec.mode))) r
        (comes-new n w s (place_at s.spec.mode k) (goal_of s.spec.mode) orderly (inr refl)))

-- What the shape doesn't show.

hidden-task : (w : World) (id : ℕ) (f : Task → Task) → ((x : Task) → blank (f x) ≡ blank x) →
    Steps w (change_task id f w.tables)
hidden-task w id f same =
    stay (w.entries + 1) w.tables (change_task id f w.tables)
    (hidden-touch (λ y. task_id y == id) f w.tables.tasks same)
    refl

port-made : (w : World) (s target : ℕ) (udp : Bool) (o : Option ℕ) →
    Steps w (give_port (w.entries + 1) w.tables s target udp o)
port-made w s target udp None = stays
port-made w s target udp (Some number) =
    stay (w.entries + 1) w.tables (give_port (w.entries + 1) w.tables s target udp (Some number)) refl
    (hidden bare (λ u. cond (service_id u == s) (with_port (w.entries + 1) (port_number target udp number) u) u)
    w.tables.services (λ u. go u (service_id u == s)))
  where
    go : (u : Service) (b : Bool) →
        bare (cond b (with_port (w.entries + 1) (port_number target udp number) u) u) ≡ bare u
    go u true = refl
    go u false = refl

note-made : (w : World) (id : ℕ) → Steps w (on_task w.tables id (with_exhausted (w.entries + 1) w.tables))
note-made w id = go (row_at task_id id w.tables.tasks)
  where
    with_note : (x : Task) (o : Option Note) →
        Steps w (on_row w.tables (λ n. change_task x.id (noted (w.entries + 1) n) w.tables) o)
    with_note x None = stays
    with_note x (Some n) = hidden-task w x.id (noted (w.entries + 1) n) (λ y. refl)

    go : (o : Option Task) → Steps w (on_row w.tables (with_exhausted (w.entries + 1) w.tables) o)
    go None = stays
    go (Some x) = with_note x (exhausted_for w.tables x)

pub raised-hidden : (version clock : ℕ) (s : TaskState) (x : Task) → blank (raised_to version clock s x) ≡ blank x
raised-hidden version clock s x = go (ltb (rank x.state) (rank s))
  where
    go : (b : Bool) → blank (cond b (in_state version clock s x) x) ≡ blank x
    go true = refl
    go false = refl

report-made : (w : World) (o : Option Executor) → Steps w (reported_by (w.entries + 1) w o)
report-made w None = stays
report-made w (Some e) =
    hidden-task w e.task (raised_to (w.entries + 1) w.tables.clock e.state)
    (raised-hidden (w.entries + 1) w.tables.clock e.state)

pull-made : (w : World) (n : ℕ) (o : Option Message) → Steps w (after_pull w n o).tables
pull-made w n None = stays
pull-made w n (Some m) = stays

-- Any duty.

on-row : (w : World) (id : ℕ) (use_service : Service → Tables) (Fact : Service → Type 0) → IsOrderly w →
    OfRow w.tables.services service_id id Fact →
    ((v : Service) → Has w.tables.services v → Fact v → Steps w (use_service v)) →
    Steps w (on_service w.tables id use_service)
on-row w id use_service Fact orderly of each =
    subst (λ (o : Option Service). Steps w (on_row w.tables use_service o))
    (sym (found service_id w.tables.next_id id w.tables.services Fact orderly.services of))
    (each of.row of.there of.fact)

no-cause : (w : World) (d : Duty) → ((id : ℕ) → None ≡ cause_set w id (what.Duty d)) →
    Steps w (effect_by (w.entries + 1) w d).tables → MadeBy w d
no-cause w d none step = record { set = None; step = step; causes = none }

-- each duty makes a step
pub duty-made : (w : World) (d : Duty) → IsOrderly w → OfServices w.tables → IsDuty w d → MadeBy w d
duty-made w (duty.Expire n) is of d = no-cause w _ (λ id. refl) stays
duty-made w (duty.Orphan x) is of d = no-cause w _ (λ id. refl) (hidden-task w x _ (λ y. refl))
duty-made w (duty.Reject x) is of d = no-cause w _ (λ id. refl) (hidden-task w x _ (λ y. refl))
duty-made w (duty.Restart x) is of d = restart-made w x is d
duty-made w (duty.Raise x) is of d = no-cause w _ (λ id. refl) (raise-made w x d)
duty-made w (duty.Start s) is of d =
    no-cause w _ (λ id. refl) (on-row w s _ _ is d (λ v h fact. start-made w v is h fact.0))
duty-made w (duty.Fail s) is of d =
    no-cause w _ (λ id. refl)
    (on-row w s _ _ is d
    (λ v h fact. fail-made w v fact.1.0 (may_roll_back v) v.previous is of h fact.0 fact.1.1 refl))
duty-made w (duty.Swap s k) is of d =
    no-cause w _ (λ id. refl)
    (on-row w s _ _ is d (λ v h fact. swaps-made w v fact.1.0 k h fact.0 fact.1.1 fact.1.2))
duty-made w (duty.Replace s k) is of d =
    no-cause w _ (λ id. refl)
    (on-row w s _ _ is d (λ v h fact. replace-made w v fact.1.0 k is h fact.0 fact.1.1 fact.1.2))
duty-made w (duty.Finish s) is of d =
    no-cause w _ (λ id. refl)
    (on-row w s _ _ is d
    (λ v h fact. ended-made w v fact.1.0 finished_status is h fact.0 fact.1.1
    (λ done. not-true (has_dirty_place w.tables v) (first_so _ _ (first_so _ _ fact.1.3)))))
duty-made w (duty.Gone x) is of d = no-cause w _ (λ id. refl) (gone-made w x is d)
duty-made w (duty.Down s k) is of d =
    no-cause w _ (λ id. refl) (on-row w s _ _ is d (λ v h fact. removes-made w v k h))
duty-made w (duty.ReplicatedCreate s k) is of d =
    no-cause w _ (λ id. refl)
    (on-row w s _ _ is d
    (λ v h fact. creates-made w v k desired.Running is h (gap-unheld w.tables v 1 k fact.3)
    (no-room-asked w.tables v (ap is_job fact.1)) (inr (sym (ap goal_of fact.1)))))
duty-made w (duty.Leave s n) is of d =
    no-cause w _ (λ id. refl) (on-row w s _ _ is d (λ v h fact. removes-made w v n h))
duty-made w (duty.GlobalCreate s n) is of d =
    no-cause w _ (λ id. refl)
    (on-row w s _ _ is d
    (λ v h fact. creates-made w v n desired.Running is h
    (subst (λ (k : ℕ). is_held_place w.tables v k ≡ false) fact.1.id_is
    (not-true (is_held_place w.tables v fact.1.row.id) (second_so _ _ fact.1.fact)))
    (no-room-asked w.tables v (ap is_job fact.0)) (inr (sym (ap goal_of fact.0)))))
duty-made w (duty.Old x) is of d = no-cause w _ (λ id. refl) (old-made w x is d)
duty-made w (duty.JobCreate s k) is of d =
    no-cause w _ (λ id. refl)
    (on-row w s _ _ is d
    (λ v h fact. creates-made w v k desired.Complete is h (gap-unheld w.tables v 0 k fact.6)
    (λ c n e.
    let same = same-job fact.0 fact.1 c n (sym fact.2 ∙ e) in
    let live : length (live_places w.tables v) < fact.0 = grind (arith, nat_tests, fact.3) in
    let held : length (held_places w.tables v) < fact.1 = grind (arith, nat_tests, fact.4) in
    (omega (arith, live, same.0), omega (arith, held, same.1))) (inr (sym (ap goal_of fact.2)))))
duty-made w (duty.Port s target udp) is of d =
    no-cause w _ (λ id. refl) (port-made w s target udp (free_port w.tables udp))
duty-made w (duty.Address x) is of d =
    no-cause w _ (λ id. refl) (hidden-task w x (with_addresses (w.entries + 1) w.tables) (λ y. refl))
duty-made w (duty.Note x) is of d = no-cause w _ (λ id. refl) (note-made w x)
duty-made w (duty.Drop x) is of d = no-cause w _ (λ id. refl) (hidden-task w x _ (λ y. refl))
duty-made w (duty.Place x n) is of d = no-cause w _ (λ id. refl) (hidden-task w x _ (λ y. refl))
duty-made w (duty.Explain x) is of d =
    no-cause w _ (λ id. refl) (hidden-task w x (explained (w.entries + 1) w.tables) (λ y. refl))
duty-made w (duty.Delete x) is of d = no-cause w _ (λ id. refl) (delete-made w x is d)
duty-made w (duty.Trim x) is of d = no-cause w _ (λ id. refl) (trim-made w x is d)
duty-made w (duty.Register n) is of d = no-cause w _ (λ id. refl) stays
duty-made w (duty.Beat n) is of d = no-cause w _ (λ id. refl) stays
duty-made w (duty.Apply n) is of d = no-cause w _ (λ id. refl) stays
duty-made w (duty.Pull n) is of d = no-cause w _ (λ id. refl) (pull-made w n (message_for w n))
duty-made w (duty.Exec n x) is of d = no-cause w _ (λ id. refl) stays
duty-made w (duty.Report n x) is of d = no-cause w _ (λ id. refl) (report-made w (executor_at w n x))
duty-made w (duty.Forget n x) is of d = no-cause w _ (λ id. refl) stays
