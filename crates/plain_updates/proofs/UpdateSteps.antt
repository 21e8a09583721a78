-- What the duties on updates do to the world.
use Rattle.std.proofs.Common.{◌≡◌, ℕ, ◌+◌, ◌<◌, Bool, true, false, cond, eqb, List, [], ◌∷◌, ◌++◌, length, get_or, set, zero, suc, Option, Some, None, refl, sym, ap, ◌∙◌, arith, take, drop, length-append}
use Rattle.std.proofs.lemmas.List.{drop_at, take-append-le, take_all}
use Rattle.std.specs.Prelude.{◌==◌, not}
use Rattle.std.specs.List.{position, position_or_len}
use Rattle.std.specs.Option.{option_map}
use Rattle.std.proofs.lemmas.Bool.Decides.{nat_tests}
use Rattle.std.proofs.lemmas.Grind.{common_steps}
use Rattle.plain_updates.specs.Inside.Updating.{desired_by_order, spec_back, stopped_by_order}
use Rattle.swarm_objects.proofs.RowLemmas.{Has-from_row_at, change_row_above, instead_is}
use Rattle.swarm_objects.proofs.RowChanges.{change_row-None, rising_from, same_change}
use Rattle.swarm_objects.specs.Lends.{instead}
use Rattle.swarm_objects.specs.Changes.{change_service, on_service, with_tables}
use Rattle.swarm_objects.specs.Duties.{effect_by}
use Rattle.swarm_objects.specs.Loops.Update.{back_at, by_order, change_run, fail_run, finish_run, finished_status, in_status, item_of, may_roll_back, new_run, paused, paused_status, replace_place, replaced_in, rolled_back, start_run, start_status, with_item, with_run}
use Rattle.swarm_objects.specs.Rows.{IsRising, change_row, on_row, put_row, row_at, service_id}
use Rattle.swarm_objects.specs.Same.{same_place}
use Rattle.swarm_objects.specs.Tasks.New.{new_task}
use Rattle.swarm_objects.specs.Tasks.Places.{place_at}
use Rattle.swarm_objects.specs.World.{Tables, World}
use Rattle.swarm_objects.specs.declared.duties.Duty.TheVariants as duty
use Rattle.swarm_objects.specs.declared.services.Replaced.{Replaced}
use Rattle.swarm_objects.specs.declared.services.RunStatus.TheVariants as status
use Rattle.swarm_objects.specs.declared.services.Service.{Service}
use Rattle.swarm_objects.specs.declared.services.ServiceSpec.{ServiceSpec}
use Rattle.swarm_objects.specs.declared.services.UpdateOrder.{UpdateOrder}
use Rattle.swarm_objects.specs.declared.services.UpdateOrder.TheVariants as order
use Rattle.swarm_objects.specs.declared.services.UpdateRun.{UpdateRun}
use Rattle.swarm_objects.specs.declared.tasks.Task.{Task}

-- One row.

-- a write of the first row with a key changes all that have it, since the keys rise
one_row : {X : Type 0} (key : X → ℕ) (id : ℕ) (f : X → X) (rows : List X) (at : ℕ) (x : X) → IsRising key rows →
    position_or_len (λ row. key row == id) rows ≡ at → at < length rows → x ≡ get_or rows at x →
    set rows at (f x) ≡ change_row key id f rows
one_row key id f [] at x rises is lt here = absurd (omega arith)
one_row key id f (y ∷ rows) at x rises is lt here =
    go (eqb (key y) id) refl (λ k. one_row key id f rows k x (rising_from key (key y) rows rises)) is
  where
    first : (k : ℕ) → k ≡ 0 → x ≡ get_or (y ∷ rows) k x → eqb (key y) id ≡ true →
        set (y ∷ rows) k (f x) ≡ f y ∷ change_row key id f rows
    first zero e h t =
        ap (λ z. f z ∷ rows) h
        ∙ ap (λ rest. f y ∷ rest) (sym (change_row_above key (key y) id f rows rises (grind (arith, nat_tests))))
    first (suc k) e h t = absurd (omega arith)

    Below : Type 0
    Below =
        (k : ℕ) → position_or_len (λ row. key row == id) rows ≡ k → k < length rows → x ≡ get_or rows k x →
        set rows k (f x) ≡ change_row key id f rows

    later : (k : ℕ) → Below → k ≡ 1 + position_or_len (λ row. key row == id) rows → k < length (y ∷ rows) →
        x ≡ get_or (y ∷ rows) k x → set (y ∷ rows) k (f x) ≡ y ∷ change_row key id f rows
    later zero below e l h = absurd (omega arith)
    later (suc k) below e l h = ap (λ rest. y ∷ rest) (below k (omega arith) (omega arith) h)

    go : (b : Bool) → eqb (key y) id ≡ b → Below →
        cond (not b) (1 + position_or_len (λ row. key row == id) rows) 0 ≡ at →
        set (y ∷ rows) at (f x) ≡ cond b (f y) y ∷ change_row key id f rows
    go true t below e = first at (sym e) here t
    go false t below e = later at below (sym e) lt here

-- the same, where the first row was found
pub set_found : {X : Type 0} (key : X → ℕ) (id : ℕ) (f : X → X) (rows : List X) (found : Option ℕ) (at : ℕ) (x y : X) →
    IsRising key rows → found ≡ position (λ row. key row == id) rows → found ≡ Some at → x ≡ get_or rows at x →
    y ≡ f (get_or rows at x) → set rows at y ≡ change_row key id f rows
set_found key id f rows found at x y rises is some here new =
    let e : position (λ row. key row == id) rows ≡ Some at = sym is ∙ some in
    let one : position_or_len (λ row. key row == id) rows ≡ at = grind (arith, common_steps) in
    let lt : position_or_len (λ row. key row == id) rows < length rows = grind (arith, common_steps) in
    ap (set rows at) (new ∙ ap f (sym here)) ∙ one_row key id f rows at x rises one (omega (arith, one, lt)) here

no_row : {X : Type 0} (key : X → ℕ) (id : ℕ) (rows : List X) → position (λ row. key row == id) rows ≡ None →
    row_at key id rows ≡ None
no_row key id [] e = refl
no_row key id (x ∷ rows) e = go (eqb (key x) id) refl (no_row key id rows)
  where
    go : (b : Bool) → eqb (key x) id ≡ b → (position (λ row. key row == id) rows ≡ None → row_at key id rows ≡ None) →
        cond b (Some x) (row_at key id rows) ≡ None
    go true t below = absurd (grind (arith, common_steps, e, t))
    go false t below = below (grind (arith, common_steps, e, t))

pub not_found : {X : Type 0} (key : X → ℕ) (id : ℕ) (f : X → X) (rows : List X) (found : Option ℕ) →
    found ≡ position (λ row. key row == id) rows → found ≡ None → rows ≡ change_row key id f rows
not_found key id f rows found is none = sym (change_row-None key id f rows (no_row key id rows (sym is ∙ none)))

-- Items.

pub item_found : (item : Replaced) (items : List Replaced) (found : Option ℕ) (at : ℕ) →
    found ≡ position (λ i. same_place i.place item.place) items → found ≡ Some at →
    set items at item ≡ with_item item items
item_found item items found at is some =
    let e : position (λ (i : Replaced). same_place i.place item.place) items ≡ Some at = sym is ∙ some in
    let one : position_or_len (λ (i : Replaced). same_place i.place item.place) items ≡ at = grind (
      arith,
      common_steps,
    ) in
    let lt : position_or_len (λ (i : Replaced). same_place i.place item.place) items < length items = grind (
      arith,
      common_steps,
    ) in
    ap (λ n. set items n item) (sym one) ∙ put_there items lt
  where
    put_there : (xs : List Replaced) → position_or_len (λ (i : Replaced). same_place i.place item.place) xs <
        length xs →
        set xs (position_or_len (λ (i : Replaced). same_place i.place item.place) xs) item ≡ with_item item xs
    put_there [] lt = absurd (omega arith)
    put_there (i ∷ xs) lt = go (same_place i.place item.place) (put_there xs) lt
      where
        n : ℕ
        n = position_or_len (λ (j : Replaced). same_place j.place item.place) xs

        go : (b : Bool) → (n < length xs → set xs n item ≡ with_item item xs) →
            cond (not b) (1 + n) 0 < length (i ∷ xs) →
            set (i ∷ xs) (cond (not b) (1 + n) 0) item ≡ cond b (item ∷ xs) (i ∷ with_item item xs)
        go true below l = refl
        go false below l =
            let one : 1 + n ≡ suc n = omega arith in
            ap (λ k. set (i ∷ xs) k item) one ∙ ap (λ rest. i ∷ rest) (below (omega arith))

pub item_new : (item : Replaced) (items new : List Replaced) (found : Option ℕ) →
    found ≡ position (λ i. same_place i.place item.place) items → found ≡ None → new ≡ items ++ item ∷ [] →
    new ≡ with_item item items
item_new item items new found is none last = last ∙ put_last items (sym is ∙ none)
  where
    put_last : (xs : List Replaced) → position (λ (i : Replaced). same_place i.place item.place) xs ≡ None →
        xs ++ item ∷ [] ≡ with_item item xs
    put_last [] e = refl
    put_last (i ∷ xs) e = go (same_place i.place item.place) refl (put_last xs)
      where
        go : (b : Bool) → same_place i.place item.place ≡ b
            → (position (λ (j : Replaced). same_place j.place item.place) xs ≡ None →
            xs ++ item ∷ [] ≡ with_item item xs)
            → i ∷ (xs ++ item ∷ []) ≡ cond b (item ∷ xs) (i ∷ with_item item xs)
        go true t below = absurd (grind (arith, common_steps, e, t))
        go false t below = ap (λ rest. i ∷ rest) (below (grind (arith, common_steps, e, t)))

-- Slices that are written.

as_long : {X : Type 0} (key : X → ℕ) (id : ℕ) (f : X → X) (rows : List X) →
    length (change_row key id f rows) ≡ length rows
as_long key id f [] = refl
as_long key id f (x ∷ rows) = ap suc (as_long key id f rows)

-- a list whose slice was changed
pub put_back : {X : Type 0} (key : X → ℕ) (id : ℕ) (f : X → X) (old slice new : List X) → slice ≡ old →
    new ≡ change_row key id f slice → instead old new ≡ change_row key id f old
put_back key id f old slice new same is =
    let whole : new ≡ change_row key id f old = is ∙ ap (change_row key id f) same in
    instead_is old new (ap length whole ∙ as_long key id f old) ∙ whole

as_many : (version : ℕ) (s : Service) (k : ℕ) (o : UpdateOrder) (tasks : List Task) →
    length (stopped_by_order version s k o tasks) ≡ length tasks
as_many version s k order.StopFirst [] = refl
as_many version s k order.StopFirst (x ∷ tasks) = ap suc (as_many version s k order.StopFirst tasks)
as_many version s k order.StartFirst tasks = refl

-- the tasks before the last one stop
pub all_stopped : (version : ℕ) (s : Service) (k : ℕ) (o : UpdateOrder) (old more slice new : List Task) (x : Task)
    (count : ℕ) →
    more ≡ old ++ x ∷ [] → count ≡ length old → slice ≡ more →
    new ≡ stopped_by_order version s k o (take count slice) ++ drop count slice →
    instead more new ≡ stopped_by_order version s k o old ++ x ∷ []
all_stopped version s k o old more slice new x count one long same is =
    let stop = stopped_by_order version s k o in
    let first : take (length old) (old ++ x ∷ []) ≡ old =
    take-append-le (length old) old (x ∷ []) (omega arith) ∙ take_all (length old) old (omega arith) in
    let behind : drop (length old) (old ++ x ∷ []) ≡ x ∷ [] = drop_at old (x ∷ []) (length old) refl in
    let whole : new ≡ stop old ++ x ∷ [] =
    is
    ∙ ap (λ ys. stop (take count ys) ++ drop count ys) (same ∙ one)
    ∙ ap (λ n. stop (take n (old ++ x ∷ [])) ++ drop n (old ++ x ∷ [])) long
    ∙ ap (λ ys. stop ys ++ drop (length old) (old ++ x ∷ [])) first
    ∙ ap (λ ys. stop old ++ ys) behind in
    instead_is more new
    (ap length whole ∙ length-append (stop old) (x ∷ []) ∙ ap (λ n. n + 1) (as_many version s k o old)
    ∙ sym (length-append old (x ∷ [])) ∙ sym (ap length one))
    ∙ whole

-- The world.

nowhere : (w : World) (id : ℕ) (use_row : Service → Tables) → row_at service_id id w.tables.services ≡ None →
    w ≡ with_tables w (on_service w.tables id use_row)
nowhere w id use_row none = ap (λ o. with_tables w (on_row w.tables use_row o)) (sym none)

somewhere : (w : World) (id : ℕ) (use_row : Service → Tables) (v : Service) (t : Tables) →
    row_at service_id id w.tables.services ≡ Some v → t ≡ use_row v →
    with_tables w t ≡ with_tables w (on_service w.tables id use_row)
somewhere w id use_row v t some is =
    ap (with_tables w) is ∙ ap (λ o. with_tables w (on_row w.tables use_row o)) (sym some)

has_id : (rows : List Service) (id : ℕ) (v : Service) → row_at service_id id rows ≡ Some v → v.id ≡ id
has_id rows id v some = (Has-from_row_at service_id id rows v some).1

-- these services are those of the row's change
changed : (t : Tables) (id : ℕ) (v : Service) (f : Service → Service) (rows : List Service) →
    row_at service_id id t.services ≡ Some v → rows ≡ change_row service_id id f t.services →
    record t { services = rows } ≡ change_service v.id f t
changed t id v f rows some is =
    ap (λ xs. record t { services = xs })
    (is ∙ ap (λ k. change_row service_id k f t.services) (sym (has_id t.services id v some)))

pub started : (w : World) (version id : ℕ) (v : Service) (found : Option Service) (run : UpdateRun) (rows : List
    Service) →
    found ≡ row_at service_id id w.tables.services → found ≡ Some v →
    run ≡ new_run w.tables v (start_status v.rolling_back) →
    rows ≡ change_row service_id id (λ s. record s { version = version; run = Some run }) w.tables.services →
    with_tables w (record w.tables { services = rows }) ≡ effect_by version w (duty.Start id)
started w version id v found run rows is some made set' =
    let at : row_at service_id id w.tables.services ≡ Some v = sym is ∙ some in
    somewhere w id (start_run version w.tables) v (record w.tables { services = rows }) at
    (changed w.tables id v (with_run version (new_run w.tables v (start_status v.rolling_back))) rows at
    (set' ∙ ap (λ r. change_row service_id id (with_run version r) w.tables.services) made))

pub finished : (w : World) (version id : ℕ) (rows : List Service) →
    rows
    ≡ change_row service_id id (change_run (λ run. in_status (finished_status run.status) run) version)
    w.tables.services →
    with_tables w (record w.tables { services = rows }) ≡ effect_by version w (duty.Finish id)
finished w version id rows is = go (row_at service_id id w.tables.services) refl
  where
    f : Service → Service
    f = change_run (λ run. in_status (finished_status run.status) run) version

    go : (o : Option Service) → row_at service_id id w.tables.services ≡ o →
        with_tables w (record w.tables { services = rows }) ≡ effect_by version w (duty.Finish id)
    go (Some v) e =
        somewhere w id (finish_run version w.tables) v (record w.tables { services = rows }) e
        (changed w.tables id v f rows e is)
    go None e =
        ap (λ xs. with_tables w (record w.tables { services = xs })) (is
        ∙ change_row-None service_id id f w.tables.services e)
        ∙ nowhere w id (finish_run version w.tables) e

-- Failures.

fails_back : (version : ℕ) (t : Tables) (v : Service) (spec : ServiceSpec) (b : Bool) (o : Option ServiceSpec) →
    spec_back b o ≡ Some spec → rolled_back version t (back_at version spec v) ≡ fail_run version t v b o
fails_back version t v spec true (Some x) e =
    let same : spec ≡ x = cc in ap (λ y. rolled_back version t (back_at version y v)) same
fails_back version t v spec true None e = absurd cc
fails_back version t v spec false o e = absurd cc

fails_paused : (version : ℕ) (t : Tables) (v : Service) (b : Bool) (o : Option ServiceSpec) → spec_back b o ≡ None →
    paused version t v ≡ fail_run version t v b o
fails_paused version t v true (Some x) e = absurd cc
fails_paused version t v true None e = refl
fails_paused version t v false (Some x) e = refl
fails_paused version t v false None e = refl

-- the service that goes back, with its run
pub rolled : (t : Tables) (version : ℕ) (spec : ServiceSpec) (v before : Service) (run : UpdateRun) →
    before ≡ record (back_at version spec v) { run = None } → run ≡ new_run t before status.RollbackStarted →
    record before { run = Some run }
    ≡ with_run version (new_run t (back_at version spec v) status.RollbackStarted) (back_at version spec v)
rolled t version spec v before run is made =
    ap (λ (r : UpdateRun). record before { run = Some r }) made
    ∙ ap (λ (b : Service). record b { run = Some (new_run t b status.RollbackStarted) }) is

pub back : (w : World) (version id : ℕ) (v : Service) (found : Option Service) (spec : ServiceSpec) (target :
    Option ServiceSpec)
    (new : Service) (rows : List Service) → found ≡ row_at service_id id w.tables.services → found ≡ Some v →
    target ≡ spec_back (may_roll_back v) v.previous → target ≡ Some spec →
    new ≡ with_run version (new_run w.tables (back_at version spec v) status.RollbackStarted) (back_at version spec v) →
    rows ≡ put_row service_id new w.tables.services →
    with_tables w (record w.tables { services = rows }) ≡ effect_by version w (duty.Fail id)
back w version id v found spec target new rows is some back' to made put =
    let at : row_at service_id id w.tables.services ≡ Some v = sym is ∙ some in
    let t = w.tables in
    somewhere w id (λ v. fail_run version t v (may_roll_back v) v.previous) v (record t { services = rows }) at
    (ap (λ xs. record t { services = xs }) (put ∙ ap (λ x. put_row service_id x t.services) made)
    ∙ fails_back version t v spec (may_roll_back v) v.previous (sym back' ∙ to))

pub halted : (w : World) (version id : ℕ) (v : Service) (found : Option Service) (target : Option ServiceSpec)
    (rows : List Service) → found ≡ row_at service_id id w.tables.services → found ≡ Some v →
    target ≡ spec_back (may_roll_back v) v.previous → target ≡ None →
    rows
    ≡ change_row service_id id (change_run (λ run. in_status (paused_status run.status) run) version)
    w.tables.services →
    with_tables w (record w.tables { services = rows }) ≡ effect_by version w (duty.Fail id)
halted w version id v found target rows is some back' none set' =
    let at : row_at service_id id w.tables.services ≡ Some v = sym is ∙ some in
    let t = w.tables in
    somewhere w id (λ v. fail_run version t v (may_roll_back v) v.previous) v (record t { services = rows }) at
    (changed t id v (change_run (λ run. in_status (paused_status run.status) run) version) rows at set'
    ∙ fails_paused version t v (may_roll_back v) v.previous (sym back' ∙ none))

-- Replacements.

ordered : (version : ℕ) (t : Tables) (v : Service) (k : ℕ) (o : UpdateOrder) →
    record t {
      next_id = t.next_id + 1;
      tasks = stopped_by_order version v k o t.tasks
          ++ new_task version t v (place_at v.spec.mode k) (desired_by_order v.spec.mode o) ∷ [];
    }
    ≡ by_order version t v k o
ordered version t v k order.StopFirst = refl
ordered version t v k order.StartFirst = refl

one_some : (u v : Service) → Some u ≡ Some v → u ≡ v
one_some u v e = cc

pub replaced : (w : World) (version id k : ℕ) (v u : Service) (found : Option Service) (run : Option UpdateRun)
    (task : Task)
    (tasks : List Task) (rows : List Service) → IsRising service_id w.tables.services →
    found ≡ row_at service_id id w.tables.services → found ≡ Some v → Some u ≡ row_at service_id id w.tables.services →
    run
    ≡ option_map (λ (run : UpdateRun). record run {
      replaced = with_item (item_of w.tables (place_at v.spec.mode
          k)) run.replaced;
    }) v.run →
    task
    ≡ new_task version w.tables v (place_at v.spec.mode k) (desired_by_order v.spec.mode v.spec.update.order) →
    tasks ≡ stopped_by_order version u k u.spec.update.order w.tables.tasks ++ task ∷ [] →
    rows ≡ change_row service_id id (λ s. record s { version = version; run = run }) w.tables.services →
    with_tables w (record w.tables { next_id = w.tables.next_id + 1; tasks = tasks; services = rows })
    ≡ effect_by version w (duty.Replace id k)
replaced w version id k v u found run task tasks rows rises is some again item made stopped set' =
    let t = w.tables in
    let at : row_at service_id id t.services ≡ Some v = sym is ∙ some in
    let same : u ≡ v = one_some u v (again ∙ at) in
    let f = replaced_in version (item_of t (place_at v.spec.mode k)) in
    let services : rows ≡ change_row service_id v.id f t.services =
    set'
    ∙ same_change service_id id (λ s. record s { version = version; run = run }) f t.services v rises at
    (ap (λ r. record v { version = version; run = r }) item)
    ∙ ap (λ j. change_row service_id j f t.services) (sym (has_id t.services id v at)) in
    let all : tasks
    ≡ stopped_by_order version v k v.spec.update.order t.tasks
    ++ new_task version t v (place_at v.spec.mode k) (desired_by_order v.spec.mode v.spec.update.order) ∷ [] =
    stopped
    ∙ ap (λ s. stopped_by_order version s k s.spec.update.order t.tasks ++ task ∷ []) same
    ∙ ap (λ x. stopped_by_order version v k v.spec.update.order t.tasks ++ x ∷ []) made in
    somewhere w id (replace_place version t k) v (record t {
      next_id = t.next_id + 1;
      tasks = tasks;
      services =
          rows;
    }) at
    (ap (λ xs. record t { next_id = t.next_id + 1; tasks = tasks; services = xs }) services
    ∙ ap (λ ys. record t {
      next_id = t.next_id + 1;
      tasks = ys;
      services = change_row service_id v.id f t.services;
    }) all
    ∙ ap (change_service v.id f) (ordered version t v k v.spec.update.order))
