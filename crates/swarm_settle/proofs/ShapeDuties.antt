-- What each duty makes of the shape of the tables.
use Rattle.std.proofs.Common.{Bool, List, None, Option, Some, [], ap, arith, cond, false, inl, inr, not, refl, subst, sym, true, ℕ, ◌++◌, ◌+◌, ◌<◌, ◌∙◌, ◌∷◌, ◌≡◌, ◌⊎◌}
use Rattle.std.specs.Option.{option_map}
use Rattle.std.specs.Prelude.{is_some, map, ◌&&◌, ◌==◌}
use Rattle.swarm_settle.proofs.PlaceLists.{newest-mapped, newest-some, place-in, touch}
use Rattle.swarm_settle.proofs.ShapeWords.{each-mapped, newest-blank, other-blank}
use Rattle.swarm_settle.proofs.Shapes.{Comes, DutyStep, Restarts, bare, blank, closes, pushed, renews, shape, shuts, stays}
use Rattle.swarm_model.proofs.Base.IsDuty.{OfRow}
use Rattle.swarm_model.proofs.Moves.Rows.{RisesBetween, between-has, between-one, has_row-Has}
use Rattle.swarm_model.proofs.Moves.Worlds.{IsOrderly}
use Rattle.swarm_model.specs.Closing.{cause_set, closes_with}
use Rattle.swarm_objects.proofs.RowLemmas.{Has-filter, Has-from_row_at, Has-map}
use Rattle.swarm_objects.proofs.Tests.{never-both}
use Rattle.swarm_objects.proofs.Filters.{filter_map}
use Rattle.swarm_objects.specs.Changes.{change_task, change_where, wanted}
use Rattle.swarm_objects.specs.Duties.{effect_by}
use Rattle.swarm_objects.specs.Rows.{Has, change_row, is_some_and, on_row, row_at, task_id}
use Rattle.swarm_objects.specs.Loops.Restart.{by_policy, closed_by, next_task, restarted, shut, with_attempt}
use Rattle.swarm_objects.specs.Tasks.New.{goal_of, new_task, with_task}
use Rattle.swarm_objects.specs.Tasks.Places.{counts_for, has_other, is_in_place, newest, tasks_of_place}
use Rattle.swarm_objects.specs.Tasks.Policy.{no_restart}
use Rattle.swarm_objects.specs.Tasks.Words.{is_live, is_task}
use Rattle.swarm_objects.specs.World.{Tables, World, empty_tables}
use Rattle.swarm_objects.specs.declared.calls.What.TheVariants as what
use Rattle.swarm_objects.specs.declared.duties.Duty.{Duty}
use Rattle.swarm_objects.specs.declared.services.Service.{Service}
use Rattle.swarm_objects.specs.declared.tasks.Closed.{Closed}
use Rattle.swarm_objects.specs.declared.tasks.Desired.TheVariants as desired
use Rattle.swarm_objects.specs.declared.tasks.Desired.{Desired}
use Rattle.swarm_objects.specs.declared.tasks.Place.{Place}
use Rattle.swarm_objects.specs.declared.tasks.Task.{Task}

-- Rows whose shape stays or changes.

pub map-same : {X Y : Type 0} (f g : X → Y) (xs : List X) → ((x : X) → Has xs x → f x ≡ g x) → map f xs ≡ map g xs
map-same f g [] same = refl
map-same f g (x ∷ xs) same =
    ap (λ y. y ∷ map f xs) (same x (inl refl)) ∙ ap (λ ys. g x ∷ ys) (map-same f g xs (λ y h. same y (inr h)))

pub map-map : {X Y Z : Type 0} (f : X → Y) (g : Y → Z) (xs : List X) → map g (map f xs) ≡ map (λ x. g (f x)) xs
map-map f g [] = refl
map-map f g (x ∷ xs) = ap (λ ys. g (f x) ∷ ys) (map-map f g xs)

-- a change that the shape doesn't show
pub hidden : {X Y : Type 0} (h : X → Y) (f : X → X) (xs : List X) → ((x : X) → h (f x) ≡ h x) → map h (map f xs)
    ≡ map h xs
hidden h f xs same = map-map f h xs ∙ map-same (λ x. h (f x)) h xs (λ x k. same x)

pub hidden-touch : (test : Task → Bool) (f : Task → Task) (xs : List Task) → ((x : Task) → blank (f x) ≡ blank x) →
    map blank (map (touch test f) xs) ≡ map blank xs
hidden-touch test f xs same = hidden blank (touch test f) xs (λ x. go x (test x))
  where
    go : (x : Task) (b : Bool) → blank (cond b (f x) x) ≡ blank x
    go x true = same x
    go x false = refl

-- a change that it shows
pub shown : (test : Task → Bool) (f g : Task → Task) (xs : List Task) → ((x : Task) → test (blank x) ≡ test x) →
    ((x : Task) → blank (f x) ≡ g (blank x)) → map blank (map (touch test f) xs) ≡ map (touch test g) (map blank xs)
shown test f g xs reads same =
    map-map (touch test f) blank xs
    ∙ map-same (λ x. blank (touch test f x)) (λ x. touch test g (blank x)) xs (λ x k. go x)
    ∙ sym (map-map blank (touch test g) xs)
  where
    go : (x : Task) → blank (touch test f x) ≡ touch test g (blank x)
    go x = by (test x) (same x) ∙ ap (λ (b : Bool). cond b (g (blank x)) (blank x)) (sym (reads x))
      where
        by : (b : Bool) → blank (f x) ≡ g (blank x) → blank (cond b (f x) x) ≡ cond b (g (blank x)) (blank x)
        by true e = e
        by false e = refl

-- Steps.

pub stay : (e : ℕ) (t u : Tables) → map blank u.tasks ≡ map blank t.tasks → map bare u.services ≡ map bare t.services →
    DutyStep e (shape t) None (shape u)
stay e t u tasks services =
    subst (λ (ss : List Service). DutyStep e (shape t) None
    (record empty_tables { services = ss; tasks = map blank u.tasks }))
    (sym services)
    (subst (λ (xs : List Task). DutyStep e (shape t) None (record (shape t) { tasks = xs })) (sym tasks) stays)

-- the tasks of a shape are these
pub with-tasks : (e : ℕ) (t u : Tables) (set : Option (ℕ × Closed)) (xs : List Task) → map blank u.tasks ≡ xs →
    map bare u.services ≡ map bare t.services → DutyStep e (shape t) set (record (shape t) { tasks = xs }) →
    DutyStep e (shape t) set (shape u)
with-tasks e t u set xs tasks services step =
    subst (λ (ss : List Service). DutyStep e (shape t) set
    (record empty_tables { services = ss; tasks = map blank u.tasks }))
    (sym services)
    (subst (λ (ys : List Task). DutyStep e (shape t) set (record (shape t) { tasks = ys })) (sym tasks) step)

-- the duty's row, found by its number
pub found : {X : Type 0} (key : X → ℕ) (next id : ℕ) (rows : List X) (Fact : X → Type 0) →
    RisesBetween key 1 next rows →
    (of : OfRow rows key id Fact) → row_at key id rows ≡ Some of.row
found key next id rows Fact rises of = go (row_at key id rows) refl
  where
    go : (o : Option _) → row_at key id rows ≡ o → o ≡ Some of.row
    go (Some x) e =
        let at = Has-from_row_at key id rows x e in
        ap (λ y. Some y) (between-one key 1 next rows x of.row rises at.0 of.there (at.1 ∙ sym of.id_is))
    go None e =
        never-both (is_some (row_at key id rows)) (ap is_some e) (has_row-Has key rows of.row id of.there of.id_is)

pub one-task : (e : ℕ) (t : Tables) (id : ℕ) (f g : Task → Task) (set : Option (ℕ × Closed)) →
    ((x : Task) → blank (f x) ≡ g (blank x)) → DutyStep e (shape t) set (change_task id g (shape t)) →
    DutyStep e (shape t) set (shape (change_task id f t))
one-task e t id f g set same step =
    with-tasks e t (change_task id f t) set (change_row task_id id g (map blank t.tasks))
    (shown (λ y. task_id y == id) f g t.tasks (λ y. refl) same) refl step

pub where-tasks : (e : ℕ) (t : Tables) (test : Task → Bool) (f g : Task → Task) (set : Option (ℕ × Closed)) →
    ((x : Task) → test (blank x) ≡ test x) → ((x : Task) → blank (f x) ≡ g (blank x)) →
    DutyStep e (shape t) set (change_where test g (shape t)) → DutyStep e (shape t) set (shape (change_where test f t))
where-tasks e t test f g set reads same step =
    with-tasks e t (change_where test f t) set (map (touch test g) (map blank t.tasks))
    (shown test f g t.tasks reads same)
    refl step

pub map-push : {X Y : Type 0} (f : X → Y) (xs : List X) (x : X) → map f (xs ++ x ∷ []) ≡ map f xs ++ f x ∷ []
map-push f [] x = refl
map-push f (y ∷ xs) x = ap (λ ys. f y ∷ ys) (map-push f xs x)

-- tasks of a shape, and one more
pub one-more-task : (e : ℕ) (t u : Tables) (y : Task) (xs ys : List Task) → map blank xs ≡ ys → u.tasks ≡ xs ++ y ∷ [] →
    map bare u.services ≡ map bare t.services →
    DutyStep e (shape t) None (pushed (record (shape t) { tasks = ys }) (blank y)) →
    DutyStep e (shape t) None (shape u)
one-more-task e t u y xs ys same tasks services step =
    with-tasks e t u None (ys ++ blank y ∷ [])
    (ap (map blank) tasks ∙ map-push blank xs y ∙ ap (λ (zs : List Task). zs ++ blank y ∷ []) same) services step

-- New tasks.

pub comes-new : (version : ℕ) (w : World) (s : Service) (p : Place) (d : Desired) → IsOrderly w →
    (d ≡ desired.Ready) ⊎ (d ≡ goal_of s.spec.mode) →
    Comes (shape w.tables) (bare s) p (blank (new_task version w.tables s p d))
comes-new version w s p d orderly wants = record {
  above = each-mapped (λ (x : Task). x.id < w.tables.next_id) blank w.tables.tasks
      (λ x h. (between-has task_id 1 w.tables.next_id w.tables.tasks x orderly.tasks h).1);
  service = refl;
  place = refl;
  iteration = refl;
  template = refl;
  goal = refl;
  wanted = wants;
  closed = refl;
}

comes-next : (version : ℕ) (w : World) (t : Tables) (s : Service) (p : Place) → IsOrderly w →
    t.next_id ≡ w.tables.next_id → Comes (shape w.tables) (bare s) p (blank (next_task version t s p))
comes-next version w t s p orderly next = record {
  above = each-mapped (λ (x : Task). x.id < t.next_id) blank w.tables.tasks
      (λ x h.
      let below = (between-has task_id 1 w.tables.next_id w.tables.tasks x orderly.tasks h).1 in
      omega (arith, below, next));
  service = refl;
  place = refl;
  iteration = refl;
  template = refl;
  goal = refl;
  wanted = inl refl;
  closed = refl;
}

-- Restarts.

abbrev pub set_at : Option (ℕ × Closed) → ℕ → Option Closed
set_at None id = None
set_at (Some set) id = cond (set.0 == id) (Some set.1) None

-- what the entry makes, and that it sets this cause
pub record MadeBy (w : World) (d : Duty) : Type 0 where
  pub set : Option (ℕ × Closed)
  pub step : DutyStep (w.entries + 1) (shape w.tables) set (shape (effect_by (w.entries + 1) w d).tables)
  pub causes : (id : ℕ) → set_at set id ≡ cause_set w id (what.Duty d)

-- the same of tables
pub record MadeOf (e : ℕ) (t u : Tables) (causes : ℕ → Option Closed) : Type 0 where
  pub set : Option (ℕ × Closed)
  pub step : DutyStep e (shape t) set (shape u)
  pub causes_are : (id : ℕ) → set_at set id ≡ causes id

shut-shape : (e id : ℕ) (t : Tables) →
    map blank (shut e id t).tasks ≡ map (touch (λ y. task_id y == id) (wanted 0 desired.Shutdown)) (map blank t.tasks)
shut-shape e id t =
    shown (λ y. task_id y == id) (wanted e desired.Shutdown) (wanted 0 desired.Shutdown) t.tasks (λ y. refl) (λ y. refl)

restarts-of : (t : Tables) (x : Task) (s : Service) → Has t.tasks x → Has t.services s → is_live x ≡ true →
    counts_for s x ≡ true → Restarts (shape t) (blank x) (bare s)
restarts-of t x s h k live counts =
    record { there = Has-map blank t.tasks x h; of = Has-map bare t.services s k; live = live; counts = counts }

-- the newest of the place, once the task is to stop, has the number of the newest before
newest-shut : (e id : ℕ) (t : Tables) (s : Service) (p : Place) (y : Task) →
    newest (tasks_of_place s p (shut e id t).tasks) ≡ Some y → (z : Task) ×
    (newest (tasks_of_place s p t.tasks) ≡ Some z) × (z.id ≡ y.id)
newest-shut e id t s p y last =
    let at =
    newest-mapped (touch (λ z. task_id z == id) (wanted e desired.Shutdown)) (tasks_of_place s p t.tasks) y
    (ap newest (sym (filter_map (is_in_place s p) (touch (λ z. task_id z == id) (wanted e desired.Shutdown)) t.tasks
    (λ z. go z (task_id z == id)))) ∙ last) in
    (at.0, at.1, same at.0 (task_id at.0 == id) ∙ ap task_id at.2)
  where
    go : (z : Task) (b : Bool) → is_in_place s p (cond b (wanted e desired.Shutdown z) z) ≡ is_in_place s p z
    go z true = refl
    go z false = refl

    same : (z : Task) (b : Bool) → z.id ≡ task_id (cond b (wanted e desired.Shutdown z) z)
    same z true = refl
    same z false = refl

closed-cause : (t : Tables) (x y : Task) (s : Service) (cause : Closed) → has_other t s x ≡ false →
    no_restart t s x ≡ Some cause → newest (tasks_of_place s x.place t.tasks) ≡ Some y → (id : ℕ) →
    set_at (Some (y.id, cause)) id ≡ closes_with t id x s
closed-cause t x y s cause none why last id =
    ap (λ (o : Option Closed). cond (y.id == id) o None) (sym why)
    ∙ ap (λ (o : Option Task). cond (is_some_and (is_task id) o) (no_restart t s x) None) (sym last)
    ∙ sym (ap (λ (b : Bool). cond (not b && is_some_and (is_task id) (newest (tasks_of_place s x.place t.tasks)))
    (no_restart t s x) None) none)

unclosed-cause : (t : Tables) (x : Task) (s : Service) → no_restart t s x ≡ None → (id : ℕ) →
    None ≡ closes_with t id x s
unclosed-cause t x s why id =
    go (not (has_other t s x) && is_some_and (is_task id) (newest (tasks_of_place s x.place t.tasks)))
  where
    go : (b : Bool) → None ≡ cond b (no_restart t s x) None
    go true = sym why
    go false = refl

other-cause : (t : Tables) (x : Task) (s : Service) → has_other t s x ≡ true → (id : ℕ) → None ≡ closes_with t id x s
other-cause t x s other id =
    sym (ap (λ (b : Bool). cond (not b && is_some_and (is_task id) (newest (tasks_of_place s x.place t.tasks)))
    (no_restart t s x) None) other)

pub restarted-made : (w : World) (x : Task) (s : Service) → IsOrderly w → Has w.tables.tasks x →
    Has w.tables.services s →
    is_live x ≡ true → counts_for s x ≡ true →
    MadeOf (w.entries + 1) w.tables (restarted (w.entries + 1) w.tables x s) (λ id. closes_with w.tables id x s)
restarted-made w x s orderly h k live counts = go (has_other t s x) refl
  where
    t : Tables
    t = w.tables

    e : ℕ
    e = w.entries + 1

    r : Restarts (shape t) (blank x) (bare s)
    r = restarts-of t x s h k live counts

    -- closed, or made anew
    alone : has_other t s x ≡ false → (o : Option Closed) → no_restart t s x ≡ o →
        MadeOf e t (by_policy e (shut e x.id t) s x.place o) (λ id. closes_with t id x s)
    alone none None why = record {
      set = None;
      step = one-more-task e t
          (with_task (with_attempt (shut e x.id t) s x.place) (next_task e (shut e x.id t) s x.place))
          (next_task e (shut e x.id t) s x.place) (shut e x.id t).tasks
          (shut 0 x.id (shape t)).tasks (shut-shape e x.id t) refl refl
          (renews (blank x) (blank (next_task e (shut e x.id t) s x.place)) (bare s) r (other-blank t s x ∙ none)
          (comes-next e w (shut e x.id t) s x.place orderly refl));
      causes_are = unclosed-cause t x s why;
    }
    alone none (Some cause) why =
        by_newest (newest (tasks_of_place s x.place (shut e x.id t).tasks)) refl
      where
        some_left : ¬ (newest (tasks_of_place s x.place (shut e x.id t).tasks) ≡ None)
        some_left last =
            let there = Has-map (touch (λ z. task_id z == x.id) (wanted e desired.Shutdown)) t.tasks x h in
            let inside =
            Has-filter (is_in_place s x.place) (shut e x.id t).tasks _ there (in_place (task_id x == x.id)) in
            let top = newest-some (tasks_of_place s x.place (shut e x.id t).tasks) _ inside in
            let both : None ≡ Some top.0 = sym last ∙ top.1 in
            cc
          where
            in_place : (b : Bool) → is_in_place s x.place (cond b (wanted e desired.Shutdown x) x) ≡ true
            in_place true = place-in s x.place x counts refl
            in_place false = place-in s x.place x counts refl

        by_newest : (o : Option Task) → newest (tasks_of_place s x.place (shut e x.id t).tasks) ≡ o →
            MadeOf e t (on_row (shut e x.id t) (λ y. change_task y.id (closed_by e cause) (shut e x.id t)) o)
            (λ id. closes_with t id x s)
        by_newest (Some y) last =
            let before = newest-shut e x.id t s x.place y last in
            record {
              set = Some (y.id, cause);
              step = with-tasks e t (change_task y.id (closed_by e cause) (shut e x.id t)) (Some (y.id, cause))
                  (change_task y.id (closed_by 0 cause) (shut 0 x.id (shape t))).tasks
                  (shown (λ z. task_id z == y.id) (closed_by e cause) (closed_by 0 cause) (shut e x.id t).tasks
                  (λ z. refl) (λ z. refl)
                  ∙ ap (λ (xs : List Task). map (touch (λ z. task_id z == y.id) (closed_by 0 cause)) xs)
                  (shut-shape e x.id t)) refl
                  (closes (blank x) (blank y) (bare s) cause r (other-blank t s x ∙ none)
                  (ap (λ (xs : List Task). newest (tasks_of_place (bare s) x.place xs)) (sym (shut-shape e x.id t))
                  ∙ newest-blank s x.place (shut e x.id t).tasks ∙ ap (option_map blank) last));
              causes_are = λ id.
                  ap (λ (j : ℕ). set_at (Some (j, cause)) id) (sym before.2)
                  ∙ closed-cause t x before.0 s cause none why before.1 id;
            }
        by_newest None last = absurd (some_left last)

    go : (b : Bool) → has_other t s x ≡ b →
        MadeOf e t (cond b (shut e x.id t) (by_policy e (shut e x.id t) s x.place (no_restart t s x)))
        (λ id. closes_with t id x s)
    go true other = record {
      set = None;
      step = one-task e t x.id (wanted e desired.Shutdown) (wanted 0 desired.Shutdown) None (λ y. refl)
          (shuts (blank x) (bare s) r (other-blank t s x ∙ other));
      causes_are = other-cause t x s other;
    }
    go false none = alone none (no_restart t s x) refl
