-- A task that is made anew, or has another live one beside it, makes the measure smaller.
use Rattle.std.proofs.Common.{Bool, List, None, Option, Some, ap, arith, cond, false, map, refl, subst, sym, true, ℕ, ◌+◌, ◌<◌, ◌∙◌, ◌≡◌, ◌≤◌}
use Rattle.std.proofs.lemmas.Bool.Decides.{nat_tests}
use Rattle.std.specs.List.{list_any}
use Rattle.std.specs.Prelude.{nat_le, nat_lt, not, ◌&&◌, ◌==◌, ◌||◌}
use Rattle.swarm_settle.proofs.Bound.Calm.World.{AreCalm, is_fit}
use Rattle.swarm_settle.proofs.Bound.ComingFills.{by-number}
use Rattle.swarm_settle.proofs.Bound.ComingSteps.{coming-stays}
use Rattle.swarm_settle.proofs.Bound.Falls.Changed.{falls-renewed}
use Rattle.swarm_settle.proofs.Bound.Falls.Places.{coming-none, seen-elsewhere}
use Rattle.swarm_settle.proofs.Bound.Falls.Replaces.{ready-live}
use Rattle.swarm_settle.proofs.Bound.Falls.Touched.{touch}
use Rattle.swarm_settle.proofs.Bound.Falls.Wanted.{falls-where, shut-left, shut-moves}
use Rattle.swarm_settle.proofs.Bound.Looks.{renews}
use Rattle.swarm_settle.proofs.Bound.Renewing.{coming-renewed}
use Rattle.swarm_settle.proofs.Bound.Seen.{AllSeen, held-seen, renewed-seen}
use Rattle.swarm_settle.specs.Bound.Coming.{coming_of, is_new_since, is_renewed}
use Rattle.swarm_settle.specs.Bound.Measure.{measure}
use Rattle.swarm_model.proofs.Laws.GivesOut.{GivesOut}
use Rattle.swarm_model.proofs.Moves.Duties.{attempt-moves, good-next, shut-task}
use Rattle.swarm_model.proofs.Moves.Rows.{between-one}
use Rattle.swarm_model.proofs.Moves.Tables.{move-add}
use Rattle.swarm_model.proofs.Moves.Worlds.{IsGood, IsOrderly, tables-then}
use Rattle.swarm_model.specs.Laws.OfService.{AreOfServices}
use Rattle.swarm_objects.proofs.RowLemmas.{Has-filter, Has-filter_cases, Has-map}
use Rattle.swarm_objects.proofs.Tests.{any-has, both, first_so, has-any, never-both, or_left, second_so}
use Rattle.swarm_objects.specs.Changes.{change_where, wanted, with_tables}
use Rattle.swarm_objects.specs.Loops.Restart.{by_policy, is_over, next_task, shut, wants_restart, with_attempt}
use Rattle.swarm_objects.specs.Nodes.Filters.{takes_tasks}
use Rattle.swarm_objects.specs.Nodes.Sessions.{is_session_live}
use Rattle.swarm_objects.specs.Nodes.Words.{is_active, is_astray, is_drain, is_down, is_homed, is_invalid, is_node_and, is_ready, is_valid_node, meets_all}
use Rattle.swarm_objects.specs.Rows.{Has, is_row_and, is_some_and, node_id, row_at, task_id}
use Rattle.swarm_objects.specs.Services.Words.{is_live_clean}
use Rattle.swarm_objects.specs.Tasks.New.{bound_node}
use Rattle.swarm_objects.specs.Tasks.Places.{counts_for, has_other, is_held_place, is_in_place, place_at, tasks_of_place}
use Rattle.swarm_objects.specs.Tasks.Words.{has_ended, is_live}
use Rattle.swarm_objects.specs.Values.Ranks.{rank}
use Rattle.swarm_objects.specs.World.{Tables, World}
use Rattle.swarm_objects.specs.declared.nodes.Availability.TheVariants as availability
use Rattle.swarm_objects.specs.declared.nodes.Availability.{Availability}
use Rattle.swarm_objects.specs.declared.nodes.Node.{Node}
use Rattle.swarm_objects.specs.declared.nodes.NodeState.TheVariants as node_state
use Rattle.swarm_objects.specs.declared.nodes.NodeState.{NodeState}
use Rattle.swarm_objects.specs.declared.services.Service.{Service}
use Rattle.swarm_objects.specs.declared.tasks.Desired.TheVariants as desired
use Rattle.swarm_objects.specs.declared.tasks.Place.TheVariants.{On, Slot}
use Rattle.swarm_objects.specs.declared.tasks.Place.{Place}
use Rattle.swarm_objects.specs.declared.tasks.Task.{Task}
use Rattle.swarm_objects.specs.declared.tasks.TaskState.TheVariants as state
use Rattle.swarm_settle.proofs.PlaceLists.{place-in}

-- No new task is over.

valid-by : (s : NodeState) (a : Availability) (b : Bool) → (is_ready s && is_active a && b) ≡ true →
    (not (is_down s) && not (is_drain a)) ≡ true
valid-by node_state.Ready availability.Active b e = refl
valid-by node_state.Ready _ b e = absurd cc
valid-by _ _ b e = absurd cc

fit-homed : (t : Tables) (x : Task) → is_node_and t (is_fit t x.template.constraints) x ≡ true → is_astray t x ≡ false
fit-homed t x e = go x.node e
  where
    row : (o : Option Node) → is_some_and (is_fit t x.template.constraints) o ≡ true →
        not (is_some_and is_valid_node o) ≡ false
    row None f = absurd cc
    row (Some n) f =
        let takes = first_so (takes_tasks t n) (meets_all x.template.constraints n) f in
        ap not (valid-by n.state n.availability (is_session_live t n.id) takes)

    go : (o : Option ℕ) → is_some_and (is_row_and node_id (is_fit t x.template.constraints) t.nodes) o ≡ true →
        is_some_and (is_invalid t) o ≡ false
    go None f = absurd cc
    go (Some k) f = row (row_at node_id k t.nodes) f

calm-over : (m : ℕ) (t : Tables) (x : Task) → AreCalm m t → Has t.tasks x → IsGood x → m ≤ x.id → is_live x ≡ true →
    is_over t x x.place ≡ false
calm-over m t x calm there good new live = go x.place refl
  where
    early : rank x.state ≤ rank state.Preparing
    early = calm.early x there new live

    going : has_ended x ≡ false
    going = grind (arith, nat_tests, early)

    homed : (k : ℕ) → x.place ≡ Slot k → is_astray t x ≡ false
    homed k at = by-rank (nat_le (rank state.Assigned) (rank x.state)) refl
      where
        by-rank : (b : Bool) → nat_le (rank state.Assigned) (rank x.state) ≡ b → is_astray t x ≡ false
        by-rank true e =
            let most : nat_le (rank x.state) (rank state.Running) ≡ true = grind (arith, nat_tests, early) in
            fit-homed t x (calm.placed x there new
            (both (nat_le (rank state.Assigned) (rank x.state)) (nat_le (rank x.state) (rank state.Running)) e most))
        by-rank false e =
            let below : rank x.state < rank state.Assigned = grind (arith, nat_tests, e) in
            ap (is_some_and (is_invalid t)) (good.bound below ∙ ap bound_node at)

    go : (p : Place) → x.place ≡ p → is_over t x p ≡ false
    go (Slot k) at = ap (λ (b : Bool). b || is_astray t x) going ∙ homed k at
    go (On k) at = ap (λ (b : Bool). b && is_homed t x) going

pub restart-old : (m : ℕ) (t : Tables) (x : Task) → AreCalm m t → Has t.tasks x → IsGood x →
    wants_restart t x ≡ true → x.id < m
restart-old m t x calm there good e = go (nat_lt x.id m) refl
  where
    front : (is_live x && is_over t x x.place) ≡ true
    front = first_so (is_live x && is_over t x x.place) _ e

    go : (b : Bool) → nat_lt x.id m ≡ b → x.id < m
    go true f = grind (arith, nat_tests, f)
    go false f =
        let new : m ≤ x.id = grind (arith, nat_tests, f) in
        never-both (is_over t x x.place)
        (calm-over m t x calm there good new (first_so (is_live x) (is_over t x x.place) front))
        (second_so (is_live x) (is_over t x x.place) front)

-- The task is to stop.

pub record Over (m : ℕ) (t : Tables) (x : Task) (s : Service) (k : ℕ) : Type 0 where
  pub there : Has t.tasks x
  pub of : Has t.services s
  pub live : is_live x ≡ true
  pub inside : is_in_place s (place_at s.spec.mode k) x ≡ true
  pub place : x.place ≡ place_at s.spec.mode k
  pub old : x.id < m

abbrev pub has_id : ℕ → Task → Bool
has_id id y = y.id == id

-- it is the one with its number
pub is-it : (w : World) (x y : Task) → IsOrderly w → Has w.tables.tasks x → Has w.tables.tasks y → has_id x.id y ≡ true → x ≡ y
is-it w x y orderly there h e =
    between-one task_id 1 w.tables.next_id w.tables.tasks x y orderly.tasks there h (grind (arith, nat_tests, e))

-- what renews its place is another
pub not-old : (m : ℕ) (s : Service) (x y : Task) → x.id < m → renews m s y ≡ true → has_id x.id y ≡ false
not-old m s x y old e =
    let new : nat_le m y.id ≡ true = second_so (is_live_clean s y) (is_new_since m y) e in
    grind (arith, nat_tests, new, old)

-- a task of the place with another number is there as it was
other-stays : (version id : ℕ) (s : Service) (p : Place) (xs : List Task) (y : Task) → Has (tasks_of_place s p xs) y →
    has_id id y ≡ false → Has (tasks_of_place s p (map (touch (has_id id) (wanted version desired.Shutdown)) xs)) y
other-stays version id s p xs y h off =
    let f = touch (has_id id) (wanted version desired.Shutdown) in
    let at = Has-filter_cases (is_in_place s p) xs y h in
    let same : f y ≡ y = ap (λ (b : Bool). cond b (wanted version desired.Shutdown y) y) off in
    Has-filter (is_in_place s p) (map f xs) y (subst (Has (map f xs)) same (Has-map f xs y at.0)) at.1

-- Another live task stands in the place.

pub falls-beside : (m version : ℕ) (w : World) (x : Task) (s : Service) (k : ℕ) → IsOrderly w → GivesOut w →
    Over m w.tables x s k → has_other w.tables s x ≡ true →
    measure m (with_tables w (shut version x.id w.tables)) + 1 ≤ measure m w
falls-beside m version w x s k orderly gives over others =
    let t = w.tables in
    let p = place_at s.spec.mode k in
    let test = has_id x.id in
    let stop = wanted version desired.Shutdown in
    let f = touch test stop in
    let u = change_where test stop t in
    let ys = tasks_of_place s p t.tasks in
    let inside : (y : Task) → Has t.tasks y → test y ≡ true → is_in_place s p y ≡ true =
    λ y h e. subst (λ z. is_in_place s p z ≡ true) (is-it w x y orderly over.there h e) over.inside in
    let seen : (j : ℕ) → ¬ (j ≡ k) → AllSeen s (place_at s.spec.mode j) f t.tasks =
    λ j off. seen-elsewhere s s j k test stop t.tasks (λ same number. off number) inside (λ y. refl) in
    let was : is_held_place t s k ≡ true =
    or_left (list_any is_live ys) _
    (has-any is_live ys x (Has-filter (is_in_place s p) t.tasks x over.there over.inside) over.live) in
    let other = any-has (λ y. is_live y && not (y.id == x.id)) ys
    (ap (λ (q : Place). list_any (λ y. is_live y && not (y.id == x.id)) (tasks_of_place s q t.tasks)) (sym over.place)
    ∙ others) in
    let off = not-is (has_id x.id other.0) (second_so (is_live other.0) _ other.2) in
    let is : is_held_place u s k ≡ true =
    or_left (list_any is_live (tasks_of_place s p u.tasks)) _
    (has-any is_live (tasks_of_place s p u.tasks) other.0
    (other-stays version x.id s p t.tasks other.0 other.1 off) (first_so (is_live other.0) _ other.2)) in
    let one : coming_of m u s ≤ coming_of m t s =
    coming-stays m t u s (record { nodes = refl; live = λ n. refl })
    (record {
      held = λ j. by-number j k
          (λ e. ap (is_held_place u s) e ∙ is ∙ sym was ∙ sym (ap (is_held_place t s) e))
          (λ away. held-seen s (place_at s.spec.mode j) f t.tasks (seen j away));
    })
    (λ j e. by-number j k
    (λ same.
    let y = any-has (renews m s) ys (sym (ap (is_renewed m t s) same) ∙ e) in
    ap (is_renewed m u s) same
    ∙ has-any (renews m s) (tasks_of_place s p u.tasks) y.0
    (other-stays version x.id s p t.tasks y.0 y.1 (not-old m s x y.0 over.old y.2)) y.2)
    (λ away. renewed-seen m s (place_at s.spec.mode j) f t.tasks (seen j away) ∙ e)) in
    let live : (y : Task) → Has t.tasks y → test y ≡ true → is_live y ≡ true =
    λ y h e. subst (λ z. is_live z ≡ true) (is-it w x y orderly over.there h e) over.live in
    falls-where m w test stop orderly gives (λ y. refl)
    (λ y h e. (
      shut-moves version y (orderly.good y h) (live y h e),
      shut-left version w y (orderly.good y h) (live y h e),
    ))
    x over.there (grind (arith, nat_tests))
    (coming-none m t s k test stop orderly.services over.of inside (λ y. refl) one)
  where
    not-is : (b : Bool) → not b ≡ true → b ≡ false
    not-is true e = absurd cc
    not-is false e = refl

-- A new one comes in its place.

pub alone-old : (m : ℕ) (w : World) (x : Task) (s : Service) (k : ℕ) → Over m w.tables x s k →
    has_other w.tables s x ≡ false → is_renewed m w.tables s k ≡ false
alone-old m w x s k over none = go (is_renewed m w.tables s k) refl
  where
    ys : List Task
    ys = tasks_of_place s (place_at s.spec.mode k) w.tables.tasks

    go : (b : Bool) → is_renewed m w.tables s k ≡ b → b ≡ false
    go true e =
        let y = any-has (renews m s) ys e in
        let live = first_so (is_live y.0) _ (first_so (is_live_clean s y.0) _ y.2) in
        never-both (has_other w.tables s x) none
        (ap (λ (q : Place). list_any (λ z. is_live z && not (z.id == x.id)) (tasks_of_place s q w.tables.tasks)) over.place
        ∙ has-any (λ z. is_live z && not (z.id == x.id)) ys y.0 y.1
        (both (is_live y.0) (not (y.0.id == x.id)) live (ap not (not-old m s x y.0 over.old y.2))))
    go false e = refl

pub falls-anew : (m version : ℕ) (w : World) (x : Task) (s : Service) (k : ℕ) → m ≤ w.tables.next_id → IsOrderly w →
    GivesOut w → Over m w.tables x s k → has_other w.tables s x ≡ false →
    measure m (with_tables w (by_policy version (shut version x.id w.tables) s x.place None)) + 1 ≤ measure m w
falls-anew m version w x s k later orderly gives over none =
    let t = w.tables in
    let p = place_at s.spec.mode k in
    let test = has_id x.id in
    let stop = wanted version desired.Shutdown in
    let stopped = shut version x.id t in
    let tried = with_attempt stopped s x.place in
    let y = next_task version tried s x.place in
    let moves = tables-then t stopped _ (shut-task version t x orderly.tasks over.there (orderly.good x over.there) over.live)
    (tables-then stopped tried _ (attempt-moves stopped s x.place)
    (move-add tried y refl (good-next version tried s x.place))) in
    let inside : (z : Task) → Has t.tasks z → test z ≡ true → is_in_place s p z ≡ true =
    λ z h e. subst (λ v. is_in_place s p v ≡ true) (is-it w x z orderly over.there h e) over.inside in
    let live : (z : Task) → Has t.tasks z → test z ≡ true → is_live z ≡ true =
    λ z h e. subst (λ v. is_live v ≡ true) (is-it w x z orderly over.there h e) over.live in
    let held : is_held_place t s k ≡ true =
    or_left (list_any is_live (tasks_of_place s p t.tasks)) _
    (has-any is_live (tasks_of_place s p t.tasks) x
    (Has-filter (is_in_place s p) t.tasks x over.there over.inside) over.live) in
    falls-renewed m w (t.next_id + 1) test stop y tried.attempts orderly gives moves (λ z. refl) refl
    (λ z h e. shut-left version w z (orderly.good z h) (live z h e))
    (coming-renewed m t s k (t.next_id + 1) test stop y tried.attempts orderly.services over.of
    (record {
      service = refl;
      iteration = refl;
      template = refl;
      place = over.place;
      live = ready-live s.spec.mode;
      new = later;
    })
    inside (λ z. refl) held (alone-old m w x s k over none))

-- A duty's task and its service.

pub over : (m : ℕ) (t : Tables) (x : Task) (s : Service) → AreOfServices t → AreCalm m t → Has t.tasks x → IsGood x →
    Has t.services s → x.service ≡ s.id → counts_for s x ≡ true → wants_restart t x ≡ true →
    (k : ℕ) × Over m t x s k
over m t x s services calm there good of service counts wants =
    let place = (services x s there of service).place in
    let front = first_so (is_live x && is_over t x x.place) _ wants in (
      place.0,
      record {
        there = there;
        of = of;
        live = first_so (is_live x) (is_over t x x.place) front;
        inside = place-in s (place_at s.spec.mode place.0) x counts place.1;
        place = place.1;
        old = restart-old m t x calm there good wants;
      },
    )
