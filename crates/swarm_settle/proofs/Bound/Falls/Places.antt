-- Places that are given up, and places that are swapped, make the measure smaller.
use Rattle.std.proofs.Common.{Bool, List, None, Some, ap, arith, cond, false, inl, inr, map, refl, subst, sym, true, ℕ, ◌+◌, ◌<◌, ◌∙◌, ◌≡◌, ◌≤◌, ◌⊎◌}
use Rattle.std.proofs.lemmas.Bool.Decides.{nat_tests}
use Rattle.std.specs.List.{list_any}
use Rattle.std.specs.Prelude.{length, not, ◌&&◌, ◌==◌, ◌||◌}
use Rattle.swarm_settle.proofs.Bound.ComingFills.{Empties, by-number, node-empties, replica-empties}
use Rattle.swarm_settle.proofs.Bound.ComingSteps.{coming-stays}
use Rattle.swarm_settle.proofs.Bound.Falls.Services.{found}
use Rattle.swarm_settle.proofs.Bound.Falls.Touched.{touch}
use Rattle.swarm_settle.proofs.Bound.Falls.Wanted.{falls-where, removed-left, removed-moves, seen-touch, shut-left, shut-moves}
use Rattle.swarm_settle.proofs.Bound.Looks.{renews}
use Rattle.swarm_settle.proofs.Bound.Seen.{AllSeen, coming-seen, held-seen, renewed-seen}
use Rattle.swarm_settle.proofs.Bound.Sums.{sum-le}
use Rattle.swarm_settle.proofs.Bound.Sending.Worlds.{rises-from}
use Rattle.swarm_settle.specs.Bound.Coming.{coming, coming_of, is_renewed}
use Rattle.swarm_settle.specs.Bound.Measure.{measure}
use Rattle.swarm_model.proofs.Base.IsDuty.{GivesUp, IsDuty, OfPlace}
use Rattle.swarm_model.proofs.Laws.Alone.{is-place, number-at}
use Rattle.swarm_model.proofs.Laws.GivesOut.{GivesOut}
use Rattle.swarm_model.proofs.Moves.Placing.{least-has}
use Rattle.swarm_model.proofs.Moves.Rows.{RisesBetween, between-one}
use Rattle.swarm_model.proofs.Moves.Worlds.{IsGood, IsOrderly}
use Rattle.swarm_objects.proofs.Newest.{newest_has}
use Rattle.swarm_objects.proofs.RowLemmas.{Has-filter, Has-filter_cases, Has-map, Has-map_cases, row_at-Some}
use Rattle.swarm_objects.proofs.Tests.{any-has, both, first_so, has-any, never-both, or_cases, or_left, second_so, some-and-cases}
use Rattle.swarm_objects.specs.Changes.{change_where, wanted, with_tables, without_place}
use Rattle.swarm_objects.specs.Loops.Global.{after_leave, is_to_leave, may_stay, wants_here}
use Rattle.swarm_objects.specs.Loops.Replicated.{after_down, down_cmp}
use Rattle.swarm_objects.specs.Loops.Update.{after_swap, is_to_swap, swap_place}
use Rattle.swarm_objects.specs.Nodes.Words.{is_active, is_down, is_drain, is_ready, meets_all}
use Rattle.swarm_objects.specs.Rows.{Has, is_row_and, is_some_and, node_id, row_at, service_id}
use Rattle.swarm_objects.specs.Same.{same_place}
use Rattle.swarm_objects.specs.Services.Words.{is_clean, is_live_clean, is_live_dirty}
use Rattle.swarm_objects.specs.Tasks.Places.{closes, counts_for, held_places, is_held_place, is_in_place, newest, place_at, place_number, place_numbers, tasks_of_place}
use Rattle.swarm_objects.specs.Tasks.Words.{is_kept, is_live, is_running}
use Rattle.swarm_objects.specs.Values.Ranks.{desired_rank}
use Rattle.swarm_objects.specs.World.{Tables, World}
use Rattle.swarm_objects.specs.declared.duties.Duty.TheVariants as duty
use Rattle.swarm_objects.specs.declared.nodes.Availability.TheVariants as availability
use Rattle.swarm_objects.specs.declared.nodes.Availability.{Availability}
use Rattle.swarm_objects.specs.declared.nodes.Node.{Node}
use Rattle.swarm_objects.specs.declared.nodes.NodeState.TheVariants as node_state
use Rattle.swarm_objects.specs.declared.nodes.NodeState.{NodeState}
use Rattle.swarm_objects.specs.declared.services.Mode.TheVariants as mode
use Rattle.swarm_objects.specs.declared.services.Service.{Service}
use Rattle.swarm_objects.specs.declared.tasks.Desired.TheVariants as desired
use Rattle.swarm_objects.specs.declared.tasks.Place.{Place}
use Rattle.swarm_objects.specs.declared.tasks.Task.{Task}

-- Other places and other services see nothing of a change in this one.

in-number : (s : Service) (k : ℕ) (x : Task) → is_in_place s (place_at s.spec.mode k) x ≡ true → place_number x.place ≡ k
in-number s k x e =
    let p = place_at s.spec.mode k in
    ap place_number (is-place x.place p (second_so (counts_for s x) (same_place x.place p) e)) ∙ number-at s.spec.mode k

in-service : (s : Service) (p : Place) (x : Task) → is_in_place s p x ≡ true → x.service ≡ s.id
in-service s p x e =
    grind (arith, nat_tests, first_so (x.service == s.id) _ (first_so (counts_for s x) (same_place x.place p) e))

elsewhere : (v s : Service) (j k : ℕ) (x : Task) → is_in_place s (place_at s.spec.mode k) x ≡ true →
    (v.id ≡ s.id → j ≡ k → ⊥) → is_in_place v (place_at v.spec.mode j) x ≡ false
elsewhere v s j k x here apart = go (is_in_place v (place_at v.spec.mode j) x) refl
  where
    go : (b : Bool) → is_in_place v (place_at v.spec.mode j) x ≡ b → b ≡ false
    go true e =
        absurd (apart (sym (in-service v (place_at v.spec.mode j) x e) ∙ in-service s (place_at s.spec.mode k) x here)
        (sym (in-number v j x e) ∙ in-number s k x here))
    go false e = refl

-- of a change of tasks that stand in the place, which keeps them there
pub seen-elsewhere : (v s : Service) (j k : ℕ) (test : Task → Bool) (f : Task → Task) (xs : List Task) →
    (v.id ≡ s.id → j ≡ k → ⊥) →
    ((x : Task) → Has xs x → test x ≡ true → is_in_place s (place_at s.spec.mode k) x ≡ true) →
    ((x : Task) → is_in_place s (place_at s.spec.mode k) (f x) ≡ is_in_place s (place_at s.spec.mode k) x) →
    AllSeen v (place_at v.spec.mode j) (touch test f) xs
seen-elsewhere v s j k test f xs apart inside stays =
    seen-touch v (place_at v.spec.mode j) test f xs
    (λ x h e.
    let here = inside x h e in
    inr (elsewhere v s j k x here apart, elsewhere v s j k (f x) (stays x ∙ here) apart))

-- one service has no more to come, and the others neither
pub coming-none : (m : ℕ) (t : Tables) (s : Service) (k : ℕ) (test : Task → Bool) (f : Task → Task) →
    RisesBetween service_id 1 t.next_id t.services → Has t.services s →
    ((x : Task) → Has t.tasks x → test x ≡ true → is_in_place s (place_at s.spec.mode k) x ≡ true) →
    ((x : Task) → is_in_place s (place_at s.spec.mode k) (f x) ≡ is_in_place s (place_at s.spec.mode k) x) →
    coming_of m (change_where test f t) s ≤ coming_of m t s → coming m (change_where test f t) ≤ coming m t
coming-none m t s k test f rises there inside stays one =
    sum-le (coming_of m (change_where test f t)) (coming_of m t) t.services
    (λ v h. by-number v.id s.id
    (λ e. subst (λ (z : Service). coming_of m (change_where test f t) z ≤ coming_of m t z)
    (between-one service_id 1 t.next_id t.services s v rises there h (sym e)) one)
    (λ off. coming-seen m t (touch test f) v
    (λ j. seen-elsewhere v s j k test f t.tasks (λ same number. off same) inside stays)))

-- A place that is given up.

abbrev in_kept : Service → ℕ → Task → Bool
in_kept s k x = is_in_place s (place_at s.spec.mode k) x && is_kept x

-- none of its tasks is kept
removed-none : (version : ℕ) (s : Service) (k : ℕ) (xs : List Task) (y : Task) →
    Has (tasks_of_place s (place_at s.spec.mode k) (map (touch (in_kept s k) (wanted version desired.Remove)) xs)) y →
    is_kept y ≡ false
removed-none version s k xs y h =
    let p = place_at s.spec.mode k in
    let at = Has-filter_cases (is_in_place s p) (map (touch (in_kept s k) (wanted version desired.Remove)) xs) y h in
    let from = Has-map_cases (touch (in_kept s k) (wanted version desired.Remove)) xs y at.0 in
    go from.0 (in_kept s k from.0) refl from.2 at.1
  where
    left : (a b : Bool) → a ≡ true → (a && b) ≡ false → b ≡ false
    left true b e none = none
    left false b e none = absurd cc

    go : (x : Task) (b : Bool) → in_kept s k x ≡ b → cond b (wanted version desired.Remove x) x ≡ y →
        is_in_place s (place_at s.spec.mode k) y ≡ true → is_kept y ≡ false
    go x true e same inside = sym (ap is_kept same)
    go x false e same inside =
        sym (ap is_kept same)
        ∙ left (is_in_place s (place_at s.spec.mode k) x) (is_kept x)
        (ap (is_in_place s (place_at s.spec.mode k)) same ∙ inside) e

live-kept : (x : Task) → IsGood x → is_live x ≡ true → is_kept x ≡ true
live-kept x good live =
    let low : desired_rank x.desired ≤ desired_rank x.goal = grind (arith, nat_tests, live) in
    grind (arith, nat_tests, low, good.goal)

-- a place none of whose tasks is kept isn't held
kept-held : (ys : List Task) → ((y : Task) → Has ys y → is_kept y ≡ false) →
    ((y : Task) → Has ys y → is_live y ≡ true → is_kept y ≡ true) →
    (list_any is_live ys || is_some_and closes (newest ys)) ≡ false
kept-held ys none live = go (list_any is_live ys || is_some_and closes (newest ys)) refl
  where
    go : (b : Bool) → (list_any is_live ys || is_some_and closes (newest ys)) ≡ b → b ≡ false
    go true e =
        elim (or_cases (list_any is_live ys) (is_some_and closes (newest ys)) e) [
          | inl l ↦ (let one = any-has is_live ys l in
              never-both (is_kept one.0) (none one.0 one.1) (live one.0 one.1 one.2))
          | inr c ↦ (let last = some-and-cases closes (newest ys) c in
              never-both (is_kept last.0) (none last.0 (newest_has ys last.0 last.1)) (second_so _ (is_kept last.0) last.2))
        ]
    go false e = refl

-- a held place has a task that is kept
held-kept : (t : Tables) (s : Service) (k : ℕ) → ((x : Task) → Has t.tasks x → IsGood x) →
    is_held_place t s k ≡ true → (x : Task) × Has t.tasks x × (in_kept s k x ≡ true)
held-kept t s k good e = go (or_cases (list_any is_live ys) (is_some_and closes (newest ys)) e)
  where
    ys : List Task
    ys = tasks_of_place s (place_at s.spec.mode k) t.tasks

    one : (x : Task) → Has ys x → (Has t.tasks x → is_kept x ≡ true) → (z : Task) × Has t.tasks z × (in_kept s k z ≡ true)
    one x h kept =
        let at = Has-filter_cases (is_in_place s (place_at s.spec.mode k)) t.tasks x h in
        (x, at.0, both (is_in_place s (place_at s.spec.mode k) x) (is_kept x) at.1 (kept at.0))

    go : (list_any is_live ys ≡ true) ⊎ (is_some_and closes (newest ys) ≡ true) →
        (x : Task) × Has t.tasks x × (in_kept s k x ≡ true)
    go (inl l) =
        let a = any-has is_live ys l in one a.0 a.1 (λ h. live-kept a.0 (good a.0 h) a.2)
    go (inr c) =
        let last = some-and-cases closes (newest ys) c in
        one last.0 (newest_has ys last.0 last.1) (λ h. second_so _ (is_kept last.0) last.2)

pub empties : (m version : ℕ) (t : Tables) (s : Service) (k : ℕ) → ((x : Task) → Has t.tasks x → IsGood x) →
    is_held_place t s k ≡ true → Empties m t (without_place version t s k) s k
empties m version t s k good held =
    let f = touch (in_kept s k) (wanted version desired.Remove) in
    let seen : (j : ℕ) → ¬ (j ≡ k) → AllSeen s (place_at s.spec.mode j) f t.tasks =
    λ j off. seen-elsewhere s s j k (in_kept s k) (wanted version desired.Remove) t.tasks (λ same number. off number)
    (λ x h e. first_so (is_in_place s (place_at s.spec.mode k) x) (is_kept x) e) (λ x. refl) in
    record {
      others = record {
        held = λ j off. held-seen s (place_at s.spec.mode j) f t.tasks (seen j off);
        renewed = λ j off e. renewed-seen m s (place_at s.spec.mode j) f t.tasks (seen j off) ∙ e;
      };
      before = held;
      after = kept-held (tasks_of_place s (place_at s.spec.mode k) (map f t.tasks)) (removed-none version s k t.tasks)
          (λ y h live.
          let at = Has-filter_cases (is_in_place s (place_at s.spec.mode k)) (map f t.tasks) y h in
          live-kept y (good-touched y at.0) live);
    }
  where
    good-touched : (y : Task) → Has (map (touch (in_kept s k) (wanted version desired.Remove)) t.tasks) y → IsGood y
    good-touched y h =
        let from = Has-map_cases (touch (in_kept s k) (wanted version desired.Remove)) t.tasks y h in
        subst IsGood from.2 (go from.0 (good from.0 from.1) (in_kept s k from.0))
      where
        go : (x : Task) → IsGood x → (b : Bool) → IsGood (cond b (wanted version desired.Remove x) x)
        go x is true = record { goal = is.goal; bound = is.bound }
        go x is false = is

-- a held place is given up, of which no more comes
pub falls-without : (m version : ℕ) (w : World) (s : Service) (k : ℕ) → IsOrderly w → GivesOut w →
    Has w.tables.services s → is_held_place w.tables s k ≡ true →
    coming_of m (without_place version w.tables s k) s ≤ coming_of m w.tables s →
    measure m (with_tables w (without_place version w.tables s k)) + 1 ≤ measure m w
falls-without m version w s k orderly gives there held one =
    let t = w.tables in
    let first = held-kept t s k orderly.good held in
    falls-where m w (in_kept s k) (wanted version desired.Remove) orderly gives (λ x. refl)
    (λ x h e. (removed-moves version x, removed-left version w x (second_so _ (is_kept x) e)))
    first.0 first.1 first.2
    (coming-none m t s k (in_kept s k) (wanted version desired.Remove) orderly.services there
    (λ x h e. first_so (is_in_place s (place_at s.spec.mode k) x) (is_kept x) e) (λ x. refl) one)

-- A service has too many replicas.

pub falls-down : (m version : ℕ) (w : World) (id k : ℕ) → IsOrderly w → GivesOut w → IsDuty w (duty.Down id k) →
    measure m (with_tables w (after_down version w.tables id k)) + 1 ≤ measure m w
falls-down m version w id k orderly gives of =
    let t = w.tables in
    let r = found t id (GivesUp t k) (λ v. without_place version t v k) orderly.services of in
    let s = r.row in
    let many : r.fact.0 < length (held_places t s) = grind (arith, nat_tests, r.fact.2) in
    let held : is_held_place t s k ≡ true =
    elim (least-has (down_cmp t s) None (held_places t s) k r.fact.3) [
      | inl none ↦ absurd cc
      | inr h ↦ (Has-filter_cases (is_held_place t s) (place_numbers t s) k h).1
    ] in
    subst (λ u. measure m (with_tables w u) + 1 ≤ measure m w) (sym r.is)
    (falls-without m version w s k orderly gives r.there held
    (replica-empties m t (without_place version t s k) s k r.fact.0 r.fact.1 many
    (empties m version t s k orderly.good held)))

-- A node isn't to have a task of the service any more.

stays-where-wanted : (state : NodeState) (available : Availability) (b : Bool) →
    (is_ready state && is_active available && b) ≡ true →
    ((not (is_down state) && not (is_drain available)) && b) ≡ true
stays-where-wanted node_state.Ready availability.Active b e = e
stays-where-wanted node_state.Ready _ b e = absurd cc
stays-where-wanted _ _ b e = absurd cc

unwanted : (t : Tables) (s : Service) (k : ℕ) (n : Node) → RisesBetween node_id 1 t.next_id t.nodes →
    is_row_and node_id (may_stay s) t.nodes k ≡ false → Has t.nodes n → n.id ≡ k → wants_here s n ≡ false
unwanted t s k n rises none there is = go (wants_here s n) refl
  where
    row : row_at node_id k t.nodes ≡ Some n
    row = ap (λ (j : ℕ). row_at node_id j t.nodes) (sym is)
        ∙ row_at-Some node_id 0 t.nodes n (rises-from node_id 1 t.next_id 0 t.nodes (omega arith) rises) there

    go : (b : Bool) → wants_here s n ≡ b → b ≡ false
    go true e =
        never-both (is_row_and node_id (may_stay s) t.nodes k) none
        (ap (is_some_and (may_stay s)) row
        ∙ stays-where-wanted n.state n.availability (meets_all s.spec.template.constraints n) e)
    go false e = refl

pub falls-leave : (m version : ℕ) (w : World) (id k : ℕ) → IsOrderly w → GivesOut w → IsDuty w (duty.Leave id k) →
    measure m (with_tables w (after_leave version w.tables id k)) + 1 ≤ measure m w
falls-leave m version w id k orderly gives of =
    let t = w.tables in
    let r = found t id (λ v. (v.spec.mode ≡ mode.Global) × OfPlace t v (is_to_leave t v) k)
    (λ v. without_place version t v k) orderly.services of in
    let s = r.row in
    let leave : is_to_leave t s k ≡ true = r.fact.1.1 in
    let held : is_held_place t s k ≡ true = first_so (is_held_place t s k) _ leave in
    let out = not-is (is_row_and node_id (may_stay s) t.nodes k) (second_so (is_held_place t s k) _ leave) in
    subst (λ u. measure m (with_tables w u) + 1 ≤ measure m w) (sym r.is)
    (falls-without m version w s k orderly gives r.there held
    (node-empties m t (without_place version t s k) s k (record { nodes = refl; live = λ n. refl }) r.fact.0
    (λ n h e. unwanted t s k n orderly.nodes out h e) (empties m version t s k orderly.good held)))
  where
    not-is : (b : Bool) → not b ≡ true → b ≡ false
    not-is true e = absurd cc
    not-is false e = refl

-- A place where the new task runs: the dirty ones are to stop.

abbrev in_dirty : Service → ℕ → Task → Bool
in_dirty s k x = is_in_place s (place_at s.spec.mode k) x && is_live_dirty s x

clean-out : (s : Service) (k : ℕ) (x : Task) → is_clean s x ≡ true → in_dirty s k x ≡ false
clean-out s k x clean =
    ap (λ (b : Bool). is_in_place s (place_at s.spec.mode k) x && (is_live x && not b)) clean
    ∙ none (is_in_place s (place_at s.spec.mode k) x) (is_live x)
  where
    none : (a b : Bool) → (a && (b && false)) ≡ false
    none true true = refl
    none true false = refl
    none false b = refl

-- a clean task of the place is there as it was
clean-stays : (version : ℕ) (s : Service) (k : ℕ) (xs : List Task) (x : Task) →
    Has (tasks_of_place s (place_at s.spec.mode k) xs) x → is_clean s x ≡ true →
    Has (tasks_of_place s (place_at s.spec.mode k) (map (touch (in_dirty s k) (wanted version desired.Shutdown)) xs)) x
clean-stays version s k xs x h clean =
    let p = place_at s.spec.mode k in
    let f = touch (in_dirty s k) (wanted version desired.Shutdown) in
    let at = Has-filter_cases (is_in_place s p) xs x h in
    let same : f x ≡ x = ap (λ (b : Bool). cond b (wanted version desired.Shutdown x) x) (clean-out s k x clean) in
    Has-filter (is_in_place s p) (map f xs) x (subst (Has (map f xs)) same (Has-map f xs x at.0)) at.1

pub falls-swap : (m version : ℕ) (w : World) (id k : ℕ) → IsOrderly w → GivesOut w → IsDuty w (duty.Swap id k) →
    measure m (with_tables w (after_swap version w.tables id k)) + 1 ≤ measure m w
falls-swap m version w id k orderly gives of =
    let t = w.tables in
    let r = found t id _ (swap_place version t k) orderly.services of in
    let s = r.row in
    let place = r.fact.1.3.1 in
    let p = place_at s.spec.mode k in
    let ys = tasks_of_place s p t.tasks in
    let swap : is_to_swap t s k ≡ true = place.1 in
    let clean = any-has (λ x. is_live_clean s x && is_running x) ys
    (first_so (list_any (λ x. is_live_clean s x && is_running x) ys) _ swap) in
    let dirty = any-has (is_live_dirty s) ys (second_so _ (list_any (is_live_dirty s) ys) swap) in
    let live_clean : is_live_clean s clean.0 ≡ true = first_so (is_live_clean s clean.0) _ clean.2 in
    let f = touch (in_dirty s k) (wanted version desired.Shutdown) in
    let u = change_where (in_dirty s k) (wanted version desired.Shutdown) t in
    let inside : (x : Task) → Has t.tasks x → in_dirty s k x ≡ true → is_in_place s p x ≡ true =
    λ x h e. first_so (is_in_place s p x) (is_live_dirty s x) e in
    let seen : (j : ℕ) → ¬ (j ≡ k) → AllSeen s (place_at s.spec.mode j) f t.tasks =
    λ j off. seen-elsewhere s s j k (in_dirty s k) (wanted version desired.Shutdown) t.tasks (λ same number. off number)
    inside (λ x. refl) in
    let was : is_held_place t s k ≡ true =
    or_left (list_any is_live ys) _ (has-any is_live ys clean.0 clean.1 (first_so (is_live clean.0) _ live_clean)) in
    let is : is_held_place u s k ≡ true =
    or_left (list_any is_live (tasks_of_place s p u.tasks)) _
    (has-any is_live (tasks_of_place s p u.tasks) clean.0
    (clean-stays version s k t.tasks clean.0 clean.1 (second_so _ (is_clean s clean.0) live_clean))
    (first_so (is_live clean.0) _ live_clean)) in
    let one : coming_of m u s ≤ coming_of m t s =
    coming-stays m t u s (record { nodes = refl; live = λ n. refl })
    (record {
      held = λ j. by-number j k
          (λ e. ap (is_held_place u s) e ∙ is ∙ sym was ∙ sym (ap (is_held_place t s) e))
          (λ off. held-seen s (place_at s.spec.mode j) f t.tasks (seen j off));
    })
    (λ j e. by-number j k
    (λ same.
    let y = any-has (renews m s) ys (sym (ap (is_renewed m t s) same) ∙ e) in
    let clean_y = second_so (is_live y.0) (is_clean s y.0) (first_so (is_live_clean s y.0) _ y.2) in
    ap (is_renewed m u s) same
    ∙ has-any (renews m s) (tasks_of_place s p u.tasks) y.0 (clean-stays version s k t.tasks y.0 y.1 clean_y) y.2)
    (λ off. renewed-seen m s (place_at s.spec.mode j) f t.tasks (seen j off) ∙ e)) in
    let at = Has-filter_cases (is_in_place s p) t.tasks dirty.0 dirty.1 in
    subst (λ z. measure m (with_tables w z) + 1 ≤ measure m w) (sym r.is)
    (falls-where m w (in_dirty s k) (wanted version desired.Shutdown) orderly gives (λ x. refl)
    (λ x h e.
    let live : is_live x ≡ true = first_so (is_live x) _ (second_so (is_in_place s p x) (is_live_dirty s x) e) in
    (shut-moves version x (orderly.good x h) live, shut-left version w x (orderly.good x h) live))
    dirty.0 at.0 (both (is_in_place s p dirty.0) (is_live_dirty s dirty.0) at.1 dirty.2)
    (coming-none m t s k (in_dirty s k) (wanted version desired.Shutdown) orderly.services r.there inside (λ x. refl) one))
