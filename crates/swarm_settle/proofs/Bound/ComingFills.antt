-- What can still come for a service, where one more place is held, or one less.
use Rattle.std.proofs.Common.{Bool, List, ap, arith, cond, eqb, false, refl, sym, true, ℕ, ◌+◌, ◌*◌, ◌-◌, ◌<◌, ◌∙◌, ◌≡◌, ◌≤◌}
use Rattle.std.proofs.lemmas.Bool.Decides.{nat_tests}
use Rattle.std.proofs.lemmas.Nat.{mul-le}
use Rattle.std.specs.Prelude.{not, sum_by, ◌&&◌}
use Rattle.swarm_settle.proofs.Bound.ComingSteps.{SameNodes, waits-le}
use Rattle.swarm_settle.proofs.Bound.PlaceSpans.{PlacesBelow, ends, held-counted, lost-counted, one_each, places_end, waiting-counted, where_held, where_not}
use Rattle.swarm_settle.proofs.Bound.Spans.{span-falls, span-le, span-rises}
use Rattle.swarm_settle.proofs.Bound.Sums.{sum-falls, sum-le}
use Rattle.swarm_settle.specs.Bound.Coming.{coming_by_mode, coming_of, coming_on, goes_back, is_renewed, places_held, places_lost, replicas_before, waiting_places}
use Rattle.swarm_objects.specs.Kinds.{bit}
use Rattle.swarm_objects.specs.Loops.Global.{is_missing, wants_here}
use Rattle.swarm_objects.specs.Nodes.Sessions.{is_session_live}
use Rattle.swarm_objects.specs.Rows.{Has, has_row, node_id}
use Rattle.swarm_objects.specs.Tasks.Places.{is_held_place}
use Rattle.swarm_objects.specs.World.{Tables}
use Rattle.swarm_objects.specs.declared.nodes.Node.{Node}
use Rattle.swarm_objects.specs.declared.services.Mode.TheVariants as mode
use Rattle.swarm_objects.specs.declared.services.Service.{Service}

-- all other places are held as before, and what is renewed stays so
pub record SameBut (m : ℕ) (t u : Tables) (s : Service) (k : ℕ) : Type 0 where
  pub held : (j : ℕ) → ¬ (j ≡ k) → is_held_place u s j ≡ is_held_place t s j
  pub renewed : (j : ℕ) → ¬ (j ≡ k) → is_renewed m t s j ≡ true → is_renewed m u s j ≡ true

-- the place wasn't held, and is held by a new task
pub record Fills (m : ℕ) (t u : Tables) (s : Service) (k : ℕ) : Type 0 where
  pub others : SameBut m t u s k
  pub before : is_held_place t s k ≡ false
  pub after : is_held_place u s k ≡ true
  pub renewed : is_renewed m u s k ≡ true

-- the place was held, and isn't
pub record Empties (m : ℕ) (t u : Tables) (s : Service) (k : ℕ) : Type 0 where
  pub others : SameBut m t u s k
  pub before : is_held_place t s k ≡ true
  pub after : is_held_place u s k ≡ false

abbrev end_of : Tables → Tables → ℕ → ℕ
end_of t u k = places_end t.tasks + places_end u.tasks + k + 1

first-below : (t u : Tables) (k : ℕ) → PlacesBelow (places_end t.tasks + places_end u.tasks + k + 1) t.tasks
first-below t u k x h = omega (arith, ends t.tasks x h)

second-below : (t u : Tables) (k : ℕ) → PlacesBelow (places_end t.tasks + places_end u.tasks + k + 1) u.tasks
second-below t u k x h = omega (arith, ends u.tasks x h)

-- by the number, which is this one or another
pub by-number : {A : Type 0} (j k : ℕ) → (j ≡ k → A) → (¬ (j ≡ k) → A) → A
by-number {A = A} j k same other = go (eqb j k) refl
  where
    go : (b : Bool) → eqb j k ≡ b → A
    go true e = same (grind (arith, nat_tests, e))
    go false e = other (grind (arith, nat_tests, e))

count-not : (c : Bool) (n : ℕ) → c ≡ false → cond c n 0 ≡ 0
count-not true n e = absurd cc
count-not false n e = refl

-- Held places.

pub held-more : (m : ℕ) (t u : Tables) (s : Service) (k : ℕ) → Fills m t u s k → places_held u s ≡ places_held t s + 1
held-more m t u s k is =
    let b = end_of t u k in
    let old = held-counted t s b (first-below t u k) in
    let new = held-counted u s b (second-below t u k) in
    let was : where_held t s one_each k ≡ 0 = ap (λ (c : Bool). cond {A = ℕ} c 1 0) is.before in
    let now : where_held u s one_each k ≡ 1 = ap (λ (c : Bool). cond {A = ℕ} c 1 0) is.after in
    let others : (j : ℕ) → ¬ (j ≡ k) → where_held u s one_each j ≡ where_held t s one_each j =
    λ j off. ap (λ (c : Bool). cond {A = ℕ} c 1 0) (is.others.held j off) in
    let most = span-rises (where_held u s one_each) (where_held t s one_each) 1 0 b k (omega (arith, was, now))
    (λ j off. omega (arith, others j off)) in
    let least = span-falls (where_held t s one_each) (where_held u s one_each) 1 0 b k (omega arith) (omega arith)
    (omega (arith, was, now))
    (λ j. by-number j k
    (λ e. omega (arith, was, now, ap (where_held t s one_each) e, ap (where_held u s one_each) e))
    (λ off. omega (arith, others j off))) in
    omega (arith, old, new, most, least)

pub held-fewer : (m : ℕ) (t u : Tables) (s : Service) (k : ℕ) → Empties m t u s k → places_held u s + 1 ≡ places_held t s
held-fewer m t u s k is =
    let b = end_of t u k in
    let old = held-counted t s b (first-below t u k) in
    let new = held-counted u s b (second-below t u k) in
    let was : where_held t s one_each k ≡ 1 = ap (λ (c : Bool). cond {A = ℕ} c 1 0) is.before in
    let now : where_held u s one_each k ≡ 0 = ap (λ (c : Bool). cond {A = ℕ} c 1 0) is.after in
    let others : (j : ℕ) → ¬ (j ≡ k) → where_held u s one_each j ≡ where_held t s one_each j =
    λ j off. ap (λ (c : Bool). cond {A = ℕ} c 1 0) (is.others.held j off) in
    let most = span-rises (where_held t s one_each) (where_held u s one_each) 1 0 b k (omega (arith, was, now))
    (λ j off. omega (arith, others j off)) in
    let least = span-falls (where_held u s one_each) (where_held t s one_each) 1 0 b k (omega arith) (omega arith)
    (omega (arith, was, now))
    (λ j. by-number j k
    (λ e. omega (arith, was, now, ap (where_held t s one_each) e, ap (where_held u s one_each) e))
    (λ off. omega (arith, others j off))) in
    omega (arith, old, new, most, least)

-- Waiting places, and those of nodes that are gone: no more, where nothing is counted at the place.

waiting-others : (m : ℕ) (t u : Tables) (s : Service) (k : ℕ) → SameBut m t u s k →
    where_held u s (where_not (is_renewed m u s)) k ≡ 0 → waiting_places m u s ≤ waiting_places m t s
waiting-others m t u s k others none =
    let b = end_of t u k in
    let old = waiting-counted m t s b (first-below t u k) in
    let new = waiting-counted m u s b (second-below t u k) in
    let f = where_held u s (where_not (is_renewed m u s)) in
    let less = span-le f (where_held t s (where_not (is_renewed m t s))) 0 b
    (λ j. by-number j k (λ e. omega (arith, ap f e, none))
    (λ off. waits-le (is_held_place t s j) (is_held_place u s j) (is_renewed m t s j) (is_renewed m u s j)
    (others.held j off) (others.renewed j off))) in
    omega (arith, old, new, less)

lost-others : (m : ℕ) (t u : Tables) (s : Service) (k : ℕ) → SameNodes t u → SameBut m t u s k →
    where_held u s (where_not (λ j. has_row node_id j u.nodes)) k ≡ 0 → places_lost u s ≤ places_lost t s
lost-others m t u s k nodes others none =
    let b = end_of t u k in
    let old = lost-counted t s b (first-below t u k) in
    let new = lost-counted u s b (second-below t u k) in
    let f = where_held u s (where_not (λ j. has_row node_id j u.nodes)) in
    let less = span-le f (where_held t s (where_not (λ j. has_row node_id j t.nodes))) 0 b
    (λ j. by-number j k (λ e. omega (arith, ap f e, none))
    (λ off. waits-le (is_held_place t s j) (is_held_place u s j) (has_row node_id j t.nodes) (has_row node_id j u.nodes)
    (others.held j off) (λ e. ap (λ xs. has_row node_id j xs) nodes.nodes ∙ e))) in
    omega (arith, old, new, less)

-- Nodes.

on-other : (m : ℕ) (t u : Tables) (s : Service) (k : ℕ) (n : Node) → SameNodes t u → SameBut m t u s k →
    ¬ (n.id ≡ k) → coming_on u s n ≡ coming_on t s n
on-other m t u s k n nodes others off =
    ap (λ (c : Bool). goes_back s + bit (not c) + bit (is_missing u s n)) (nodes.live n.id)
    ∙ ap (λ (c : Bool). goes_back s + bit (not (is_session_live t n.id)) + bit (wants_here s n && not c))
    (others.held n.id off)

-- nothing is missing on the node afterwards
on-filled : (t u : Tables) (s : Service) (n : Node) → SameNodes t u → is_missing u s n ≡ false →
    coming_on u s n + bit (is_missing t s n) ≤ coming_on t s n
on-filled t u s n nodes none =
    omega (
      arith,
      ap (λ (c : Bool). goes_back s + bit (not c) + bit (is_missing u s n)) (nodes.live n.id),
      ap bit none,
    )

pub missing-none : (t : Tables) (s : Service) (n : Node) → is_held_place t s n.id ≡ true → is_missing t s n ≡ false
missing-none t s n held = go (wants_here s n) (is_held_place t s n.id) held
  where
    go : (a b : Bool) → b ≡ true → (a && not b) ≡ false
    go true b e = ap not e
    go false b e = refl

nodes-stay : (m : ℕ) (t u : Tables) (s : Service) (k : ℕ) → SameNodes t u → SameBut m t u s k →
    ((n : Node) → Has t.nodes n → n.id ≡ k → is_missing u s n ≡ false) →
    sum_by (coming_on u s) t.nodes ≤ sum_by (coming_on t s) t.nodes
nodes-stay m t u s k nodes others none =
    sum-le (coming_on u s) (coming_on t s) t.nodes
    (λ n h. by-number n.id k (λ e. omega (arith, on-filled t u s n nodes (none n h e)))
    (λ off. omega (arith, on-other m t u s k n nodes others off)))

nodes-fall : (m : ℕ) (t u : Tables) (s : Service) (k : ℕ) (x : Node) → SameNodes t u → SameBut m t u s k →
    ((n : Node) → Has t.nodes n → n.id ≡ k → is_missing u s n ≡ false) → Has t.nodes x → x.id ≡ k →
    is_missing t s x ≡ true → sum_by (coming_on u s) t.nodes + 1 ≤ sum_by (coming_on t s) t.nodes
nodes-fall m t u s k x nodes others none there is missing =
    sum-falls (coming_on u s) (coming_on t s) 1 t.nodes x there
    (omega (arith, on-filled t u s x nodes (none x there is), ap bit missing))
    (λ n h. by-number n.id k (λ e. omega (arith, on-filled t u s n nodes (none n h e)))
    (λ off. omega (arith, on-other m t u s k n nodes others off)))

-- A place more.

filled-none : (m : ℕ) (t u : Tables) (s : Service) (k : ℕ) → Fills m t u s k →
    where_held u s (where_not (is_renewed m u s)) k ≡ 0
filled-none m t u s k is =
    ap (λ (z : Bool). cond {A = ℕ} (is_held_place u s k) (cond {A = ℕ} (not z) 1 0) 0) is.renewed ∙ go (is_held_place u s k)
  where
    go : (c : Bool) → cond {A = ℕ} c 0 0 ≡ 0
    go true = refl
    go false = refl

-- fewer were held than there are to be replicas
pub replica-fills : (m : ℕ) (t u : Tables) (s : Service) (k r : ℕ) → s.spec.mode ≡ mode.Replicated r →
    places_held t s < r → Fills m t u s k → coming_of m u s + 1 ≤ coming_of m t s
replica-fills m t u s k r at room is =
    let g = goes_back s in
    let h = places_held t s in
    let held : places_held u s ≡ h + 1 = held-more m t u s k is in
    let left : r - h ≡ (r - (h + 1)) + 1 = omega (arith, room) in
    let now : coming_by_mode u s (mode.Replicated r) ≡ (r - (h + 1)) * (1 + g) + g * (h + 1 + replicas_before s) =
    ap (λ (n : ℕ). (r - n) * (1 + g) + g * (n + replicas_before s)) held in
    let was : coming_by_mode t s (mode.Replicated r) ≡ ((r - (h + 1)) + 1) * (1 + g) + g * (h + replicas_before s) =
    ap (λ (n : ℕ). n * (1 + g) + g * (h + replicas_before s)) left in
    omega (
      arith,
      waiting-others m t u s k is.others (filled-none m t u s k is),
      ap (coming_by_mode u s) at,
      ap (coming_by_mode t s) at,
      now,
      was,
    )

-- fewer were held than the job has tasks
pub job-fills : (m : ℕ) (t u : Tables) (s : Service) (k c n : ℕ) → s.spec.mode ≡ mode.Job c n → places_held t s < n →
    Fills m t u s k → coming_of m u s + 1 ≤ coming_of m t s
job-fills m t u s k c n at room is =
    omega (
      arith,
      waiting-others m t u s k is.others (filled-none m t u s k is),
      ap (coming_by_mode u s) at,
      ap (coming_by_mode t s) at,
      held-more m t u s k is,
      room,
    )

-- the task was missing on the node
pub node-fills : (m : ℕ) (t u : Tables) (s : Service) (n : Node) → SameNodes t u → s.spec.mode ≡ mode.Global →
    Has t.nodes n → has_row node_id n.id t.nodes ≡ true → is_missing t s n ≡ true → Fills m t u s n.id →
    coming_of m u s + 1 ≤ coming_of m t s
node-fills m t u s n nodes at there row missing is =
    let none : (x : Node) → Has t.nodes x → x.id ≡ n.id → is_missing u s x ≡ false =
    λ x h e. missing-none u s x (ap (is_held_place u s) e ∙ is.after) in
    let fall = nodes-fall m t u s n.id n nodes is.others none there refl missing in
    let here : has_row node_id n.id u.nodes ≡ true = ap (λ xs. has_row node_id n.id xs) nodes.nodes ∙ row in
    let lost = lost-others m t u s n.id nodes is.others
    (ap (λ (z : Bool). cond {A = ℕ} (is_held_place u s n.id) (cond {A = ℕ} (not z) 1 0) 0) here
    ∙ go (is_held_place u s n.id)) in
    let weighed : goes_back s * places_lost u s ≤ goes_back s * places_lost t s =
    mul-le (goes_back s) (places_lost u s) (goes_back s) (places_lost t s) (omega arith) lost in
    omega (
      arith,
      waiting-others m t u s n.id is.others (filled-none m t u s n.id is),
      ap (coming_by_mode u s) at,
      ap (coming_by_mode t s) at,
      ap (λ (xs : List Node). sum_by (coming_on u s) xs) nodes.nodes,
      fall,
      weighed,
    )
  where
    go : (c : Bool) → cond {A = ℕ} c 0 0 ≡ 0
    go true = refl
    go false = refl

-- A place less.

emptied-none : (m : ℕ) (t u : Tables) (s : Service) (k n : ℕ) → Empties m t u s k →
    cond (is_held_place u s k) n 0 ≡ 0
emptied-none m t u s k n is = count-not (is_held_place u s k) n is.after

-- more were held than there are to be replicas
pub replica-empties : (m : ℕ) (t u : Tables) (s : Service) (k r : ℕ) → s.spec.mode ≡ mode.Replicated r →
    r < places_held t s → Empties m t u s k → coming_of m u s ≤ coming_of m t s
replica-empties m t u s k r at many is =
    let g = goes_back s in
    let h = places_held u s in
    let held : h + 1 ≡ places_held t s = held-fewer m t u s k is in
    let none_now : r - h ≡ 0 = omega (arith, many, held) in
    let none_then : r - places_held t s ≡ 0 = omega (arith, many) in
    let now : coming_by_mode u s (mode.Replicated r) ≡ 0 * (1 + g) + g * (h + replicas_before s) =
    ap (λ (n : ℕ). n * (1 + g) + g * (h + replicas_before s)) none_now in
    let was : coming_by_mode t s (mode.Replicated r) ≡ 0 * (1 + g) + g * (h + 1 + replicas_before s) =
    ap (λ (n : ℕ). n * (1 + g) + g * (places_held t s + replicas_before s)) none_then
    ∙ ap (λ (n : ℕ). 0 * (1 + g) + g * (n + replicas_before s)) (sym held) in
    omega (
      arith,
      waiting-others m t u s k is.others (emptied-none m t u s k _ is),
      ap (coming_by_mode u s) at,
      ap (coming_by_mode t s) at,
      now,
      was,
    )

-- the node isn't to have a task, or is gone
pub node-empties : (m : ℕ) (t u : Tables) (s : Service) (k : ℕ) → SameNodes t u → s.spec.mode ≡ mode.Global →
    ((n : Node) → Has t.nodes n → n.id ≡ k → wants_here s n ≡ false) → Empties m t u s k →
    coming_of m u s ≤ coming_of m t s
node-empties m t u s k nodes at unwanted is =
    let none : (x : Node) → Has t.nodes x → x.id ≡ k → is_missing u s x ≡ false =
    λ x h e. ap (λ (c : Bool). c && not (is_held_place u s x.id)) (unwanted x h e) in
    let stay = nodes-stay m t u s k nodes is.others none in
    let lost = lost-others m t u s k nodes is.others (emptied-none m t u s k _ is) in
    let weighed : goes_back s * places_lost u s ≤ goes_back s * places_lost t s =
    mul-le (goes_back s) (places_lost u s) (goes_back s) (places_lost t s) (omega arith) lost in
    omega (
      arith,
      waiting-others m t u s k is.others (emptied-none m t u s k _ is),
      ap (coming_by_mode u s) at,
      ap (coming_by_mode t s) at,
      ap (λ (xs : List Node). sum_by (coming_on u s) xs) nodes.nodes,
      stay,
      weighed,
    )
