-- What can still come for a service, where its places are held or renewed otherwise than before.
use Rattle.std.proofs.Common.{Bool, List, ap, arith, cond, false, refl, sym, true, ℕ, ◌+◌, ◌*◌, ◌-◌, ◌∙◌, ◌≡◌, ◌≤◌}
use Rattle.std.specs.Prelude.{not, sum_by, ◌&&◌}
use Rattle.swarm_settle.proofs.Bound.PlaceSpans.{PlacesBelow, ends, held-counted, lost-counted, one_each, places_end, waiting-counted, where_held, where_not}
use Rattle.swarm_settle.proofs.Bound.Spans.{span-falls, span-le, span-same}
use Rattle.swarm_settle.proofs.Bound.Sums.{sum-same}
use Rattle.swarm_settle.specs.Bound.Coming.{coming_by_mode, coming_of, coming_on, goes_back, is_renewed, places_held, places_lost, replicas_before, waiting_places}
use Rattle.swarm_objects.specs.Kinds.{bit}
use Rattle.swarm_objects.specs.Loops.Global.{is_missing, wants_here}
use Rattle.swarm_objects.specs.Nodes.Sessions.{is_session_live}
use Rattle.swarm_objects.specs.Rows.{has_row, node_id}
use Rattle.swarm_objects.specs.Tasks.Places.{is_held_place}
use Rattle.swarm_objects.specs.World.{Tables}
use Rattle.swarm_objects.specs.declared.nodes.Node.{Node}
use Rattle.swarm_objects.specs.declared.services.Mode.TheVariants as mode
use Rattle.swarm_objects.specs.declared.services.Mode.{Mode}
use Rattle.swarm_objects.specs.declared.services.Service.{Service}

-- nodes are as they were, and their sessions are live where they were
pub record SameNodes (t u : Tables) : Type 0 where
  pub nodes : u.nodes ≡ t.nodes
  pub live : (n : ℕ) → is_session_live u n ≡ is_session_live t n

-- The same places.

pub record SameHeld (t u : Tables) (s : Service) : Type 0 where
  pub held : (k : ℕ) → is_held_place u s k ≡ is_held_place t s k

-- what is renewed stays so
abbrev pub StaysRenewed : ℕ → Tables → Tables → Service → Type 0
StaysRenewed m t u s = (k : ℕ) → is_renewed m t s k ≡ true → is_renewed m u s k ≡ true

both_end : Tables → Tables → ℕ
both_end t u = places_end t.tasks + places_end u.tasks

below-first : (t u : Tables) → PlacesBelow (places_end t.tasks + places_end u.tasks) t.tasks
below-first t u x h = omega (arith, ends t.tasks x h)

below-second : (t u : Tables) → PlacesBelow (places_end t.tasks + places_end u.tasks) u.tasks
below-second t u x h = omega (arith, ends u.tasks x h)

-- as many places are held
pub held-same : (t u : Tables) (s : Service) → SameHeld t u s → places_held u s ≡ places_held t s
held-same t u s same =
    let b = places_end t.tasks + places_end u.tasks in
    held-counted u s b (below-second t u)
    ∙ span-same (where_held u s one_each) (where_held t s one_each) 0 b (λ k. ap (λ (c : Bool). cond c 1 0) (same.held k))
    ∙ sym (held-counted t s b (below-first t u))

lost-same : (t u : Tables) (s : Service) → SameNodes t u → SameHeld t u s → places_lost u s ≡ places_lost t s
lost-same t u s nodes same =
    let b = places_end t.tasks + places_end u.tasks in
    lost-counted u s b (below-second t u)
    ∙ span-same (where_held u s (where_not (λ k. has_row node_id k u.nodes)))
    (where_held t s (where_not (λ k. has_row node_id k t.nodes))) 0 b
    (λ k. ap (λ (c : Bool). cond c (where_not (λ j. has_row node_id j u.nodes) k) 0) (same.held k)
    ∙ ap (λ (xs : List Node). cond (is_held_place t s k) (where_not (λ j. has_row node_id j xs) k) 0) nodes.nodes)
    ∙ sym (lost-counted t s b (below-first t u))

on-same : (t u : Tables) (s : Service) (n : Node) → SameNodes t u → SameHeld t u s → coming_on u s n ≡ coming_on t s n
on-same t u s n nodes same =
    ap (λ (c : Bool). goes_back s + bit (not c) + bit (is_missing u s n)) (nodes.live n.id)
    ∙ ap (λ (c : Bool). goes_back s + bit (not (is_session_live t n.id)) + bit (wants_here s n && not c)) (same.held n.id)

pub mode-same : (t u : Tables) (s : Service) (x : Mode) → SameNodes t u → SameHeld t u s →
    coming_by_mode u s x ≡ coming_by_mode t s x
mode-same t u s (mode.Replicated replicas) nodes same =
    ap (λ (h : ℕ). (replicas - h) * (1 + goes_back s) + goes_back s * (h + replicas_before s)) (held-same t u s same)
mode-same t u s (mode.Job concurrent total) nodes same = ap (λ (h : ℕ). total - h) (held-same t u s same)
mode-same t u s mode.Global nodes same =
    ap (λ (xs : List Node). sum_by (coming_on u s) xs + goes_back s * places_lost u s) nodes.nodes
    ∙ ap (λ (h : ℕ). h + goes_back s * places_lost u s)
    (sum-same (coming_on u s) (coming_on t s) t.nodes (λ n h. on-same t u s n nodes same))
    ∙ ap (λ (h : ℕ). sum_by (coming_on t s) t.nodes + goes_back s * h) (lost-same t u s nodes same)

pub waits-le : (a b c d : Bool) → b ≡ a → (c ≡ true → d ≡ true) →
    ◌≤◌ (cond {A = ℕ} b (cond (not d) 1 0) 0) (cond {A = ℕ} a (cond (not c) 1 0) 0)
waits-le true b true d e up = omega (arith, ap (λ (z : Bool). cond {A = ℕ} b (cond (not z) 1 0) 0) (up refl), go b)
  where
    go : (z : Bool) → cond {A = ℕ} z (cond (not true) 1 0) 0 ≡ 0
    go true = refl
    go false = refl
waits-le true b false d e up = omega (arith, ap (λ (z : Bool). cond {A = ℕ} z (cond (not d) 1 0) 0) e, go d)
  where
    go : (z : Bool) → cond {A = ℕ} (not z) 1 0 ≤ 1
    go true = omega arith
    go false = omega arith
waits-le false b c d e up = omega (arith, ap (λ (z : Bool). cond {A = ℕ} z (cond (not d) 1 0) 0) e)

pub waiting-stays : (m : ℕ) (t u : Tables) (s : Service) → SameHeld t u s → StaysRenewed m t u s →
    waiting_places m u s ≤ waiting_places m t s
waiting-stays m t u s same renewed =
    let b = places_end t.tasks + places_end u.tasks in
    let old = waiting-counted m t s b (below-first t u) in
    let new = waiting-counted m u s b (below-second t u) in
    let less = span-le (where_held u s (where_not (is_renewed m u s))) (where_held t s (where_not (is_renewed m t s))) 0 b
    (λ k. waits-le (is_held_place t s k) (is_held_place u s k) (is_renewed m t s k) (is_renewed m u s k) (same.held k)
    (renewed k)) in
    omega (arith, old, new, less)

-- the same places are held, and what was renewed is
pub coming-stays : (m : ℕ) (t u : Tables) (s : Service) → SameNodes t u → SameHeld t u s → StaysRenewed m t u s →
    coming_of m u s ≤ coming_of m t s
coming-stays m t u s nodes same renewed =
    omega (arith, waiting-stays m t u s same renewed, mode-same t u s s.spec.mode nodes same)

-- A held place is renewed that wasn't.

pub coming-renews : (m : ℕ) (t u : Tables) (s : Service) (k : ℕ) → SameNodes t u → SameHeld t u s →
    StaysRenewed m t u s → is_held_place t s k ≡ true → is_renewed m t s k ≡ false → is_renewed m u s k ≡ true →
    coming_of m u s + 1 ≤ coming_of m t s
coming-renews m t u s k nodes same renewed held old now =
    let b = places_end t.tasks + places_end u.tasks + k + 1 in
    let before = waiting-counted m t s b (λ x h. omega (arith, ends t.tasks x h)) in
    let after = waiting-counted m u s b (λ x h. omega (arith, ends u.tasks x h)) in
    let was : where_held t s (where_not (is_renewed m t s)) k ≡ 1 =
    ap (λ (z : Bool). cond {A = ℕ} z (where_not (is_renewed m t s) k) 0) held
    ∙ ap (λ (z : Bool). cond {A = ℕ} (not z) 1 0) old in
    let is : where_held u s (where_not (is_renewed m u s)) k ≡ 0 =
    ap (λ (z : Bool). cond {A = ℕ} z (where_not (is_renewed m u s) k) 0) (same.held k ∙ held)
    ∙ ap (λ (z : Bool). cond {A = ℕ} (not z) 1 0) now in
    let less = span-falls (where_held u s (where_not (is_renewed m u s))) (where_held t s (where_not (is_renewed m t s)))
    1 0 b k (omega arith) (omega arith) (omega (arith, was, is))
    (λ j. waits-le (is_held_place t s j) (is_held_place u s j) (is_renewed m t s j) (is_renewed m u s j) (same.held j)
    (renewed j)) in
    omega (arith, before, after, less, mode-same t u s s.spec.mode nodes same)
