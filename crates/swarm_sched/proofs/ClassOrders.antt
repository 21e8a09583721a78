-- How the nodes of a class compare with the best one so far.
use Rattle.std.proofs.Common.{◌≡◌, ◌∙◌, ◌<◌, ◌∷◌, ◌⊎◌, ℕ, Bool, List, None, Option, Some, [], ap, arith}
use Rattle.std.proofs.Common.{eqb, false, get_or, inl, inr, length, refl}
use Rattle.std.proofs.Common.{replicate, set, subst, suc, sym, true, zero}
use Rattle.std.proofs.lemmas.Bool.Decides.{nat_tests}
use Rattle.std.proofs.lemmas.List.Folds.{list_all-append}
use Rattle.std.proofs.lemmas.List.{get_or-set_other, get_or-set_same}
use Rattle.std.proofs.lemmas.Map.Text.{is_eq-slice_cmp}
use Rattle.std.proofs.lemmas.Slice.Eq.{bytes_eq-Decides}
use Rattle.std.specs.Cmp.Lexicographic.{slice_cmp}
use Rattle.std.specs.Ordering.{is_eq, nat_cmp, ordering_then}
use Rattle.std.specs.Prelude.{IfSome, ◌&&◌, ◌++◌}
use Rattle.std.specs.Str.{bytes_eq}
use Rattle.std.specs.declared.cmp.Ordering.TheVariants.{Equal, Greater, Less}
use Rattle.std.specs.declared.cmp.Ordering.{Ordering}
use Rattle.swarm_objects.proofs.RowLemmas.{row_at-Some}
use Rattle.swarm_objects.proofs.Tests.{both, both_are}
use Rattle.swarm_objects.specs.Nodes.BestNode.{agrees, branch_load, spread_cmp}
use Rattle.swarm_objects.specs.Nodes.Constraints.{key_value}
use Rattle.swarm_objects.specs.Rows.{RisesFrom, node_id, row_at}
use Rattle.swarm_objects.specs.World.{Tables}
use Rattle.swarm_objects.specs.declared.nodes.Node.{Node}
use Rattle.swarm_objects.specs.declared.templates.Key.{Key}
use Rattle.swarm_sched.proofs.Branching.{branch-alike}
use Rattle.swarm_sched.specs.Inside.Branches.{Preferences}
use Rattle.swarm_sched.specs.Inside.Classes.{AreOrders, AreSorted, IsEntry, IsOrder}
use Rattle.swarm_sched.specs.declared.classes.ClassedNode.{ClassedNode}

-- Nodes of one class compare so with any other.

pub spread-alike : (t : Tables) (service : ℕ) (earlier keys : List Key) (a b m : Node) → agrees earlier a b ≡ true →
    agrees keys a b ≡ true → spread_cmp t service earlier keys a m ≡ spread_cmp t service earlier keys b m
spread-alike t service earlier [] a b m before alike = refl
spread-alike t service earlier (k ∷ keys) a b m before alike =
    let parts = both_are (bytes_eq (key_value b k) (key_value a k)) (agrees keys a b) alike in
    let same : key_value b k ≡ key_value a k = (bytes_eq-Decides (key_value b k) (key_value a k)).0 parts.0 in
    let more : agrees (earlier ++ k ∷ []) a b ≡ true =
    list_all-append (λ j. bytes_eq (key_value b j) (key_value a j)) earlier (k ∷ [])
    ∙ both (agrees earlier a b) (bytes_eq (key_value b k) (key_value a k) && true) before (ap (λ c. c && true) parts.0)
    in
    let rest = spread-alike t service (earlier ++ k ∷ []) keys a b m more parts.1 in
    let loads = branch-alike t service (earlier ++ k ∷ []) a b more in
    ap (λ n. by n (key_value a k) (spread_cmp t service (earlier ++ k ∷ []) keys a m)) loads
    ∙ ap (λ v. by load_b v (spread_cmp t service (earlier ++ k ∷ []) keys a m)) (sym same)
    ∙ ap (by load_b (key_value b k)) rest
  where
    load_b : ℕ
    load_b = branch_load t service (earlier ++ k ∷ []) b

    -- as this load, this value and what the other preferences say decide it
    by : ℕ → List ℕ → Ordering → Ordering
    by n v o =
        ordering_then (nat_cmp n (branch_load t service (earlier ++ k ∷ []) m))
        (ordering_then (slice_cmp nat_cmp v (key_value m k)) o)

pub order-alike : (p : Preferences) (o : Ordering) (a b : Node) (best : Option Node) → agrees p.keys a b ≡ true →
    IsOrder p o a best →
    IsOrder p o b best
order-alike p o a b None alike is = is
order-alike p o a b (Some m) alike is = is ∙ spread-alike p.tables p.service [] p.keys a b m refl alike

-- so does each where there is none
pub first_of_all : (p : Preferences) (found best : Option Node) → best ≡ None →
    IfSome found (λ n. IsOrder p Less n best)
first_of_all p None best none = tt
first_of_all p (Some n) best none = subst (IsOrder p Less n) (sym none) refl

-- Any other compares so with nodes that compare as equal.

equal-both : (a b : Ordering) → ordering_then a b ≡ Equal → (a ≡ Equal) × (b ≡ Equal)
equal-both Less b e = absurd cc
equal-both Equal b e = (refl, e)
equal-both Greater b e = absurd cc

equal-agree : (t : Tables) (service : ℕ) (earlier keys : List Key) (a b : Node) →
    spread_cmp t service earlier keys a b ≡ Equal → agrees keys b a ≡ true
equal-agree t service earlier [] a b e = refl
equal-agree t service earlier (k ∷ keys) a b e =
    let more : List Key = earlier ++ k ∷ [] in
    let rest : Ordering = spread_cmp t service more keys a b in
    let values : Ordering = slice_cmp nat_cmp (key_value a k) (key_value b k) in
    let behind = equal-both (nat_cmp (branch_load t service more a) (branch_load t service more b))
    (ordering_then values rest) e in
    let parts = equal-both values rest behind.1 in
    both (bytes_eq (key_value a k) (key_value b k)) (agrees keys b a)
    (sym (is_eq-slice_cmp (key_value a k) (key_value b k)) ∙ ap is_eq parts.0)
    (equal-agree t service more keys a b parts.1)

against-alike : (t : Tables) (service : ℕ) (earlier keys : List Key) (a b m : Node) → agrees earlier a b ≡ true →
    agrees keys a b ≡ true → spread_cmp t service earlier keys m a ≡ spread_cmp t service earlier keys m b
against-alike t service earlier [] a b m before alike = refl
against-alike t service earlier (k ∷ keys) a b m before alike =
    let parts = both_are (bytes_eq (key_value b k) (key_value a k)) (agrees keys a b) alike in
    let same : key_value b k ≡ key_value a k = (bytes_eq-Decides (key_value b k) (key_value a k)).0 parts.0 in
    let more : agrees (earlier ++ k ∷ []) a b ≡ true =
    list_all-append (λ j. bytes_eq (key_value b j) (key_value a j)) earlier (k ∷ [])
    ∙ both (agrees earlier a b) (bytes_eq (key_value b k) (key_value a k) && true) before (ap (λ c. c && true) parts.0)
    in
    let rest = against-alike t service (earlier ++ k ∷ []) keys a b m more parts.1 in
    let loads = branch-alike t service (earlier ++ k ∷ []) a b more in
    ap (λ n. by n (key_value a k) (spread_cmp t service (earlier ++ k ∷ []) keys m a)) loads
    ∙ ap (λ v. by load_b v (spread_cmp t service (earlier ++ k ∷ []) keys m a)) (sym same)
    ∙ ap (by load_b (key_value b k)) rest
  where
    load_b : ℕ
    load_b = branch_load t service (earlier ++ k ∷ []) b

    -- as this load, this value and what the other preferences say decide it
    by : ℕ → List ℕ → Ordering → Ordering
    by n v o =
        ordering_then (nat_cmp (branch_load t service (earlier ++ k ∷ []) m) n)
        (ordering_then (slice_cmp nat_cmp (key_value m k) v) o)

order-equal : (p : Preferences) (o : Ordering) (n m : Node) (best : Option Node) → IsOrder p Equal m best →
    IsOrder p o n best → IsOrder p o n (Some m)
order-equal p o n m None first is = let both : Equal ≡ Less = first in absurd cc
order-equal p o n m (Some b) first is =
    is ∙ against-alike p.tables p.service [] p.keys b m n refl
    (equal-agree p.tables p.service [] p.keys m b (sym first))

-- What is known of the classes.

pub orders_none : (p : Preferences) (sorted : List ClassedNode) (n : ℕ) (best : Option Node) →
    AreOrders p sorted (replicate n None) best
orders_none p sorted n best = record {
  each = λ c m e. subst (λ o. IfSome o (λ r. IsOrder p r m best)) (sym (none-at n c.class)) tt;
}
  where
    none-at : (n j : ℕ) → ◌≡◌ {A = Option Ordering} (get_or (replicate n None) j None) None
    none-at zero j = refl
    none-at (suc n) zero = refl
    none-at (suc n) (suc j) = none-at n j

-- it is the same of a best node that compares as equal with the former one
pub orders-equal : (p : Preferences) (sorted : List ClassedNode) (orders : List (Option Ordering)) (best : Option Node)
    (m : Node) → IsOrder p Equal m best → AreOrders p sorted orders best → AreOrders p sorted orders (Some m)
orders-equal p sorted orders best m first so = record
    { each = λ c n e. go n (get_or orders c.class None) (so.each c n e) }
  where
    go : (n : Node) (r : Option Ordering) → IfSome r (λ o. IsOrder p o n best) →
        IfSome r (λ o. IsOrder p o n (Some m))
    go n None is = tt
    go n (Some o) is = order-equal p o n m best first is

-- what was found of the entry's class is so of its node
pub order_is : (p : Preferences) (sorted : List ClassedNode) (orders : List (Option Ordering)) (best : Option Node)
    (c : ClassedNode)
    (n : Node) (o : Ordering) → RisesFrom node_id 0 p.tables.nodes → AreOrders p sorted orders best →
    IsEntry p.tables.nodes sorted c n →
    (get_or orders c.class None ≡ Some o) ⊎ IfSome (row_at node_id c.id p.tables.nodes) (λ m. IsOrder p o m best) →
    IsOrder p o n best
order_is p sorted orders best c n o rising so entry (inl held) =
    subst (λ r. IfSome r (λ q. IsOrder p q n best)) held (so.each c n entry)
order_is p sorted orders best c n o rising so entry (inr found) =
    let row : row_at node_id n.id p.tables.nodes ≡ Some n = row_at-Some node_id 0 p.tables.nodes n rising entry.row in
    let there : row_at node_id c.id p.tables.nodes ≡ Some n = ap (λ k. row_at node_id k p.tables.nodes)
    (sym entry.same) ∙ row in
    subst (λ r. IfSome r (λ m. IsOrder p o m best)) there found

decide : (a b : ℕ) → (a ≡ b) ⊎ (a ≡ b → ⊥)
decide a b = go (eqb a b) refl
  where
    go : (c : Bool) → eqb a b ≡ c → (a ≡ b) ⊎ (a ≡ b → ⊥)
    go true is = inl (grind (arith, nat_tests, is))
    go false is = inr (λ e. grind (arith, nat_tests, is, e))

pub orders_set : (p : Preferences) (sorted : List ClassedNode) (orders : List (Option Ordering)) (best : Option Node)
    (c : ClassedNode) (n : Node) (o : Ordering) → AreSorted p.tables.nodes p.keys sorted →
    AreOrders p sorted orders best →
    IsEntry p.tables.nodes sorted c n → c.class < length orders → IsOrder p o n best →
    AreOrders p sorted (set orders c.class (Some o)) best
orders_set p sorted orders best c n o are so entry fits is = record
    { each = λ d m e. at d m e (decide d.class c.class) }
  where
    at : (d : ClassedNode) (m : Node) → IsEntry p.tables.nodes sorted d m →
        (d.class ≡ c.class) ⊎ (d.class ≡ c.class → ⊥) →
        IfSome (get_or (set orders c.class (Some o)) d.class None) (λ r. IsOrder p r m best)
    at d m e (inl same) =
        let own : get_or (set orders c.class (Some o)) d.class None ≡ Some o =
        ap (λ k. get_or (set orders c.class (Some o)) k None) same ∙ get_or-set_same orders c.class (Some o) None fits
        in
        subst (λ r. IfSome r (λ q. IsOrder p q m best)) (sym own)
        (order-alike p o n m best (are.alike c d n m entry e (sym same)) is)
    at d m e (inr other) =
        subst (λ r. IfSome r (λ q. IsOrder p q m best))
        (sym (get_or-set_other orders c.class d.class (Some o) None other)) (so.each d m e)
