-- The classes one after the other: which nodes don't come before the best one so far.
use Rattle.std.proofs.Common.{◌≡◌, ◌∙◌, ◌+◌, ◌<◌, ◌≤◌, ◌∷◌, ◌⊎◌, ℕ, Bool, List, None, Option, Some, [], ap, arith}
use Rattle.std.proofs.Common.{eqb, false, get_or, inl, inr, is_some, leb, length, ltb, map, refl, set, subst, suc, sym}
use Rattle.std.proofs.Common.{replicate, true, zero}
use Rattle.std.proofs.lemmas.Bool.Decides.{nat_tests}
use Rattle.std.proofs.lemmas.Cmp.{tied_itself}
use Rattle.std.proofs.lemmas.List.{length-set}
use Rattle.std.specs.Borrow.{Bor}
use Rattle.std.specs.Ordering.{is_lt, nat_cmp, ordering_then}
use Rattle.std.specs.Prelude.{IfSome, IsTrue, filter}
use Rattle.std.specs.declared.cmp.Ordering.TheVariants.{Equal, Greater, Less}
use Rattle.std.specs.declared.cmp.Ordering.{Ordering}
use Rattle.swarm_filters.specs.Tested.{is_open}
use Rattle.swarm_objects.proofs.RowLemmas.{Has-from_row_at}
use Rattle.swarm_objects.specs.Nodes.BestNode.{best_node, load, node_cmp, spread_cmp}
use Rattle.swarm_objects.specs.Nodes.Filters.{here}
use Rattle.swarm_objects.specs.Rows.{Has, has_row, node_id, row_at}
use Rattle.swarm_objects.specs.Tasks.Words.{is_of}
use Rattle.swarm_objects.specs.Usable.{IsUsable}
use Rattle.swarm_objects.specs.World.{Tables}
use Rattle.swarm_objects.specs.declared.nodes.Node.{Node}
use Rattle.swarm_objects.specs.declared.tasks.Task.{Task}
use Rattle.swarm_objects.specs.declared.templates.Key.{Key}
use Rattle.swarm_sched.proofs.ClassLoading.{none_here}
use Rattle.swarm_sched.proofs.ClassOrders.{order-alike, order_is, orders-equal, orders_none, orders_set, spread-alike}
use Rattle.swarm_sched.proofs.ClassSearching.{has_found}
use Rattle.swarm_sched.proofs.Knowing.{decide}
use Rattle.swarm_sched.proofs.Ordering.{best_is, found_better, found_trails, none_open, none_trails, spread_total}
use Rattle.swarm_sched.proofs.Ordering.{trails_further}
use Rattle.swarm_sched.specs.Inside.Branches.{Preferences, preferences}
use Rattle.swarm_sched.specs.Inside.ClassLoads.{AreMost}
use Rattle.swarm_sched.specs.Inside.ClassSearch.{found_node}
use Rattle.swarm_sched.specs.Inside.Classes.{AreOrders, AreSorted, HaveClasses, IsEntry, IsOrder, class_in_turn, entry_id}
use Rattle.swarm_sched.specs.Inside.Ranks.{AreRanked, IsFound, IsLeader, Ranking, Trails, of_class}
use Rattle.swarm_sched.specs.declared.classes.ClassedNode.{ClassedNode}
use Rattle.swarm_sched.specs.declared.classes.TheConstants.{CLASSES}
use Rattle.swarm_sched.specs.declared.placing.NodeLoad.{NodeLoad}
use Rattle.swarm_timers.specs.Timers.{Timer, timer_owner}

-- Each class has its turn.

pub turn_small : (lead turn count : ℕ) → (0 < count → lead < count) → turn < count → class_in_turn lead turn < count
turn_small lead turn count leads lt = go (leads (omega (arith, lt))) (eqb turn 0) refl (leb turn lead) refl
  where
    go : lead < count → (a : Bool) → eqb turn 0 ≡ a → (b : Bool) → leb turn lead ≡ b → class_in_turn lead turn < count
    go first true e b f = grind (arith, nat_tests, first, e)
    go first false e true f = grind (arith, nat_tests, first, e, f)
    go first false e false f = grind (arith, nat_tests, lt, e, f)

turn-of : (lead class count : ℕ) → lead < count → class < count →
    (j : ℕ) × (j < count) × (class ≡ class_in_turn lead j)
turn-of lead class count leads lt = go (eqb class lead) refl (ltb class lead) refl
  where
    go : (a : Bool) → eqb class lead ≡ a → (b : Bool) → ltb class lead ≡ b →
        (j : ℕ) × (j < count) × (class ≡ class_in_turn lead j)
    go true e b f = (0, omega (arith, lt), grind (arith, nat_tests, e))
    go false e true f =
        let less : class < lead = grind (arith, nat_tests, f) in
        (class + 1, omega (arith, less, leads), grind (arith, nat_tests, less))
    go false e false f =
        let more : lead < class = grind (arith, nat_tests, e, f) in
        (class, lt, grind (arith, nat_tests, more))

-- The nodes of a class.

has-key : {X : Type 0} (key : X → ℕ) (xs : List X) (x : X) → Has xs x → Has (map key xs) (key x)
has-key key [] x h = h
has-key key (y ∷ xs) x (inl e) = inl (ap key e)
has-key key (y ∷ xs) x (inr h) = inr (has-key key xs x h)

has-of-key : {X : Type 0} (key : X → ℕ) (xs : List X) (k : ℕ) → Has (map key xs) k →
    (x : X) × Has xs x × (key x ≡ k)
has-of-key key [] k h = absurd h
has-of-key key (y ∷ xs) k (inl e) = (y, inl refl, e)
has-of-key key (y ∷ xs) k (inr h) = let rest = has-of-key key xs k h in (rest.0, inr rest.1, rest.2)

entry-of : (nodes : List Node) (keys : List Key) (sorted : List ClassedNode) (n : Node) → AreSorted nodes keys sorted →
    Has nodes n → (c : ClassedNode) × IsEntry nodes sorted c n
entry-of nodes keys sorted n are row =
    let found = has-of-key entry_id sorted n.id
    (subst (λ ids. Has ids n.id) (sym are.ids) (has-key node_id nodes n row)) in
    (found.0, record { there = found.1; row = row; same = sym found.2 })

node-of : (nodes : List Node) (keys : List Key) (sorted : List ClassedNode) (c : ClassedNode) →
    AreSorted nodes keys sorted → Has sorted c → (n : Node) × IsEntry nodes sorted c n
node-of nodes keys sorted c are there =
    let found = has-of-key node_id nodes c.id
    (subst (λ ids. Has ids c.id) are.ids (has-key entry_id sorted c there)) in
    (found.0, record { there = there; row = found.1; same = found.2 })

-- one that has a number in the class is of it
pub class_has : (sorted : List ClassedNode) (r : Ranking) (class id : ℕ) → AreRanked sorted r →
    has_row timer_owner id (of_class r class) ≡ true → Has sorted (record { id = id; class = class })
class_has sorted r class id are own =
    let found = has_found (row_at timer_owner id (of_class r class)) own in
    let from = Has-from_row_at timer_owner id (of_class r class) found.0 found.1 in
    subst (λ k. Has sorted (record { id = k; class = class })) from.1 (are.own class found.0 from.0)

pub class_entry : (nodes : List Node) (sorted : List ClassedNode) (r : Ranking) (class : ℕ) (n : Node) →
    AreRanked sorted r → Has nodes n → has_row timer_owner n.id (of_class r class) ≡ true →
    IsEntry nodes sorted (record { id = n.id; class = class }) n
class_entry nodes sorted r class n are row own =
    record { there = class_has sorted r class n.id are own; row = row; same = refl }

entry-ranked : (nodes : List Node) (sorted : List ClassedNode) (r : Ranking) (class : ℕ) (c : ClassedNode) (n : Node) →
    AreRanked sorted r → IsEntry nodes sorted c n → c.class ≡ class →
    has_row timer_owner n.id (of_class r class) ≡ true
entry-ranked nodes sorted r class c n are entry same =
    subst (λ k. has_row timer_owner n.id (of_class r k) ≡ true) same
    (subst (λ id. has_row timer_owner id (of_class r c.class) ≡ true) (sym entry.same) (are.there c entry.there))

-- they are alike
alike-class : (t : Tables) (x : Task) (sorted : List ClassedNode) (r : Ranking) (class : ℕ) (n m : Node) →
    AreSorted t.nodes x.template.spread sorted → AreRanked sorted r → Has t.nodes n → Has t.nodes m →
    has_row timer_owner n.id (of_class r class) ≡ true → has_row timer_owner m.id (of_class r class) ≡ true →
    spread_cmp t x.service [] x.template.spread n m ≡ Equal
alike-class t x sorted r class n m sorts are one other own second =
    spread-alike t x.service [] x.template.spread n m m refl
    (sorts.alike (record { id = n.id; class = class }) (record { id = m.id; class = class }) n m
    (class_entry t.nodes sorted r class n are one own) (class_entry t.nodes sorted r class m are other second) refl)
    ∙ tied_itself (spread_total t x.service [] x.template.spread) m

-- where none of the service's tasks counts in the class, none is on its nodes
pub class_none : (t : Tables) (x : Task) (sorted : List ClassedNode) (r : Ranking) (most : List ℕ) (class : ℕ) →
    IsUsable t → AreSorted t.nodes x.template.spread sorted → AreRanked sorted r →
    AreMost sorted (filter (is_of x.service) t.tasks) most → IsTrue (eqb (get_or most class 0) 0) → (n : Node) →
    Has t.nodes n → has_row timer_owner n.id (of_class r class) ≡ true → here t n.id x.service ≡ 0
class_none t x sorted r most class usable sorts are so empty n row own =
    none_here t x.service x.template.spread sorted most (record { id = n.id; class = class }) n usable sorts so
    (class_entry t.nodes sorted r class n are row own) empty

-- how they compare with the best node so far, and what is known of all classes then
pub record AtClass (t : Tables) (x : Task) (sorted : List ClassedNode) (r : Ranking) (class : ℕ)
    (more : List (Option Ordering)) (best : Option Node) (o : Ordering) : Type 0 where
  pub order : (n : Node) → Has t.nodes n → has_row timer_owner n.id (of_class r class) ≡ true →
      IsOrder (preferences t x) o n best
  pub known : AreOrders (preferences t x) sorted more best
  pub all : length more ≡ CLASSES

pub at_class : (t : Tables) (x : Task) (p : Preferences) (sorted : List ClassedNode) (r : Ranking)
    (orders more : List (Option Ordering)) (best : Option Node) (class id : ℕ) (o : Ordering) → IsUsable t →
    p ≡ preferences t x → AreSorted t.nodes x.template.spread sorted → AreRanked sorted r →
    AreOrders (preferences t x) sorted orders best → length orders ≡ CLASSES → class < CLASSES →
    has_row timer_owner id (of_class r class) ≡ true →
    (get_or orders class None ≡ Some o) ⊎ IfSome (row_at node_id id t.nodes) (λ m. IsOrder p o m best) →
    more ≡ set orders class (Some o) → AtClass t x sorted r class more best o
at_class t x p sorted r orders more best class id o usable own sorts are known all small there found is = record {
  order = λ n row has.
      order-alike q o first.0 n best
      (sorts.alike c (record { id = n.id; class = class }) first.0 n first.1
      (class_entry t.nodes sorted r class n are row has) refl) order;
  known =
      subst (λ list. AreOrders q sorted list best) (sym is)
      (orders_set q sorted orders best c first.0 o sorts known first.1 (omega (arith, small, all)) order);
  all = ap length is ∙ length-set orders class (Some o) ∙ all;
}
  where
    q : Preferences
    q = preferences t x

    c : ClassedNode
    c = record { id = id; class = class }

    first : (n : Node) × IsEntry t.nodes sorted c n
    first = node-of t.nodes x.template.spread sorted c sorts (class_has sorted r class id are there)

    order : IsOrder q o first.0 best
    order =
        order_is q sorted orders best c first.0 o usable.sound.ordered.nodes known first.1
        (subst (λ s. (get_or orders class None ≡ Some o) ⊎ IfSome (row_at node_id id t.nodes)
        (λ m. IsOrder s o m best)) own found)

-- The best node so far.

-- it is open, no open node comes before it of the classes that had their turns, and what is known of all classes is so
pub record IsTurned (t : Tables) (x : Task) (sorted : List ClassedNode) (orders : List (Option Ordering))
    (best : Option Node) (lead turn : ℕ) : Type 0 where
  pub own : IfSome best (λ b. Has t.nodes b × (is_open t x b ≡ true))
  pub trails : (j : ℕ) (c : ClassedNode) (n : Node) → j < turn → IsEntry t.nodes sorted c n →
      c.class ≡ class_in_turn lead j → is_open t x n ≡ true → Trails t x best n
  pub known : AreOrders (preferences t x) sorted orders best
  pub all : length orders ≡ CLASSES

pub turned_none : (t : Tables) (x : Task) (sorted : List ClassedNode) (orders : List (Option Ordering)) (lead : ℕ) →
    orders ≡ replicate CLASSES None → IsTurned t x sorted orders None lead 0
turned_none t x sorted orders lead is = subst (λ list. IsTurned t x sorted list None lead 0) (sym is) (record {
  own = tt;
  trails = λ j c n lt. absurd (omega (arith, lt));
  known = orders_none (preferences t x) sorted CLASSES None;
  all = refl;
})

-- one turn more
turned-on : (t : Tables) (x : Task) (sorted : List ClassedNode) (orders more : List (Option Ordering))
    (best new : Option Node) (lead turn class : ℕ) → class ≡ class_in_turn lead turn →
    IsTurned t x sorted orders best lead turn → IfSome new (λ b. Has t.nodes b × (is_open t x b ≡ true)) →
    ((n : Node) → Trails t x best n → Trails t x new n) →
    ((c : ClassedNode) (n : Node) → IsEntry t.nodes sorted c n → c.class ≡ class → is_open t x n ≡ true →
    Trails t x new n) →
    AreOrders (preferences t x) sorted more new → length more ≡ CLASSES → IsTurned t x sorted more new lead (turn + 1)
turned-on t x sorted orders more best new lead turn class is so own further alone known all = record {
  own = own;
  trails = λ j c n lt entry at opens. elim (decide j turn) [
    | inl same ↦ alone c n entry (at ∙ ap (class_in_turn lead) same ∙ sym is) opens
    | inr other ↦ further n (so.trails j c n (omega (arith, lt, other)) entry at opens)
  ];
  known = known;
  all = all;
}

greater-trails : (t : Tables) (x : Task) (best : Option Node) (n : Node) →
    IsOrder (preferences t x) Greater n best → Trails t x best n
greater-trails t x None n is = let both : Greater ≡ Less = is in absurd cc
greater-trails t x (Some b) n is =
    ap
    (λ o. is_lt (ordering_then o (ordering_then (nat_cmp (here t n.id x.service) (here t b.id x.service))
    (ordering_then (nat_cmp (load t n.id) (load t b.id)) (nat_cmp n.id b.id))))) (sym is)

-- a class that is known to compare as greater
pub turned_past : (t : Tables) (x : Task) (sorted : List ClassedNode) (orders : List (Option Ordering))
    (best : Option Node) (lead turn class : ℕ) → class ≡ class_in_turn lead turn →
    get_or orders class None ≡ Some Greater → IsTurned t x sorted orders best lead turn →
    IsTurned t x sorted orders best lead (turn + 1)
turned_past t x sorted orders best lead turn class is known so =
    turned-on t x sorted orders orders best best lead turn class is so so.own (λ n past. past)
    (λ c n entry same opens.
    greater-trails t x best n
    (subst (λ r. IfSome r (λ o. IsOrder (preferences t x) o n best)) (ap (λ k. get_or orders k None) same ∙ known)
    (so.known.each c n entry))) so.known so.all

-- one without nodes
pub turned_empty : (t : Tables) (x : Task) (sorted : List ClassedNode) (r : Ranking) (orders : List (Option Ordering))
    (best : Option Node) (lead turn class : ℕ) → class ≡ class_in_turn lead turn → AreRanked sorted r →
    of_class r class ≡ [] → IsTurned t x sorted orders best lead turn →
    IsTurned t x sorted orders best lead (turn + 1)
turned_empty t x sorted r orders best lead turn class is are none so =
    turned-on t x sorted orders orders best best lead turn class is so so.own (λ n past. past)
    (λ c n entry same opens.
    let both : false ≡ true =
    subst (λ rows. has_row timer_owner n.id rows ≡ true) none
    (entry-ranked t.nodes sorted r class c n are entry same) in
    absurd cc) so.known so.all

-- so is one that isn't there
pub none_of : {X : Type 0} (r : Ranking) (class : ℕ) (o : Option X) → o ≡ None →
    (class < length r.classes → is_some o ≡ true) → of_class r class ≡ []
none_of r class o none there = go r.classes class (λ lt. sym (ap is_some none) ∙ there lt)
  where
    go : (classes : List (List Timer)) (k : ℕ) → (k < length classes → false ≡ true) → get_or classes k [] ≡ []
    go [] k never = refl
    go (c ∷ classes) zero never = let both : false ≡ true = never (omega arith) in absurd cc
    go (c ∷ classes) (suc k) never = go classes k (λ lt. never (omega (arith, lt)))

-- one that has no better node
pub turned_worse : (t : Tables) (x : Task) (sorted : List ClassedNode) (r : Ranking)
    (orders more : List (Option Ordering)) (best : Option Node) (found : Option (Bor Node × NodeLoad))
    (lead turn class : ℕ) (o : Ordering) → class ≡ class_in_turn lead turn → AreRanked sorted r →
    AtClass t x sorted r class more best o → IsFound t x (of_class r class) o best (found_node found) → found ≡ None →
    IsTurned t x sorted orders best lead turn → IsTurned t x sorted more best lead (turn + 1)
turned_worse t x sorted r orders more best found lead turn class o is are at search none so =
    turned-on t x sorted orders more best best lead turn class is so so.own (λ n past. past)
    (λ c n entry same opens. go best at search n entry.row (entry-ranked t.nodes sorted r class c n are entry same) opens)
    at.known at.all
  where
    go : (b : Option Node) → AtClass t x sorted r class more b o →
        IsFound t x (of_class r class) o b (found_node found) → (n : Node) → Has t.nodes n →
        has_row timer_owner n.id (of_class r class) ≡ true → is_open t x n ≡ true → Trails t x b n
    go None here search n row own opens =
        none_open t x (of_class r class) o None (found_node found) search (ap found_node none) refl n row own opens
    go (Some b) here search n row own opens =
        none_trails t x (of_class r class) o (Some b) (found_node found) here.order search (ap found_node none) b refl n
        row own opens

-- one that has
pub turned_better : (t : Tables) (x : Task) (sorted : List ClassedNode) (r : Ranking)
    (orders more after : List (Option Ordering)) (best : Option Node) (found : Option (Bor Node × NodeLoad))
    (f : Bor Node × NodeLoad) (lead turn class : ℕ) (o : Ordering) → class ≡ class_in_turn lead turn →
    AreSorted t.nodes x.template.spread sorted → AreRanked sorted r → AtClass t x sorted r class more best o →
    IsFound t x (of_class r class) o best (found_node found) → found ≡ Some f →
    (AreOrders (preferences t x) sorted after (Some f.0.now) × (length after ≡ CLASSES))
    ⊎ ((o ≡ Equal) × (after ≡ more)) →
    IsTurned t x sorted orders best lead turn → IsTurned t x sorted after (Some f.0.now) lead (turn + 1)
turned_better t x sorted r orders more after best found f lead turn class o is sorts are at search one left so =
    turned-on t x sorted orders after best (Some f.0.now) lead turn class is so (leads.row, leads.is_open)
    (λ n. go best (found_better t x (of_class r class) o best (found_node found) at.order search f.0.now same) n)
    (λ c n entry equal opens.
    found_trails t x (of_class r class) o best (found_node found)
    (λ a b row second own other. alike-class t x sorted r class a b sorts are row second own other) search f.0.now same
    n entry.row (entry-ranked t.nodes sorted r class c n are entry equal) opens) (known left) (all left)
  where
    p : Preferences
    p = preferences t x

    same : found_node found ≡ Some f.0.now
    same = ap found_node one

    leads : IsLeader t x (of_class r class) o best f.0.now
    leads = subst (λ s. IfSome s (IsLeader t x (of_class r class) o best)) same search.leads

    go : (b : Option Node) → IfSome b (λ m. is_lt (node_cmp t x f.0.now m) ≡ true) → (n : Node) → Trails t x b n →
        Trails t x (Some f.0.now) n
    go None better n past = absurd past
    go (Some b) better n past = trails_further t x b f.0.now n better past

    known : (AreOrders p sorted after (Some f.0.now) × (length after ≡ CLASSES)) ⊎ ((o ≡ Equal) × (after ≡ more)) →
        AreOrders p sorted after (Some f.0.now)
    known (inl told) = told.0
    known (inr kept) =
        subst (λ list. AreOrders p sorted list (Some f.0.now)) (sym kept.1)
        (orders-equal p sorted more best f.0.now
        (subst (λ s. IsOrder p s f.0.now best) kept.0 (at.order f.0.now leads.row leads.ranked)) at.known)

    all : (AreOrders p sorted after (Some f.0.now) × (length after ≡ CLASSES)) ⊎ ((o ≡ Equal) × (after ≡ more)) →
        length after ≡ CLASSES
    all (inl told) = told.1
    all (inr kept) = ap length kept.1 ∙ at.all

-- the node that was found is an entry of its class
pub found_entry : (t : Tables) (x : Task) (sorted : List ClassedNode) (r : Ranking) (best : Option Node)
    (found : Option (Bor Node × NodeLoad)) (f : Bor Node × NodeLoad) (class : ℕ) (o : Ordering) → AreRanked sorted r →
    IsFound t x (of_class r class) o best (found_node found) → found ≡ Some f →
    IsEntry t.nodes sorted (record { id = f.0.now.id; class = class }) f.0.now
found_entry t x sorted r best found f class o are search one =
    let leads : IsLeader t x (of_class r class) o best f.0.now =
    subst (λ s. IfSome s (IsLeader t x (of_class r class) o best)) (ap found_node one) search.leads in
    class_entry t.nodes sorted r class f.0.now are leads.row leads.ranked

-- all had their turns
pub turned_all : (t : Tables) (x : Task) (sorted : List ClassedNode) (orders : List (Option Ordering))
    (best : Option Node) (lead turn count : ℕ) → IsUsable t → AreSorted t.nodes x.template.spread sorted →
    HaveClasses count sorted → (0 < count → lead < count) → count ≤ turn →
    IsTurned t x sorted orders best lead turn → best ≡ best_node t x
turned_all t x sorted orders best lead turn count usable sorts few leads all so =
    best_is t x best usable.sound.ordered.nodes so.own each
  where
    each : (n : Node) → Has t.nodes n → is_open t x n ≡ true → Trails t x best n
    each n row opens =
        let entry = entry-of t.nodes x.template.spread sorted n sorts row in
        let small : entry.0.class < count = few.0 entry.0 entry.1.there in
        let at = turn-of lead entry.0.class count (leads (omega (arith, small))) small in
        so.trails at.0 entry.0 n (omega (arith, at.1, all)) entry.1 at.2 opens
