-- A class is gone through by rising live tasks: what ends the search, and what was found.
use Rattle.std.proofs.Common.{◌≡◌, ◌∙◌, ◌∷◌, ◌⊎◌, ℕ, Bool, List, None, Option, Some, [], ap, arith, cond, eqb, false}
use Rattle.std.proofs.Common.{find, inl, inr, is_some, refl, subst, sym, true}
use Rattle.std.proofs.lemmas.Bool.Decides.{nat_tests}
use Rattle.std.proofs.lemmas.Cmp.{nat_cmp_total, on_total, then_total, tied_itself}
use Rattle.std.specs.Borrow.{Bor}
use Rattle.std.specs.Cmp.{IsTotalOrder}
use Rattle.std.specs.Option.{option_copied}
use Rattle.std.specs.Ordering.{is_lt, nat_cmp, ordering_reverse, ordering_then}
use Rattle.std.specs.Prelude.{IfSome, ◌&&◌, ◌==◌, ◌↔◌}
use Rattle.std.specs.declared.cmp.Ordering.TheVariants.{Equal, Greater, Less}
use Rattle.std.specs.declared.cmp.Ordering.{Ordering}
use Rattle.swarm_filters.specs.Tested.{is_open}
use Rattle.swarm_objects.proofs.RowLemmas.{Has-from_row_at, row_at-Some}
use Rattle.swarm_objects.proofs.Tests.{both_are, never-both}
use Rattle.swarm_objects.specs.Nodes.BestNode.{load}
use Rattle.swarm_objects.specs.Nodes.Filters.{here}
use Rattle.swarm_objects.specs.Rows.{Has, RisesFrom, has_row, node_id, row_at}
use Rattle.swarm_objects.specs.World.{Tables}
use Rattle.swarm_objects.specs.declared.nodes.Node.{Node}
use Rattle.swarm_objects.specs.declared.tasks.Task.{Task}
use Rattle.swarm_sched.proofs.LastRefusing.{refused_shut}
use Rattle.swarm_sched.proofs.Ordering.{is-less, not-before}
use Rattle.swarm_sched.specs.Inside.ClassSearch.{IsBehind, IsBetter, IsLed, IsPassed, found_node}
use Rattle.swarm_sched.specs.Inside.KnownRefusals.{IsRefused, KnowsOwn, Refusals}
use Rattle.swarm_sched.specs.Inside.Placing.{IsNodeLoad, comes_first}
use Rattle.swarm_sched.specs.Inside.Ranks.{AreCurrent, IsFound, IsLeader, IsPast}
use Rattle.swarm_sched.specs.declared.class_search.Leader.{Leader}
use Rattle.swarm_sched.specs.declared.placing.NodeLoad.{NodeLoad}
use Rattle.swarm_timers.specs.Timers.{AreInOrder, Timer, time_cmp, timer_owner}

-- Nodes of equal preferences.

-- by their tasks and their ids
abbrev by_tasks : Tables → ℕ → ℕ → ℕ → Ordering
by_tasks t service n m =
    ordering_then (nat_cmp (here t n service) (here t m service))
    (ordering_then (nat_cmp (load t n) (load t m)) (nat_cmp n m))

tasks_total : (t : Tables) (service : ℕ) → IsTotalOrder (by_tasks t service)
tasks_total t service =
    then_total (on_total (λ n. here t n service) nat_cmp_total)
    (then_total (on_total (load t) nat_cmp_total) nat_cmp_total)

time_total : IsTotalOrder time_cmp
time_total = then_total (on_total (λ p. p.0) nat_cmp_total) (on_total (λ p. p.1) nat_cmp_total)

-- what doesn't come before the leader doesn't come before what does
further : (t : Tables) (service : ℕ) (o : Ordering) (lead : Option Node) (f : Node) (n : ℕ) →
    comes_first t service o f.id lead ≡ true → comes_first t service o n lead ≡ false →
    comes_first t service Equal n (Some f) ≡ false
further t service o None f n better past = let both : true ≡ false = past in absurd cc
further t service Less (Some b) f n better past = let both : true ≡ false = past in absurd cc
further t service Equal (Some b) f n better past =
    not-before (by_tasks t service) b.id f.id n (tasks_total t service) better past
further t service Greater (Some b) f n better past = let both : false ≡ true = better in absurd cc

-- what comes before something comes before what that does
sooner : (t : Tables) (service : ℕ) (o : Ordering) (best : Option Node) (f : Node) (n : ℕ) →
    comes_first t service o f.id best ≡ true → comes_first t service Equal n (Some f) ≡ true →
    comes_first t service o n best ≡ true
sooner t service o None f n one two = refl
sooner t service Less (Some b) f n one two = refl
sooner t service Equal (Some b) f n one two =
    ap is_lt ((tasks_total t service).trans n f.id b.id (is-less (by_tasks t service n f.id) two)
    (is-less (by_tasks t service f.id b.id) one))
sooner t service Greater (Some b) f n one two = let both : false ≡ true = one in absurd cc

-- no node comes before itself
not-itself : (t : Tables) (service : ℕ) (f : Node) (n : ℕ) → n ≡ f.id → comes_first t service Equal n (Some f) ≡ false
not-itself t service f n same =
    ap (λ k. is_lt (by_tasks t service k f.id)) same ∙ ap is_lt (tied_itself (tasks_total t service) f.id)

-- One node.

-- what a filter refuses isn't open
pub passed_refused : (t : Tables) (x : Task) (o : Ordering) (lead : Option Node) (id : ℕ) (group : Option Refusals) →
    KnowsOwn t x group → IsRefused group id → IsPassed t x o lead id
passed_refused t x o lead id group own is = record {
  each = λ n row same opens.
      never-both (is_open t x n) (refused_shut t x n group row own (subst (IsRefused group) (sym same) is)) opens;
}

pub passed_nowhere : (t : Tables) (x : Task) (o : Ordering) (lead : Option Node) (id : ℕ) →
    RisesFrom node_id 0 t.nodes → row_at node_id id t.nodes ≡ None → IsPassed t x o lead id
passed_nowhere t x o lead id rising none = record {
  each = λ n row same opens.
      let both : Some n ≡ None =
      sym (row_at-Some node_id 0 t.nodes n rising row) ∙ ap (λ k. row_at node_id k t.nodes) same ∙ none in
      absurd cc;
}

pub passed_worse : (t : Tables) (x : Task) (o : Ordering) (lead : Option Node) (id : ℕ) (m : Node) →
    RisesFrom node_id 0 t.nodes → row_at node_id id t.nodes ≡ Some m →
    (is_open t x m && comes_first t x.service o m.id lead) ≡ false → IsPassed t x o lead id
passed_worse t x o lead id m rising found worse = record {
  each = λ n row same opens.
      let both : Some n ≡ Some m =
      sym (row_at-Some node_id 0 t.nodes n rising row) ∙ ap (λ k. row_at node_id k t.nodes) same ∙ found in
      let one : n ≡ m = cc in
      ap (λ k. comes_first t x.service o k.id lead) one
      ∙ sym (ap (λ b. b && comes_first t x.service o m.id lead) (ap (is_open t x) (sym one) ∙ opens)) ∙ worse;
}

pub better_is : (t : Tables) (x : Task) (o : Ordering) (lead : Option Node) (id : ℕ) (m : Node) →
    row_at node_id id t.nodes ≡ Some m → (is_open t x m && comes_first t x.service o m.id lead) ≡ true →
    IsBetter t x o lead id m
better_is t x o lead id m found better =
    let from = Has-from_row_at node_id id t.nodes m found in
    let parts = both_are (is_open t x m) (comes_first t x.service o m.id lead) better in
    record { row = from.0; same = from.1; is_open = parts.0; first = parts.1 }

-- The nodes of the class, so far.

-- these are left, in order: of the others none comes before what was found
pub record IsSearching (t : Tables) (x : Task) (ranks : List Timer) (spread : Ordering) (best found : Option Node)
    (left : List (ℕ × ℕ)) : Type 0 where
  pub leads : IfSome found (IsLeader t x ranks spread best)
  pub others : (n : Node) → Has t.nodes n → has_row timer_owner n.id ranks ≡ true → is_open t x n ≡ true →
      Has left (load t n.id, n.id) ⊎ IsPast t x.service spread best found n.id
  pub own : (p : ℕ × ℕ) → Has left p → (p.0 ≡ load t p.1) × (has_row timer_owner p.1 ranks ≡ true)
  pub order : AreInOrder left

pub has_found : {X : Type 0} (o : Option X) → is_some o ≡ true → (x : X) × (o ≡ Some x)
has_found None is = let both : false ≡ true = is in absurd cc
has_found (Some x) is = (x, refl)

found_has : (ranks : List Timer) (m : Timer) → Has ranks m → has_row timer_owner m.owner ranks ≡ true
found_has [] m h = absurd h
found_has (k ∷ ranks) m (inl e) = grind (arith, nat_tests, e)
found_has (k ∷ ranks) m (inr h) = go (eqb k.owner m.owner) (found_has ranks m h)
  where
    go : (b : Bool) → is_some (find (λ r. timer_owner r == m.owner) ranks) ≡ true →
        is_some (cond b (Some k) (find (λ r. timer_owner r == m.owner) ranks)) ≡ true
    go true more = refl
    go false more = more

pub searching_first : (t : Tables) (x : Task) (ranks : List Timer) (spread : Ordering) (best : Option Node)
    (pairs left : List (ℕ × ℕ)) → left ≡ pairs → AreCurrent t ranks →
    ((at owner : ℕ) → Has pairs (at, owner) ↔ Has ranks (record { owner = owner; at = at })) → AreInOrder pairs →
    IsSearching t x ranks spread best None left
searching_first t x ranks spread best pairs left is current all order =
    subst (IsSearching t x ranks spread best None) (sym is) (record {
      leads = tt;
      others = λ n row ranked opens.
          let found = has_found (row_at timer_owner n.id ranks) ranked in
          let from = Has-from_row_at timer_owner n.id ranks found.0 found.1 in
          let at : found.0.at ≡ load t n.id = current.each found.0 from.0 ∙ ap (load t) from.1 in
          inl (subst (Has pairs) (ap (λ k. (k, found.0.owner)) at ∙ ap (λ k. (load t n.id, k)) from.1)
          ((all found.0.at found.0.owner).1 from.0));
      own = λ p h.
          let there : Has ranks (record { owner = p.1; at = p.0 }) = (all p.0 p.1).0 h in
          (current.each (record { owner = p.1; at = p.0 }) there, found_has ranks (record { owner = p.1; at = p.0 }) there);
      order = order;
    })

-- any one
pub first_there : (ranks : List Timer) (left rest : List (ℕ × ℕ)) (p : ℕ × ℕ) → left ≡ p ∷ rest →
    ((at owner : ℕ) → Has left (at, owner) ↔ Has ranks (record { owner = owner; at = at })) →
    has_row timer_owner p.1 ranks ≡ true
first_there ranks left rest p is all =
    found_has ranks (record { owner = p.1; at = p.0 }) ((all p.0 p.1).0 (subst (λ l. Has l p) (sym is) (inl refl)))

pub none_there : (ranks : List Timer) (left : List (ℕ × ℕ)) → left ≡ [] →
    ((at owner : ℕ) → Has left (at, owner) ↔ Has ranks (record { owner = owner; at = at })) → ranks ≡ []
none_there [] left none all = refl
none_there (m ∷ ranks) left none all =
    absurd (subst (λ l. Has l (m.at, m.owner)) none ((all m.at m.owner).1 (inl refl)))

-- all are gone through
pub searching_all : (t : Tables) (x : Task) (ranks : List Timer) (spread : Ordering) (best found : Option Node)
    (left : List (ℕ × ℕ)) → left ≡ [] → IsSearching t x ranks spread best found left →
    IsFound t x ranks spread best found
searching_all t x ranks spread best found left none so = record {
  leads = so.leads;
  others = λ n row ranked opens. elim (so.others n row ranked opens) [
    | inl h ↦ absurd (subst (λ l. Has l (load t n.id, n.id)) none h)
    | inr past ↦ past
  ];
}

-- What leads.

lead-past : (t : Tables) (service : ℕ) (first l : Leader) (found : Option (Bor Node × NodeLoad)) (n : ℕ) →
    IsLed first found l → IsPast t service first.standing.spread (option_copied first.node) (found_node found) n →
    comes_first t service l.standing.spread n (option_copied l.node) ≡ false
lead-past t service first l None n led past =
    subst (λ (k : Leader). comes_first t service k.standing.spread n (option_copied k.node) ≡ false) (sym led) past
lead-past t service first l (Some r) n led past =
    subst (λ (k : Leader). comes_first t service k.standing.spread n (option_copied k.node) ≡ false) (sym led) past

past-lead : (t : Tables) (service : ℕ) (first l : Leader) (found : Option (Bor Node × NodeLoad)) (n : ℕ) →
    IsLed first found l → comes_first t service l.standing.spread n (option_copied l.node) ≡ false →
    IsPast t service first.standing.spread (option_copied first.node) (found_node found) n
past-lead t service first l None n led past =
    subst (λ (k : Leader). comes_first t service k.standing.spread n (option_copied k.node) ≡ false) led past
past-lead t service first l (Some r) n led past =
    subst (λ (k : Leader). comes_first t service k.standing.spread n (option_copied k.node) ≡ false) led past

pub lead_held : (t : Tables) (service : ℕ) (first l : Leader) (found : Option (Bor Node × NodeLoad)) →
    IsLed first found l → IfSome first.node (λ b. IsNodeLoad t b.now.id service first.held) →
    IfSome found (λ r. IsNodeLoad t r.0.now.id service r.1) →
    IfSome l.node (λ b. IsNodeLoad t b.now.id service l.held)
lead_held t service first l None led own more =
    subst (λ (k : Leader). IfSome k.node (λ b. IsNodeLoad t b.now.id service k.held)) (sym led) own
lead_held t service first l (Some r) led own more =
    subst (λ (k : Leader). IfSome k.node (λ b. IsNodeLoad t b.now.id service k.held)) (sym led) more

pub lead_none : (first l : Leader) (found : Option (Bor Node × NodeLoad)) → IsLed first found l →
    l.standing.has_none ≡ first.standing.has_none
lead_none first l None led = ap (λ (k : Leader). k.standing.has_none) led
lead_none first l (Some r) led = ap (λ (k : Leader). k.standing.has_none) led

lead-first : (t : Tables) (x : Task) (ranks : List Timer) (first l : Leader) (found : Option (Bor Node × NodeLoad))
    (n : ℕ) → IsLed first found l →
    IfSome (found_node found) (IsLeader t x ranks first.standing.spread (option_copied first.node)) →
    comes_first t x.service l.standing.spread n (option_copied l.node) ≡ true →
    comes_first t x.service first.standing.spread n (option_copied first.node) ≡ true
lead-first t x ranks first l None n led leads better =
    subst (λ (k : Leader). comes_first t x.service k.standing.spread n (option_copied k.node) ≡ true) led better
lead-first t x ranks first l (Some r) n led leads better =
    sooner t x.service first.standing.spread (option_copied first.node) r.0.now n leads.first
    (subst (λ (k : Leader). comes_first t x.service k.standing.spread n (option_copied k.node) ≡ true) led better)

-- One node more.

-- as far as they are gone through, by what the leader is
abbrev pub IsSearchingBy : Tables → Task → List Timer → Leader → Option Node → List (ℕ × ℕ) → Type 0
IsSearchingBy t x ranks first found left =
    IsSearching t x ranks first.standing.spread (option_copied first.node) found left

ranked-here : (ranks : List Timer) (n : Node) (p : ℕ × ℕ) → n.id ≡ p.1 → has_row timer_owner p.1 ranks ≡ true →
    has_row timer_owner n.id ranks ≡ true
ranked-here ranks n p same own = ap (λ k. has_row timer_owner k ranks) same ∙ own

pub searching_found : (t : Tables) (x : Task) (ranks : List Timer) (first l : Leader)
    (found : Option (Bor Node × NodeLoad)) (left rest : List (ℕ × ℕ)) (p : ℕ × ℕ) (f : Node) → left ≡ p ∷ rest →
    IsLed first found l → IsBetter t x l.standing.spread (option_copied l.node) p.1 f →
    IsSearchingBy t x ranks first (found_node found) left → IsSearchingBy t x ranks first (Some f) rest
searching_found t x ranks first l found left rest p f is led better was = record {
  leads = record {
    row = better.row;
    ranked = ranked-here ranks f p better.same (so.own p (inl refl)).1;
    is_open = better.is_open;
    first = lead-first t x ranks first l found f.id led so.leads better.first;
  };
  others = λ n row ranked opens. elim (so.others n row ranked opens) [
    | inl (inl e) ↦
        inr (not-itself t x.service f n.id (sym (ap (λ (q : ℕ × ℕ). q.1) e) ∙ sym better.same))
    | inl (inr h) ↦ inl h
    | inr past ↦
        inr (further t x.service l.standing.spread (option_copied l.node) f n.id better.first
        (lead-past t x.service first l found n.id led past))
  ];
  own = λ q h. so.own q (inr h);
  order = so.order.1;
}
  where
    so : IsSearchingBy t x ranks first (found_node found) (p ∷ rest)
    so = subst (IsSearchingBy t x ranks first (found_node found)) is was

pub searching_none : (t : Tables) (x : Task) (ranks : List Timer) (first l : Leader)
    (found : Option (Bor Node × NodeLoad)) (left rest : List (ℕ × ℕ)) (p : ℕ × ℕ) → left ≡ p ∷ rest →
    IsLed first found l → IsPassed t x l.standing.spread (option_copied l.node) p.1 →
    IsSearchingBy t x ranks first (found_node found) left → IsSearchingBy t x ranks first (found_node found) rest
searching_none t x ranks first l found left rest p is led passed was = record {
  leads = so.leads;
  others = λ n row ranked opens. elim (so.others n row ranked opens) [
    | inl (inl e) ↦
        inr (past-lead t x.service first l found n.id led
        (passed.each n row (sym (ap (λ (q : ℕ × ℕ). q.1) e)) opens))
    | inl (inr h) ↦ inl h
    | inr past ↦ inr past
  ];
  own = λ q h. so.own q (inr h);
  order = so.order.1;
}
  where
    so : IsSearchingBy t x ranks first (found_node found) (p ∷ rest)
    so = subst (IsSearchingBy t x ranks first (found_node found)) is was

not-back : (p q : ℕ × ℕ) → is_lt (time_cmp p q) ≡ true → is_lt (time_cmp q p) ≡ false
not-back p q lt =
    ap is_lt (time_total.antisymm q p ∙ ap ordering_reverse (is-less (time_cmp p q) lt))

-- the leader ends the search
pub searching_ends : (t : Tables) (x : Task) (ranks : List Timer) (first l : Leader)
    (found : Option (Bor Node × NodeLoad)) (left rest : List (ℕ × ℕ)) (p : ℕ × ℕ) → left ≡ p ∷ rest →
    IsLed first found l → IsBehind (option_copied l.node) l.held l.standing.spread p.0 p.1 →
    IfSome l.node (λ b. IsNodeLoad t b.now.id x.service l.held) →
    IsSearchingBy t x ranks first (found_node found) left →
    IsFound t x ranks first.standing.spread (option_copied first.node) (found_node found)
searching_ends t x ranks first l found left rest p is led behind held was = record {
  leads = so.leads;
  others = λ n row ranked opens. elim (so.others n row ranked opens) [
    | inl h ↦ past-lead t x.service first l found n.id led (late n l.node held behind (later n h))
    | inr past ↦ past
  ];
}
  where
    so : IsSearchingBy t x ranks first (found_node found) (p ∷ rest)
    so = subst (IsSearchingBy t x ranks first (found_node found)) is was

    later : (n : Node) → Has (p ∷ rest) (load t n.id, n.id) → is_lt (time_cmp (load t n.id, n.id) p) ≡ false
    later n (inl e) =
        ap (λ q. is_lt (time_cmp q p)) (sym e) ∙ ap is_lt (tied_itself time_total p)
    later n (inr h) = not-back p (load t n.id, n.id) (so.order.0 (load t n.id, n.id) h)

    late : (n : Node) (o : Option (Bor Node)) → IfSome o (λ b. IsNodeLoad t b.now.id x.service l.held) →
        IsBehind (option_copied o) l.held l.standing.spread p.0 p.1 →
        is_lt (time_cmp (load t n.id, n.id) p) ≡ false →
        comes_first t x.service l.standing.spread n.id (option_copied o) ≡ false
    late n None own out after = absurd out
    late n (Some b) own out after =
        ap
        (λ k. is_lt (ordering_then l.standing.spread (ordering_then (nat_cmp (here t n.id x.service) k)
        (ordering_then (nat_cmp (load t n.id) (load t b.now.id)) (nat_cmp n.id b.now.id))))) (sym own.1)
        ∙ ap
        (λ k. is_lt (ordering_then l.standing.spread (ordering_then (nat_cmp (here t n.id x.service) l.held.here)
        (ordering_then (nat_cmp (load t n.id) k) (nat_cmp n.id b.now.id))))) (sym own.0)
        ∙ out (here t n.id x.service) (load t n.id) n.id after
