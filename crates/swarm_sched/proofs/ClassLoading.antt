-- Tasks counted class by class: task by task, and that a class is a branch.
use Rattle.std.proofs.Common.{◌≡◌, ◌∙◌, ◌+◌, ◌<◌, ◌≤◌, ◌∷◌, ◌⊎◌, ℕ, Bool, List, None, Option, Some, [], ap, arith}
use Rattle.std.proofs.Common.{cond, eqb, false, get_or, inl, inr, length, map, refl, replicate, set, subst, sym, true}
use Rattle.std.proofs.lemmas.Bool.Decides.{nat_tests}
use Rattle.std.proofs.lemmas.List.Sums.{count_by-le-length, sum_by-cons}
use Rattle.std.proofs.lemmas.List.{get_or-replicate, get_or-set_other, get_or-set_same, length-set}
use Rattle.std.specs.List.{list_any}
use Rattle.std.specs.Option.{option_eq}
use Rattle.std.specs.Prelude.{IsTrue, count_by, filter, is_some, ◌&&◌, ◌^◌, ◌||◌}
use Rattle.swarm_objects.proofs.Few.{few_among}
use Rattle.swarm_objects.proofs.RowLemmas.{Has-from_row_at, row_at-Some}
use Rattle.swarm_objects.proofs.Tests.{both_are, same_test}
use Rattle.swarm_objects.proofs.WalkLemmas.{count_by_no, count_by_yes}
use Rattle.swarm_objects.specs.Nodes.BestNode.{agrees, branch_load}
use Rattle.swarm_objects.specs.Nodes.Filters.{here}
use Rattle.swarm_objects.specs.Nodes.Holdings.{is_placed_on}
use Rattle.swarm_objects.specs.Rows.{is_row_and, is_some_and, node_id, row_at}
use Rattle.swarm_objects.specs.Same.{same_number}
use Rattle.swarm_objects.specs.Tasks.Words.{is_live, is_of, is_on, is_placed}
use Rattle.swarm_objects.specs.Usable.{IsUsable}
use Rattle.swarm_objects.specs.World.{Tables}
use Rattle.swarm_objects.specs.declared.nodes.Node.{Node}
use Rattle.swarm_objects.specs.declared.tasks.Task.{Task}
use Rattle.swarm_objects.specs.declared.templates.Key.{Key}
use Rattle.swarm_sched.proofs.Branching.{at_place, branch_is}
use Rattle.swarm_sched.proofs.Halving.{entries_rise}
use Rattle.swarm_sched.specs.Inside.Branches.{Preferences, is_of_branch}
use Rattle.swarm_sched.specs.Inside.ClassLoads.{AreCounting, AreLoads, AreMost, class_of_node, class_or_none}
use Rattle.swarm_sched.specs.Inside.ClassLoads.{is_of_class, task_class}
use Rattle.swarm_sched.specs.Inside.Classes.{AreFew, AreSorted, IsEntry, entry_id}
use Rattle.swarm_sched.specs.declared.classes.ClassedNode.{ClassedNode}
use Rattle.swarm_sched.specs.declared.classes.TheConstants.{CLASSES}

-- A task's class is one of so many.

pub entry_few : (sorted : List ClassedNode) (node : ℕ) (c : ClassedNode) → AreFew sorted →
    Some c ≡ row_at entry_id node sorted → c.class < CLASSES
entry_few sorted node c few is = few c (Has-from_row_at entry_id node sorted c (sym is)).0

-- Task by task.

pub counting_none : (sorted : List ClassedNode) (tasks left : List Task) → left ≡ tasks →
    AreCounting sorted tasks left (replicate CLASSES 0)
counting_none sorted tasks left all = record {
  each = λ k lt. omega (arith, get_or-replicate {A = ℕ} CLASSES k 0 0 lt, ap (count_by (is_of_class sorted k)) all);
  fits = λ k lt. omega (arith, get_or-replicate {A = ℕ} CLASSES k 0 0 lt, ap length all);
  all = refl;
}

pub counting_past : (sorted : List ClassedNode) (tasks from left : List Task) (loads : List ℕ) (x : Task) →
    AreCounting sorted tasks from loads → from ≡ x ∷ left → None ≡ task_class sorted x →
    AreCounting sorted tasks left loads
counting_past sorted tasks from left loads x so step none =
    let at : AreCounting sorted tasks (x ∷ left) loads = subst (λ l. AreCounting sorted tasks l loads) step so in
    record {
      each = λ k lt.
          omega (
            arith,
            at.each k lt,
            count_by_no (is_of_class sorted k) x left (ap (λ o. option_eq same_number o (Some k)) (sym none)),
          );
      fits = λ k lt. omega (arith, at.fits k lt);
      all = at.all;
    }

decide : (a b : ℕ) → (a ≡ b) ⊎ (a ≡ b → ⊥)
decide a b = go (eqb a b) refl
  where
    go : (c : Bool) → eqb a b ≡ c → (a ≡ b) ⊎ (a ≡ b → ⊥)
    go true is = inl (grind (arith, nat_tests, is))
    go false is = inr (λ e. grind (arith, nat_tests, is, e))

pub counting_one : (sorted : List ClassedNode) (tasks from left : List Task) (loads : List ℕ) (x : Task) (class : ℕ) →
    AreCounting sorted tasks from loads → from ≡ x ∷ left → Some class ≡ task_class sorted x → class < CLASSES →
    AreCounting sorted tasks left (set loads class (get_or loads class 0 + 1))
counting_one sorted tasks from left loads x class so step is small =
    let at : AreCounting sorted tasks (x ∷ left) loads = subst (λ l. AreCounting sorted tasks l loads) step so in
    record {
      each = λ k lt. each at k lt (decide k class);
      fits = λ k lt. fits at k lt (decide k class);
      all = length-set loads class (get_or loads class 0 + 1) ∙ at.all;
    }
  where
    after : List ℕ
    after = set loads class (get_or loads class 0 + 1)

    own : (at : AreCounting sorted tasks (x ∷ left) loads) → (k : ℕ) → k ≡ class →
        get_or after k 0 ≡ get_or loads k 0 + 1
    own at k same =
        ap (λ j. get_or after j 0) same
        ∙ get_or-set_same loads class (get_or loads class 0 + 1) 0 (omega (arith, small, at.all))
        ∙ ap (λ j. get_or loads j 0 + 1) (sym same)

    other : (k : ℕ) → (k ≡ class → ⊥) → get_or after k 0 ≡ get_or loads k 0
    other k differs = get_or-set_other loads class k (get_or loads class 0 + 1) 0 differs

    test : (k : ℕ) → is_of_class sorted k x ≡ eqb class k
    test k = ap (λ o. option_eq same_number o (Some k)) (sym is)

    each : AreCounting sorted tasks (x ∷ left) loads → (k : ℕ) → k < CLASSES → (k ≡ class) ⊎ (k ≡ class → ⊥) →
        get_or after k 0 + count_by (is_of_class sorted k) left ≡ count_by (is_of_class sorted k) tasks
    each at k lt (inl same) =
        let counts : eqb class k ≡ true = grind (arith, nat_tests, same) in
        omega (arith, at.each k lt, own at k same, count_by_yes (is_of_class sorted k) x left (test k ∙ counts))
    each at k lt (inr differs) =
        let counts : eqb class k ≡ false = apart (eqb class k) refl in
        omega (arith, at.each k lt, other k differs, count_by_no (is_of_class sorted k) x left (test k ∙ counts))
      where
        apart : (b : Bool) → eqb class k ≡ b → b ≡ false
        apart true e = let same : k ≡ class = grind (arith, nat_tests, e) in absurd (differs same)
        apart false e = refl

    fits : AreCounting sorted tasks (x ∷ left) loads → (k : ℕ) → k < CLASSES → (k ≡ class) ⊎ (k ≡ class → ⊥) →
        get_or after k 0 + length left ≤ length tasks
    fits at k lt (inl same) = omega (arith, at.fits k lt, own at k same)
    fits at k lt (inr differs) = omega (arith, at.fits k lt, other k differs)

pub counting_fits : (t : Tables) (service : ℕ) (sorted : List ClassedNode) (from left : List Task) (loads : List ℕ)
    (x : Task)
    (class : ℕ) → IsUsable t → AreCounting sorted (filter (is_of service) t.tasks) from loads → from ≡ x ∷ left →
    class < CLASSES → get_or loads class 0 + 1 < 2 ^ 64
counting_fits t service sorted from left loads x class usable so step small =
    omega (arith, so.fits class small, ap length step, few_among t (is_of service) usable)

pub counting_all : (sorted : List ClassedNode) (tasks left : List Task) (loads : List ℕ) →
    AreCounting sorted tasks left loads → left ≡ [] → AreLoads sorted tasks loads
counting_all sorted tasks left loads so none = record {
  each = λ k lt. omega (arith, so.each k lt, ap (count_by (is_of_class sorted k)) none);
  all = so.all;
}

-- A class is a branch.

named : {X : Type 0} (key : X → ℕ) (k : ℕ) (rows : List X) →
    is_some (row_at key k rows) ≡ list_any (λ i. eqb i k) (map key rows)
named key k [] = refl
named key k (x ∷ rows) = go (eqb (key x) k) (named key k rows)
  where
    go : (b : Bool) → is_some (row_at key k rows) ≡ list_any (λ i. eqb i k) (map key rows) →
        is_some (cond b (Some x) (row_at key k rows)) ≡ (b || list_any (λ i. eqb i k) (map key rows))
    go true rest = refl
    go false rest = rest

class-branch : (t : Tables) (keys : List Key) (sorted : List ClassedNode) (c : ClassedNode) (n : Node) (x : Task) →
    AreSorted t.nodes keys sorted → (keys ≡ [] → ⊥) → IsEntry t.nodes sorted c n →
    is_of_class sorted c.class x ≡ is_of_branch t keys n x
class-branch t keys sorted c n x are some entry = go (is_live x) (is_placed x) x.node
  where
    both : (node : ℕ) (r : Option ClassedNode) → row_at entry_id node sorted ≡ r → (s : Option Node) →
        row_at node_id node t.nodes ≡ s → is_some r ≡ is_some s →
        option_eq same_number (class_or_none r) (Some c.class) ≡ is_some_and (agrees keys n) s
    both node None at None on same = refl
    both node None at (Some m) on same = let differ : false ≡ true = same in absurd cc
    both node (Some e) at None on same = let differ : true ≡ false = same in absurd cc
    both node (Some e) at (Some m) on same =
        let first = Has-from_row_at entry_id node sorted e at in
        let second = Has-from_row_at node_id node t.nodes m on in
        let own : IsEntry t.nodes sorted e m =
        record { there = first.0; row = second.0; same = second.1 ∙ sym first.1 } in
        same_test (eqb e.class c.class) (agrees keys n m)
        (λ one. let class : c.class ≡ e.class = grind (arith, nat_tests, one) in are.alike c e n m entry own class)
        (λ alike. let class : c.class ≡ e.class = are.apart some c e n m entry own alike in grind
        (arith, nat_tests, class))

    go : (a b : Bool) (o : Option ℕ) →
        option_eq same_number (cond (a && b) (class_of_node sorted o) None) (Some c.class)
        ≡ (a && b && is_some_and (is_row_and node_id (agrees keys n) t.nodes) o)
    go false b o = refl
    go true false o = refl
    go true true None = refl
    go true true (Some node) =
        both node (row_at entry_id node sorted) refl (row_at node_id node t.nodes) refl
        (named entry_id node sorted ∙ ap (list_any (λ i. eqb i node)) are.ids ∙ sym (named node_id node t.nodes))

pub told_load : (t : Tables) (service : ℕ) (keys : List Key) (sorted : List ClassedNode) (loads : List ℕ)
    (c : ClassedNode) (n : Node) → IsUsable t → AreSorted t.nodes keys sorted → (keys ≡ [] → ⊥) →
    AreLoads sorted (filter (is_of service) t.tasks) loads → IsEntry t.nodes sorted c n →
    get_or loads c.class 0 ≡ branch_load t service keys n
told_load t service keys sorted loads c n usable are some so entry =
    so.each c.class (are.few c entry.there)
    ∙ (λ i. count_by (λ x. class-branch t keys sorted c n x are some entry i) (filter (is_of service) t.tasks))
    ∙ branch_is t service keys n usable.sound.ordered.nodes

-- the same at the row of an entry, for the preferences that branches are counted by
pub told_at : (t : Tables) (p : Preferences) (sorted : List ClassedNode) (loads : List ℕ) (i : ℕ) (d : ClassedNode)
    (n : Node) →
    IsUsable t → p.tables ≡ t → AreSorted t.nodes p.keys sorted → (p.keys ≡ [] → ⊥) →
    AreLoads sorted (filter (is_of p.service) t.tasks) loads → i < length sorted →
    row_at node_id (get_or sorted i d).id t.nodes ≡ Some n →
    get_or loads (get_or sorted i d).class 0 ≡ branch_load p.tables p.service p.keys n
told_at t p sorted loads i d n usable same are some so lt row =
    let at = Has-from_row_at node_id (get_or sorted i d).id t.nodes n row in
    told_load t p.service p.keys sorted loads (get_or sorted i d) n usable are some so
    (record { there = at_place sorted i d lt; row = at.0; same = at.1 })
    ∙ ap (λ u. branch_load u p.service p.keys n) (sym same)

pub place_few : (nodes : List Node) (keys : List Key) (sorted : List ClassedNode) (i : ℕ) (d : ClassedNode) →
    AreSorted nodes keys sorted → i < length sorted → (get_or sorted i d).class < CLASSES
place_few nodes keys sorted i d are lt = are.few (get_or sorted i d) (at_place sorted i d lt)

-- Where none of the service's tasks counts in a class, none is on its nodes.

count-among : {X : Type 0} (p q r : X → Bool) (xs : List X) →
    ((x : X) → p x ≡ true → (r x ≡ true) × (q x ≡ true)) → count_by p xs ≤ count_by q (filter r xs)
count-among p q r [] each = omega arith
count-among p q r (x ∷ xs) each = go (p x) refl (r x) refl (count-among p q r xs each)
  where
    go : (a : Bool) → p x ≡ a → (b : Bool) → r x ≡ b → count_by p xs ≤ count_by q (filter r xs) →
        count_by p (x ∷ xs) ≤ count_by q (cond b (x ∷ filter r xs) (filter r xs))
    go true e true f rest =
        omega (arith, count_by_yes p x xs e, count_by_yes q x (filter r xs) (each x e).1, rest)
    go true e false f rest = let differ : false ≡ true = sym f ∙ (each x e).0 in absurd cc
    go false e true f rest =
        omega (arith, count_by_no p x xs e, sum_by-cons (λ y. cond (q y) 1 0) x (filter r xs), rest)
    go false e false f rest = omega (arith, count_by_no p x xs e, rest)

pub most_all : (t : Tables) (service : ℕ) (sorted : List ClassedNode) (n : ℕ) → IsUsable t → 2 ^ 60 ≤ n →
    AreMost sorted (filter (is_of service) t.tasks) (replicate CLASSES n)
most_all t service sorted n usable many = record {
  each = λ k lt.
      omega (
        arith,
        many,
        few_among t (is_of service) usable,
        count_by-le-length (is_of_class sorted k) (filter (is_of service) t.tasks),
        get_or-replicate {A = ℕ} CLASSES k n 0 lt,
      );
  all = refl;
}

pub most_of : (sorted : List ClassedNode) (tasks : List Task) (loads : List ℕ) → AreLoads sorted tasks loads →
    AreMost sorted tasks loads
most_of sorted tasks loads so = record { each = λ k lt. omega (arith, so.each k lt); all = so.all }

pub none_here : (t : Tables) (service : ℕ) (keys : List Key) (sorted : List ClassedNode) (most : List ℕ)
    (c : ClassedNode) (n : Node) → IsUsable t → AreSorted t.nodes keys sorted →
    AreMost sorted (filter (is_of service) t.tasks) most → IsEntry t.nodes sorted c n →
    IsTrue (eqb (get_or most c.class 0) 0) → here t n.id service ≡ 0
none_here t service keys sorted most c n usable are so entry zero =
    omega (
      arith,
      none,
      so.each c.class (are.few c entry.there),
      count-among (λ x. is_of service x && is_live x && is_placed_on n.id x) (is_of_class sorted c.class)
          (is_of service) t.tasks counts,
    )
  where
    none : get_or most c.class 0 ≡ 0
    none = grind (arith, nat_tests, zero)

    found : row_at entry_id n.id sorted ≡ Some c
    found =
        ap (λ k. row_at entry_id k sorted) entry.same
        ∙ row_at-Some entry_id 0 sorted c (entries_rise 0 sorted t.nodes are.ids usable.sound.ordered.nodes) entry.there

    own : (k : ℕ) → option_eq same_number (Some k) (Some k) ≡ true
    own k = grind (arith, nat_tests)

    of-class : (a b : Bool) (o : Option ℕ) → a ≡ true → b ≡ true → option_eq same_number o (Some n.id) ≡ true →
        option_eq same_number (cond (a && b) (class_of_node sorted o) None) (Some c.class) ≡ true
    of-class false b o live placed on = absurd cc
    of-class true false o live placed on = absurd cc
    of-class true true None live placed on = absurd cc
    of-class true true (Some k) live placed on =
        let same : k ≡ n.id = grind (arith, nat_tests, on) in
        ap (λ r. option_eq same_number (class_or_none r) (Some c.class))
        (ap (λ j. row_at entry_id j sorted) same ∙ found)
        ∙ own c.class

    counts : (x : Task) → (is_of service x && is_live x && is_placed_on n.id x) ≡ true →
        (is_of service x ≡ true) × (is_of_class sorted c.class x ≡ true)
    counts x is =
        let parts = both_are (is_of service x && is_live x) (is_placed_on n.id x) is in
        let first = both_are (is_of service x) (is_live x) parts.0 in
        let second = both_are (is_placed x) (is_on n.id x) parts.1 in
        (first.0, of-class (is_live x) (is_placed x) x.node first.1 second.0 second.1)
