-- Nodes sorted into classes: node by node, and what changes of rows leave of them.
use Rattle.std.proofs.lemmas.Bool.Decides.{nat_tests}
use Rattle.std.proofs.lemmas.List.Sums.{fails_before_first}
use Rattle.std.specs.List.{position_or_len}
use Rattle.std.proofs.Common.{None, ltb, ◌≡◌, ◌∙◌, ◌+◌, ◌<◌, ◌≤◌, ◌∷◌, ◌⊎◌, ℕ, Bool, List, Option, Some, [], ap, arith}
use Rattle.std.proofs.Common.{cond, false, get_or, inl, inr, length, length-append, map, refl, subst, suc, sym, true}
use Rattle.std.proofs.lemmas.List.Quantifiers.{position-Some}
use Rattle.std.proofs.lemmas.List.{append-nil, get_or_append_left, get_or_default}
use Rattle.std.proofs.Math.Seq.{get_or-append_seam}
use Rattle.std.proofs.lemmas.Slice.Eq.{bytes_eq-Decides}
use Rattle.std.specs.Borrow.{Bor}
use Rattle.std.specs.Cmp.Lexicographic.{slice_cmp}
use Rattle.std.specs.List.{list_any, position}
use Rattle.std.specs.Ordering.{nat_cmp, ord_max}
use Rattle.std.specs.Prelude.{◌&&◌, ◌++◌}
use Rattle.std.specs.Str.{bytes_eq}
use Rattle.std.specs.declared.cmp.Ordering.TheVariants.{Less}
use Rattle.std.specs.declared.cmp.Ordering.{Ordering}
use Rattle.swarm_objects.proofs.RowLemmas.{row_at-Some}
use Rattle.swarm_objects.proofs.Tests.{both_are, neither_left, neither_right}
use Rattle.swarm_objects.specs.ChangeLists.{apply_change, apply_changes}
use Rattle.swarm_objects.specs.Nodes.BestNode.{agrees}
use Rattle.swarm_objects.specs.Nodes.Constraints.{key_value}
use Rattle.swarm_objects.specs.Rows.{Has, RisesFrom, has_row, node_id, put_row, row_at, task_id}
use Rattle.swarm_objects.specs.Tasks.New.{with_task}
use Rattle.swarm_objects.specs.Usable.{IsUsable}
use Rattle.swarm_objects.specs.World.{Tables}
use Rattle.swarm_objects.specs.declared.nodes.Node.{Node}
use Rattle.swarm_objects.specs.declared.rows.Change.TheVariants as change
use Rattle.swarm_objects.specs.declared.rows.Change.{Change}
use Rattle.swarm_objects.specs.declared.templates.Key.{Key}
use Rattle.swarm_sched.proofs.Branching.{agree-alike, at_place}
use Rattle.swarm_sched.proofs.Knowing.{decide}
use Rattle.swarm_sched.specs.Inside.ClassTable.{AreRows, value_order}
use Rattle.swarm_sched.specs.Inside.Classes.{AreBelow, AreClasses, AreFew, AreSorted, AreSorting, AreValues}
use Rattle.swarm_sched.specs.Inside.Classes.{HaveClasses, IsEntry, IsMore, IsOf, entry_id, puts_node, sorted_by}
use Rattle.swarm_sched.specs.Inside.Ranks.{AreRanks, Ranking}
use Rattle.swarm_sched.specs.declared.classes.ClassedNode.{ClassedNode}
use Rattle.swarm_sched.specs.declared.classes.SortedNodes.{SortedNodes}
use Rattle.swarm_sched.specs.declared.classes.Sorting.TheVariants as sorting
use Rattle.swarm_sched.specs.declared.classes.Sorting.{Sorting}
use Rattle.swarm_sched.specs.declared.classes.TheConstants.{CLASSES}

-- What changes leave.

pub change-left : (t : Tables) (c : Change) → puts_node c ≡ false → (apply_change t c).nodes ≡ t.nodes
change-left t (change.PutNode n) e = let both : true ≡ false = e in absurd cc
change-left t (change.PutService s) e = refl
change-left t (change.PutTask x) e = go (has_row task_id x.id t.tasks)
  where
    go : (b : Bool) → (cond b (record t { tasks = put_row task_id x t.tasks }) (with_task t x)).nodes ≡ t.nodes
    go true = refl
    go false = refl
change-left t (change.DropTask id) e = refl
change-left t (change.Keep a) e = refl

nodes-left : (cs : List Change) (t : Tables) → list_any puts_node cs ≡ false → (apply_changes t cs).nodes ≡ t.nodes
nodes-left [] t none = refl
nodes-left (c ∷ cs) t none =
    nodes-left cs (apply_change t c) (neither_right (puts_node c) (list_any puts_node cs) none)
    ∙ change-left t c (neither_left (puts_node c) (list_any puts_node cs) none)

-- what is sorted stays so, where the nodes of each class are kept by rising live tasks
pub classes_alike : (t u : Tables) (keys : List Key) (nodes : List ClassedNode) (count : ℕ)
    (values : List (List Ordering)) (before after : Ranking) → u.nodes ≡ t.nodes →
    AreSorted t.nodes keys nodes × AreRanks t nodes before × HaveClasses count nodes
    × AreValues t.nodes keys nodes values →
    AreRanks u nodes after →
    AreSorted u.nodes keys nodes × AreRanks u nodes after × HaveClasses count nodes
    × AreValues u.nodes keys nodes values
classes_alike t u keys nodes count values before after same are ranks = (
  subst (λ list. AreSorted list keys nodes) (sym same) are.0,
  ranks,
  are.2,
  subst (λ list. AreValues list keys nodes values) (sym same) are.3,
)

pub classes_left : (t : Tables) (cs : List Change) (keys : List Key) (nodes : List ClassedNode) (count : ℕ)
    (values : List (List Ordering)) (before after : Ranking) → list_any puts_node cs ≡ false →
    AreSorted t.nodes keys nodes × AreRanks t nodes before × HaveClasses count nodes
    × AreValues t.nodes keys nodes values →
    AreRanks (apply_changes t cs) nodes after →
    AreSorted (apply_changes t cs).nodes keys nodes × AreRanks (apply_changes t cs) nodes after
    × HaveClasses count nodes × AreValues (apply_changes t cs).nodes keys nodes values
classes_left t cs keys nodes count values before after none =
    classes_alike t (apply_changes t cs) keys nodes count values before after (nodes-left cs t none)

-- what is kept is of the sorted nodes
pub sorted_done : (t : Tables) (keys : List Key) (s : Sorting) (n : SortedNodes) → s ≡ sorting.Done n →
    AreClasses t (sorted_by keys s) →
    AreSorted t.nodes keys n.nodes × AreRanks t n.nodes n.ranks × HaveClasses n.table.count n.nodes
    × AreValues t.nodes keys n.nodes n.table.values
sorted_done t keys s n is = subst (λ r. AreClasses t (sorted_by keys r)) is

-- How many classes there are.

pub class_small : (nodes : List ClassedNode) (i : ℕ) (d : ClassedNode) → AreFew nodes → i < length nodes →
    (get_or nodes i d).class < CLASSES
class_small nodes i d few lt = few (get_or nodes i d) (at_place nodes i d lt)

-- up to this place all classes are among so many
pub record AreBelowUpTo (sorted : List ClassedNode) (i count : ℕ) : Type 0 where
  pub few : count ≤ CLASSES
  pub each : (j : ℕ) (d : ClassedNode) → j < i → (get_or sorted j d).class < count

pub below_none : (sorted : List ClassedNode) → AreBelowUpTo sorted 0 0
below_none sorted = record { few = omega arith; each = λ j d lt. absurd (omega (arith, lt)) }

pub below_one : (sorted : List ClassedNode) (i count after : ℕ) (e : ClassedNode) → AreBelowUpTo sorted i count →
    count ≤ after → (get_or sorted i e).class < after → after ≤ CLASSES → i < length sorted →
    AreBelowUpTo sorted (i + 1) after
below_one sorted i count after e so more own few there = record {
  few = few;
  each = λ j d lt.
      elim (decide j i) [
        | inl same ↦
            subst (λ (c : ClassedNode). c.class < after)
            (get_or_default sorted i e d there ∙ ap (λ k. get_or sorted k d) (sym same)) own
        | inr other ↦ omega (arith, more, so.each j d (omega (arith, lt, other)))
      ];
}

pub greater_of : (a b r n : ℕ) → r ≡ ord_max nat_cmp a b → a ≤ n → b ≤ n → (a ≤ r) × (b ≤ r) × (r ≤ n)
greater_of a b r n is one other =
    (grind (arith, nat_tests, is), grind (arith, nat_tests, is), grind (arith, nat_tests, is, one, other))

-- where it stands
place-of : (xs : List ClassedNode) (x : ClassedNode) → Has xs x → (i : ℕ) × ((i < length xs) × (get_or xs i x ≡ x))
place-of [] x h = absurd h
place-of (y ∷ xs) x (inl e) = (0, (omega arith, e))
place-of (y ∷ xs) x (inr h) =
    let at = place-of xs x h in (suc at.0, (omega (arith, at.1.0), at.1.1))

pub below_all : (sorted : List ClassedNode) (i count : ℕ) → length sorted ≤ i → AreBelowUpTo sorted i count →
    HaveClasses count sorted
below_all sorted i count all so = (all-below, so.few)
  where
    all-below : AreBelow count sorted
    all-below c h =
        let at = place-of sorted c h in
        subst (λ (e : ClassedNode). e.class < count) (at.1.1) (so.each at.0 c (omega (arith, all, at.1.0)))

pub ruleset count_steps = (below_none, below_one, below_all)

-- A class among its heads.

agree-self : (keys : List Key) (n : Node) → agrees keys n n ≡ true
agree-self [] n = refl
agree-self (k ∷ keys) n =
    ap (λ b. b && agrees keys n n) ((bytes_eq-Decides (key_value n k) (key_value n k)).1 refl) ∙ agree-self keys n

head_of : (keys : List Key) (heads : List (Bor Node)) (n : Node) (class : ℕ) →
    Some class ≡ position (λ head. agrees keys head.now n) heads → IsOf keys heads class n
head_of keys [] n class is = absurd cc
head_of keys (one ∷ heads) n class is = record {
  there = (found one).0;
  alike = λ head. (found head).1;
  first = λ k head lt. (found head).2 k lt;
}
  where
    test : Bor Node → Bool
    test head = agrees keys head.now n

    found : (d : Bor Node) → (class < length (one ∷ heads)) × (test (get_or (one ∷ heads) class d) ≡ true)
        × ((k : ℕ) → k < class → test (get_or (one ∷ heads) k d) ≡ false)
    found d = position-Some test (one ∷ heads) class d (sym is)

pub head_found : (keys : List Key) (heads seen : List (Bor Node)) (n : Node) (class : ℕ) → seen ≡ heads →
    Some class ≡ position (λ head. agrees keys head.now n) seen → IsOf keys heads class n
head_found keys heads seen n class same is = subst (λ list. IsOf keys list class n) same (head_of keys seen n class is)

pub head_more : (keys : List Key) (heads : List (Bor Node)) (head : Bor Node) → IsMore keys heads (heads ++ head ∷ [])
head_more keys heads head = record {
  each = λ class n is. record {
    there = omega (arith, is.there, length-append heads (head ∷ []));
    alike = λ d. ap (λ (h : Bor Node). agrees keys h.now n) (before class d is.there) ∙ is.alike d;
    first = λ k d lt. ap (λ (h : Bor Node). agrees keys h.now n) (before k d (omega (arith, lt, is.there))) ∙ is.first
        k d lt;
  };
}
  where
    before : (k : ℕ) (d : Bor Node) → k < length heads → get_or (heads ++ head ∷ []) k d ≡ get_or heads k d
    before k d lt = get_or_append_left heads (head ∷ []) d k lt

position-none : {X : Type 0} (p : X → Bool) (xs : List X) (k : ℕ) (d : X) → None ≡ position p xs → k < length xs →
    p (get_or xs k d) ≡ false
position-none p xs k d none lt = go (ltb (position_or_len p xs) (length xs)) refl none
  where
    go : (b : Bool) → ltb (position_or_len p xs) (length xs) ≡ b →
        ◌≡◌ {A = Option ℕ} None (cond b (Some (position_or_len p xs)) None) → p (get_or xs k d) ≡ false
    go true is e = absurd cc
    go false is e =
        let past : length xs ≤ position_or_len p xs = grind (arith, nat_tests, is) in
        fails_before_first p xs k d (omega (arith, lt, past))

-- a node that agrees with none of the heads begins a class
pub head_new : (keys : List Key) (heads seen more : List (Bor Node)) (head : Bor Node) (class : ℕ) → seen ≡ heads →
    None ≡ position (λ h. agrees keys h.now head.now) seen → more ≡ heads ++ head ∷ [] → class ≡ length heads →
    IsOf keys more class head.now
head_new keys heads seen more head class same none one last =
    subst (λ k. IsOf keys more k head.now) (sym last)
    (subst (λ list. IsOf keys list (length heads) head.now) (sym one) (record {
      there = omega (arith, length-append heads (head ∷ []));
      alike = λ d.
          ap (λ (h : Bor Node). agrees keys h.now head.now) (get_or-append_seam heads head [] d) ∙ agree-self keys
          head.now;
      first = λ k d lt.
          ap (λ (h : Bor Node). agrees keys h.now head.now) (get_or_append_left heads (head ∷ []) d k lt)
          ∙ position-none (λ (h : Bor Node). agrees keys h.now head.now) heads k d
          (subst (λ list. None ≡ position (λ h. agrees keys h.now head.now) list) same none) lt;
    }))

pub same_heads : (keys : List Key) (heads : List (Bor Node)) → IsMore keys heads heads
same_heads keys heads = record { each = λ class n is. is }

-- Node by node.

pub sorting_none : (nodes : List Node) (keys : List Key) (left : List Node) → left ≡ nodes →
    AreSorting nodes keys [] [] left
sorting_none nodes keys left all = record {
  ids = ap (map node_id) all;
  among = λ n h. subst (λ list. Has list n) all h;
  few = omega arith;
  small = λ c h. absurd h;
  each = λ c n e. absurd e.there;
}

has-last : {X : Type 0} (xs : List X) (y x : X) → Has (xs ++ y ∷ []) x → Has xs x ⊎ (y ≡ x)
has-last [] y x (inl e) = inr e
has-last [] y x (inr h) = absurd h
has-last (z ∷ xs) y x (inl e) = inl (inl e)
has-last (z ∷ xs) y x (inr h) = elim (has-last xs y x h) [ inl old ↦ inl (inr old) | inr new ↦ inr new ]

map-last : {X Y : Type 0} (f : X → Y) (xs : List X) (y : X) (zs : List Y) →
    map f (xs ++ y ∷ []) ++ zs ≡ map f xs ++ f y ∷ zs
map-last f [] y zs = refl
map-last f (x ∷ xs) y zs = ap (λ l. f x ∷ l) (map-last f xs y zs)

-- nodes with one id are the same
pub one-node : (nodes : List Node) (n m : Node) → RisesFrom node_id 0 nodes → Has nodes n → Has nodes m → n.id ≡ m.id →
    n ≡ m
one-node nodes n m rising one other same =
    let first : row_at node_id n.id nodes ≡ Some n = row_at-Some node_id 0 nodes n rising one in
    let second : row_at node_id m.id nodes ≡ Some m = row_at-Some node_id 0 nodes m rising other in
    let both : Some n ≡ Some m = sym first ∙ ap (λ id. row_at node_id id nodes) same ∙ second in
    cc

sorting_one : (t : Tables) (keys : List Key) (heads more : List (Bor Node)) (sorted : List ClassedNode)
    (from left : List Node)
    (n : Node) (c : ClassedNode) → IsUsable t → AreSorting t.nodes keys heads sorted from → from ≡ n ∷ left →
    IsMore keys heads more → length more ≤ CLASSES → IsOf keys more c.class n → c.id ≡ n.id →
    AreSorting t.nodes keys more (sorted ++ c ∷ []) left
sorting_one t keys heads more sorted from left n c usable so step grown few own id =
    let all : map entry_id sorted ++ n.id ∷ map node_id left ≡ map node_id t.nodes =
    ap (λ l. map entry_id sorted ++ map node_id l) (sym step) ∙ so.ids in record {
      ids = map-last entry_id sorted c (map node_id left) ∙ ap (λ k. map entry_id sorted ++ k ∷ map node_id left) id
          ∙ all;
      among = λ m h. so.among m (subst (λ l. Has l m) (sym step) (inr h));
      few = few;
      small = λ d h. tiny d (has-last sorted c d h);
      each = λ d m e. at d m e (has-last sorted c d e.there);
    }
  where
    there : Has t.nodes n
    there = so.among n (subst (λ l. Has l n) (sym step) (inl refl))

    tiny : (d : ClassedNode) → Has sorted d ⊎ (c ≡ d) → d.class < CLASSES
    tiny d (inl old) = so.small d old
    tiny d (inr new) = subst (λ (k : ClassedNode). k.class < CLASSES) new (omega (arith, own.there, few))

    at : (d : ClassedNode) (m : Node) → IsEntry t.nodes (sorted ++ c ∷ []) d m → Has sorted d ⊎ (c ≡ d) →
        IsOf keys more d.class m
    at d m e (inl old) =
        grown.each d.class m (so.each d m (record { there = old; row = e.row; same = e.same }))
    at d m e (inr new) =
        let same : n ≡ m = one-node t.nodes n m usable.sound.ordered.nodes there e.row
        (sym id ∙ ap entry_id new ∙ sym e.same) in
        subst (λ x. IsOf keys more x m) (ap (λ (k : ClassedNode). k.class) new)
        (subst (IsOf keys more c.class) same own)

pub sorting_goes : (t : Tables) (keys : List Key) (heads more : List (Bor Node)) (sorted after : List ClassedNode)
    (from left : List Node)
    (n : Node) (class : ℕ) → IsUsable t → AreSorting t.nodes keys heads sorted from → from ≡ n ∷ left →
    IsMore keys heads more → length more ≤ CLASSES → IsOf keys more class n →
    after ≡ sorted ++ record { id = n.id; class = class } ∷ [] → AreSorting t.nodes keys more after left
sorting_goes t keys heads more sorted after from left n class usable so step grown few own is =
    subst (λ list. AreSorting t.nodes keys more list left) (sym is)
    (sorting_one t keys heads more sorted from left n (record { id = n.id; class = class }) usable so step grown few
    own refl)

alike-heads : (keys : List Key) (heads : List (Bor Node)) (class : ℕ) (n m : Node) → IsOf keys heads class n →
    IsOf keys heads class m → agrees keys n m ≡ true
alike-heads keys [] class n m one other = absurd (omega (arith, one.there))
alike-heads keys (head ∷ heads) class n m one other =
    let first = get_or (head ∷ heads) class head in
    sym (agree-alike keys first.now n m (one.alike head)) ∙ other.alike head

-- where a class has a lesser number, the node agrees with its head, which others don't
lesser-apart : (keys : List Key) (heads : List (Bor Node)) (a b : ℕ) (n m : Node) → IsOf keys heads a n →
    IsOf keys heads b m → agrees keys n m ≡ true → a < b → ⊥
lesser-apart keys [] a b n m one other alike lt = omega (arith, one.there)
lesser-apart keys (head ∷ heads) a b n m one other alike lt =
    let first = get_or (head ∷ heads) a head in
    let both : true ≡ false =
    sym alike ∙ sym (agree-alike keys first.now n m (one.alike head)) ∙ other.first a head lt in
    absurd cc

apart-heads : (keys : List Key) (heads : List (Bor Node)) (a b : ℕ) (n m : Node) → IsOf keys heads a n →
    IsOf keys heads b m → agrees keys n m ≡ true → a ≡ b
apart-heads keys heads a b n m one other alike = go (ltb a b) refl (ltb b a) refl
  where
    back : agrees keys m n ≡ true
    back = sym (agree-alike keys n m n alike) ∙ agree-self keys n

    go : (x : Bool) → ltb a b ≡ x → (y : Bool) → ltb b a ≡ y → a ≡ b
    go true is y e = absurd (lesser-apart keys heads a b n m one other alike (grind (arith, nat_tests, is)))
    go false is true e = absurd (lesser-apart keys heads b a m n other one back (grind (arith, nat_tests, e)))
    go false is false e = grind (arith, nat_tests, is, e)

pub sorting_all : (nodes : List Node) (keys : List Key) (heads : List (Bor Node)) (sorted : List ClassedNode)
    (left : List Node) →
    AreSorting nodes keys heads sorted left → left ≡ [] → AreSorted nodes keys sorted
sorting_all nodes keys heads sorted left so none = record {
  ids = sym (append-nil (map entry_id sorted)) ∙ ap (λ l. map entry_id sorted ++ map node_id l) (sym none) ∙ so.ids;
  few = so.small;
  alike = λ c d n m one other same.
      alike-heads keys heads d.class n m (subst (λ k. IsOf keys heads k n) same (so.each c n one)) (so.each d m other);
  apart = λ some c d n m one other same.
      apart-heads keys heads c.class d.class n m (so.each c n one) (so.each d m other) same;
}

-- The values of nodes of two classes compare as those of their heads.

head-value : (k : Key) (heads : List (Bor Node)) (class : ℕ) (n : Node) (d : Bor Node) → IsOf (k ∷ []) heads class n →
    key_value n k ≡ key_value (get_or heads class d).now k
head-value k heads class n d own =
    let head : Node = (get_or heads class d).now in
    (bytes_eq-Decides (key_value n k) (key_value head k)).0
    (both_are (bytes_eq (key_value n k) (key_value head k)) true (own.alike d)).0

values_one : (nodes : List Node) (k : Key) (heads : List (Bor Node)) (sorted : List ClassedNode) (left : List Node)
    (values : List (List Ordering)) (c d : ClassedNode) (n m : Node) → AreSorting nodes (k ∷ []) heads sorted left →
    AreRows k heads (length heads) values → IsEntry nodes sorted c n → IsEntry nodes sorted d m →
    get_or (get_or values d.class []) c.class Less ≡ value_order k n m
values_one nodes k [] sorted left values c d n m so rows one other = absurd (omega (arith, (so.each c n one).there))
values_one nodes k (e ∷ heads) sorted left values c d n m so rows one other =
    let own = so.each c n one in
    let second = so.each d m other in
    (rows.each d.class e second.there).each c.class e own.there
    ∙ ap (λ v. slice_cmp nat_cmp v (key_value (get_or (e ∷ heads) d.class e).now k))
    (sym (head-value k (e ∷ heads) c.class n e own))
    ∙ ap (slice_cmp nat_cmp (key_value n k)) (sym (head-value k (e ∷ heads) d.class m e second))

pub values_all : (nodes : List Node) (keys : List Key) (heads : List (Bor Node)) (sorted : List ClassedNode)
    (left : List Node) (values : List (List Ordering)) → AreSorting nodes keys heads sorted left →
    ((k : Key) → keys ≡ k ∷ [] → AreRows k heads (length heads) values) → AreValues nodes keys sorted values
values_all nodes keys heads sorted left values so rows = record {
  each = λ k is c d n m one other.
      values_one nodes k heads sorted left values c d n m
      (subst (λ l. AreSorting nodes l heads sorted left) is so) (rows k is) one other;
}

-- What is kept serves.

pub served_values : (nodes : List Node) (by keys : List Key) (sorted : List ClassedNode)
    (values : List (List Ordering)) → AreValues nodes by sorted values → (keys ≡ by) ⊎ (keys ≡ []) →
    AreValues nodes keys sorted values
served_values nodes by keys sorted values are (inl same) =
    subst (λ k. AreValues nodes k sorted values) (sym same) are
served_values nodes by keys sorted values are (inr none) =
    record { each = λ k is. let both : k ∷ [] ≡ [] = sym is ∙ none in absurd cc }

pub served : (nodes : List Node) (by keys : List Key) (sorted : List ClassedNode) → AreSorted nodes by sorted →
    (keys ≡ by) ⊎ (keys ≡ []) → AreSorted nodes keys sorted
served nodes by keys sorted are (inl same) = subst (λ k. AreSorted nodes k sorted) (sym same) are
served nodes by keys sorted are (inr none) = record {
  ids = are.ids;
  few = are.few;
  alike = λ c d n m one other same. ap (λ k. agrees k n m) none;
  apart = λ some. absurd (some none);
}
