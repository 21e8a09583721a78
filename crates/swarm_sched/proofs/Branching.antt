-- A service's tasks of one branch: counted task by task, and the same for each node of the branch.
use Rattle.std.proofs.Math.Seq.{take-length}
use Rattle.std.proofs.Common.{◌≡◌, ◌∙◌, ◌+◌, ◌<◌, ℕ, Bool, List, None, Option, Some, [], ◌∷◌, ◌⊎◌, ap, arith, cond, eqb, false, get_or, inl, inr, length, refl, set, slice_index_or, subst, suc, sym, take, true, zero}
use Rattle.std.proofs.lemmas.Bool.Decides.{nat_tests}
use Rattle.std.proofs.lemmas.List.Sums.{sum_by-cons}
use Rattle.std.proofs.lemmas.Slice.Eq.{bytes_eq-Decides}
use Rattle.std.specs.Option.{IfSome, option_eq}
use Rattle.std.specs.Ordering.{nat_cmp, ordering_then}
use Rattle.std.specs.Prelude.{count_by, filter, sum_by, ◌&&◌, ◌==◌}
use Rattle.std.specs.Str.{bytes_eq}
use Rattle.std.specs.declared.cmp.Ordering.{Ordering}
use Rattle.std.specs.declared.cmp.Ordering.TheVariants.{Equal}
use Rattle.swarm_objects.proofs.Few.{few_among, few_tasks}
use Rattle.swarm_objects.proofs.Filters.{filter_same}
use Rattle.swarm_objects.proofs.RowLemmas.{row_at-None_below}
use Rattle.swarm_objects.proofs.Tests.{both_are}
use Rattle.swarm_objects.proofs.WalkLemmas.{count_by_no, count_by_yes}
use Rattle.swarm_objects.specs.Nodes.BestNode.{agrees, branch_load}
use Rattle.swarm_objects.specs.Nodes.Constraints.{key_value}
use Rattle.swarm_objects.specs.Nodes.Filters.{here}
use Rattle.swarm_objects.specs.Nodes.Holdings.{is_placed_on}
use Rattle.swarm_objects.specs.Nodes.Words.{is_node_and}
use Rattle.swarm_objects.specs.Rows.{Has, RisesFrom, is_row_and, is_some_and, keep_least, least_by, node_id, row_at}
use Rattle.swarm_objects.specs.Same.{same_number}
use Rattle.swarm_objects.specs.Tasks.Words.{is_live, is_of, is_placed}
use Rattle.swarm_objects.specs.World.{Tables}
use Rattle.swarm_objects.specs.declared.nodes.Node.{Node}
use Rattle.swarm_objects.specs.declared.tasks.Task.{Task}
use Rattle.swarm_objects.specs.declared.templates.Key.TheVariants as key
use Rattle.swarm_objects.specs.declared.templates.Key.{Key}
use Rattle.swarm_sched.specs.Inside.Branches.{AreKnown, HasText, IsKnown, IsToldByText, Preferences, is_of_branch, load_at}
use Rattle.swarm_sched.specs.declared.branches.Known.{Known}

-- Task by task.

sum_none : {X : Type 0} (f : X → ℕ) (xs : List X) → ((x : X) → f x ≡ 0) → sum_by f xs ≡ 0
sum_none f [] each = refl
sum_none f (x ∷ xs) each = omega (arith, sum_by-cons f x xs, each x, sum_none f xs each)

sum_both : {X : Type 0} (f g h : X → ℕ) (xs : List X) → ((x : X) → h x ≡ f x + g x) →
    sum_by h xs ≡ sum_by f xs + sum_by g xs
sum_both f g h [] each = refl
sum_both f g h (x ∷ xs) each =
    omega (arith, sum_by-cons f x xs, sum_by-cons g x xs, sum_by-cons h x xs, each x, sum_both f g h xs each)

count_cons : {X : Type 0} (p : X → Bool) (x : X) (xs : List X) → count_by p (x ∷ xs) ≡ cond (p x) 1 0 + count_by p xs
count_cons p x xs = sum_by-cons (λ y. cond (p y) 1 0) x xs

-- of nodes in order one at most has the number
one_node : (p : Node → Bool) (k low : ℕ) (ns : List Node) → RisesFrom node_id low ns →
    ◌≡◌ {A = ℕ} (sum_by (λ m. cond (k == m.id) 1 0) (filter p ns)) (cond (is_row_and node_id p ns k) 1 0)
one_node p k low [] r = refl
one_node p k low (n ∷ ns) r = go (p n) refl (eqb n.id k) refl (one_node p k n.id ns r.1)
  where
    go : (a : Bool) → p n ≡ a → (b : Bool) → eqb n.id k ≡ b →
        ◌≡◌ {A = ℕ} (sum_by (λ m. cond (k == m.id) 1 0) (filter p ns)) (cond (is_row_and node_id p ns k) 1 0) →
        ◌≡◌ {A = ℕ} (sum_by (λ m. cond (k == m.id) 1 0) (cond a (n ∷ filter p ns) (filter p ns)))
        (cond (is_some_and p (cond b (Some n) (row_at node_id k ns))) 1 0)
    go a e true f rest =
        let none : row_at node_id k ns ≡ None = row_at-None_below node_id n.id k ns r.1 (grind (arith, nat_tests, f)) in
        let gone : sum_by (λ m. cond (k == m.id) 1 0) (filter p ns) ≡ 0 =
        rest ∙ ap {B = ℕ} (λ o. cond (is_some_and p o) 1 0) none in
        let own : (k == n.id) ≡ true = grind (arith, nat_tests, f) in
        here_it a e gone (ap {B = ℕ} (λ b. cond b 1 0) own)
      where
        here_it : (a : Bool) → p n ≡ a → sum_by (λ m. cond (k == m.id) 1 0) (filter p ns) ≡ 0 →
            ◌≡◌ {A = ℕ} (cond (k == n.id) 1 0) 1 →
            ◌≡◌ {A = ℕ} (sum_by (λ m. cond (k == m.id) 1 0) (cond a (n ∷ filter p ns) (filter p ns))) (cond (p n) 1 0)
        here_it true e gone own =
            omega (arith, sum_by-cons (λ m. cond (k == m.id) 1 0) n (filter p ns), gone, own, ap {B = ℕ} (λ b. cond b 1 0) e)
        here_it false e gone own = gone ∙ sym (ap {B = ℕ} (λ b. cond b 1 0) e)
    go true e false f rest =
        let other : (k == n.id) ≡ false = grind (arith, nat_tests, f) in
        omega (arith, sum_by-cons (λ m. cond (k == m.id) 1 0) n (filter p ns), rest, ap {B = ℕ} (λ b. cond b 1 0) other)
    go false e false f rest = rest

-- the task on these nodes
abbrev at_node : Task → Node → ℕ
at_node x m = cond (is_live x && is_placed_on m.id x) 1 0

one_task : (t : Tables) (p : Node → Bool) (x : Task) → RisesFrom node_id 0 t.nodes →
    ◌≡◌ {A = ℕ} (sum_by (at_node x) (filter p t.nodes)) (cond (is_live x && is_placed x && is_node_and t p x) 1 0)
one_task t p x r = go (is_live x) (is_placed x) x.node
  where
    go : (a b : Bool) (o : Option ℕ) →
        ◌≡◌ {A = ℕ} (sum_by (λ m. cond (a && (b && option_eq same_number o (Some m.id))) 1 0) (filter p t.nodes))
        (cond (a && b && is_some_and (is_row_and node_id p t.nodes) o) 1 0)
    go false b o = sum_none (λ m. 0) (filter p t.nodes) (λ m. refl)
    go true false o = sum_none (λ m. 0) (filter p t.nodes) (λ m. refl)
    go true true None = sum_none (λ m. 0) (filter p t.nodes) (λ m. refl)
    go true true (Some k) = one_node p k 0 t.nodes r

-- so many of these tasks are the service's, and on the node
abbrev count_on : ℕ → List Task → Node → ℕ
count_on service xs m = count_by (λ x. is_of service x && is_live x && is_placed_on m.id x) xs

counted : (t : Tables) (service : ℕ) (p : Node → Bool) (xs : List Task) → RisesFrom node_id 0 t.nodes →
    sum_by (count_on service xs) (filter p t.nodes)
    ≡ count_by (λ x. is_live x && is_placed x && is_node_and t p x) (filter (is_of service) xs)
counted t service p [] r = sum_none (count_on service []) (filter p t.nodes) (λ m. refl)
counted t service p (x ∷ xs) r = go (is_of service x) refl (counted t service p xs r)
  where
    go : (b : Bool) → is_of service x ≡ b →
        sum_by (count_on service xs) (filter p t.nodes)
        ≡ count_by (λ y. is_live y && is_placed y && is_node_and t p y) (filter (is_of service) xs) →
        sum_by (count_on service (x ∷ xs)) (filter p t.nodes)
        ≡ count_by (λ y. is_live y && is_placed y && is_node_and t p y) (cond b (x ∷ filter (is_of service) xs) (filter (is_of service) xs))
    go true e rest =
        let more = sum_both (at_node x) (count_on service xs) (count_on service (x ∷ xs)) (filter p t.nodes)
        (λ m. count_cons (λ y. is_of service y && is_live y && is_placed_on m.id y) x xs
        ∙ ap {B = ℕ} (λ b. cond (b && is_live x && is_placed_on m.id x) 1 0 + count_on service xs m) e) in
        omega (
          arith,
          more,
          rest,
          one_task t p x r,
          count_cons (λ y. is_live y && is_placed y && is_node_and t p y) x (filter (is_of service) xs),
        )
    go false e rest =
        let same = sum_both (λ m. 0) (count_on service xs) (count_on service (x ∷ xs)) (filter p t.nodes)
        (λ m. count_cons (λ y. is_of service y && is_live y && is_placed_on m.id y) x xs
        ∙ ap {B = ℕ} (λ b. cond (b && is_live x && is_placed_on m.id x) 1 0 + count_on service xs m) e) in
        omega (arith, same, rest, sum_none (λ (m : Node). 0) (filter p t.nodes) (λ m. refl))

-- what is counted among the service's tasks is the branch's load
pub branch_is : (t : Tables) (service : ℕ) (keys : List Key) (n : Node) → RisesFrom node_id 0 t.nodes →
    count_by (is_of_branch t keys n) (filter (is_of service) t.tasks) ≡ branch_load t service keys n
branch_is t service keys n r = sym (counted t service (agrees keys n) t.tasks r)

pub ruleset count_steps = (count_by_yes, count_by_no, branch_is, few_tasks, few_among)

-- For each node of the branch.

pub agree-alike : (keys : List Key) (a b m : Node) → agrees keys a b ≡ true → agrees keys a m ≡ agrees keys b m
agree-alike [] a b m e = refl
agree-alike (k ∷ keys) a b m e =
    let both = both_are (bytes_eq (key_value b k) (key_value a k)) (agrees keys a b) e in
    let same : key_value b k ≡ key_value a k = (bytes_eq-Decides (key_value b k) (key_value a k)).0 both.0 in
    λ i. bytes_eq (key_value m k) (sym same i) && agree-alike keys a b m both.1 i

pub branch-alike : (t : Tables) (service : ℕ) (keys : List Key) (a b : Node) → agrees keys a b ≡ true →
    branch_load t service keys a ≡ branch_load t service keys b
branch-alike t service keys a b e =
    ap (sum_by (λ m. here t m.id service)) (filter_same (agrees keys a) (agrees keys b) t.nodes (λ m. agree-alike keys a b m e))

-- What is remembered.

pub has-set : {X : Type 0} (xs : List X) (i : ℕ) (v x : X) → Has (set xs i v) x → Has xs x ⊎ (v ≡ x)
has-set [] i v x h = absurd h
has-set (y ∷ xs) zero v x (inl e) = inr e
has-set (y ∷ xs) zero v x (inr h) = inl (inr h)
has-set (y ∷ xs) (suc i) v x (inl e) = inl (inl e)
has-set (y ∷ xs) (suc i) v x (inr h) = elim (has-set xs i v x h) [ inl old ↦ inl (inr old) | inr new ↦ inr new ]

pub known-more : (p : Preferences) (all : List (Option Known)) (i : ℕ) (k : Known) → AreKnown p all → IsKnown p k →
    AreKnown p (set all i (Some k))
known-more p all i k known is = record { each = λ o h. one o (has-set all i (Some k) o h) }
  where
    one : (o : Option Known) → Has all o ⊎ (Some k ≡ o) → IfSome o (IsKnown p)
    one o (inl old) = known.each o old
    one None (inr new) = absurd cc
    one (Some j) (inr new) = let same : k ≡ j = cc in subst (IsKnown p) same is

pub at_place : {X : Type 0} (xs : List X) (i : ℕ) (d : X) → i < length xs → Has xs (get_or xs i d)
at_place [] i d lt = absurd (omega arith)
at_place (x ∷ xs) zero d lt = inl refl
at_place (x ∷ xs) (suc i) d lt = inr (at_place xs i d (omega arith))

pub known_at : (p : Preferences) (all : List (Option Known)) (i : ℕ) (o : Option Known) (k : Known) → AreKnown p all →
    i < length all → o ≡ slice_index_or all i o → o ≡ Some k → IsKnown p k
known_at p all i o k known lt is some =
    subst (λ o. IfSome o (IsKnown p)) some (known.each o (subst (Has all) (sym is) (at_place all i o lt)))

pub remembered_is : (p : Preferences) (depth : ℕ) (k : Known) (n : Node) → IsKnown p k → k.depth ≡ depth →
    agrees (take depth p.keys) k.node.now n ≡ true → k.load ≡ load_at p depth n
remembered_is p depth k n is deep alike =
    is.load ∙ ap (λ d. load_at p d k.node.now) deep
    ∙ branch-alike p.tables p.service (take depth p.keys) k.node.now n alike

pub all_keys : (p : Preferences) (depth : ℕ) (n : Node) → depth ≡ length p.keys →
    branch_load p.tables p.service p.keys n ≡ load_at p depth n
all_keys p depth n is =
    ap (λ keys. branch_load p.tables p.service keys n)
    (sym (take-length p.keys) ∙ ap (λ k. take k p.keys) (sym is))

-- Branches that are told by a text.

pub told_by : (keys : List Key) (k : Key) → keys ≡ k ∷ [] → (k ≡ key.NodeId → ⊥) → IsToldByText keys
told_by keys k alone other = record { one = k; alone = alone; other = other }

pub text_has : (keys : List Key) (k : Key) (n : Node) (text : List ℕ) → keys ≡ k ∷ [] → (k ≡ key.NodeId) ⊎ (text ≡ key_value n k) →
    HasText keys n text
text_has keys k n text alone is j e =
    let both : k ∷ [] ≡ j ∷ [] = sym alone ∙ e in
    let same : k ≡ j = cc in
    subst (λ i. (i ≡ key.NodeId) ⊎ (text ≡ key_value n i)) same is

pub texts_agree : (keys : List Key) (a b : Node) (one two : List ℕ) → IsToldByText keys → HasText keys a one →
    HasText keys b two → one ≡ two → agrees keys a b ≡ true
texts_agree keys a b one two told first second same =
    ap (λ ks. agrees ks a b) told.alone
    ∙ ap (λ c. c && true) ((bytes_eq-Decides (key_value b told.one) (key_value a told.one)).1 (sym (value b two (second told.one told.alone)) ∙ sym same ∙ value a one (first told.one told.alone)))
  where
    value : (n : Node) (text : List ℕ) → (told.one ≡ key.NodeId) ⊎ (text ≡ key_value n told.one) → text ≡ key_value n told.one
    value n text (inl id) = absurd (told.other id)
    value n text (inr is) = is

-- Nodes of one branch.

pub same-branch : (p : Preferences) (depth : ℕ) (a b : Node) (o : Ordering) → agrees (take depth p.keys) a b ≡ true →
    o ≡ ordering_then (nat_cmp (load_at p depth a) (load_at p depth b)) o
same-branch p depth a b o alike =
    sym (ap (λ n. ordering_then (nat_cmp n (load_at p depth b)) o)
    (branch-alike p.tables p.service (take depth p.keys) a b alike)
    ∙ ap (λ r. ordering_then r o) (nat_cmp-same (load_at p depth b)))
  where
    nat_cmp-same : (n : ℕ) → nat_cmp n n ≡ Equal
    nat_cmp-same n = grind (arith, nat_tests)

-- a node that comes before no best one is passed over, open or not
pub passed_over : {X : Type 0} (order : X → X → Ordering) (p : X → Bool) (best : Option X) (x : X) (xs : List X) →
    keep_least order best x ≡ best → least_by order best (filter p (x ∷ xs)) ≡ least_by order best (filter p xs)
passed_over {X} order p best x xs e = go (p x)
  where
    go : (b : Bool) → least_by order best (cond b (x ∷ filter p xs) (filter p xs)) ≡ least_by order best (filter p xs)
    go true = ap (λ (o : Option X). least_by order o (filter p xs)) e
    go false = refl
