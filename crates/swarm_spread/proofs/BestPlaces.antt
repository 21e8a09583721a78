-- The best place, and the best node.
use Rattle.std.proofs.Common.{◌≡◌, ◌∙◌, ◌&&◌, ◌+◌, ◌<◌, Bool, List, None, Option, Some, [], ◌∷◌, ◌++◌, ap, append_assoc, arith, cond, false, get_or, length, length-append, refl, subst, suc, sym, take, true, zero, ℕ}
use Rattle.std.proofs.lemmas.List.{get_or_at, length-map, map-append, take_at}
use Rattle.std.proofs.lemmas.List.Sums.{sum_by-cons}
use Rattle.std.specs.Cmp.Lexicographic.{slice_cmp}
use Rattle.std.specs.Option.{option_map}
use Rattle.std.specs.Ordering.{is_lt, nat_cmp, ordering_then}
use Rattle.std.specs.Prelude.{filter, map, sum_by, ⊤}
use Rattle.std.specs.Str.{bytes_eq}
use Rattle.std.specs.declared.cmp.Ordering.{Ordering}
use Rattle.swarm_objects.specs.Nodes.BestNode.{agrees, best_node, branch_load, node_cmp, spread_cmp}
use Rattle.swarm_objects.specs.Nodes.Constraints.{key_value}
use Rattle.swarm_objects.specs.Nodes.Filters.{admits, is_tested_on}
use Rattle.swarm_objects.specs.Rows.{keep_least, least_by, node_id}
use Rattle.swarm_objects.specs.World.{Tables}
use Rattle.swarm_objects.specs.declared.nodes.Node.{Node}
use Rattle.swarm_objects.specs.declared.tasks.Task.{Task}
use Rattle.swarm_objects.specs.declared.templates.Key.{Key}
use Rattle.swarm_spread.specs.Counts.{Counts, IsFor, Stands, best_by, best_place, counts_of, here_on, is_before, path_of, place_order}
use Rattle.swarm_spread.specs.Sums.{branch_sum, order_from, same_branch, same_path, sum_where, value_at}

-- the node stands at the place
abbrev IsAt : List Node → ℕ → Node → Type 0
IsAt nodes place n = (place < length nodes) × (get_or nodes place n ≡ n)

get_map : {X Y : Type 0} (f : X → Y) (xs : List X) (i : ℕ) (x : X) (d : Y) → i < length xs → get_or xs i x ≡ x →
    get_or (map f xs) i d ≡ f x
get_map f [] i x d lt e = absurd (omega arith)
get_map f (y ∷ xs) zero x d lt e = ap f e
get_map f (y ∷ xs) (suc i) x d lt e = get_map f xs i x d (omega arith) e

-- Branches.

same_agrees : (ks : List Key) (n m : Node) → same_path (map (key_value n) ks) (map (key_value m) ks) ≡ agrees ks n m
same_agrees [] n m = refl
same_agrees (k ∷ ks) n m = ap (λ (b : Bool). bytes_eq (key_value m k) (key_value n k) && b) (same_agrees ks n m)

take_values : (keys earlier ks : List Key) (depth : ℕ) (n : Node) → keys ≡ earlier ++ ks → depth ≡ length earlier →
    take depth (path_of keys n) ≡ map (key_value n) earlier
take_values keys earlier ks depth n is long =
    ap (λ (xs : List Key). take depth (map (key_value n) xs)) is
    ∙ (ap (take depth) (map-append (key_value n) earlier ks)
    ∙ take_at (map (key_value n) earlier) (map (key_value n) ks) depth (length-map earlier (key_value n) ∙ sym long))

sum_maps : {X : Type 0} (f : X → Bool) (p : Node → X) (h : Node → ℕ) (q : Node → Bool) (ns : List Node) →
    ((m : Node) → f (p m) ≡ q m) → sum_where f (map p ns) (map h ns) ≡ sum_by h (filter q ns)
sum_maps f p h q [] each = refl
sum_maps f p h q (n ∷ ns) each = go (f (p n)) (q n) (each n) (sum_maps f p h q ns each)
  where
    go : (a b : Bool) → a ≡ b → sum_where f (map p ns) (map h ns) ≡ sum_by h (filter q ns) →
        cond a (h n) 0 + sum_where f (map p ns) (map h ns) ≡ sum_by h (cond b (n ∷ filter q ns) (filter q ns))
    go true true e rest = omega (arith, rest, sum_by-cons h n (filter q ns))
    go true false e rest = absurd cc
    go false true e rest = absurd cc
    go false false e rest = omega (arith, rest)

branch_is : (t : Tables) (service : ℕ) (keys earlier ks : List Key) (depth place : ℕ) (n : Node) →
    keys ≡ earlier ++ ks → depth ≡ length earlier → IsAt t.nodes place n →
    branch_sum (map (path_of keys) t.nodes) (map (here_on t service) t.nodes) depth place ≡ branch_load t service earlier n
branch_is t service keys earlier ks depth place n is long at =
    ap (λ (p : List (List ℕ)). sum_where (same_branch depth p) (map (path_of keys) t.nodes) (map (here_on t service) t.nodes))
    (get_map (path_of keys) t.nodes place n [] at.0 at.1)
    ∙ sum_maps (same_branch depth (path_of keys n)) (path_of keys) (here_on t service) (agrees earlier n) t.nodes
    (λ m. ap (λ (p : List (List ℕ)). same_path p (take depth (path_of keys m))) (take_values keys earlier ks depth n is long)
    ∙ (ap (same_path (map (key_value n) earlier)) (take_values keys earlier ks depth m is long)
    ∙ same_agrees earlier n m))

value_is : (t : Tables) (keys earlier ks : List Key) (k : Key) (depth place : ℕ) (n : Node) →
    keys ≡ earlier ++ k ∷ ks → depth ≡ length earlier → IsAt t.nodes place n →
    value_at (map (path_of keys) t.nodes) place depth ≡ key_value n k
value_is t keys earlier ks k depth place n is long at =
    ap (λ (p : List (List ℕ)). get_or p depth []) (get_map (path_of keys) t.nodes place n [] at.0 at.1)
    ∙ (ap (λ (xs : List Key). get_or (map (key_value n) xs) depth []) is
    ∙ (ap (λ (p : List (List ℕ)). get_or p depth []) (map-append (key_value n) earlier (k ∷ ks))
    ∙ get_or_at (map (key_value n) earlier) (key_value n k) (map (key_value n) ks) [] depth
    (length-map earlier (key_value n) ∙ sym long)))

-- Orders.

spread_is : (t : Tables) (service : ℕ) (keys earlier ks : List Key) (depth i j : ℕ) (a b : Node) →
    keys ≡ earlier ++ ks → depth ≡ length earlier → IsAt t.nodes i a → IsAt t.nodes j b →
    order_from (map (path_of keys) t.nodes) (map (here_on t service) t.nodes) depth (length ks) i j
    ≡ spread_cmp t service earlier ks a b
spread_is t service keys earlier [] depth i j a b is long at at' = refl
spread_is t service keys earlier (k ∷ ks) depth i j a b is long at at' =
    let more : List Key = earlier ++ k ∷ [] in
    let whole : keys ≡ more ++ ks = is ∙ sym (append_assoc earlier (k ∷ []) ks) in
    let next : depth + 1 ≡ length more = omega (arith, long, length-append earlier (k ∷ [])) in
    let sums = ap (λ (n : ℕ). nat_cmp n (branch_sum (map (path_of keys) t.nodes) (map (here_on t service) t.nodes) (depth + 1) j))
    (branch_is t service keys more ks (depth + 1) i a whole next at)
    ∙ ap (nat_cmp (branch_load t service more a)) (branch_is t service keys more ks (depth + 1) j b whole next at') in
    let values = ap (λ (v : List ℕ). slice_cmp nat_cmp v (value_at (map (path_of keys) t.nodes) j depth))
    (value_is t keys earlier ks k depth i a is long at)
    ∙ ap (slice_cmp nat_cmp (key_value a k)) (value_is t keys earlier ks k depth j b is long at') in
    let rest = spread_is t service keys more ks (depth + 1) i j a b whole next at at' in
    joined _ _ _ _ _ _ sums values rest
  where
    joined : (o p q o' p' q' : Ordering) → o ≡ o' → p ≡ p' → q ≡ q' →
        ordering_then o (ordering_then p q) ≡ ordering_then o' (ordering_then p' q')
    joined o p q o' p' q' e f g =
        ap (λ (x : Ordering). ordering_then x (ordering_then p q)) e
        ∙ ap (ordering_then o') (ap (λ (x : Ordering). ordering_then x q) f ∙ ap (ordering_then p') g)

order_is : (t : Tables) (x : Task) (i j : ℕ) (a b : Node) → IsAt t.nodes i a → IsAt t.nodes j b →
    place_order t (counts_of t x.service x.template.spread) i j ≡ node_cmp t x a b
order_is t x i j a b at at' =
    let keys : List Key = x.template.spread in
    let depth : length (get_or (map (path_of keys) t.nodes) i []) ≡ length keys =
    ap length (get_map (path_of keys) t.nodes i a [] at.0 at.1) ∙ length-map keys (key_value a) in
    let id : get_or (map node_id t.nodes) i 0 ≡ a.id = get_map node_id t.nodes i a 0 at.0 at.1 in
    let id' : get_or (map node_id t.nodes) j 0 ≡ b.id = get_map node_id t.nodes j b 0 at'.0 at'.1 in
    let some : get_or (map (here_on t x.service) t.nodes) i 0 ≡ here_on t x.service a =
    get_map (here_on t x.service) t.nodes i a 0 at.0 at.1 in
    let some' : get_or (map (here_on t x.service) t.nodes) j 0 ≡ here_on t x.service b =
    get_map (here_on t x.service) t.nodes j b 0 at'.0 at'.1 in
    let spread =
    ap (λ (n : ℕ). order_from (map (path_of keys) t.nodes) (map (here_on t x.service) t.nodes) 0 n i j) depth
    ∙ spread_is t x.service keys [] keys 0 i j a b refl refl at at' in
    rw (spread, some, some', id, id') refl

-- Places and nodes.

abbrev Chosen : List Node → Option ℕ → Option Node → Type 0
Chosen all None None = ⊤
Chosen all None (Some n) = ⊥
Chosen all (Some place) None = ⊥
Chosen all (Some place) (Some n) = IsAt all place n

chosen_step : (order : ℕ → ℕ → Ordering) (compare : Node → Node → Ordering) (all : List Node) (place : ℕ) (n : Node) →
    ((i j : ℕ) (a b : Node) → IsAt all i a → IsAt all j b → order i j ≡ compare a b) → IsAt all place n →
    (passes : Bool) (best : Option ℕ) (held : Option Node) → Chosen all best held →
    Chosen all (cond (is_before order place best && passes) (Some place) best) (cond passes (keep_least compare held n) held)
chosen_step order compare all place n same at true None None is = at
chosen_step order compare all place n same at false None None is = is
chosen_step order compare all place n same at passes None (Some m) is = absurd is
chosen_step order compare all place n same at passes (Some p) None is = absurd is
chosen_step order compare all place n same at true (Some p) (Some m) is =
    go (is_lt (order place p)) (is_lt (compare n m)) (ap is_lt (same place p n m at is))
  where
    go : (b c : Bool) → b ≡ c → Chosen all (cond (b && true) (Some place) (Some p)) (cond c (Some n) (Some m))
    go true true e = at
    go true false e = absurd cc
    go false true e = absurd cc
    go false false e = is
chosen_step order compare all place n same at false (Some p) (Some m) is = go (is_lt (order place p))
  where
    go : (b : Bool) → Chosen all (cond (b && false) (Some place) (Some p)) (Some m)
    go true = is
    go false = is

least_step : (compare : Node → Node → Ordering) (test : Node → Bool) (held : Option Node) (n : Node) (ns : List Node) →
    least_by compare held (filter test (n ∷ ns))
    ≡ least_by compare (cond (test n) (keep_least compare held n) held) (filter test ns)
least_step compare test held n ns = go (test n)
  where
    go : (b : Bool) → least_by compare held (cond b (n ∷ filter test ns) (filter test ns))
        ≡ least_by compare (cond b (keep_least compare held n) held) (filter test ns)
    go true = refl
    go false = refl

chosen_all : (order : ℕ → ℕ → Ordering) (compare : Node → Node → Ordering) (test : Node → Bool) (all pre ns : List Node)
    (place : ℕ) → all ≡ pre ++ ns → place ≡ length pre →
    ((i j : ℕ) (a b : Node) → IsAt all i a → IsAt all j b → order i j ≡ compare a b) →
    (best : Option ℕ) (held : Option Node) → Chosen all best held →
    Chosen all (best_place order test best place ns) (least_by compare held (filter test ns))
chosen_all order compare test all pre [] place is long same best held chosen = chosen
chosen_all order compare test all pre (n ∷ ns) place is long same best held chosen =
    let within : place < length all = omega (arith, long, ap length is, length-append pre (n ∷ ns)) in
    let there : get_or all place n ≡ n =
    ap (λ (xs : List Node). get_or xs place n) is ∙ get_or_at pre n ns n place (sym long) in
    let next = chosen_step order compare all place n same (within, there) (test n) best held chosen in
    subst (Chosen all (best_place order test (cond (is_before order place best && test n) (Some place) best) (place + 1) ns))
    (sym (least_step compare test held n ns))
    (chosen_all order compare test all (pre ++ n ∷ []) ns (place + 1) (is ∙ sym (append_assoc pre (n ∷ []) ns))
    (omega (arith, long, length-append pre (n ∷ []))) same
    (cond (is_before order place best && test n) (Some place) best) (cond (test n) (keep_least compare held n) held) next)

abbrev id_at : List ℕ → ℕ → ℕ
id_at nodes place = get_or nodes place 0

chosen_id : (nodes : List Node) (best : Option ℕ) (held : Option Node) → Chosen nodes best held →
    option_map (id_at (map node_id nodes)) best ≡ option_map node_id held
chosen_id nodes None None is = refl
chosen_id nodes None (Some n) is = absurd is
chosen_id nodes (Some place) None is = absurd is
chosen_id nodes (Some place) (Some n) is = ap Some (get_map node_id nodes place n 0 is.0 is.1)

pub best_is : (t : Tables) (x : Task) (test : Node → Bool) (c : Counts) (best : Option ℕ) →
    c ≡ counts_of t x.service x.template.spread → best ≡ best_place (place_order t c) test None 0 t.nodes →
    option_map (id_at c.nodes) best ≡ option_map node_id (best_by test t x)
best_is t x test c best scan is =
    let counts : Counts = counts_of t x.service x.template.spread in
    let place : best ≡ best_place (place_order t counts) test None 0 t.nodes =
    is ∙ ap (λ (d : Counts). best_place (place_order t d) test None 0 t.nodes) scan in
    ap (λ (d : Counts). option_map (id_at d.nodes) best) scan
    ∙ (ap (option_map (id_at (map node_id t.nodes))) place
    ∙ chosen_id t.nodes (best_place (place_order t counts) test None 0 t.nodes) (best_by test t x)
    (chosen_all (place_order t counts) (node_cmp t x) test t.nodes [] t.nodes 0 refl refl (order_is t x) None None tt))

-- the tree counts what a scan counts for the task
pub scan_is : (t : Tables) (x : Task) (c : Counts) → Stands t c → IsFor x c →
    c ≡ counts_of t x.service x.template.spread
scan_is t x c stands own =
    stands ∙ (ap (λ s. counts_of t s c.keys) own.service ∙ ap (counts_of t x.service) own.keys)

pub best_read : (t : Tables) (x : Task) (test : Node → Bool) (c : Counts) (best : Option ℕ) (nodes : List ℕ) (place : ℕ) →
    c ≡ counts_of t x.service x.template.spread → best ≡ best_place (place_order t c) test None 0 t.nodes →
    nodes ≡ c.nodes → best ≡ Some place → Some (get_or nodes place 0) ≡ option_map node_id (best_by test t x)
best_read t x test c best nodes place scan is ids found =
    ap (λ (ns : List ℕ). Some (get_or ns place 0)) ids
    ∙ (ap (option_map (id_at c.nodes)) (sym found) ∙ best_is t x test c best scan is)

pub best_missing : (t : Tables) (x : Task) (test : Node → Bool) (c : Counts) (best : Option ℕ) →
    c ≡ counts_of t x.service x.template.spread → best ≡ best_place (place_order t c) test None 0 t.nodes →
    best ≡ None → ◌≡◌ {A = Option ℕ} None (option_map node_id (best_by test t x))
best_missing t x test c best scan is none =
    ap (option_map (id_at c.nodes)) (sym none) ∙ best_is t x test c best scan is

-- The filters' test.

filter_both : (test p q : Node → Bool) (ns : List Node) → ((n : Node) → test n ≡ (p n && q n)) →
    filter test ns ≡ filter q (filter p ns)
filter_both test p q [] each = refl
filter_both test p q (n ∷ ns) each = go (test n) (p n) (q n) refl (each n) (filter_both test p q ns each)
  where
    go : (a b c : Bool) → q n ≡ c → a ≡ (b && c) → filter test ns ≡ filter q (filter p ns) →
        cond a (n ∷ filter test ns) (filter test ns) ≡ filter q (cond b (n ∷ filter p ns) (filter p ns))
    go true true true f e rest = rw (f, rest) refl
    go true true false f e rest = absurd cc
    go true false c f e rest = absurd cc
    go false true true f e rest = absurd cc
    go false true false f e rest = rw (f, rest) refl
    go false false c f e rest = rest

pub filtered_best : (t : Tables) (x : Task) (test : Node → Bool) →
    ((n : Node) → test n ≡ (is_tested_on x.place n.id && admits t x n)) → best_by test t x ≡ best_node t x
filtered_best t x test each =
    ap (least_by (node_cmp t x) None)
    (filter_both test (λ n. is_tested_on x.place n.id) (admits t x) t.nodes each)
