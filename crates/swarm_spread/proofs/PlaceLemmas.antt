-- Places of nodes among those in order, and their counts.
use Rattle.std.proofs.Common.{◌≡◌, ◌≢◌, ◌∙◌, ◌<◌, ◌≤◌, Bool, Err, List, None, Result, Some, [], ◌∷◌, ap, arith, cond, eqb, false, get_or, length, ltb, refl, set, subst, suc, sym, true, zero, ℕ}
use Rattle.std.proofs.lemmas.Bool.Decides.{nat_tests}
use Rattle.std.proofs.lemmas.List.Sorted.{searched}
use Rattle.std.proofs.lemmas.List.{get_or_default, length-map, length-replicate}
use Rattle.std.proofs.lemmas.Bool.{eq-eqb}
use Rattle.std.specs.List.Sorted.{IsBinarySearchResult}
use Rattle.std.specs.Ordering.{nat_cmp, ordering_then}
use Rattle.std.specs.declared.cmp.Ordering.{Ordering}
use Rattle.std.specs.Prelude.{map, replicate}
use Rattle.swarm_objects.specs.Nodes.BestNode.{load}
use Rattle.swarm_objects.specs.Nodes.Constraints.{key_value}
use Rattle.swarm_objects.specs.Rows.{RisesFrom, itself, node_id}
use Rattle.swarm_objects.specs.World.{Tables}
use Rattle.swarm_objects.specs.declared.nodes.Node.{Node}
use Rattle.swarm_objects.specs.declared.templates.Key.{Key}
use Rattle.swarm_spread.specs.Counts.{Counts, IsKept, IsPlaceOf, changed_at, path_of, place_order, with_change}
use Rattle.swarm_spread.specs.Sums.{AreBranching, HasDepth, HasSums, branches_of, order_from}
use Rattle.swarm_spread.specs.declared.levels.Levels.{Levels}

pub above_first : (n i : ℕ) (xs : List ℕ) → RisesFrom itself n xs → i < length xs → n < get_or xs i 0
above_first n i [] rises lt = absurd (omega arith)
above_first n zero (x ∷ xs) rises lt = rises.0
above_first n (suc i) (x ∷ xs) rises lt =
    let rest = above_first x i xs rises.1 (omega arith) in let first = rises.0 in omega arith

pub rises_on : (n : ℕ) (xs : List ℕ) → RisesFrom itself n xs → (i j : ℕ) → i ≤ j → j < length xs → get_or xs i 0 ≤ get_or xs j 0
rises_on n [] rises i j le lt = absurd (omega arith)
rises_on n (x ∷ xs) rises zero zero le lt = omega arith
rises_on n (x ∷ xs) rises zero (suc j) le lt =
    let above = above_first x j xs rises.1 (omega arith) in omega (arith, above)
rises_on n (x ∷ xs) rises (suc i) zero le lt = absurd (omega arith)
rises_on n (x ∷ xs) rises (suc i) (suc j) le lt = rises_on x xs rises.1 i j (omega arith) (omega arith)

-- what a search that found nothing says
pub not_found : (nodes : List ℕ) (node : ℕ) (r : Result ℕ ℕ) (e : ℕ) → r ≡ Err e →
    IsBinarySearchResult (λ n. nat_cmp n node) nodes r → RisesFrom itself 0 nodes → IsPlaceOf nodes node None
not_found nodes node r e is found rises =
    let here = searched nodes node (Err e) (subst (IsBinarySearchResult (λ n. nat_cmp n node) nodes) is found)
    (rises_on 0 nodes rises) in
    λ place lt same. go place lt same here (ltb place e) refl
  where
    go : (place : ℕ) → place < length nodes → get_or nodes place 0 ≡ node →
        (e ≤ length nodes) × ((k : ℕ) → k < e → get_or nodes k 0 < node)
        × ((k : ℕ) → e ≤ k → k < length nodes → node < get_or nodes k 0) →
        (b : Bool) → ltb place e ≡ b → ⊥
    go place lt same found' true f =
        let less = found'.1 place (grind (arith, nat_tests)) in omega arith
    go place lt same found' false f =
        let more = found'.2 place (grind (arith, nat_tests)) lt in omega arith

-- Changes at a place.

pub changed_nowhere : (f : ℕ → ℕ) (node : ℕ) (nodes hs : List ℕ) → length hs ≡ length nodes →
    IsPlaceOf nodes node None → changed_at f node nodes hs ≡ hs
changed_nowhere f node [] hs long none = refl
changed_nowhere f node (n ∷ nodes) [] long none = refl
changed_nowhere f node (n ∷ nodes) (h ∷ hs) long none =
    go (eqb n node) refl (changed_nowhere f node nodes hs (omega arith) (λ place lt. none (suc place) (omega arith)))
  where
    go : (b : Bool) → eqb n node ≡ b → changed_at f node nodes hs ≡ hs →
        cond b (f h) h ∷ changed_at f node nodes hs ≡ h ∷ hs
    go true e rest = absurd (none 0 (omega arith) (grind (arith, nat_tests)))
    go false e rest = ap (λ (xs : List ℕ). h ∷ xs) rest

not_same : (n node : ℕ) → n ≢ node → eqb n node ≡ false
not_same n node differ = grind (arith, nat_tests)

pub changed_there : (f : ℕ → ℕ) (node n : ℕ) (nodes hs : List ℕ) (place : ℕ) → RisesFrom itself n nodes →
    length hs ≡ length nodes → place < length nodes → get_or nodes place 0 ≡ node →
    changed_at f node nodes hs ≡ set hs place (f (get_or hs place 0))
changed_there f node n [] hs place rises long lt at = absurd (omega arith)
changed_there f node n (m ∷ nodes) [] place rises long lt at = absurd (omega arith)
changed_there f node n (m ∷ nodes) (h ∷ hs) zero rises long lt at =
    let rest = changed_nowhere f node nodes hs (omega arith)
    (λ place within same. let above = above_first m place nodes rises.1 within in omega arith) in
    ap (λ (b : Bool). cond b (f h) h ∷ changed_at f node nodes hs) (eq-eqb m node at)
    ∙ ap (λ (xs : List ℕ). f h ∷ xs) rest
changed_there f node n (m ∷ nodes) (h ∷ hs) (suc place) rises long lt at =
    let rest = changed_there f node m nodes hs place rises.1 (omega arith) (omega arith) at in
    let above = above_first m place nodes rises.1 (omega arith) in
    ap (λ (b : Bool). cond b (f h) h ∷ changed_at f node nodes hs) (not_same m node (λ same. omega arith))
    ∙ ap (λ (xs : List ℕ). h ∷ xs) rest

-- What a tree is seen as after a change.

abbrev seen : ℕ → List Key → List ℕ → List (List (List ℕ)) → List ℕ → Counts
seen service keys nodes paths here =
    record { service = service; keys = keys; nodes = nodes; paths = paths; here = here }

pub change_there : {service : ℕ} {keys : List Key} (f : ℕ → ℕ) (node place v w : ℕ)
    (nodes : List ℕ) (paths : List (List (List ℕ))) (here : List ℕ)
    (levels : Levels) (c : Counts) → seen service keys nodes paths here ≡ c → IsKept nodes paths here levels →
    IsPlaceOf nodes node (Some place) → v ≡ get_or here place v → w ≡ f v →
    seen service keys nodes paths (set here place w) ≡ with_change f c node
change_there {service} {keys} f node place v w nodes paths here levels c is kept at read put =
    let value : v ≡ get_or here place 0 =
    read ∙ get_or_default here place v 0 (let long = kept.each_count in let within = at.0 in omega arith) in
    let there = changed_there f node 0 nodes here place kept.rising kept.each_count at.0 at.1 in
    subst (λ (d : Counts). seen service keys nodes paths (set here place w) ≡ with_change f d node) is
    (ap (seen service keys nodes paths) (ap (set here place) (put ∙ ap f value) ∙ sym there))

pub change_nowhere : {service : ℕ} {keys : List Key} (f : ℕ → ℕ) (node : ℕ)
    (nodes : List ℕ) (paths : List (List (List ℕ))) (here : List ℕ)
    (levels : Levels) (c : Counts) → seen service keys nodes paths here ≡ c → IsKept nodes paths here levels →
    IsPlaceOf nodes node None → c ≡ with_change f c node
change_nowhere {service} {keys} f node nodes paths here levels c is kept none =
    subst (λ (d : Counts). d ≡ with_change f d node) is
    (ap (seen service keys nodes paths) (sym (changed_nowhere f node nodes here kept.each_count none)))

-- where it begins

rising_ids : (n : ℕ) (ns : List Node) → RisesFrom node_id n ns → RisesFrom itself n (map node_id ns)
rising_ids n [] rises = tt
rising_ids n (x ∷ ns) rises = (rises.0, rising_ids x.id ns rises.1)

pub deep_paths : (keys : List Key) (ns : List Node) → HasDepth (length keys) (map (path_of keys) ns)
deep_paths keys [] place lt = absurd (omega arith)
deep_paths keys (n ∷ ns) zero lt = length-map keys (key_value n)
deep_paths keys (n ∷ ns) (suc place) lt = deep_paths keys ns place (omega arith)

pub empty_kept : (keys : List Key) (ns : List Node) (nodes : List ℕ) (paths : List (List (List ℕ))) (here : List ℕ)
    (levels : Levels) → nodes ≡ map node_id ns → paths ≡ map (path_of keys) ns → here ≡ replicate (length nodes) 0 →
    RisesFrom node_id 0 ns → HasSums (replicate (length paths) 0) levels → AreBranching 1 paths (branches_of levels) →
    length (branches_of levels) ≡ length keys → IsKept nodes paths here levels
empty_kept keys ns nodes paths here levels ids each none rises sums same count =
    let n : length nodes ≡ length ns = ap length ids ∙ length-map ns node_id in
    let p : length paths ≡ length ns = ap length each ∙ length-map ns (path_of keys) in
    let h : length here ≡ length nodes = ap length none ∙ length-replicate (length nodes) 0 in
    record {
      rising = subst (RisesFrom itself 0) (sym ids) (rising_ids 0 ns rises);
      each_path = p ∙ sym n;
      each_count = h;
      sums = subst (λ (hs : List ℕ). HasSums hs levels)
          (ap (λ (k : ℕ). replicate {A = ℕ} k 0) (p ∙ sym n) ∙ sym none) sums;
      same = same;
      deep = subst (λ (k : ℕ). HasDepth k paths) (sym count)
          (subst (HasDepth (length keys)) (sym each) (deep_paths keys ns));
    }

-- the order of two places, by parts
pub order_of_places : {service : ℕ} {keys : List Key} (t : Tables)
    (nodes : List ℕ) (paths : List (List (List ℕ))) (here : List ℕ) (levels : Levels)
    (c : Counts) (one other a b : ℕ) (first second third : Ordering) → seen service keys nodes paths here ≡ c →
    IsKept nodes paths here levels → one < length nodes → other < length nodes →
    first ≡ order_from paths here 0 (length (branches_of levels)) one other →
    a ≡ get_or here one a → b ≡ get_or here other b → second ≡ nat_cmp a b →
    third ≡ ordering_then (nat_cmp (load t (get_or nodes one 0)) (load t (get_or nodes other 0)))
    (nat_cmp (get_or nodes one 0) (get_or nodes other 0)) →
    ordering_then first (ordering_then second third) ≡ place_order t c one other
order_of_places t nodes paths here levels c one other a b first second third is kept lt lt' e own own' f g =
    let long = kept.each_count in
    let depth : length (branches_of levels) ≡ length (get_or paths one []) =
    sym (kept.deep one (let each = kept.each_path in omega arith)) in
    let x : a ≡ get_or here one 0 = own ∙ get_or_default here one a 0 (omega arith) in
    let y : b ≡ get_or here other 0 = own' ∙ get_or_default here other b 0 (omega arith) in
    let first_is : first ≡ order_from paths here 0 (length (get_or paths one [])) one other =
    e ∙ ap (λ (k : ℕ). order_from paths here 0 k one other) depth in
    let second_is : second ≡ nat_cmp (get_or here one 0) (get_or here other 0) =
    f ∙ (ap (λ (k : ℕ). nat_cmp k b) x ∙ ap (nat_cmp (get_or here one 0)) y) in
    subst (λ (d : Counts). ordering_then first (ordering_then second third) ≡ place_order t d one other) is
    (ap (λ (o : Ordering). ordering_then o (ordering_then second third)) first_is
    ∙ ap (ordering_then (order_from paths here 0 (length (get_or paths one [])) one other))
    (ap (λ (o : Ordering). ordering_then o third) second_is
    ∙ ap (ordering_then (nat_cmp (get_or here one 0) (get_or here other 0))) g))
