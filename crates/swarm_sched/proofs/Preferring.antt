-- Which of two nodes comes first: preference by preference, as long as their values are the same.
use Rattle.std.proofs.Common.{◌≡◌, ◌∙◌, ◌+◌, ◌<◌, ◌∷◌, ℕ, Bool, List, [], ap, drop, false, get_or, length, not, refl, sym, take, true}
use Rattle.std.proofs.lemmas.List.{drop_more, take_more}
use Rattle.std.proofs.lemmas.Map.Text.{is_eq-slice_cmp}
use Rattle.std.proofs.lemmas.Slice.Eq.{bytes_eq-Decides}
use Rattle.std.specs.Cmp.Lexicographic.{slice_cmp}
use Rattle.std.specs.List.{list_all}
use Rattle.std.specs.Ordering.{is_eq, nat_cmp, ordering_index, ordering_then}
use Rattle.std.specs.Prelude.{◌&&◌, ◌++◌, ◌==◌}
use Rattle.std.specs.Str.{bytes_eq}
use Rattle.std.specs.declared.cmp.Ordering.TheVariants.{Equal, Greater, Less}
use Rattle.std.specs.declared.cmp.Ordering.{Ordering}
use Rattle.swarm_objects.specs.Nodes.BestNode.{agrees, branch_load, spread_cmp}
use Rattle.swarm_objects.specs.Nodes.Constraints.{key_value}
use Rattle.swarm_objects.specs.declared.nodes.Node.{Node}
use Rattle.swarm_objects.specs.declared.templates.Key.{Key}
use Rattle.swarm_sched.proofs.Branching.{same-branch}
use Rattle.swarm_sched.specs.Inside.Branches.{Preferences, load_at}

abbrev value_cmp : Key → Node → Node → Ordering
value_cmp k a b = slice_cmp nat_cmp (key_value a k) (key_value b k)

abbrev compare : Preferences → ℕ → Node → Node → Ordering
compare p place a b = spread_cmp p.tables p.service (take place p.keys) (drop place p.keys) a b

all-append : {X : Type 0} (test : X → Bool) (xs ys : List X) → list_all test (xs ++ ys) ≡ (list_all test xs && list_all test ys)
all-append test [] ys = refl
all-append test (x ∷ xs) ys = go (test x) (all-append test xs ys)
  where
    go : (b : Bool) → list_all test (xs ++ ys) ≡ (list_all test xs && list_all test ys) →
        (b && list_all test (xs ++ ys)) ≡ ((b && list_all test xs) && list_all test ys)
    go true rest = rest
    go false rest = refl

-- they agree on one more
pub agree_more : (keys : List Key) (place : ℕ) (k d : Key) (a b : Node) → place < length keys → k ≡ get_or keys place d →
    agrees (take place keys) a b ≡ true → value_cmp k a b ≡ Equal → agrees (take (place + 1) keys) a b ≡ true
agree_more keys place k d a b lt is alike equal =
    let test : Key → Bool = λ j. bytes_eq (key_value b j) (key_value a j) in
    let eq : bytes_eq (key_value a k) (key_value b k) ≡ true = sym (is_eq-slice_cmp (key_value a k) (key_value b k)) ∙ ap is_eq equal in
    let same : key_value a k ≡ key_value b k = (bytes_eq-Decides (key_value a k) (key_value b k)).0 eq in
    let own : test k ≡ true = ap (λ v. bytes_eq v (key_value a k)) (sym same) ∙ ap (bytes_eq (key_value a k)) same ∙ eq in
    ap (list_all test) (take_more keys place d lt)
    ∙ all-append test (take place keys) (get_or keys place d ∷ [])
    ∙ ap (λ j. list_all test (take place keys) && list_all test (j ∷ [])) (sym is)
    ∙ ap (λ c. c && list_all test (k ∷ [])) alike
    ∙ ap (λ c. c && true) own

-- how the preference at this place decides it
decided : (p : Preferences) (place : ℕ) (k d : Key) (a b : Node) → place < length p.keys → k ≡ get_or p.keys place d →
    compare p place a b
    ≡ ordering_then (nat_cmp (load_at p (place + 1) a) (load_at p (place + 1) b)) (ordering_then (value_cmp k a b) (compare p (place + 1) a b))
decided p place k d a b lt is =
    let more : take place p.keys ++ k ∷ [] ≡ take (place + 1) p.keys =
    ap (λ j. take place p.keys ++ j ∷ []) is ∙ sym (take_more p.keys place d lt) in
    ap (λ ks. spread_cmp p.tables p.service (take place p.keys) ks a b)
    (drop_more p.keys place d lt ∙ ap (λ j. j ∷ drop (place + 1) p.keys) (sym is))
    ∙ ap (λ ks. ordering_then (nat_cmp (branch_load p.tables p.service ks a) (branch_load p.tables p.service ks b))
    (ordering_then (value_cmp k a b) (spread_cmp p.tables p.service ks (drop (place + 1) p.keys) a b))) more

-- where the values differ
pub differs : (p : Preferences) (place : ℕ) (k d : Key) (a b : Node) (o : Ordering) → place < length p.keys →
    k ≡ get_or p.keys place d → (value_cmp k a b ≡ Equal → ⊥) →
    o ≡ ordering_then (nat_cmp (load_at p (place + 1) a) (load_at p (place + 1) b)) (value_cmp k a b) →
    o ≡ compare p place a b
differs p place k d a b o lt is apart e =
    e ∙ ap (ordering_then (nat_cmp (load_at p (place + 1) a) (load_at p (place + 1) b)))
    (sym (alone (value_cmp k a b) (compare p (place + 1) a b) apart)) ∙ sym (decided p place k d a b lt is)
  where
    alone : (v w : Ordering) → (v ≡ Equal → ⊥) → ordering_then v w ≡ v
    alone Less w other = refl
    alone Equal w other = absurd (other refl)
    alone Greater w other = refl

-- where they are the same
pub goes_on : (p : Preferences) (place : ℕ) (k d : Key) (a b : Node) → place < length p.keys → k ≡ get_or p.keys place d →
    agrees (take (place + 1) p.keys) a b ≡ true → value_cmp k a b ≡ Equal → compare p (place + 1) a b ≡ compare p place a b
goes_on p place k d a b lt is alike equal =
    same-branch p (place + 1) a b (compare p (place + 1) a b) alike
    ∙ ap (λ v. ordering_then (nat_cmp (load_at p (place + 1) a) (load_at p (place + 1) b)) (ordering_then v (compare p (place + 1) a b)))
    (sym equal)
    ∙ sym (decided p place k d a b lt is)

pub is_equal : (o : Ordering) (b : Bool) → b ≡ not (ordering_index o == 1) → b ≡ false → o ≡ Equal
is_equal Less b e f = let both : true ≡ false = sym e ∙ f in absurd cc
is_equal Equal b e f = refl
is_equal Greater b e f = let both : true ≡ false = sym e ∙ f in absurd cc

pub ruleset order_steps = (agree_more, differs, goes_on)
