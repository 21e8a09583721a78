-- Branches: the first of the places that are alike, and what is counted of them.
use Rattle.std.proofs.Common.{◌≡◌, ◌==◌, ◌&&◌, ◌∙◌, ◌+◌, ◌<◌, Bool, List, [], ◌∷◌, ◌++◌, ap, arith, cond, eqb, false, get_or, length, length-append, ltb, not, refl, replicate, subst, suc, sym, take, true, zero, ℕ}
use Rattle.std.proofs.lemmas.Bool.Decides.{nat_tests}
use Rattle.std.proofs.lemmas.List.{length-replicate, get_or-replicate, get_or_append_left, get_or_at}
use Rattle.std.proofs.lemmas.Bool.{eq-eqb, eqb-true}
use Rattle.std.specs.Cmp.Lexicographic.{bytes_decides, slice_cmp}
use Rattle.std.specs.Ordering.{nat_cmp, ordering_index, ordering_then}
use Rattle.std.specs.declared.cmp.Ordering.{Ordering}
use Rattle.std.specs.declared.cmp.Ordering.TheVariants.{Equal, Greater, Less}
use Rattle.std.specs.Str.{bytes_eq}
use Rattle.swarm_objects.proofs.Tests.{both_are}
use Rattle.swarm_spread.specs.Sums.{AreBranching, AreFirst, HasDepth, HasSums, IsBranching, IsFirst, IsSummed, branch_sum, branches_of, is_alike, is_branch, order_from, same_branch, same_path, sum_where, value_at}
use Rattle.swarm_spread.specs.declared.levels.Levels.{Levels, Level'}
use Rattle.swarm_spread.proofs.SumLemmas.{read_at, summed_of}

-- Paths.

and_true : (a : Bool) → (true && a) ≡ (a && true)
and_true true = refl
and_true false = refl

and_assoc : (a b c : Bool) → (a && (b && c)) ≡ ((a && b) && c)
and_assoc true b c = refl
and_assoc false b c = refl

same_bytes : (x : List ℕ) → bytes_eq x x ≡ true
same_bytes x = (bytes_decides x x).1 refl

-- one value more
pub same_branch-suc : (depth : ℕ) (xs ys : List (List ℕ)) → depth < length xs → depth < length ys →
    same_branch (suc depth) xs ys ≡ (same_branch depth xs ys && bytes_eq (get_or ys depth []) (get_or xs depth []))
same_branch-suc zero [] ys lt lt' = absurd (omega arith)
same_branch-suc zero (x ∷ xs) [] lt lt' = absurd (omega arith)
same_branch-suc zero (x ∷ xs) (y ∷ ys) lt lt' = sym (and_true (bytes_eq y x))
same_branch-suc (suc depth) [] ys lt lt' = absurd (omega arith)
same_branch-suc (suc depth) (x ∷ xs) [] lt lt' = absurd (omega arith)
same_branch-suc (suc depth) (x ∷ xs) (y ∷ ys) lt lt' =
    ap (λ (b : Bool). bytes_eq y x && b) (same_branch-suc depth xs ys (omega arith) (omega arith))
    ∙ and_assoc (bytes_eq y x) (same_branch depth xs ys) (bytes_eq (get_or ys depth []) (get_or xs depth []))

same_path-is : (xs ys : List (List ℕ)) → same_path xs ys ≡ true → xs ≡ ys
same_path-is [] [] e = refl
same_path-is [] (y ∷ ys) e = cc
same_path-is (x ∷ xs) [] e = cc
same_path-is (x ∷ xs) (y ∷ ys) e =
    let parts = both_are (bytes_eq y x) (same_path xs ys) e in
    let first = (bytes_decides y x).0 parts.0 in
    let rest = same_path-is xs ys parts.1 in cc

same_path-refl : (xs : List (List ℕ)) → same_path xs xs ≡ true
same_path-refl [] = refl
same_path-refl (x ∷ xs) = ap (λ (b : Bool). b && same_path xs xs) (same_bytes x) ∙ same_path-refl xs

-- Firsts.

pub first_more : (parents : List ℕ) (paths : List (List (List ℕ))) (depth n : ℕ) (bs : List ℕ) (b : ℕ) (new : List ℕ) →
    new ≡ bs ++ b ∷ [] → length bs ≡ n → AreFirst parents paths depth n bs → IsFirst parents paths depth n b →
    record { count : length new ≡ n + 1; first : AreFirst parents paths depth (n + 1) new }
first_more parents paths depth n bs b new is long first last =
    record {
      count = ap length is ∙ (length-append bs (b ∷ []) ∙ omega (arith, long));
      first = λ place lt. go place (ltb place n) refl lt;
    }
  where
    go : (place : ℕ) → (c : Bool) → ltb place n ≡ c → place < n + 1 → IsFirst parents paths depth place (get_or new place 0)
    go place true e lt =
        let within : place < n = grind (arith, nat_tests) in
        subst (IsFirst parents paths depth place)
        (sym (ap (λ (xs : List ℕ). get_or xs place 0) is ∙ get_or_append_left bs (b ∷ []) 0 place (omega (arith, long))))
        (first place within)
    go place false e lt =
        let at : n ≡ place = grind (arith, nat_tests) in
        subst (IsFirst parents paths depth place)
        (sym (ap (λ (xs : List ℕ). get_or xs place 0) is ∙ get_or_at bs b [] 0 place (long ∙ at)))
        (subst (λ (k : ℕ). IsFirst parents paths depth k b) at last)

-- Branches of a level below.

alike_is : (parents : List ℕ) (paths : List (List (List ℕ))) (depth count i j : ℕ) → IsBranching depth paths parents →
    HasDepth count paths → depth < count → i < length paths → j < length paths →
    is_alike parents paths depth i j ≡ same_branch (suc depth) (get_or paths i []) (get_or paths j [])
alike_is parents paths depth count i j above deep lt within within' =
    ap (λ (b : Bool). b && bytes_eq (value_at paths j depth) (value_at paths i depth)) (above i j within within')
    ∙ sym (same_branch-suc depth (get_or paths i []) (get_or paths j [])
    (omega (arith, deep i within)) (omega (arith, deep j within')))

-- the values that a place's branch has
abbrev branch_path : List (List (List ℕ)) → ℕ → ℕ → List (List ℕ)
branch_path paths depth place = take (suc depth) (get_or paths place [])

record Below (parents : List ℕ) (paths : List (List (List ℕ))) (depth : ℕ) (bs : List ℕ) : Type 0 where
  alike : (i j : ℕ) → i < length paths → j < length paths →
      is_alike parents paths depth i j ≡ same_path (branch_path paths depth i) (branch_path paths depth j)
  first : AreFirst parents paths depth (length paths) bs

-- a place's branch has its values
own_path : (parents : List ℕ) (paths : List (List (List ℕ))) (depth : ℕ) (bs : List ℕ) (i : ℕ) →
    Below parents paths depth bs → i < length paths →
    branch_path paths depth (get_or bs i 0) ≡ branch_path paths depth i
own_path parents paths depth bs i below lt =
    let first = below.first i lt in
    same_path-is _ _ (sym (below.alike (get_or bs i 0) i (omega (arith, first.within)) lt) ∙ first.alike)

-- of places with the same values, none has a later branch
not_later : (parents : List ℕ) (paths : List (List (List ℕ))) (depth : ℕ) (bs : List ℕ) (i j : ℕ) →
    Below parents paths depth bs → i < length paths → j < length paths →
    branch_path paths depth i ≡ branch_path paths depth j → get_or bs i 0 < get_or bs j 0 → ⊥
not_later parents paths depth bs i j below lt lt' same less =
    let first = below.first i lt in
    let other = below.first j lt' in
    let own = own_path parents paths depth bs i below lt in
    let yes : is_alike parents paths depth (get_or bs i 0) j ≡ true =
    below.alike (get_or bs i 0) j (omega (arith, first.within)) lt'
    ∙ (ap (λ (p : List (List ℕ)). same_path p (branch_path paths depth j)) (own ∙ same)
    ∙ same_path-refl (branch_path paths depth j)) in
    let no : is_alike parents paths depth (get_or bs i 0) j ≡ false = other.least (get_or bs i 0) less in
    cc

neither_less : (a b : ℕ) → ltb a b ≡ false → ltb b a ≡ false → a ≡ b
neither_less a b e f = grind (arith, nat_tests)

same_first : (parents : List ℕ) (paths : List (List (List ℕ))) (depth : ℕ) (bs : List ℕ) (i j : ℕ) →
    Below parents paths depth bs → i < length paths → j < length paths →
    branch_path paths depth i ≡ branch_path paths depth j → get_or bs i 0 ≡ get_or bs j 0
same_first parents paths depth bs i j below lt lt' same =
    go (ltb (get_or bs i 0) (get_or bs j 0)) refl (ltb (get_or bs j 0) (get_or bs i 0)) refl
  where
    go : (a : Bool) → ltb (get_or bs i 0) (get_or bs j 0) ≡ a → (b : Bool) → ltb (get_or bs j 0) (get_or bs i 0) ≡ b →
        get_or bs i 0 ≡ get_or bs j 0
    go true e b f = absurd (not_later parents paths depth bs i j below lt lt' same (grind (arith, nat_tests)))
    go false e true f = absurd (not_later parents paths depth bs j i below lt' lt (sym same) (grind (arith, nat_tests)))
    go false e false f = neither_less (get_or bs i 0) (get_or bs j 0) e f

next_level : (parents : List ℕ) (paths : List (List (List ℕ))) (depth count : ℕ) (bs : List ℕ) →
    IsBranching depth paths parents → AreFirst parents paths depth (length paths) bs → depth < count →
    HasDepth count paths → IsBranching (suc depth) paths bs
next_level parents paths depth count bs above first lt deep i j within within' =
    go (same_path (branch_path paths depth i) (branch_path paths depth j)) refl
  where
    below : Below parents paths depth bs
    below = record {
      alike = λ k l in-k in-l. alike_is parents paths depth count k l above deep lt in-k in-l;
      first = first;
    }

    go : (b : Bool) → same_path (branch_path paths depth i) (branch_path paths depth j) ≡ b →
        eqb (get_or bs i 0) (get_or bs j 0) ≡ b
    go true e =
        eq-eqb (get_or bs i 0) (get_or bs j 0)
        (same_first parents paths depth bs i j below within within' (same_path-is _ _ e))
    go false e = other (eqb (get_or bs i 0) (get_or bs j 0)) refl
      where
        other : (c : Bool) → eqb (get_or bs i 0) (get_or bs j 0) ≡ c → c ≡ false
        other true f =
            let is = eqb-true (get_or bs i 0) (get_or bs j 0) f in
            let same : branch_path paths depth i ≡ branch_path paths depth j =
            sym (own_path parents paths depth bs i below within)
            ∙ (ap (branch_path paths depth) is ∙ own_path parents paths depth bs j below within') in
            let yes : same_path (branch_path paths depth i) (branch_path paths depth j) ≡ true =
            ap (λ (p : List (List ℕ)). same_path p (branch_path paths depth j)) same
            ∙ same_path-refl (branch_path paths depth j) in
            cc
        other false f = refl

pub next_branching : (parents : List ℕ) (paths : List (List (List ℕ))) (depth count : ℕ) (bs : List ℕ) →
    IsBranching depth paths parents → AreFirst parents paths depth (length paths) bs → depth < count →
    HasDepth count paths → IsBranching (depth + 1) paths bs
next_branching parents paths depth count bs above first lt deep =
    let one_more : suc depth ≡ depth + 1 = omega arith in
    subst (λ (d : ℕ). IsBranching d paths bs) one_more (next_level parents paths depth count bs above first lt deep)

-- Sums.

sum_of_zeros : {X : Type 0} (test : X → Bool) (xs : List X) (n : ℕ) → sum_where test xs (replicate n 0) ≡ 0
sum_of_zeros test [] n = refl
sum_of_zeros test (x ∷ xs) zero = refl
sum_of_zeros test (x ∷ xs) (suc n) = go (test x) (sum_of_zeros test xs n)
  where
    go : (b : Bool) → sum_where test xs (replicate n 0) ≡ 0 → cond b 0 0 + sum_where test xs (replicate n 0) ≡ 0
    go true e = omega (arith, e)
    go false e = omega (arith, e)

pub zero_summed : (parents : List ℕ) (paths : List (List (List ℕ))) (depth : ℕ) (bs sums : List ℕ) →
    sums ≡ replicate (length paths) 0 → length bs ≡ length paths → AreFirst parents paths depth (length paths) bs →
    IsSummed (replicate (length paths) 0) bs sums
zero_summed parents paths depth bs sums is long first =
    let n : ℕ = length paths in
    let size : length (replicate {A = ℕ} n 0) ≡ n = length-replicate n 0 in
    subst (IsSummed (replicate (length paths) 0) bs) (sym is)
    (record {
      count = long ∙ sym size;
      fits = λ place lt. omega (arith, size, (first place (omega (arith, size, lt))).within, lt);
      each = λ branch lt. get_or-replicate n branch 0 0 (omega (arith, size, lt)) ∙ sym (sum_of_zeros (is_branch branch) bs n);
    })

sum_where-same : {X Y : Type 0} (f : X → Bool) (g : Y → Bool) (xs : List X) (ys : List Y) (hs : List ℕ) (d : X) (e : Y) →
    length xs ≡ length ys → ((k : ℕ) → k < length ys → f (get_or xs k d) ≡ g (get_or ys k e)) →
    sum_where f xs hs ≡ sum_where g ys hs
sum_where-same f g [] [] hs d e long each = refl
sum_where-same f g [] (y ∷ ys) hs d e long each = absurd (omega arith)
sum_where-same f g (x ∷ xs) [] hs d e long each = absurd (omega arith)
sum_where-same f g (x ∷ xs) (y ∷ ys) [] d e long each = refl
sum_where-same f g (x ∷ xs) (y ∷ ys) (h ∷ hs) d e long each =
    let rest = sum_where-same f g xs ys hs d e (omega arith) (λ k lt. each (suc k) (omega arith)) in
    let first = ap (λ (b : Bool). cond b h 0) (each 0 (omega arith)) in
    omega (arith, rest, first)

pub branch_read : (depth : ℕ) (paths : List (List (List ℕ))) (here branches sums : List ℕ) (place : ℕ) →
    IsSummed here branches sums → IsBranching depth paths branches → length here ≡ length paths →
    place < length paths → get_or sums (get_or branches place 0) 0 ≡ branch_sum paths here depth place
branch_read depth paths here branches sums place summed branching long lt =
    summed.each (get_or branches place 0) (summed.fits place (omega (arith, long)))
    ∙ sum_where-same (is_branch (get_or branches place 0)) (same_branch depth (get_or paths place [])) branches paths here
    0 [] (summed.count ∙ long) (λ k within. branching place k lt within)

-- Orders.

pub then_first : (o rest : Ordering) → not (ordering_index o == 1) ≡ true → o ≡ ordering_then o rest
then_first Less rest e = refl
then_first Equal rest e = cc
then_first Greater rest e = refl

pub then_rest : (o rest : Ordering) → not (ordering_index o == 1) ≡ false → rest ≡ ordering_then o rest
then_rest Less rest e = cc
then_rest Equal rest e = refl
then_rest Greater rest e = cc

-- how two sums compare that are read for places
pub first_order : (depth : ℕ) (paths : List (List (List ℕ))) (here : List ℕ) (t : Levels) {branches sums : _} {p : _}
    {below : Levels} (one other a b x y : ℕ) → t ≡ Level' branches sums p below → HasSums here t →
    AreBranching depth paths (branches_of t) → length here ≡ length paths → one < length paths → other < length paths →
    a ≡ get_or branches.items one a → x ≡ get_or sums.items a x →
    b ≡ get_or branches.items other b → y ≡ get_or sums.items b y →
    nat_cmp x y ≡ nat_cmp (branch_sum paths here depth one) (branch_sum paths here depth other)
first_order depth paths here t {branches} {sums} one other a b x y is has branching long lt lt' own at own' at' =
    let summed = summed_of here t is has in
    let same : IsBranching depth paths branches.items =
    (subst (λ (u : Levels). AreBranching depth paths (branches_of u)) is branching).0 in
    let first : x ≡ branch_sum paths here depth one =
    (read_at here branches.items sums.items one a x summed (omega (arith, long)) own at).1
    ∙ branch_read depth paths here branches.items sums.items one summed same long lt in
    let second : y ≡ branch_sum paths here depth other =
    (read_at here branches.items sums.items other b y summed (omega (arith, long)) own' at').1
    ∙ branch_read depth paths here branches.items sums.items other summed same long lt' in
    ap (λ (n : ℕ). nat_cmp n y) first ∙ ap (nat_cmp (branch_sum paths here depth one)) second

-- the order by a level, and then by those below it
pub order_at : (depth : ℕ) (paths : List (List (List ℕ))) (here : List ℕ) (t : Levels) {branches sums : _} {p : _}
    {below : Levels} (one other : ℕ) (first second rest : Ordering) → t ≡ Level' branches sums p below →
    first ≡ nat_cmp (branch_sum paths here (depth + 1) one) (branch_sum paths here (depth + 1) other) →
    second ≡ slice_cmp nat_cmp (value_at paths one depth) (value_at paths other depth) →
    rest ≡ order_from paths here (depth + 1) (length (branches_of below)) one other →
    ordering_then first (ordering_then second rest)
    ≡ order_from paths here depth (length (branches_of t)) one other
order_at depth paths here t {below = below} one other first second rest is e f g =
    subst (λ (u : Levels). ordering_then first (ordering_then second rest)
    ≡ order_from paths here depth (length (branches_of u)) one other) (sym is)
    (ap (λ (o : Ordering). ordering_then o (ordering_then second rest)) e
    ∙ (ap (λ (o : Ordering). ordering_then
    (nat_cmp (branch_sum paths here (depth + 1) one) (branch_sum paths here (depth + 1) other))
    (ordering_then o rest)) f
    ∙ ap (λ (o : Ordering). ordering_then
    (nat_cmp (branch_sum paths here (depth + 1) one) (branch_sum paths here (depth + 1) other))
    (ordering_then (slice_cmp nat_cmp (value_at paths one depth) (value_at paths other depth)) o)) g))
