-- Sums over two lists side by side, and what one task more or fewer makes of them.
use Rattle.std.proofs.Common.{◌≡◌, ◌≢◌, ◌∙◌, ◌+◌, ◌<◌, ◌≤◌, Bool, List, [], ◌∷◌, ap, arith, cond, eqb, false, get_or, length, refl, set, subst, suc, sym, true, zero, ℕ}
use Rattle.std.proofs.lemmas.Bool.Decides.{nat_tests}
use Rattle.std.proofs.lemmas.List.{get_or_default, get_or-set_other, get_or-set_same, length-set}
use Rattle.std.specs.Prelude.{sum_by}
use Rattle.std.proofs.lemmas.List.Sums.{sum_by-cons}
use Rattle.swarm_objects.specs.Rows.{itself}
use Rattle.swarm_spread.specs.Sums.{HasSums, IsSummed, is_branch, sum_where}
use Rattle.swarm_spread.specs.declared.levels.Levels.{Levels, Level'}

pub sum_where-le : {X : Type 0} (test : X → Bool) (xs : List X) (hs : List ℕ) → sum_where test xs hs ≤ sum_by itself hs
sum_where-le test [] hs = omega arith
sum_where-le test (x ∷ xs) [] = omega arith
sum_where-le test (x ∷ xs) (h ∷ hs) = go (test x) (sum_where-le test xs hs)
  where
    go : (b : Bool) → sum_where test xs hs ≤ sum_by itself hs → cond b h 0 + sum_where test xs hs ≤ sum_by itself (h ∷ hs)
    go true le = omega (arith, le, sum_by-cons itself h hs)
    go false le = omega (arith, le, sum_by-cons itself h hs)

-- a number changed
pub sum_where-set : {X : Type 0} (test : X → Bool) (xs : List X) (hs : List ℕ) (place v : ℕ) (d : X) →
    length xs ≡ length hs → place < length hs →
    sum_where test xs (set hs place v) + cond (test (get_or xs place d)) (get_or hs place 0) 0
    ≡ sum_where test xs hs + cond (test (get_or xs place d)) v 0
sum_where-set test [] hs place v d same lt = absurd (omega arith)
sum_where-set test (x ∷ xs) [] place v d same lt = absurd (omega arith)
sum_where-set test (x ∷ xs) (h ∷ hs) zero v d same lt = omega arith
sum_where-set test (x ∷ xs) (h ∷ hs) (suc place) v d same lt =
    omega (arith, sum_where-set test xs hs place v d (omega arith) (omega arith))

pub sum_where-has : {X : Type 0} (test : X → Bool) (xs : List X) (hs : List ℕ) (place : ℕ) (d : X) →
    length xs ≡ length hs → place < length hs → test (get_or xs place d) ≡ true →
    get_or hs place 0 ≤ sum_where test xs hs
sum_where-has test [] hs place d same lt e = absurd (omega arith)
sum_where-has test (x ∷ xs) [] place d same lt e = absurd (omega arith)
sum_where-has test (x ∷ xs) (h ∷ hs) zero d same lt e = omega (arith, ap (λ (b : Bool). cond b h 0) e)
sum_where-has test (x ∷ xs) (h ∷ hs) (suc place) d same lt e =
    omega (arith, sum_where-has test xs hs place d (omega arith) (omega arith) e)

own_branch : (branch : ℕ) → is_branch branch branch ≡ true
own_branch branch = grind (arith, nat_tests)

-- the sum of the place's branch is at least what the place has
pub sum_of_place : (here branches sums : List ℕ) (place : ℕ) → IsSummed here branches sums → place < length here →
    (get_or here place 0 ≤ get_or sums (get_or branches place 0) 0)
    × (get_or sums (get_or branches place 0) 0 ≤ sum_by itself here)
sum_of_place here branches sums place summed lt =
    let branch : ℕ = get_or branches place 0 in
    let is = summed.each branch (summed.fits place lt) in (
      omega (arith, is, sum_where-has (is_branch branch) branches here place 0 summed.count lt (own_branch branch)),
      omega (arith, is, sum_where-le (is_branch branch) branches here),
    )

changed_each : (here branches sums : List ℕ) (place v w : ℕ) → IsSummed here branches sums → place < length here →
    w + get_or here place 0 ≡ get_or sums (get_or branches place 0) 0 + v →
    (branch : ℕ) → branch < length sums →
    get_or (set sums (get_or branches place 0) w) branch 0 ≡ sum_where (is_branch branch) branches (set here place v)
changed_each here branches sums place v w summed lt new branch within =
    go (eqb branch (get_or branches place 0)) refl (sum_where-set (is_branch branch) branches here place v 0 summed.count lt)
  where
    go : (b : Bool) → eqb branch (get_or branches place 0) ≡ b →
        sum_where (is_branch branch) branches (set here place v) + cond b (get_or here place 0) 0
        ≡ sum_where (is_branch branch) branches here + cond b v 0 →
        get_or (set sums (get_or branches place 0) w) branch 0 ≡ sum_where (is_branch branch) branches (set here place v)
    go true e after =
        let own : get_or branches place 0 ≡ branch = grind (arith, nat_tests) in
        let old = summed.each branch within in
        let at : get_or sums (get_or branches place 0) 0 ≡ get_or sums branch 0 = ap (λ (k : ℕ). get_or sums k 0) own in
        let put : get_or (set sums branch w) branch 0 ≡ w = get_or-set_same sums branch w 0 within in
        let there : get_or (set sums (get_or branches place 0) w) branch 0 ≡ w =
        ap (λ (k : ℕ). get_or (set sums k w) branch 0) own ∙ put in
        omega (arith, after, old, at, there, new)
    go false e after =
        let other : branch ≢ get_or branches place 0 = grind (arith, nat_tests) in
        get_or-set_other sums (get_or branches place 0) branch w 0 other ∙ (summed.each branch within ∙ omega (arith, after))

pub changed_summed : (here branches sums : List ℕ) (place v w : ℕ) → IsSummed here branches sums → place < length here →
    w + get_or here place 0 ≡ get_or sums (get_or branches place 0) 0 + v →
    IsSummed (set here place v) branches (set sums (get_or branches place 0) w)
changed_summed here branches sums place v w summed lt new =
    let same : length (set here place v) ≡ length here = length-set here place v in
    let long : length (set sums (get_or branches place 0) w) ≡ length sums = length-set sums (get_or branches place 0) w in
    record {
      count = summed.count ∙ sym same;
      fits = λ i within. omega (arith, long, summed.fits i (omega (arith, same, within)));
      each = λ branch within. changed_each here branches sums place v w summed lt new branch (omega (arith, long, within));
    }

pub summed_of : (here : List ℕ) (t : Levels) {branches sums : _} {p : _} {below : Levels} →
    t ≡ Level' branches sums p below → HasSums here t → IsSummed here branches.items sums.items
summed_of here t is has = (subst (HasSums here) is has).0

-- what a place's branch is read as, and changed to

pub read_at : (here branches sums : List ℕ) (place branch read : ℕ) → IsSummed here branches sums →
    place < length here → branch ≡ get_or branches place branch → read ≡ get_or sums branch read →
    (branch ≡ get_or branches place 0) × (read ≡ get_or sums (get_or branches place 0) 0)
read_at here branches sums place branch read summed lt own at =
    let is : branch ≡ get_or branches place 0 =
    own ∙ get_or_default branches place branch 0 (omega (arith, summed.count)) in
    let fits : branch < length sums = omega (arith, is, summed.fits place lt) in
    (is, at ∙ (get_or_default sums branch read 0 fits ∙ ap (λ (k : ℕ). get_or sums k 0) is))

pub read_of_place : (here branches sums : List ℕ) (place branch read : ℕ) → IsSummed here branches sums →
    place < length here → branch ≡ get_or branches place branch → read ≡ get_or sums branch read →
    (get_or here place 0 ≤ read) × (read ≤ sum_by itself here)
read_of_place here branches sums place branch read summed lt own at =
    let is = (read_at here branches sums place branch read summed lt own at).1 in
    let bounds = sum_of_place here branches sums place summed lt in
    (omega (arith, is, bounds.0), omega (arith, is, bounds.1))

pub put_of_place : (here branches sums : List ℕ) (place v branch read w : ℕ) → IsSummed here branches sums →
    place < length here → branch ≡ get_or branches place branch → read ≡ get_or sums branch read →
    w + get_or here place 0 ≡ read + v → IsSummed (set here place v) branches (set sums branch w)
put_of_place here branches sums place v branch read w summed lt own at new =
    let is = read_at here branches sums place branch read summed lt own at in
    subst (λ (k : ℕ). IsSummed (set here place v) branches (set sums k w)) (sym is.0)
    (changed_summed here branches sums place v w summed lt (new ∙ ap (λ (n : ℕ). n + v) is.1))
