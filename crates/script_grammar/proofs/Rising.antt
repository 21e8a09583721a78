-- Labels with keys of their own are kept by rising key.
use Rattle.std.proofs.Common.{◌≡◌, ℕ, zero, suc, ◌<◌, ◌+◌, List, [], ◌∷◌, ◌++◌, take, drop, Bool, true, false, cond, ◌&&◌, ◌||◌, refl, sym, ◌∙◌, ap, subst, inl, inr, ◌⊎◌, arith, nat_eq, nat_lt}
use Rattle.std.specs.List.{AllByRecursion}
use Rattle.std.specs.Str.{bytes_eq}
use Rattle.std.proofs.lemmas.Bool.Decides.{nat_tests}
use Rattle.swarm_objects.proofs.Tests.{both}
use Rattle.script_grammar.specs.Drafts.{label_place, labels_of, labels_onto, with_label}
use Rattle.script_grammar.specs.HasText.{keys_rise}
use Rattle.script_grammar.specs.Tables.{bytes_lt}
use Rattle.script_grammar.proofs.HasWord.{of_all}
use Rattle.script_grammar.proofs.Nodes.{Labels, Rises}

-- ## The order of bytes

below : (x y : ℕ) (a b c : Bool) → nat_lt x y ≡ a → nat_eq x y ≡ b → (a || (b && c)) ≡ true → (x < y) ⊎ ((x ≡ y) × (c ≡ true))
below x y true b c e f g = inl (grind (arith, nat_tests))
below x y false true c e f g = inr (grind (arith, nat_tests), g)
below x y false false c e f g = cc

less_then : (x y : ℕ) (c : Bool) → x < y → (nat_lt x y || (nat_eq x y && c)) ≡ true
less_then x y c h = let a : nat_lt x y ≡ true = grind (arith, nat_tests) in ap (λ t. t || (nat_eq x y && c)) a

same_then : (x y : ℕ) (c : Bool) → x ≡ y → c ≡ true → (nat_lt x y || (nat_eq x y && c)) ≡ true
same_then x y c e h =
    let a : nat_lt x y ≡ false = grind (arith, nat_tests) in
    let b : nat_eq x y ≡ true = grind (arith, nat_tests) in
    ap (λ t. t || (nat_eq x y && c)) a ∙ ap (λ t. t && c) b ∙ h

pub bytes_lt-trans : (xs ys zs : List ℕ) → bytes_lt xs ys ≡ true → bytes_lt ys zs ≡ true → bytes_lt xs zs ≡ true
bytes_lt-trans xs [] zs e f = cc
bytes_lt-trans xs (y ∷ ys) [] e f = cc
bytes_lt-trans [] (y ∷ ys) (z ∷ zs) e f = refl
bytes_lt-trans (x ∷ xs) (y ∷ ys) (z ∷ zs) e f =
    go (below x y (nat_lt x y) (nat_eq x y) (bytes_lt xs ys) refl refl e) (below y z (nat_lt y z) (nat_eq y z) (bytes_lt ys zs) refl refl f) (bytes_lt-trans xs ys zs)
  where
    go : (x < y) ⊎ ((x ≡ y) × (bytes_lt xs ys ≡ true)) → (y < z) ⊎ ((y ≡ z) × (bytes_lt ys zs ≡ true)) →
        (bytes_lt xs ys ≡ true → bytes_lt ys zs ≡ true → bytes_lt xs zs ≡ true) → bytes_lt (x ∷ xs) (z ∷ zs) ≡ true
    go (inl h) (inl k) ih = less_then x z (bytes_lt xs zs) (omega (arith, h, k))
    go (inl h) (inr k) ih = less_then x z (bytes_lt xs zs) (subst (λ n. x < n) k.0 h)
    go (inr h) (inl k) ih = less_then x z (bytes_lt xs zs) (subst (λ n. n < z) (sym h.0) k)
    go (inr h) (inr k) ih = same_then x z (bytes_lt xs zs) (h.0 ∙ k.0) (ih h.1 k.1)

not_same : (x y : ℕ) (bs cs : List ℕ) → nat_eq x y ≡ true → bytes_eq (x ∷ bs) (y ∷ cs) ≡ false → bytes_eq bs cs ≡ false
not_same x y bs cs e f = sym (ap (λ t. t && bytes_eq bs cs) e) ∙ f

-- of two texts that differ one is below the other
pub other_below : (xs ys : List ℕ) → bytes_eq xs ys ≡ false → bytes_lt xs ys ≡ false → bytes_lt ys xs ≡ true
other_below [] [] e f = cc
other_below (x ∷ xs) [] e f = refl
other_below [] (y ∷ ys) e f = cc
other_below (x ∷ xs) (y ∷ ys) e f = go (nat_lt x y) (nat_eq x y) refl refl f (other_below xs ys) where
  go : (a b : Bool) → nat_lt x y ≡ a → nat_eq x y ≡ b → (a || (b && bytes_lt xs ys)) ≡ false →
      (bytes_eq xs ys ≡ false → bytes_lt xs ys ≡ false → bytes_lt ys xs ≡ true) → bytes_lt (y ∷ ys) (x ∷ xs) ≡ true
  go true b k l g ih = cc
  go false true k l g ih = same_then y x (bytes_lt ys xs) (grind (arith, nat_tests)) (ih (not_same x y xs ys l e) g)
  go false false k l g ih = less_then y x (bytes_lt ys xs) (grind (arith, nat_tests))

-- ## One label more

-- no label has this key
abbrev pub Lacks : List ℕ → Labels → Type 0
Lacks k = AllByRecursion (λ m. bytes_eq k m.0 ≡ false)

all_above : (k j : List ℕ) (ms : Labels) → bytes_lt k j ≡ true → AllByRecursion (λ m. bytes_lt j m.0 ≡ true) ms → AllByRecursion (λ m. bytes_lt k m.0 ≡ true) ms
all_above k j [] e h = tt
all_above k j (m ∷ ms) e h = (bytes_lt-trans k j m.0 e h.0, all_above k j ms e h.1)

with_above : (j : List ℕ) (l : List ℕ × List ℕ) (ms : Labels) → bytes_lt j l.0 ≡ true → AllByRecursion (λ m. bytes_lt j m.0 ≡ true) ms →
    AllByRecursion (λ m. bytes_lt j m.0 ≡ true) (with_label l ms)
with_above j l ms e h = go (label_place l.0 ms) ms h where
  go : (n : ℕ) (ms : Labels) → AllByRecursion (λ m. bytes_lt j m.0 ≡ true) ms → AllByRecursion (λ m. bytes_lt j m.0 ≡ true) (take n ms ++ l ∷ drop n ms)
  go zero ms h = (e, h)
  go (suc n) [] h = (e, tt)
  go (suc n) (m ∷ ms) h = (h.0, go n ms h.1)

-- the head stays, where the label comes behind it
behind_head : (l m : List ℕ × List ℕ) (ms : Labels) → bytes_lt l.0 m.0 ≡ false → with_label l (m ∷ ms) ≡ m ∷ with_label l ms
behind_head l m ms e =
    ap (λ b. take (cond b 0 (1 + label_place l.0 ms)) (m ∷ ms) ++ l ∷ drop (cond b 0 (1 + label_place l.0 ms)) (m ∷ ms)) e
    ∙ (let one : 1 + label_place l.0 ms ≡ suc (label_place l.0 ms) = omega arith in ap (λ n. take n (m ∷ ms) ++ l ∷ drop n (m ∷ ms)) one)

pub with_label-rises : (l : List ℕ × List ℕ) (ms : Labels) → Lacks l.0 ms → Rises ms → Rises (with_label l ms)
with_label-rises l [] k r = (tt, tt)
with_label-rises l (m ∷ ms) k r = go (bytes_lt l.0 m.0) refl (with_label-rises l ms k.1 r.1) where
  go : (b : Bool) → bytes_lt l.0 m.0 ≡ b → Rises (with_label l ms) → Rises (with_label l (m ∷ ms))
  go true e ih =
      let first : with_label l (m ∷ ms) ≡ l ∷ m ∷ ms = ap (λ b. take (cond b 0 (1 + label_place l.0 ms)) (m ∷ ms) ++ l ∷ drop (cond b 0 (1 + label_place l.0 ms)) (m ∷ ms)) e in
      subst Rises (sym first) ((e, all_above l.0 m.0 ms e r.0), r)
  go false e ih = subst Rises (sym (behind_head l m ms e)) (with_above m.0 l ms (other_below l.0 m.0 k.0 e) r.0, ih)

-- a label's key is met among labels where it is the new one's or one of theirs
lacks_with : (k : List ℕ) (l : List ℕ × List ℕ) (ms : Labels) → bytes_eq k l.0 ≡ false → Lacks k ms → Lacks k (with_label l ms)
lacks_with k l ms e h = go (label_place l.0 ms) ms h where
  go : (n : ℕ) (ms : Labels) → Lacks k ms → Lacks k (take n ms ++ l ∷ drop n ms)
  go zero ms h = (e, h)
  go (suc n) [] h = (e, tt)
  go (suc n) (m ∷ ms) h = (h.0, go n ms h.1)

-- ## All labels

-- no key stands twice
abbrev pub Apart : Labels → Type 0
Apart [] = Unit {0}
Apart (l ∷ ls) = AllByRecursion (λ m. bytes_eq m.0 l.0 ≡ false) ls × Apart ls

all_lack : (ms : Labels) (l : List ℕ × List ℕ) (ls : Labels) → AllByRecursion (λ m. Lacks m.0 ms) ls → AllByRecursion (λ m. bytes_eq m.0 l.0 ≡ false) ls →
    AllByRecursion (λ m. Lacks m.0 (with_label l ms)) ls
all_lack ms l [] h k = tt
all_lack ms l (m ∷ ls) h k = (lacks_with m.0 l ms k.0 h.0, all_lack ms l ls h.1 k.1)

onto_rises : (ls ms : Labels) → Apart ls → AllByRecursion (λ l. Lacks l.0 ms) ls → Rises ms → Rises (labels_onto ms ls)
onto_rises [] ms a k r = r
onto_rises (l ∷ ls) ms a k r = onto_rises ls (with_label l ms) a.1 (all_lack ms l ls k.1 a.0) (with_label-rises l ms k.0 r)

none_lacks : (ls : Labels) → AllByRecursion (λ l. Lacks l.0 []) ls
none_lacks [] = tt
none_lacks (l ∷ ls) = (tt, none_lacks ls)

pub labels_rising : (ls : Labels) → Apart ls → Rises (labels_of ls)
labels_rising ls a = onto_rises ls [] a (none_lacks ls) tt

pub keys_rise_yes : (ls : Labels) → Rises ls → keys_rise ls ≡ true
keys_rise_yes [] r = refl
keys_rise_yes (l ∷ ls) r = both _ _ (of_all (λ m. bytes_lt l.0 m.0) ls r.0) (keys_rise_yes ls r.1)
