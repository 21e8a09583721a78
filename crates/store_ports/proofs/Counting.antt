-- One count, and counts of lists.
use Rattle.std.proofs.Common.{◌≡◌, ℕ, ◌+◌, ◌-◌, ◌<◌, ◌≤◌, ◌⊎◌, Bool, true, false, cond, inl, inr, List, [], ◌++◌, Option, Some, None, length, refl, sym, ap, ◌∙◌, arith}
use Rattle.std.specs.Option.{option_map}
use Rattle.std.specs.Prelude.{count_by, drop, get_or, min, nat_lt, replicate, slice_get, take}
use Rattle.std.proofs.lemmas.Bool.Decides.{nat_tests}
use Rattle.std.proofs.Math.Seq.{take-nil}
use Rattle.std.proofs.lemmas.List.{get_or-replicate, length-drop, length-replicate}
use Rattle.std.proofs.lemmas.Option.{slice_get_cases}
use Rattle.std.proofs.lemmas.List.Sums.{count_by-le-length, sum_by-drop_more}
use Rattle.store_ports.specs.Counts.{Counts, MovesAll, count_of, most_times, moved}

zero_moved : (more : Bool) (c : ℕ) → moved more 0 c ≡ c
zero_moved more c = go more (nat_lt c most_times) refl
  where
    go : (more b : Bool) → nat_lt c most_times ≡ b → cond b (cond more (min (c + 0) most_times) (c - 0)) c ≡ c
    go true true p = grind (arith, nat_tests, p)
    go false true p = omega (arith)
    go more false p = refl

pub moved_none : (more : Bool) (a : Option ℕ) → a ≡ option_map (moved more 0) a
moved_none more None = refl
moved_none more (Some c) = ap Some (sym (zero_moved more c))

both_moved : (more : Bool) (i j c : ℕ) → moved more j (moved more i c) ≡ moved more (i + j) c
both_moved true i j c = grind (arith, nat_tests)
both_moved false i j c = grind (arith, nat_tests)

pub moved_both : (more : Bool) (i j : ℕ) (a : Option ℕ) → option_map (moved more j) (option_map (moved more i) a) ≡ option_map (moved more (i + j)) a
moved_both more i j None = refl
moved_both more i j (Some c) = ap Some (both_moved more i j c)

pub moves_three : (more : Bool) (f g h : Bool → ℕ → ℕ) (a b c d : Counts) → MovesAll more f a b → MovesAll more g b c →
    MovesAll more h c d → MovesAll more (λ udp n. f udp n + g udp n + h udp n) a d
moves_three more f g h a b c d one two three = λ udp n.
    three udp n ∙ ap (option_map (moved more (h udp n))) (two udp n ∙ ap (option_map (moved more (g udp n))) (one udp n))
    ∙ ap (option_map (moved more (h udp n))) (moved_both more (f udp n) (g udp n) (count_of udp a n))
    ∙ moved_both more (f udp n + g udp n) (h udp n) (count_of udp a n)

-- Loops: what is left to be counted decides.

left_step : (more : Bool) (one rest left : ℕ) (end a b : Option ℕ) → left ≡ one + rest → b ≡ option_map (moved more one) a →
    option_map (moved more left) a ≡ end → option_map (moved more rest) b ≡ end
left_step more one rest left end a b parts move was =
    ap (option_map (moved more rest)) move ∙ moved_both more one rest a ∙ ap (λ k. option_map (moved more k) a) (sym parts) ∙ was

-- the item at a loop's index is counted, and those after it are left
pub left_next : {X : Type 0} (p : X → Bool) (more : Bool) (xs : List X) (i : ℕ) (d : X) (end a b : Option ℕ) → i < length xs →
    b ≡ option_map (moved more (cond (p (get_or xs i d)) 1 0)) a → option_map (moved more (count_by p (drop i xs))) a ≡ end →
    option_map (moved more (count_by p (drop (i + 1) xs))) b ≡ end
left_next p more xs i d end a b below =
    left_step more (cond (p (get_or xs i d)) 1 0) (count_by p (drop (i + 1) xs)) (count_by p (drop i xs)) end a b
    (sum_by-drop_more (λ x. cond (p x) 1 0) xs i d below)

pub left_end : {X : Type 0} (p : X → Bool) (more : Bool) (xs : List X) (i : ℕ) (end now : Option ℕ) → length xs ≤ i →
    option_map (moved more (count_by p (drop i xs))) now ≡ end → now ≡ end
left_end p more xs i end now past was =
    let none : count_by p (drop i xs) ≡ 0 = omega (arith, count_by-le-length p (drop i xs), length-drop i xs, past) in
    moved_none more now ∙ ap (λ k. option_map (moved more k) now) (sym none) ∙ was

-- so many counts of 0

zero_at : (k n : ℕ) → slice_get {X = ℕ} (replicate k 0) n ≡ cond (nat_lt n k) (Some 0) None
zero_at k n = go (slice_get_cases {X = ℕ} (replicate k 0) n).1
  where
    go : ((x : ℕ) × (n < length {A = ℕ} (replicate k 0)) × (slice_get {X = ℕ} (replicate k 0) n ≡ Some x) × (get_or {A = ℕ} (replicate k 0) n x ≡ x))
        ⊎ ((length {A = ℕ} (replicate k 0) ≤ n) × (slice_get {X = ℕ} (replicate k 0) n ≡ None)) →
        slice_get {X = ℕ} (replicate k 0) n ≡ cond (nat_lt n k) (Some 0) None
    go (inl (x, lt, at, e)) =
        let within : n < k = omega (arith, lt, length-replicate {A = ℕ} k 0) in
        let below : nat_lt n k ≡ true = grind (arith, nat_tests, within) in
        at ∙ ap Some (sym e ∙ get_or-replicate {A = ℕ} k n 0 x within) ∙ sym (ap (λ b. cond b (Some 0) None) below)
    go (inr (le, at)) =
        let outside : k ≤ n = omega (arith, le, length-replicate {A = ℕ} k 0) in
        let past : nat_lt n k ≡ false = grind (arith, nat_tests, outside) in
        at ∙ sym (ap (λ b. cond b (Some 0) None) past)

-- a new list that is made so long
pub all_none : (k m n : ℕ) (xs new : List ℕ) → new ≡ take k xs ++ replicate (k - m) 0 → xs ≡ [] → m ≡ 0 →
    slice_get new n ≡ cond (nat_lt n k) (Some 0) None
all_none k m n xs new made none empty =
    let whole : k - m ≡ k = omega (arith, empty) in
    let all : new ≡ replicate k 0 =
    made ∙ ap (λ ys. take k ys ++ replicate (k - m) 0) none ∙ ap (λ ys. ys ++ replicate (k - m) 0) (take-nil k)
    ∙ ap (λ i. replicate i 0) whole in
    ap (λ ys. slice_get ys n) all ∙ zero_at k n
