-- Where a text is parted.
use Rattle.std.proofs.Common.{◌≡◌, ℕ, suc, ◌+◌, List, [], ◌∷◌, length, take, drop, Bool, true, false, cond, not, refl, ap, sym, ◌∙◌, Option, Some, None, arith, nat_eq, nat_lt}
use Rattle.std.specs.List.{position, position_or_len}
use Rattle.std.proofs.lemmas.Bool.Decides.{nat_tests}
use Rattle.script_grammar.specs.Words.{split_at, with_first}

-- as split_at, by the number of bytes before
abbrev pub parted : ℕ → Option ℕ → List ℕ → Option (List ℕ × List ℕ)
parted sep None text = None
parted sep (Some i) text = Some (take i text, drop (i + 1) text)

abbrev placed : ℕ → ℕ → List ℕ → Option (List ℕ × List ℕ)
placed sep i text = parted sep (cond (nat_lt i (length text)) (Some i) None) text

tail : (sep b : ℕ) (bs : List ℕ) (m : ℕ) (t : Bool) → nat_lt m (length bs) ≡ t →
    with_first b (parted sep (cond t (Some m) None) bs) ≡ placed sep (1 + m) (b ∷ bs)
tail sep b bs m true e =
    let k : nat_lt (1 + m) (length (b ∷ bs)) ≡ true = grind (arith, nat_tests) in
    let one : 1 + m ≡ suc m = omega arith in
    let two : 1 + m + 1 ≡ suc (m + 1) = omega arith in
    let front : take (1 + m) (b ∷ bs) ≡ b ∷ take m bs = ap (λ n. take n (b ∷ bs)) one in
    let back : drop (1 + m + 1) (b ∷ bs) ≡ drop (m + 1) bs = ap (λ n. drop n (b ∷ bs)) two in
    let both : Some (take (1 + m) (b ∷ bs), drop (1 + m + 1) (b ∷ bs)) ≡ Some (b ∷ take m bs, drop (m + 1) bs) = cc in
    sym (ap (λ u. parted sep (cond u (Some (1 + m)) None) (b ∷ bs)) k ∙ both)
tail sep b bs m false e =
    let k : nat_lt (1 + m) (length (b ∷ bs)) ≡ false = grind (arith, nat_tests) in
    sym (ap (λ u. parted sep (cond u (Some (1 + m)) None) (b ∷ bs)) k)

goes : (sep b : ℕ) (bs : List ℕ) (t : Bool) (m : ℕ) → split_at sep bs ≡ placed sep m bs →
    cond t (Some ([], bs)) (with_first b (split_at sep bs)) ≡ placed sep (cond (not t) (1 + m) 0) (b ∷ bs)
goes sep b bs true m ih =
    let k : nat_lt 0 (length (b ∷ bs)) ≡ true = grind (arith, nat_tests) in
    let one : 0 + 1 ≡ 1 = refl in
    sym (ap (λ u. parted sep (cond u (Some 0) None) (b ∷ bs)) k ∙ ap (λ (n : ℕ). Some (take 0 (b ∷ bs), drop n (b ∷ bs))) one)
goes sep b bs false m ih = ap (with_first b) ih ∙ tail sep b bs m (nat_lt m (length bs)) refl

by_place : (sep : ℕ) (text : List ℕ) → split_at sep text ≡ placed sep (position_or_len (λ b. nat_eq b sep) text) text
by_place sep [] = refl
by_place sep (b ∷ bs) = goes sep b bs (nat_eq b sep) (position_or_len (λ x. nat_eq x sep) bs) (by_place sep bs)

pub split_at-position : (sep : ℕ) (text : List ℕ) → split_at sep text ≡ parted sep (position (λ b. nat_eq b sep) text) text
split_at-position sep text = by_place sep text
