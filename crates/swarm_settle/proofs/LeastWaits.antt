-- Steps of the loops that look for the least wait.
use Rattle.std.proofs.Common.{◌≡◌, ℕ, ◌+◌, ◌<◌, ◌≤◌, zero, suc, Bool, List, [], ◌∷◌, ◌++◌, length, get_or, drop, Option, None, refl, sym, ap, ◌∙◌, arith}
use Rattle.std.specs.Prelude.{flat_map, map, filter}
use Rattle.std.specs.declared.cmp.Ordering.{Ordering}
use Rattle.std.proofs.lemmas.List.Elements.{filter-append}
use Rattle.std.proofs.lemmas.List.{drop_all, map-append}
use Rattle.swarm_objects.proofs.RowLemmas.{drop_next}
use Rattle.swarm_objects.specs.Rows.{keep_least, least_by}

-- The least.

-- the least of two lists one after the other is that of the second, from the least of the first
pub least_append : {X : Type 0} (compare : X → X → Ordering) (best : Option X) (xs ys : List X)
    → least_by compare best (xs ++ ys) ≡ least_by compare (least_by compare best xs) ys
least_append compare best [] ys = refl
least_append compare best (x ∷ xs) ys = least_append compare (keep_least compare best x) xs ys

-- the same where both were found
pub least_two : {X : Type 0} (compare : X → X → Ordering) (xs ys : List X) (best mid next : Option X)
    → mid ≡ least_by compare best xs → next ≡ least_by compare mid ys → next ≡ least_by compare best (xs ++ ys)
least_two compare xs ys best mid next one two =
    two ∙ ap (λ o. least_by compare o ys) one ∙ sym (least_append compare best xs ys)

-- one row more is gone through
pub least_next : {X Y : Type 0} (compare : Y → Y → Ordering) (f : X → List Y) (rows : List X) (i : ℕ) (x : X) (best next whole : Option Y)
    → i < length rows → x ≡ get_or rows i x
    → next ≡ least_by compare best (f x) → least_by compare best (flat_map f (drop i rows)) ≡ whole
    → least_by compare next (flat_map f (drop (i + 1) rows)) ≡ whole
least_next compare f rows i x best next whole lt is made left =
    ap (λ o. least_by compare o (flat_map f (drop (i + 1) rows))) made
    ∙ sym (least_append compare best (f x) (flat_map f (drop (i + 1) rows)))
    ∙ sym (ap (λ xs. least_by compare best (flat_map f xs)) (drop_next rows i x lt is))
    ∙ left

-- the same where the rows are those that are left
pub least_step : {X Y : Type 0} (compare : Y → Y → Ordering) (f : X → List Y) (left rest : List X) (x : X) (best next whole : Option Y)
    → left ≡ x ∷ rest → next ≡ least_by compare best (f x) → least_by compare best (flat_map f left) ≡ whole
    → least_by compare next (flat_map f rest) ≡ whole
least_step compare f left rest x best next whole is made so =
    ap (λ o. least_by compare o (flat_map f rest)) made
    ∙ sym (least_append compare best (f x) (flat_map f rest))
    ∙ ap (λ xs. least_by compare best (flat_map f xs)) (sym is)
    ∙ so

-- all rows are gone through
pub least_end : {X Y : Type 0} (compare : Y → Y → Ordering) (f : X → List Y) (rows : List X) (i : ℕ) (best whole : Option Y)
    → length rows ≤ i → least_by compare best (flat_map f (drop i rows)) ≡ whole → best ≡ whole
least_end compare f rows i best whole le left =
    sym (ap (λ xs. least_by compare best (flat_map f xs)) (drop_all i rows le)) ∙ left

-- a row that is copied
pub row_is : {X : Type 0} (rows : List X) (i : ℕ) (other : X) → i < length rows
    → get_or rows i other ≡ get_or rows i (get_or rows i other)
row_is [] i other lt = absurd (omega arith)
row_is (x ∷ rows) zero other lt = refl
row_is (x ∷ rows) (suc i) other lt = row_is rows i other (omega arith)

-- the least of five lists one after the other
pub least_five : {X : Type 0} (compare : X → X → Ordering) (v w x y z : List X) (a b c d e : Option X)
    → a ≡ least_by compare None v → b ≡ least_by compare a w → c ≡ least_by compare b x
    → d ≡ least_by compare c y → e ≡ least_by compare d z → e ≡ least_by compare None (v ++ w ++ x ++ y ++ z)
least_five compare v w x y z a b c d e p q r s t =
    t ∙ ap (λ o. least_by compare o z) four ∙ sym (least_append compare None (v ++ w ++ x ++ y) z)
  where
    two : b ≡ least_by compare None (v ++ w)
    two = q ∙ ap (λ o. least_by compare o w) p ∙ sym (least_append compare None v w)

    three : c ≡ least_by compare None (v ++ w ++ x)
    three = r ∙ ap (λ o. least_by compare o x) two ∙ sym (least_append compare None (v ++ w) x)

    four : d ≡ least_by compare None (v ++ w ++ x ++ y)
    four = s ∙ ap (λ o. least_by compare o y) three ∙ sym (least_append compare None (v ++ w ++ x) y)

-- Lists of times.

-- what is made of all items' rows that pass is that of each item's, one after the other
pub made_of_each : {X Y Z : Type 0} (f : Y → Z) (p : Y → Bool) (g : X → List Y) (xs : List X)
    → map f (filter p (flat_map g xs)) ≡ flat_map (λ x. map f (filter p (g x))) xs
made_of_each f p g [] = refl
made_of_each f p g (x ∷ xs) =
    ap (map f) (filter-append p (g x) (flat_map g xs))
    ∙ map-append f (filter p (g x)) (filter p (flat_map g xs))
    ∙ ap (λ zs. map f (filter p (g x)) ++ zs) (made_of_each f p g xs)
