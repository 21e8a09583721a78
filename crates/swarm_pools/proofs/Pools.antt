-- What is done to places, as their numbers see it.
use Rattle.std.proofs.Common.{◌≡◌, ◌==◌, ◌&&◌, ◌||◌, ◌+◌, ◌-◌, ◌<◌, ◌≤◌, Bool, Err, List, None, Ok, Option, Result, Some, [], ◌∷◌, ap, arith, false, not, refl, subst, sym, true, ℕ, ◌∙◌}
use Rattle.std.proofs.lemmas.Bool.Decides.{nat_tests}
use Rattle.std.specs.List.{range_with_len}
use Rattle.std.specs.Prelude.{OnErr, OnOk, filter, is_ok}
use Rattle.swarm_objects.specs.Rows.{drop_row, first_free, itself, with_number}
use Rattle.swarm_pools.specs.Numbers.{HasShape, Numbers, is_number_taken, numbers}
use Rattle.swarm_pools.specs.Places.{is_full, is_taken}
use Rattle.swarm_pools.specs.declared.places.Places.{Places, Clear}
use Rattle.swarm_pools.proofs.Parts.{full_taken}
use Rattle.swarm_pools.proofs.Taken.{free_there, none_there, same_where, with_where, without_where}

none_pass : (xs : List ℕ) → filter (λ n. false) xs ≡ []
none_pass [] = refl
none_pass (x ∷ xs) = none_pass xs

pub none_taken : (first last : ℕ) → numbers first last Clear ≡ record { first = first; last = last; taken = [] }
none_taken first last =
    ap (λ (taken : List ℕ). let n : Numbers = record { first = first; last = last; taken = taken } in n)
    (none_pass (range_with_len first (last - first + 1)))

pub none_free : (first last : ℕ) (places : Places) (n : Numbers) → numbers first last places ≡ n →
    HasShape first last places → is_full (last - first + 1) places ≡ true →
    ◌≡◌ {A = Option ℕ} None (first_free n.first n.last n.taken)
none_free first last places n is shaped full =
    subst (λ (m : Numbers). ◌≡◌ {A = Option ℕ} None (first_free m.first m.last m.taken)) is
    (sym (none_there (is_number_taken first places) first last shaped.order
    (λ m ge le. let above = shaped.order in
    full_taken (last - first + 1) places shaped.shape full (m - first) (omega arith))))

pub least_free : (first last : ℕ) (places : Places) (n : Numbers) (free : ℕ) → numbers first last places ≡ n →
    first ≤ last → free < last - first + 1 → is_taken places free ≡ false →
    ((place : ℕ) → place < free → is_taken places place ≡ true) →
    Some (first + free) ≡ first_free n.first n.last n.taken
least_free first last places n free is order within clear before =
    let at : first + free - first ≡ free = omega arith in
    subst (λ (m : Numbers). Some (first + free) ≡ first_free m.first m.last m.taken) is
    (sym (free_there (is_number_taken first places) first last (first + free)
    (λ m ge lt. before (m - first) (omega arith)) (omega arith) (omega arith) (ap (is_taken places) at ∙ clear)))

-- the place of the number, and no other, is that of a number from the first on
one_place : (first k m : ℕ) → first ≤ k → first ≤ m → (m - first == k - first) ≡ (m == k)
one_place first k m le ge = grind (arith, nat_tests)

pub taken_more : (first last : ℕ) (old new : Places) (n : Numbers) (k : ℕ) → numbers first last old ≡ n →
    first ≤ k → k ≤ last →
    ((place : ℕ) → place < last - first + 1 → is_taken new place ≡ (place == k - first || is_taken old place)) →
    numbers first last new ≡ record n { taken = with_number k n.taken }
taken_more first last old new n k is le most each =
    subst (λ (m : Numbers). numbers first last new ≡ record m { taken = with_number k m.taken }) is
    (ap (λ (taken : List ℕ). let r : Numbers = record { first = first; last = last; taken = taken } in r)
    (same_where (is_number_taken first new) (λ m. m == k || is_number_taken first old m) first (last - first + 1)
    (λ m ge lt. each (m - first) (omega arith) ∙ ap (λ (b : Bool). b || is_taken old (m - first)) (one_place first k m le ge))
    ∙ sym (with_where (is_number_taken first old) k first (last - first + 1) le (omega arith))))

pub taken_same : (first last : ℕ) (old new : Places) (n : Numbers) → numbers first last old ≡ n → first ≤ last →
    ((place : ℕ) → place < last - first + 1 → is_taken new place ≡ is_taken old place) →
    numbers first last new ≡ n
taken_same first last old new n is order each =
    ap (λ (taken : List ℕ). let r : Numbers = record { first = first; last = last; taken = taken } in r)
    (same_where (is_number_taken first new) (is_number_taken first old) first (last - first + 1)
    (λ m ge lt. each (m - first) (omega arith)))
    ∙ is

pub taken_fewer : (first last : ℕ) (old new : Places) (n : Numbers) (k : ℕ) → numbers first last old ≡ n →
    first ≤ k → k ≤ last →
    ((place : ℕ) → place < last - first + 1 → is_taken new place ≡ (not (place == k - first) && is_taken old place)) →
    numbers first last new ≡ record n { taken = drop_row itself k n.taken }
taken_fewer first last old new n k is le most each =
    subst (λ (m : Numbers). numbers first last new ≡ record m { taken = drop_row itself k m.taken }) is
    (ap (λ (taken : List ℕ). let r : Numbers = record { first = first; last = last; taken = taken } in r)
    (same_where (is_number_taken first new) (λ m. not (m == k) && is_number_taken first old m) first (last - first + 1)
    (λ m ge lt. each (m - first) (omega arith) ∙ ap (λ (b : Bool). not b && is_taken old (m - first)) (one_place first k m le ge))
    ∙ sym (without_where (is_number_taken first old) k (range_with_len first (last - first + 1)))))

pub take_ok : {A E : Type 0} (r : Result A E) (first last : ℕ) (old new : Places) (n : Numbers) (k : ℕ) →
    numbers first last old ≡ n → first ≤ k → k ≤ last →
    ((place : ℕ) → place < last - first + 1 → is_taken new place ≡ ((is_ok r && place == k - first) || is_taken old place)) →
    OnOk r (numbers first last new ≡ record n { taken = with_number k n.taken })
take_ok (Ok x) first last old new n k is le most each = taken_more first last old new n k is le most each
take_ok (Err e) first last old new n k is le most each = tt

pub take_err : {A E : Type 0} (r : Result A E) (first last : ℕ) (old new : Places) (n : Numbers) (k : ℕ) →
    numbers first last old ≡ n → first ≤ last →
    ((place : ℕ) → place < last - first + 1 → is_taken new place ≡ ((is_ok r && place == k - first) || is_taken old place)) →
    OnErr r (numbers first last new ≡ n)
take_err (Ok x) first last old new n k is order each = tt
take_err (Err e) first last old new n k is order each = taken_same first last old new n is order each
