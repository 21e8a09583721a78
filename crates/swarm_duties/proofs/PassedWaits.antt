-- Steps of the loops that look for the least of what passes, and for the first answer.
use Rattle.std.proofs.Common.{◌≡◌, ℕ, ◌+◌, ◌<◌, ◌≤◌, Bool, true, false, cond, List, [], ◌∷◌, ◌++◌, length, get_or, drop, Option, Some, None, refl, sym, ap, ◌∙◌, arith}
use Rattle.std.specs.Prelude.{flat_map, map, filter, ◌&&◌, find}
use Rattle.std.specs.Option.{option_map}
use Rattle.std.specs.declared.cmp.Ordering.{Ordering}
use Rattle.swarm_model.specs.Settle.{is_paused, paused_by}
use Rattle.swarm_objects.proofs.RowLemmas.{drop_next}
use Rattle.swarm_objects.specs.Rows.{first_of, keep_least, least_by}
use Rattle.swarm_objects.specs.declared.duties.Settle.TheVariants as settle
use Rattle.swarm_objects.specs.declared.services.Service.{Service}
use Rattle.std.proofs.lemmas.List.{drop_all}

-- all rows are gone through
pub passed_end : {X Y : Type 0} (compare : Y → Y → Ordering) (f : X → Y) (test : X → Bool) (rows : List X) (i : ℕ) (best whole : Option Y)
    → length rows ≤ i
    → least_by compare best (map f (filter test (drop i rows))) ≡ whole → best ≡ whole
passed_end compare f test rows i best whole le left =
    sym (ap (λ xs. least_by compare best (map f (filter test xs))) (drop_all i rows le)) ∙ left

passed_here : {X Y : Type 0} (compare : Y → Y → Ordering) (f : X → Y) (best : Option Y) (x : X) (rest : List X) (b : Bool) (test : X → Bool)
    → test x ≡ b
    → least_by compare best (map f (filter test (x ∷ rest)))
    ≡ cond b (least_by compare (keep_least compare best (f x)) (map f (filter test rest))) (least_by compare best (map f (filter test rest)))
passed_here compare f best x rest true test e = rw e refl
passed_here compare f best x rest false test e = rw e refl

-- one row more, that passes
pub least_passed : {X Y : Type 0} (compare : Y → Y → Ordering) (f : X → Y) (test : X → Bool) (rows : List X) (i : ℕ) (x : X) (best next whole : Option Y)
    → i < length rows → x ≡ get_or rows i x → test x ≡ true
    → next ≡ keep_least compare best (f x) → least_by compare best (map f (filter test (drop i rows))) ≡ whole
    → least_by compare next (map f (filter test (drop (i + 1) rows))) ≡ whole
least_passed compare f test rows i x best next whole lt is yes' made left =
    ap (λ o. least_by compare o (map f (filter test (drop (i + 1) rows)))) made
    ∙ sym (passed_here compare f best x (drop (i + 1) rows) true test yes')
    ∙ sym (ap (λ xs. least_by compare best (map f (filter test xs))) (drop_next rows i x lt is))
    ∙ left

-- and one that doesn't
pub least_skipped : {X Y : Type 0} (compare : Y → Y → Ordering) (f : X → Y) (test : X → Bool) (rows : List X) (i : ℕ) (x : X) (best whole : Option Y)
    → i < length rows → x ≡ get_or rows i x → test x ≡ false
    → least_by compare best (map f (filter test (drop i rows))) ≡ whole
    → least_by compare best (map f (filter test (drop (i + 1) rows))) ≡ whole
least_skipped compare f test rows i x best whole lt is no' left =
    sym (passed_here compare f best x (drop (i + 1) rows) false test no')
    ∙ sym (ap (λ xs. least_by compare best (map f (filter test xs))) (drop_next rows i x lt is))
    ∙ left

-- three tests one after the other are one
pub three_tests : {X : Type 0} (p q r : X → Bool) (xs : List X)
    → filter r (filter q (filter p xs)) ≡ filter (λ x. p x && q x && r x) xs
three_tests p q r [] = refl
three_tests p q r (x ∷ xs) = go (p x) (q x) refl refl (three_tests p q r xs)
  where
    go : (a b : Bool) → p x ≡ a → q x ≡ b → filter r (filter q (filter p xs)) ≡ filter (λ x. p x && q x && r x) xs
        → filter r (filter q (cond a (x ∷ filter p xs) (filter p xs)))
        ≡ cond (a && b && r x) (x ∷ filter (λ x. p x && q x && r x) xs) (filter (λ x. p x && q x && r x) xs)
    go true true yes' also' e = rw also' (ap (λ zs. cond (r x) (x ∷ zs) zs) e)
    go true false yes' also' e = rw also' e
    go false b yes' also' e = e

-- The first answer.

-- the first service that is paused answers
pub first_paused : (services : List Service)
    → first_of (flat_map paused_by services)
    ≡ option_map (λ (s : Service). settle.Paused s.id) (find is_paused services)
first_paused [] = refl
first_paused (s ∷ services) = go (is_paused s) (first_paused services)
  where
    go : (b : Bool)
        → first_of (flat_map paused_by services)
        ≡ option_map (λ (s : Service). settle.Paused s.id) (find is_paused services)
        → first_of (cond b (settle.Paused s.id ∷ []) [] ++ flat_map paused_by services)
        ≡ option_map (λ (s : Service). settle.Paused s.id) (cond b (Some s) (find is_paused services))
    go true e = refl
    go false e = e
