-- Rising ids: one comes or goes, and the next one.
use Rattle.std.proofs.Common.{Bor, ◌≡◌, ℕ, ◌+◌, ◌<◌, ◌≤◌, Bool, true, false, eqb, leb, ◌&&◌, ◌||◌, List, [], ◌∷◌, Option, Some, None, refl, sym, ap, ◌∙◌, subst, arith, length, get_or}
use Rattle.std.proofs.lemmas.Bool.Decides.{nat_tests}
use Rattle.std.proofs.lemmas.List.Sorted.{searched}
use Rattle.std.proofs.lemmas.Option.{slice_get_past, slice_get-get_or}
use Rattle.std.specs.List.{insert, remove, slice_get}
use Rattle.std.specs.List.Sorted.{IsBinarySearchResult}
use Rattle.std.specs.Option.{option_copied}
use Rattle.std.specs.Ordering.{nat_cmp}
use Rattle.std.specs.Prelude.{Err, Ok, not, suc, zero}
use Rattle.std.specs.Slice.{IsItemAt}
use Rattle.swarm_index.specs.Inside.Ids.{IsNextId, has_id}
use Rattle.swarm_objects.proofs.Halves.{any_start}
use Rattle.swarm_objects.specs.Rows.{IsRising, RisesFrom, itself}

-- those before the place are below the number
abbrev pub LesserBefore : List ℕ → ℕ → ℕ → Type 0
LesserBefore ids at n = (k : ℕ) → k < at → get_or ids k 0 < n

-- those from the place on are above it
abbrev pub GreaterFrom : List ℕ → ℕ → ℕ → Type 0
GreaterFrom ids at n = (k : ℕ) → at ≤ k → k < length ids → n < get_or ids k 0

lesser_tail : (z : ℕ) (zs : List ℕ) (at n : ℕ) → LesserBefore (z ∷ zs) (suc at) n → LesserBefore zs at n
lesser_tail z zs at n h k lt = h (suc k) (omega (arith, lt))

greater_tail : (z : ℕ) (zs : List ℕ) (at n : ℕ) → GreaterFrom (z ∷ zs) (suc at) n → GreaterFrom zs at n
greater_tail z zs at n h k le lt = h (suc k) (omega (arith, le)) (omega (arith, lt))

-- rising ids

rises_less : (m n : ℕ) (ids : List ℕ) → m ≤ n → RisesFrom itself n ids → RisesFrom itself m ids
rises_less m n [] le r = tt
rises_less m n (z ∷ zs) le r = let lt : n < z = r.0 in (omega (arith, le, lt), r.1)

any_rises : (n : ℕ) (ids : List ℕ) → RisesFrom itself n ids → IsRising itself ids
any_rises n [] r = tt
any_rises n (z ∷ zs) r = r.1

-- none of them is at or below what they rise from
not_below : (n i : ℕ) (ids : List ℕ) → RisesFrom itself n ids → i ≤ n → has_id ids i ≡ false
not_below n i [] r le = refl
not_below n i (z ∷ zs) r le =
    let lt : n < z = r.0 in
    let rest : has_id zs i ≡ false = not_below z i zs r.1 (omega (arith, le, lt)) in
    grind (arith, nat_tests, le, lt, rest)

is_above : (n i : ℕ) (ids : List ℕ) → RisesFrom itself n ids → has_id ids i ≡ true → n < i
is_above n i ids r e = go (leb i n) refl
  where
    go : (b : Bool) → leb i n ≡ b → n < i
    go true f = let le : i ≤ n = grind (arith, nat_tests, f) in let bad : true ≡ false = sym e ∙ not_below n i ids r le in absurd cc
    go false f = grind (arith, nat_tests, f)

rises_to : (n k : ℕ) (ids : List ℕ) → RisesFrom itself n ids → k < length ids → n < get_or ids k 0
rises_to n k [] r lt = absurd (omega (arith, lt))
rises_to n zero (z ∷ zs) r lt = r.0
rises_to n (suc k) (z ∷ zs) r lt = let first : n < z = r.0 in let rest : z < get_or zs k 0 = rises_to z k zs r.1 (omega (arith, lt)) in omega (arith, first, rest)

-- a later one is above an earlier one
rises_past : (ids : List ℕ) (j k : ℕ) → IsRising itself ids → j < k → k < length ids → get_or ids j 0 < get_or ids k 0
rises_past [] j k r less lt = absurd (omega (arith, lt))
rises_past (z ∷ zs) j zero r less lt = absurd (omega (arith, less))
rises_past (z ∷ zs) zero (suc k) r less lt = rises_to z k zs r (omega (arith, lt))
rises_past (z ∷ zs) (suc j) (suc k) r less lt = rises_past zs j k (any_rises z zs r) (omega (arith, less)) (omega (arith, lt))

-- one comes

rises_with : (n y : ℕ) (ids : List ℕ) (at : ℕ) → n < y → RisesFrom itself n ids → at ≤ length ids → LesserBefore ids at y → GreaterFrom ids at y → RisesFrom itself n (insert ids at y)
rises_with n y [] zero lt r le below above = (lt, tt)
rises_with n y (z ∷ zs) zero lt r le below above = (lt, (above 0 (omega arith) (omega arith), r.1))
rises_with n y [] (suc at) lt r le below above = absurd (omega (arith, le))
rises_with n y (z ∷ zs) (suc at) lt r le below above = (r.0, rises_with z y zs at (below 0 (omega arith)) r.1 (omega (arith, le)) (lesser_tail z zs at y below) (greater_tail z zs at y above))

id_inserted : (y : ℕ) (ids : List ℕ) (at : ℕ) → IsRising itself ids → at ≤ length ids → LesserBefore ids at y → GreaterFrom ids at y → IsRising itself (insert ids at y)
id_inserted y [] zero r le below above = tt
id_inserted y (z ∷ zs) zero r le below above = (above 0 (omega arith) (omega arith), r)
id_inserted y [] (suc at) r le below above = absurd (omega (arith, le))
id_inserted y (z ∷ zs) (suc at) r le below above = rises_with z y zs at (below 0 (omega arith)) r (omega (arith, le)) (lesser_tail z zs at y below) (greater_tail z zs at y above)

or_swap : (a b c : Bool) → (a || (b || c)) ≡ (b || (a || c))
or_swap true true c = refl
or_swap true false c = refl
or_swap false b c = refl

has_inserted : (y : ℕ) (ids : List ℕ) (at i : ℕ) → has_id (insert ids at y) i ≡ (eqb y i || has_id ids i)
has_inserted y ids zero i = refl
has_inserted y [] (suc at) i = refl
has_inserted y (z ∷ zs) (suc at) i = ap (λ b. eqb z i || b) (has_inserted y zs at i) ∙ or_swap (eqb z i) (eqb y i) (has_id zs i)

-- one is there, or isn't

has_at : (y : ℕ) (ids : List ℕ) (at : ℕ) → at < length ids → get_or ids at 0 ≡ y → has_id ids y ≡ true
has_at y [] at lt e = absurd (omega (arith, lt))
has_at y (z ∷ zs) zero lt e = let same : z ≡ y = e in grind (arith, nat_tests, same)
has_at y (z ∷ zs) (suc at) lt e = let rest : has_id zs y ≡ true = has_at y zs at (omega (arith, lt)) e in grind (arith, nat_tests, rest)

has_no : (y : ℕ) (ids : List ℕ) (at : ℕ) → LesserBefore ids at y → GreaterFrom ids at y → has_id ids y ≡ false
has_no y [] at below above = refl
has_no y (z ∷ zs) zero below above =
    let lt : y < z = above 0 (omega arith) (omega arith) in
    let rest : has_id zs y ≡ false = has_no y zs zero (λ k l. absurd (omega (arith, l))) (λ k le l. above (suc k) (omega arith) (omega (arith, l))) in
    grind (arith, nat_tests, lt, rest)
has_no y (z ∷ zs) (suc at) below above =
    let lt : z < y = below 0 (omega arith) in
    let rest : has_id zs y ≡ false = has_no y zs at (lesser_tail z zs at y below) (greater_tail z zs at y above) in
    grind (arith, nat_tests, lt, rest)

there_already : (y : ℕ) (ids : List ℕ) (i : ℕ) → has_id ids y ≡ true → has_id ids i ≡ (eqb y i || has_id ids i)
there_already y ids i e = go (eqb y i) refl
  where
    go : (b : Bool) → eqb y i ≡ b → has_id ids i ≡ (b || has_id ids i)
    go true f = let same : y ≡ i = grind (arith, nat_tests, f) in subst (λ n. has_id ids n ≡ true) same e
    go false f = refl

gone_already : (y : ℕ) (ids : List ℕ) (i : ℕ) → has_id ids y ≡ false → has_id ids i ≡ (not (eqb y i) && has_id ids i)
gone_already y ids i e = go (eqb y i) refl
  where
    go : (b : Bool) → eqb y i ≡ b → has_id ids i ≡ (not b && has_id ids i)
    go true f = let same : y ≡ i = grind (arith, nat_tests, f) in subst (λ n. has_id ids n ≡ false) same e
    go false f = refl

-- one goes

rises_without : (n : ℕ) (ids : List ℕ) (at : ℕ) → RisesFrom itself n ids → RisesFrom itself n (remove ids at)
rises_without n [] zero r = tt
rises_without n [] (suc at) r = tt
rises_without n (z ∷ zs) zero r = let lt : n < z = r.0 in rises_less n z zs (omega (arith, lt)) r.1
rises_without n (z ∷ zs) (suc at) r = (r.0, rises_without z zs at r.1)

id_removed : (ids : List ℕ) (at : ℕ) → IsRising itself ids → IsRising itself (remove ids at)
id_removed [] zero r = tt
id_removed [] (suc at) r = tt
id_removed (z ∷ zs) zero r = any_rises z zs r
id_removed (z ∷ zs) (suc at) r = rises_without z zs at r

has_removed : (y : ℕ) (ids : List ℕ) (at i : ℕ) → IsRising itself ids → at < length ids → get_or ids at 0 ≡ y → has_id (remove ids at) i ≡ (not (eqb y i) && has_id ids i)
has_removed y [] at i r lt e = absurd (omega (arith, lt))
has_removed y (z ∷ zs) zero i r lt e = go (eqb y i) refl
  where
    same : z ≡ y
    same = e

    go : (b : Bool) → eqb y i ≡ b → has_id zs i ≡ (not b && (eqb z i || has_id zs i))
    go true f = let le : i ≤ z = grind (arith, nat_tests, f, same) in not_below z i zs r le
    go false f = let other : eqb z i ≡ false = ap (λ n. eqb n i) same ∙ f in ap (λ b. b || has_id zs i) (sym other)
has_removed y (z ∷ zs) (suc at) i r lt e =
    ap (λ b. eqb z i || b) (has_removed y zs at i (any_rises z zs r) (omega (arith, lt)) e) ∙ go (eqb y i) refl
  where
    more : z < y
    more = is_above z y zs r (has_at y zs at (omega (arith, lt)) e)

    go : (b : Bool) → eqb y i ≡ b → (eqb z i || (not b && has_id zs i)) ≡ (not b && (eqb z i || has_id zs i))
    go true f = let other : eqb z i ≡ false = grind (arith, nat_tests, f, more) in ap (λ b. b || false) other
    go false f = refl

-- the next one

next_first : (after z : ℕ) (zs : List ℕ) → RisesFrom itself z zs → after < z → IsNextId (z ∷ zs) after (Some z)
next_first after z zs r lt = (lt, grind (arith, nat_tests), least)
  where
    least : (j : ℕ) → after < j → has_id (z ∷ zs) j ≡ true → z ≤ j
    least j a h = go (eqb z j) refl h
      where
        go : (b : Bool) → eqb z j ≡ b → (b || has_id zs j) ≡ true → z ≤ j
        go true f t = grind (arith, nat_tests, f)
        go false f t = let more : z < j = is_above z j zs r t in omega (arith, more)

passed_first : (after z : ℕ) (zs : List ℕ) (o : Option ℕ) → z ≤ after → IsNextId zs after o → IsNextId (z ∷ zs) after o
passed_first after z zs None le h = λ i lt. let other : eqb z i ≡ false = grind (arith, nat_tests, le, lt) in ap (λ b. b || has_id zs i) other ∙ h i lt
passed_first after z zs (Some n) le h = (h.0, ap (λ b. b || has_id zs n) (other n h.0) ∙ h.1, λ j lt t. h.2 j lt (sym (ap (λ b. b || has_id zs j) (other j lt)) ∙ t))
  where
    other : (j : ℕ) → after < j → eqb z j ≡ false
    other j lt = grind (arith, nat_tests, le, lt)

next_at : (after : ℕ) (ids : List ℕ) (at : ℕ) → IsRising itself ids → ((k : ℕ) → k < at → k < length ids → get_or ids k 0 ≤ after) → GreaterFrom ids at after → IsNextId ids after (slice_get ids at)
next_at after [] at r below above = λ i lt. refl
next_at after (z ∷ zs) zero r below above = next_first after z zs r (above 0 (omega arith) (omega arith))
next_at after (z ∷ zs) (suc at) r below above = passed_first after z zs (slice_get zs at) (below 0 (omega arith) (omega arith))
    (next_at after zs at (any_rises z zs r) (λ k lt l. below (suc k) (omega (arith, lt)) (omega (arith, l))) (greater_tail z zs at after above))

-- what a search for an id comes to

item_at : (xs : List ℕ) (i : ℕ) (r : Option (Bor ℕ)) → IsItemAt xs i r → option_copied r ≡ slice_get xs i
item_at xs i None h = sym (slice_get_past xs i h.3)
item_at xs i (Some x) h = sym (slice_get-get_or xs i x.now h.3.0 ∙ ap Some (sym (h.3.1 x.now)))

module _ (seen ids now : List ℕ) (y at : ℕ) (same : seen ≡ ids) (are : ids ≡ now) (rises : IsRising itself ids) where
  found : IsBinarySearchResult (λ n. nat_cmp n y) seen (Ok at) → (at < length ids) × (get_or ids at 0 ≡ y)
  found h = searched ids y (Ok at) (subst (λ l. IsBinarySearchResult (λ n. nat_cmp n y) l (Ok at)) same h) (λ i j le lt. any_start itself ids rises i j 0 le lt)

  missed : IsBinarySearchResult (λ n. nat_cmp n y) seen (Err at) → (at ≤ length ids) × LesserBefore ids at y × GreaterFrom ids at y
  missed h = searched ids y (Err at) (subst (λ l. IsBinarySearchResult (λ n. nat_cmp n y) l (Err at)) same h) (λ i j le lt. any_start itself ids rises i j 0 le lt)

  -- it is there, and is to come
  pub there_stays : IsBinarySearchResult (λ n. nat_cmp n y) seen (Ok at) → (i : ℕ) → has_id now i ≡ (eqb y i || has_id now i)
  there_stays h i = let place = found h in subst (λ l. has_id l i ≡ (eqb y i || has_id l i)) are (there_already y ids i (has_at y ids at place.0 place.1))

  -- it isn't there, and is to go
  pub none_goes : IsBinarySearchResult (λ n. nat_cmp n y) seen (Err at) → (i : ℕ) → has_id now i ≡ (not (eqb y i) && has_id now i)
  none_goes h i = let place = missed h in subst (λ l. has_id l i ≡ (not (eqb y i) && has_id l i)) are (gone_already y ids i (has_no y ids at place.1 place.2))

  module _ (new : List ℕ) where
    pub come_rises : IsBinarySearchResult (λ n. nat_cmp n y) seen (Err at) → new ≡ insert ids at y → IsRising itself new
    come_rises h is = let place = missed h in subst (λ l. IsRising itself l) (sym is) (id_inserted y ids at rises place.0 place.1 place.2)

    pub come_has : new ≡ insert ids at y → (i : ℕ) → has_id new i ≡ (eqb y i || has_id now i)
    come_has is i = ap (λ l. has_id l i) is ∙ has_inserted y ids at i ∙ ap (λ l. eqb y i || has_id l i) are

    pub gone_rises : new ≡ remove ids at → IsRising itself new
    gone_rises is = subst (λ l. IsRising itself l) (sym is) (id_removed ids at rises)

    pub gone_has : IsBinarySearchResult (λ n. nat_cmp n y) seen (Ok at) → new ≡ remove ids at → (i : ℕ) → has_id new i ≡ (not (eqb y i) && has_id now i)
    gone_has h is i = let place = found h in ap (λ l. has_id l i) is ∙ has_removed y ids at i rises place.0 place.1 ∙ ap (λ l. not (eqb y i) && has_id l i) are

  module _ (read : List ℕ) (r : Option (Bor ℕ)) (o : Option ℕ) (again : read ≡ ids) (is : o ≡ option_copied r) where
    is_next : (k : ℕ) → IsItemAt read k r → IsNextId ids y (slice_get ids k) → IsNextId now y o
    is_next k item h = subst (λ l. IsNextId l y o) are (subst (λ p. IsNextId ids y p) (sym (is ∙ item_at read k r item ∙ ap (λ l. slice_get l k) again)) h)

    pub next_past : IsBinarySearchResult (λ n. nat_cmp n y) seen (Ok at) → IsItemAt read (at + 1) r → IsNextId now y o
    next_past h item = let place = found h in is_next (at + 1) item (next_at y ids (at + 1) rises (λ k lt l. omega (arith, any_start itself ids rises k at 0 (omega (arith, lt)) place.0, place.1)) (λ k le l. above k le l place))
      where
        above : (k : ℕ) → at + 1 ≤ k → k < length ids → (at < length ids) × (get_or ids at 0 ≡ y) → y < get_or ids k 0
        above k le l place = subst (λ n. n < get_or ids k 0) place.1 (rises_past ids at k rises (omega (arith, le)) l)

    pub next_here : IsBinarySearchResult (λ n. nat_cmp n y) seen (Err at) → IsItemAt read at r → IsNextId now y o
    next_here h item = let place = missed h in is_next at item (next_at y ids at rises (λ k lt l. let less = place.1 k lt in omega (arith, less)) place.2)
